-- What is told of a core in the words of the report.
use Rattle.std.specs.Prelude.{◌≡◌, ◌⊎◌, ℕ, List, Option, Some, None}
use Rattle.std.specs.Option.{option_map}
use Rattle.ent_value.specs.Name.{IsWord}
use Rattle.ent_semantics.specs.declared.answer.Answer.{Answer}
use Rattle.ent_book.specs.Report.{fate_answers, table_text}
use Rattle.ent_protocol.specs.Lookup.{Standing, Dormant, Ready, Out, Posted, Prepared, Finished}
use Rattle.ent_protocol.specs.Lookup.{answers_of, present_rows, standing}
use Rattle.ent_protocol.specs.State.{State}
use Rattle.ent_driver.specs.declared.fault.DriverFault.{DriverFault}
use Rattle.ent_driver.specs.declared.fault.DriverFault.TheVariants.{Memory, Absent}

-- the answers of a transaction that stands there: one with a fate has those of the journal
abbrev pub answers_at : State → ℕ → Option Standing → List Answer
answers_at s tx (Some (Finished fate)) = fate_answers s.journal fate
answers_at s tx (Some (Dormant runs)) = answers_of s tx
answers_at s tx (Some (Ready turn)) = answers_of s tx
answers_at s tx (Some Out) = answers_of s tx
answers_at s tx (Some Posted) = answers_of s tx
answers_at s tx (Some Prepared) = answers_of s tx
answers_at s tx None = answers_of s tx

abbrev pub answers_so_far : State → ℕ → List Answer
answers_so_far s tx = answers_at s tx (standing s tx)

-- the lines of the table of a name as it stands, where one is declared
abbrev pub lines_under : State → List ℕ → Option (List ℕ)
lines_under s name = option_map (table_text name) (present_rows s name)

-- no table has this name; or memory ran out
abbrev pub HasNoTable : State → List ℕ → DriverFault → Type 0
HasNoTable s name fault =
    (fault ≡ Memory) ⊎ ((fault ≡ Absent) × (IsWord name → lines_under s name ≡ None))
