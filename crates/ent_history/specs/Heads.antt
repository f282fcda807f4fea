-- How the line of an answer of heads is read, and which lines there are.
use Rattle.std.specs.Prelude.{◌==◌, ◌&&◌, ℕ, not, List, ◌++◌, length, Result, Ok, codes}
use Rattle.std.specs.Fmt.{decimal}
use Rattle.ent_value.specs.Refusal.{◌>>=◌}
use Rattle.ent_value.specs.declared.value.Value.{Value}
use Rattle.ent_semantics.specs.Database.{Name}
use Rattle.ent_semantics.specs.declared.answer.Fact.{Fact}
use Rattle.ent_book.specs.Report.{facts_text}
use Rattle.ent_text.specs.declared.line_fault.LineFault.{LineFault}
use Rattle.ent_text.specs.Pieces.{Read, behind, number_at, row_at, wanted}
use Rattle.ent_history.specs.Listing.{listed_at}
use Rattle.ent_history.specs.Names.{name_at}

abbrev pub fact_of : Name → List Value → Fact
fact_of relation values = record { relation = relation; values = values }

-- a head behind a space
unfoldable pub fact_at : List ℕ → Read Fact
fact_at bytes =
    behind (codes " ") bytes >>= λ rest. name_at rest >>= λ relation. row_at relation.1 >>= λ row.
    Ok (fact_of relation.0 row.0, row.1)

-- all heads in front
unfoldable pub facts_at : List ℕ → Read (List Fact)
facts_at bytes = listed_at 32 fact_at (length bytes) bytes

-- the place of the statement, and one head at least
unfoldable pub heads_at : List ℕ → Result (ℕ × List Fact) LineFault
heads_at line =
    number_at line >>= λ place. behind (codes " answer") place.1 >>= λ rest. facts_at rest >>= λ facts.
    wanted ((length facts.1 == 0) && not (length facts.0 == 0)) (place.0, facts.0)

-- a statement's place and its heads, without the end of the line
abbrev pub heads_line : ℕ → List Fact → List ℕ
heads_line place facts = decimal place ++ (codes " answer" ++ facts_text facts)
