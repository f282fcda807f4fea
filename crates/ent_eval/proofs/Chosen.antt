-- Plans of posted statements, and their least choices.
use Rattle.std.proofs.Common.{◌≡◌, ◌≢◌, ◌<◌, ◌||◌, ℕ, Bool, true, false, cond, List, [], ◌∷◌, map, Some, refl, sym, ap}
use Rattle.std.proofs.Common.{◌∙◌, subst, arith}
use Rattle.std.specs.Prelude.{◌==◌, AllPairs, slice_index_or}
use Rattle.std.specs.List.{AllByRecursion, list_any}
use Rattle.std.proofs.lemmas.Bool.{eqb-true}
use Rattle.ent_lists.specs.Sets as set
use Rattle.ent_value.specs.Value.{kinds_of}
use Rattle.ent_semantics.specs.Entangled.{Valuation}
use Rattle.ent_semantics.specs.Form.{Tables}
use Rattle.ent_semantics.specs.Choice.{IsChoice}
use Rattle.ent_semantics.specs.Pool.{IsPool, Posted}
use Rattle.ent_join.specs.Laid.{AreLaid, IsLaid, table_at}
use Rattle.ent_join.specs.Plans.{HaveNoPlan, source_tables}
use Rattle.ent_plan.proofs.Choices.{are_kinded}
use Rattle.ent_join.proofs.Deduped.{all_members}
use Rattle.ent_protocol.specs.Job.{Numbered, tables_of}
use Rattle.ent_job.specs.Work.{IsJoint}
use Rattle.ent_eval.proofs.Used.{joint_tables}

-- statements by number are of distinct transactions
pub by_number : (members : List Posted) → AllPairs (λ (one other : Posted). one.tx < other.tx) members → IsPool members
by_number members ascending = λ i j d below low. let less = ascending i j d below low in (λ same. omega arith)

-- without a plan there is no choice
pub no_choice : (tables : Tables) (members : List Posted) → HaveNoPlan members → (others : List Valuation)
    → IsChoice tables members others → ⊥
no_choice tables members none others choice =
    none others (are_kinded tables members others choice.grounded) choice.met

-- a table that is found by its number is one of those whose rows stand under their numbers
found_laid : (laid : Tables) (tables : List Numbered)
    → map (λ (seen : Numbered). slice_index_or laid seen.table set.empty) tables
    ≡ map (λ (seen : Numbered). seen.rows) tables
    → (number : ℕ) → list_any (λ m. m == number) (map (λ (seen : Numbered). seen.table) tables) ≡ true
    → IsLaid tables laid number
found_laid laid [] stand number there = cc
found_laid laid (seen ∷ more) stand number there =
    by (λ k. found_laid laid more others number k) (seen.table == number) refl there
  where
    here : slice_index_or laid seen.table set.empty ≡ seen.rows
    here = cc

    others : map (λ (seen : Numbered). slice_index_or laid seen.table set.empty) more
        ≡ map (λ (seen : Numbered). seen.rows) more
    others = cc

    by : (list_any (λ m. m == number) (map (λ (seen : Numbered). seen.table) more) ≡ true → IsLaid more laid number)
        → (b : Bool) → (seen.table == number) ≡ b
        → (b || list_any (λ m. m == number) (map (λ (seen : Numbered). seen.table) more)) ≡ true
        → (found : Numbered) × (cond b (Some seen) (table_at number more) ≡ Some found)
        × (found.rows ≡ slice_index_or laid number set.empty)
    by found true is there =
        (seen, refl, sym here ∙ ap (λ n. slice_index_or laid n set.empty) (eqb-true seen.table number is))
    by found false is there = found there

-- the tables of a joint job are those that its statements name, with the rows that they have in the job
pub are_laid : (asked : List Posted) (tables : List Numbered) → IsJoint asked tables
    → AreLaid asked tables (tables_of tables)
are_laid asked tables is =
    let named : map (λ (seen : Numbered). seen.table) tables ≡ source_tables asked =
    is.used ∙ joint_tables asked in
    subst (AllByRecursion (IsLaid tables (tables_of tables))) named
    (all_members (IsLaid tables (tables_of tables)) (map (λ (seen : Numbered). seen.table) tables)
    (found_laid (tables_of tables) tables is.stand))
