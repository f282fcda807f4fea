use Rattle.std.proofs.Common.{ℕ, List, ap}
use Rattle.std.specs.Prelude.{slice_index_or}
use Rattle.ent_check.proofs.statement.changed_number.Goals as goal

pub returns-in-Some : goal.returns-in-Some
returns-in-Some c = ap (λ (tables : List ℕ). slice_index_or tables 0 0) c.in-Some.ensures

pub returns-in-None : goal.returns-in-None
returns-in-None c = ap (λ (tables : List ℕ). slice_index_or tables 0 0) c.in-None.ensures
