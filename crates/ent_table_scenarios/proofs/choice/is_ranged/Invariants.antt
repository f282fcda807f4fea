use Rattle.std.proofs.Common.{◌≡◌, ℕ, ◌<◌, true}
use Rattle.std.specs.List.{list_any}
use Rattle.ent_plan.specs.Ranged.{stands_in}
use Rattle.ent_table_scenarios.proofs.choice.is_ranged.Given as goal

abbrev pub invariant-loop-number : goal.invariant-loop-number
invariant-loop-number l = (n : ℕ) → n < l.number → list_any (stands_in n) l.statement.atoms ≡ true
