-- Against whose patience a batch counts.
use Rattle.std.specs.Prelude.{ℕ, Bool, false, Option, None, Some, ◌==◌}
use Rattle.ent_admission.specs.declared.batch.Again.{Again}

abbrev pub is_root : Option ℕ → ℕ → Bool
is_root None ticket = false
is_root (Some root) ticket = root == ticket

-- whether a batch counts against the patience of a ticket
abbrev pub counts_for : Again → ℕ → Bool
counts_for again ticket = is_root again.root ticket
