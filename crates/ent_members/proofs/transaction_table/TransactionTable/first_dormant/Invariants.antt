use Rattle.std.proofs.Common.{◌≡◌, ◌≤◌, take}
use Rattle.std.specs.Vec.{vec_capacity}
use Rattle.ent_members.proofs.transaction_table.TransactionTable.first_dormant.Given as goal

-- those so far, and room for the others
abbrev pub invariant-loop-place : goal.invariant-loop-place
invariant-loop-place l = (l.first.items ≡ take l.place l.self.dormant) × (l.count ≤ vec_capacity l.first)
