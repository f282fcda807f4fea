use Rattle.std.proofs.Common.{◌≡◌, ◌++◌, true, length}
use Rattle.std.specs.List.{list_all}
use Rattle.ent_room_calls.specs.Turning.{is_table, words}
use Rattle.ent_room_calls.proofs.turning.table_names.Given as goal

abbrev pub invariant-loop-word : goal.invariant-loop-word
invariant-loop-word l =
    (words l.fn.text ≡ l.names.items ++ words l.rest) × (list_all (is_table l.room) l.names.items ≡ true)

abbrev pub decreases-loop-word : goal.decreases-loop-word
decreases-loop-word l = length l.rest
