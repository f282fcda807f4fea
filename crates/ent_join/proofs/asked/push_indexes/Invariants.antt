use Rattle.std.proofs.Common.{◌≡◌, ◌++◌, map, take}
use Rattle.std.specs.List.{AllByRecursion}
use Rattle.ent_join.specs.Asked.{IsMade, membership_index}
use Rattle.ent_join.proofs.asked.push_indexes.Given as goal

abbrev pub invariant-loop-membership : goal.invariant-loop-membership
invariant-loop-membership l =
    record {
      indexes : l.indexes.items ≡ l.fn.indexes.items
          ++ map (membership_index l.tables l.tests l.slots) (take l.membership-index l.memberships);
      made : AllByRecursion (IsMade l.tables l.tests) l.made.items;
    }
