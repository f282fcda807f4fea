use Rattle.std.proofs.Common.{◌≡◌, ◌<◌, ◌≤◌}
use Rattle.ent_meetings.specs.Search.{IsFurther, IsStand, found_of, place_of}
use Rattle.ent_meetings.proofs.search.Search.next.Given as goal

abbrev pub decreases-loop-looks : goal.decreases-loop-looks
decreases-loop-looks l = l.looks

abbrev pub invariant-loop-looks : goal.invariant-loop-looks
invariant-loop-looks l = record {
  stand : IsStand l.index l.self;
  root : l.self.root ≡ l.initial.self.root;
  found : found_of l.self ≡ found_of l.initial.self;
  fewer : l.looks ≤ l.initial.looks;
  further : l.looks < l.initial.looks → IsFurther l.initial.self l.self;
  same : l.looks ≡ l.initial.looks → place_of l.self ≡ place_of l.initial.self;
}
