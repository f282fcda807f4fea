use Rattle.std.proofs.Common.{◌≡◌, ◌<◌, ◌≤◌, ℕ, false, IsSomeAnd}
use Rattle.ent_meetings.specs.Next.{IsAfter, IsUpTo}
use Rattle.ent_meetings.specs.Sides.{fits_at}
use Rattle.ent_meetings.proofs.index.Index.next.Given as goal

abbrev pub decreases-loop-looks : goal.decreases-loop-looks
decreases-loop-looks l = l.looks

-- nobody up to the last is sought
abbrev pub invariant-loop-looks : goal.invariant-loop-looks
invariant-loop-looks l = record {
  fewer : l.looks ≤ l.initial.looks;
  none : (other : ℕ) → IsAfter l.initial.last other → IsUpTo l.last other
      → fits_at l.side l.self l.sought other ≡ false;
  later : (other : ℕ) → IsAfter l.last other → IsAfter l.initial.last other;
  further : l.looks < l.initial.looks → IsSomeAnd l.last (IsAfter l.initial.last);
}
