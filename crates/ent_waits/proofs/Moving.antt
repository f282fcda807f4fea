-- Who would move, where something blocks it or nothing is.
use Rattle.std.proofs.Common.{◌≡◌, ◌↔◌, ℕ, Bool, true, false, not, ◌&&◌, ◌||◌, List, [], ◌∷◌, Option, Some, None}
use Rattle.std.proofs.Common.{refl, sym, ap, subst, ◌∙◌, true≢false}
use Rattle.std.specs.List.{filter}
use Rattle.std.specs.Option.{is_some}
use Rattle.ent_value.specs.declared.value.Value.{Value}
use Rattle.ent_semantics.specs.declared.entangled.Entangled.{Entangled}
use Rattle.ent_semantics.specs.Pool.{IsSafe}
use Rattle.ent_protocol.specs.Begin.{pool_with}
use Rattle.ent_protocol.specs.Member.{Next, Ordinary, Asks, Commits, RollsBack, next_of}
use Rattle.ent_protocol.specs.Quiet.{CanPost, MovesBy}
use Rattle.ent_protocol.specs.State.{State, Member}
use Rattle.ent_protocol.specs.Uses.{blocker, entangled_uses, is_conflicting, not_passed}
use Rattle.ent_protocol.specs.Waits.{next_uses}
use Rattle.ent_waits.specs.Free.{is_posting}

-- nobody blocks who asks for nothing
pub none_conflicting : (xs : List Member) → filter (is_conflicting []) xs ≡ []
none_conflicting [] = refl
none_conflicting (x ∷ xs) = none_conflicting xs

pub free_at_end : (s : State) (member : Member) → blocker s member [] ≡ None
free_at_end s member = rw (none_conflicting (not_passed s member)) refl

-- ---- posted, or with a job out

pub busy_waits : (posted lent : Bool) → (not posted && not lent) ≡ false → (posted || lent) ≡ false → ⊥
busy_waits true lent busy idle = true≢false idle
busy_waits false true busy idle = true≢false idle
busy_waits false false busy idle = true≢false busy

pub waiting_is_idle : (posted lent : Bool) → (not posted && not lent) ≡ true → (posted || lent) ≡ false
waiting_is_idle true lent waiting = absurd (true≢false (sym waiting))
waiting_is_idle false true waiting = absurd (true≢false (sym waiting))
waiting_is_idle false false waiting = refl

-- ---- in conflict

pub nobody_blocks : (blocker : Option ℕ) (none : Bool) → is_some blocker ≡ not none → blocker ≡ None → none ≡ true
nobody_blocks blocker true some nobody = refl
nobody_blocks blocker false some nobody = absurd (true≢false (sym some ∙ ap is_some nobody))

-- ---- by what comes next

-- nothing is in conflict with its entangled statement, so that it moves exactly where the pool stays safe with it
pub record AsksFreely (s : State) (member : Member) : Type 0 where
  pub statement : Entangled Value
  pub next : next_of s member ≡ Asks statement
  pub moves : MovesBy s member (next_of s member) ↔ IsSafe (pool_with s member statement)

can_post : (s : State) (member : Member) (statement : Entangled Value) (holder : Option ℕ)
    → CanPost s member statement holder → holder ≡ None
can_post s member statement (Some holder) moves = absurd moves
can_post s member statement None moves = refl

-- nobody blocks a member that moves
pub mover_is_unblocked : (s : State) (member : Member) (next : Next) → MovesBy s member next
    → blocker s member (next_uses next) ≡ None
mover_is_unblocked s member (Ordinary statement) moves = moves
mover_is_unblocked s member (Asks statement) moves =
    can_post s member statement (blocker s member (entangled_uses statement)) moves
mover_is_unblocked s member Commits moves = free_at_end s member
mover_is_unblocked s member RollsBack moves = free_at_end s member

-- one that is free moves, unless its statement is entangled
pub free_moves : (s : State) (member : Member) (next : Next) → blocker s member (next_uses next) ≡ None
    → is_posting next ≡ false → MovesBy s member next
free_moves s member (Ordinary statement) free ordinary = free
free_moves s member (Asks statement) free ordinary = absurd (true≢false ordinary)
free_moves s member Commits free ordinary = tt
free_moves s member RollsBack free ordinary = tt

-- one that is free and whose statement is entangled moves where the pool stays safe
pub free_asks : (s : State) (member : Member) (next : Next) → next_of s member ≡ next
    → blocker s member (next_uses next) ≡ None → is_posting next ≡ true → AsksFreely s member
free_asks s member (Ordinary statement) is free asks = absurd (true≢false (sym asks))
free_asks s member (Asks statement) is free asks = record {
  statement = statement;
  next = is;
  moves = subst (λ n. MovesBy s member n ↔ IsSafe (pool_with s member statement)) (sym is)
      (subst (λ o. CanPost s member statement o ↔ IsSafe (pool_with s member statement)) (sym free)
      ((λ safe. safe), (λ safe. safe)));
}
free_asks s member Commits is free asks = absurd (true≢false (sym asks))
free_asks s member RollsBack is free asks = absurd (true≢false (sym asks))
