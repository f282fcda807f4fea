-- What keeps a member from moving, and that it moves where nothing does.
use Rattle.std.proofs.Common.{◌≡◌, ℕ, List, [], ◌∷◌, ◌++◌, Option, Some, None, ap, subst, sym, ◌∙◌}
use Rattle.std.specs.Prelude.{MatchOption}
use Rattle.ent_value.specs.declared.value.Value.{Value}
use Rattle.ent_semantics.specs.declared.statement.Statement.{Statement}
use Rattle.ent_semantics.specs.Pool.{IsFirstUnsafe, IsSafe, Posted, Unsafe}
use Rattle.ent_form.specs.declared.fault.FormFault.{FormFault}
use Rattle.ent_protocol.specs.Begin.{Begins}
use Rattle.ent_protocol.specs.Event as replies
use Rattle.ent_protocol.specs.Member.{Commits, Next, Ordinary, RollsBack, active_member, next_of, pool}
use Rattle.ent_protocol.specs.Quiet.{CanMove, CanPost, MovesBy}
use Rattle.ent_protocol.specs.State.{State, Member}
use Rattle.ent_protocol.specs.Uses.{blocker}
use Rattle.ent_protocol.specs.Waits.{next_uses}
use Rattle.ent_waits.specs.Free.{IsFree}
use Rattle.ent_core.specs.Begin.{IsToPost}
use Rattle.ent_core.specs.Obstacle.{IsHeldBack}
use Rattle.ent_core.proofs.Begun.{entangled_held, idle_of, member_found, number_found}

-- a free member moves where what comes next does
module _ (s : State) (tx : ℕ) (member : Member) (there : active_member s tx ≡ Some member)
    (free : IsFree s member) where
  moves_next : MovesBy s member (next_of s member) → CanMove s tx
  moves_next moves = record {
    member = member;
    active = member_found tx s.active member there;
    own = number_found tx s.active member there;
    waiting = idle_of s tx member there free.idle;
    moves = moves;
  }

  pub moves_ordinary : (statement : Statement Value) → next_of s member ≡ Ordinary statement → CanMove s tx
  moves_ordinary statement next =
      moves_next
      (subst (MovesBy s member) (sym next)
      (ap (λ (then : Next). blocker s member (next_uses then)) (sym next) ∙ free.unblocked))

  pub moves_commits : next_of s member ≡ Commits → CanMove s tx
  moves_commits next = moves_next (subst (MovesBy s member) (sym next) tt)

  pub moves_rolls_back : next_of s member ≡ RollsBack → CanMove s tx
  moves_rolls_back next = moves_next (subst (MovesBy s member) (sym next) tt)

-- of a member that would post, by what is told of the pool with its statement
module _ (s : State) (tx : ℕ) (query : Posted) (plan : IsToPost s tx query) where
  can_post : IsSafe (pool s ++ query ∷ []) → CanMove s tx
  can_post safe = record {
    member = plan.member;
    active = member_found tx s.active plan.member plan.may.there;
    own = number_found tx s.active plan.member plan.may.there;
    waiting = idle_of s tx plan.member plan.may.there plan.may.idle;
    moves = subst (MovesBy s plan.member) (sym plan.may.is_next)
        (subst (CanPost s plan.member query.statement) (sym plan.unblocked)
        (subst (λ (own : Posted). IsSafe (pool s ++ own ∷ [])) plan.is safe));
  }

  held : (fault : Unsafe) → IsFirstUnsafe (pool s ++ query ∷ []) fault
      → Begins {F = FormFault} s tx (replies.HeldBack fault) s
  held fault first =
      entangled_held s tx plan.member query.statement plan.may plan.unblocked fault
      (subst (λ (own : Posted). IsFirstUnsafe (pool s ++ own ∷ []) fault) plan.is first)

  pub told_of_pool : (posted : List Posted) → pool s ≡ posted → (fault : Option Unsafe)
      → MatchOption fault (IsSafe (posted ++ query ∷ [])) (IsFirstUnsafe (posted ++ query ∷ [])) → IsHeldBack s tx fault
  told_of_pool posted same None safe =
      can_post (subst (λ (all : List Posted). IsSafe (all ++ query ∷ [])) (sym same) safe)
  told_of_pool posted same (Some fault) first =
      held fault (subst (λ (all : List Posted). IsFirstUnsafe (all ++ query ∷ []) fault) (sym same) first)
