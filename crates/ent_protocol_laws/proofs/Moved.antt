-- What is posted and lent is right where members have gone on or are of another group.
use Rattle.std.proofs.Common.{◌≡◌, ◌⊎◌, ℕ, true, false, List, map, refl, sym, ap}
use Rattle.std.proofs.Common.{subst, ◌∙◌, inl, inr}
use Rattle.std.specs.List.{AllByRecursion}
use Rattle.ent_semantics.specs.Serial.{numbered}
use Rattle.ent_protocol.specs.Job.{Job}
use Rattle.ent_protocol.specs.PoolEvents.{in_joined_group}
use Rattle.ent_protocol.specs.Run.{Forms}
use Rattle.ent_protocol.specs.PostedBy.{next_same}
use Rattle.ent_protocol.specs.State.{State, Member}
use Rattle.ent_lists.specs.Elements.{In, of_all, to_all, of_map, to_map, clash}
use Rattle.ent_protocol_laws.proofs.Jobs.{JobRight, Stays, Moves, jobs_moved, holds_own}
use Rattle.ent_protocol_laws.proofs.SerialKept.{Kept, PostedHolds}

module _ {F : Type 0} (forms : Forms F) (s : State) (kept : Kept forms s) (groups : List ℕ) (change : Member → Member)
    (moves_or_stays : (m : Member) → In m s.active
    → (Moves m (change m) × (m.posted ≡ true) × ((change m).posted ≡ false))
    ⊎ (change m ≡ in_joined_group groups m)) where
  stays_left : (m : Member) → Stays s.tables s.tables m (in_joined_group groups m)
  stays_left m =
      record {
        tx = refl;
        place = refl;
        bound = refl;
        posts = λ e. e;
        holds = holds_own m;
        alike = λ table used. refl;
      }

  pub jobs_joined : (left : List Job) → ((job : Job) → In job left → In job s.lent)
      → AllByRecursion (JobRight s.submitted (map change s.active) s.tables) left
  jobs_joined left fewer =
      jobs_moved s.submitted s.active (map change s.active) s.tables s.tables s.lent left fewer
      (λ other ot.
      let m = of_map change s.active other ot in (
        m.0,
        m.1,
        elim (moves_or_stays m.0 m.1) [
          | inl moved ↦ inr (subst (Moves m.0) (sym m.2) moved.0)
          | inr e ↦ inl (subst (Stays s.tables s.tables m.0) (sym (m.2 ∙ e)) (stays_left m.0))
        ],
      ))
      (λ one ot is has.
      elim (moves_or_stays one ot) [
        | inl moved ↦ clash one.posted moved.1 is
        | inr e ↦ (
          change one,
          to_map change s.active one ot,
          subst (Stays s.tables s.tables one) (sym e) (stays_left one),
          ap (λ (z : Member). z.posted) e ∙ is,
        )
      ]) kept.jobs

  pub posted_joined : AllByRecursion (PostedHolds s.submitted) (map change s.active)
  posted_joined =
      to_all (PostedHolds s.submitted) (map change s.active) (λ other ot.
      let m = of_map change s.active other ot in
      subst (PostedHolds s.submitted) (sym m.2) (elim (moves_or_stays m.0 m.1) [
        | inl moved ↦ λ is. clash (change m.0).posted is moved.2
        | inr e ↦ subst (PostedHolds s.submitted) (sym e) (λ is wanted next.
            of_all (PostedHolds s.submitted) s.active m.0 kept.posted m.1 is wanted
            (next_same (numbered s.submitted m.0.tx) m.0 (in_joined_group groups m.0) refl refl ∙ next))
      ]))
