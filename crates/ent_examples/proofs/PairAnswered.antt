-- Two who ask for each other are picked, and answered together.
use Rattle.std.proofs.Common.{◌≡◌, ◌⊎◌, inl, inr, ℕ, zero, ◌<◌, ◌≤◌, List, [], ◌∷◌, ◌++◌, refl}
use Rattle.std.proofs.Common.{sym, ap, subst, arith, Some}
use Rattle.std.specs.Prelude.{Contains}
use Rattle.ent_semantics.specs.Component.{IsComponent}
use Rattle.ent_semantics.specs.Pool.{Posted, first_tx}
use Rattle.ent_protocol.specs.Event.{Reply}
use Rattle.ent_protocol.specs.Event as events
use Rattle.ent_protocol.specs.Member.{pool}
use Rattle.ent_protocol.specs.PoolEvents.{joining, joint_job, CanBePicked, IsPresentComponent, Lends, Joins}
use Rattle.ent_lists.specs.Elements.{in_contains}
use Rattle.ent_lists.proofs.Contained.{contains_none}
use Rattle.ent_protocol.specs.PostedBy.{is_present}
use Rattle.ent_protocol.specs.State.{State}
use Rattle.ent_examples.specs.Partners.{Mickey, Minnie, query, pair, pair_job, pair_done}
use Rattle.ent_examples.proofs.PartnersChoice.{taken, least_taken}
use Rattle.ent_examples.proofs.PartnersPool.{one_component, two_cases}

-- a state in whose pool the two are, and no other
module _ (s : State) (one two : ℕ) (before : one < two) (asked : pool s ≡ pair one two) where
  present : IsPresentComponent s (pair one two)
  present = subst (λ xs. IsComponent xs (pair one two)) (sym asked) (one_component one two before)

  at_least : (a : Posted) → Contains (pool s) a → one ≤ a.tx
  at_least a h =
      of (two_cases (query one Mickey Minnie) (query two Minnie Mickey) a (subst (λ xs. Contains xs a) asked h))
    where
      of : (a ≡ query one Mickey Minnie) ⊎ (a ≡ query two Minnie Mickey) → one ≤ a.tx
      of (inl e) = let r : a.tx ≡ one = ap (λ (x : Posted). x.tx) e in omega arith
      of (inr e) =
          let r : a.tx ≡ two = ap (λ (x : Posted). x.tx) e in
          let b : one < two = before in
          omega arith

  least : (others : List Posted) → CanBePicked s others → one ≤ first_tx others
  least [] h =
      absurd (contains_none h.component.first ((h.component.class h.component.first).1
      (h.component.in_remainder, (zero, refl))))
  least (a ∷ more) h =
      at_least a (in_contains (pool s) a (is_present (pool s) (a ∷ more) h.component a (inl refl)))

  abbrev lent : {F : Type 0} → Reply F
  lent = events.Lent (joint_job s (pair one two))

  pub lends_pair : {F : Type 0} → s.tried ≡ [] → s.lent ≡ []
      → Lends {F = F} s lent (record s { lent = s.lent ++ joint_job s (pair one two) ∷ [] })
  lends_pair tried_is lent_is =
      record {
        asked = pair one two;
        can = record {
          component = present;
          untried = λ h. contains_none (pair one two) (subst (λ xs. Contains xs (pair one two)) tried_is h);
          not_out = λ h. contains_none h.0 (subst (λ xs. Contains xs h.0) lent_is h.1);
        };
        least = least;
        replies = refl;
        is = refl;
      }

  abbrev answered : {F : Type 0} → Reply F
  answered = events.Answered

  pub joins_pair : {F : Type 0} → s.lent ≡ pair_job one two ∷ []
      → Joins {F = F} s (pair_done one two) answered (joining (record s { lent = [] }) (pair one two) taken)
  joins_pair lent_is =
      record {
        meant = least_taken one two;
        outstanding = record {
          asked = pair one two;
          is_joint = refl;
          left = [];
          taken = record { before = []; behind = []; is_there = lent_is; others = refl };
          component = present;
        };
        groundings = Some taken;
        choice = refl;
        answers = (refl, refl);
      }
