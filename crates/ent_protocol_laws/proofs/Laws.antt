-- The laws of steps, from those of lower crates.
use Rattle.std.proofs.Common.{◌≡◌, ◌≤◌, ◌+◌, ◌*◌, ℕ, true, false, cond, List, length, refl, sym, subst, ◌∙◌}
use Rattle.std.proofs.Common.{arith, Contains, map}
use Rattle.std.specs.Prelude.{◌↔◌}
use Rattle.ent_semantics.specs.Component.{IsComponent}
use Rattle.ent_semantics.specs.Pool.{Posted}
use Rattle.ent_protocol.specs.Event.{Event, Reply}
use Rattle.ent_protocol.specs.Reached.{IsReached}
use Rattle.ent_protocol.specs.Run.{Forms}
use Rattle.ent_protocol.specs.State.{State, members}
use Rattle.ent_protocol.specs.Step.{Step}
use Rattle.ent_protocol_laws.specs.Progress.{brings_work, is_progress}
use Rattle.ent_protocol_laws.specs.Within.{IsBelow, IsWithin, statements_in_run, unbegun}
use Rattle.ent_protocol_laws.proofs.Changes.{Act, Submits, Starts, act_of, after, opens, worth}
use Rattle.ent_protocol_laws.proofs.Counts.{unbegun_most}
use Rattle.ent_protocol_laws.proofs.ReachedStates.{IsKnown, Laws, known, member_tx, reached_next}
use Rattle.ent_protocol_laws.proofs.UsedUp.{IsUsed, active_few, all_hit}
use Rattle.ent_protocol_laws.proofs.Worth.{used}

-- ---- a run as it is

start_low : (u t a n q : ℕ) → u ≤ t → a ≤ n → 2 * u + a + q ≤ 2 * t + n + q
start_low u t a n q low few = omega (arith, low, few)

pub start_within : (s : State)
    → IsWithin (length (members s))
    (2 * statements_in_run s + length (members s) + length (members s) * length (members s)) s
start_within s =
    record {
      few = omega arith;
      transactions = map member_tx s.active;
      hit = all_hit s;
      within = start_low (unbegun s) (statements_in_run s) (length (map member_tx s.active)) (length (members s))
          (length (members s) * length (members s)) (unbegun_most s) (active_few s);
    }

-- ---- steps

module _ {F : Type 0} (forms : Forms F) (laws : Laws forms) (classes : (pool members others : List Posted)
    (shared member : Posted) → IsComponent pool members → IsComponent pool others → Contains members shared
    → Contains others shared → Contains members member ↔ Contains others member) where
  used_by : (s new : State) (act : Act s) (most left : ℕ) → IsReached forms s → IsReached forms new
      → new ≡ after s act → opens s act ≡ false → IsWithin most left s
      → IsUsed (cond (worth s act) 1 0) most left new
  used_by s new act most left reached then is work w =
      subst (IsUsed (cond (worth s act) 1 0) most left) (sym is)
      (used classes s act most left (known forms laws s reached)
      (subst IsKnown is (known forms laws new then)) work w)

  weaken : (k most left : ℕ) (new : State) → IsUsed k most left new → IsWithin most left new
  weaken k most left new u =
      let low = u.below in
      let less = u.within.within in
      record {
        few = u.within.few;
        transactions = u.within.transactions;
        hit = u.within.hit;
        within = omega (arith, low, less);
      }

  lower : (most left : ℕ) (new : State) → IsUsed 1 most left new → IsBelow most left new
  lower most left new u =
      let low = u.below in
      record { less = u.less; below = omega (arith, low); within = u.within }

  pub stay_within : (s : State) (event : Event) (reply : Reply F) (new : State) (most left : ℕ) → IsReached forms s
      → Step forms s event reply new → brings_work reply ≡ false → IsWithin most left s → IsWithin most left new
  stay_within s event reply new most left reached step work w =
      let act = act_of forms s event reply new step in
      weaken (cond (worth s act.act) 1 0) most left new
      (used_by s new act.act most left reached (reached_next forms laws.goes_on s event reply new reached step) act.is
      (sym act.work ∙ work) w)

  pub go_below : (s : State) (event : Event) (reply : Reply F) (new : State) (most left : ℕ) → IsReached forms s
      → Step forms s event reply new → is_progress reply ≡ true → IsWithin most left s → IsBelow most left new
  go_below s event reply new most left reached step progress w =
      let act = act_of forms s event reply new step in
      let worth_it = sym act.progress ∙ progress in
      lower most left new
      (subst (λ b. IsUsed (cond b 1 0) most left new) worth_it
      (used_by s new act.act most left reached (reached_next forms laws.goes_on s event reply new reached step) act.is
      (no_work s act.act worth_it) w))
    where
      no_work : (s : State) (act : Act s) → worth s act ≡ true → opens s act ≡ false
      no_work s (Submits script form) is = sym is
      no_work s Starts is = sym is
      no_work s other is = refl
