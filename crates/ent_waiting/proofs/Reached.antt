-- What holds of every world that is reached.
use Rattle.std.proofs.Common.{◌≡◌, ◌⊎◌, ◌≤◌, ◌+◌, ℕ, length, refl, sym, ap, subst, ◌∙◌}
use Rattle.std.proofs.Common.{inl, inr, arith, Some, None}
use Rattle.std.proofs.lemmas.Bool.{cases_lt}
use Rattle.ent_lists.specs.Elements.{In, of_map, to_map}
use Rattle.ent_waiting.specs.Laws.{HasItsGroups, AreOrdered, WentThrough, StandsOnce}
use Rattle.ent_waiting.specs.Laws.{HasThisEnding, IsAhead, IsLevel, IsUntold, Tells, groups_of}
use Rattle.ent_waiting.specs.Step.{Leads, stay, onward, IsReached}
use Rattle.ent_waiting.specs.Store.{Waiter, Ended, Version, Write, Waits, HasEnded}
use Rattle.ent_waiting.specs.World.{World, Claimant, asked, created}
use Rattle.ent_waiting.proofs.Goes.{Stays, waiter_of, ticket_of}
use Rattle.ent_waiting.proofs.Invariant.{Ahead, Kept}
use Rattle.ent_waiting.proofs.Order.{last_counted, number_within, same_write}
use Rattle.ent_waiting.proofs.Steps.{step_kept}
use Rattle.ent_waiting.proofs.Times.{times, times_in, in_times, one_of}

module _ {T C S E : Type 0} (changed : C → T → T) (first : T) where
  created_kept : (next : ℕ) → Kept {S = S} {E = E} changed first (created first next)
  created_kept next =
      record {
        sound =
            record {
              within = λ v at. elim at [
                | inl same ↦ (
                  let e : v.claim ≡ 0 = ap (λ (v : Version). v.claim) same in omega (arith, e),
                  let e : v.write ≡ 0 = ap (λ (v : Version). v.write) same in omega (arith, e),
                )
                | inr never ↦ absurd never
              ];
              present = inl refl;
              may_arrive = λ write at. absurd at;
              once = record { once = λ t. omega arith; none = λ t from. refl };
              groups = record {
                tables = refl;
                follow = tt;
                last = refl;
                ended = refl;
                whole = λ group one none. absurd none;
              };
              writes = record { numbers = tt; last = refl; claims = tt; present = tt };
              done = λ v at. absurd at;
              stand = λ t at. absurd at;
              ended = λ one at. absurd at;
            };
        right = λ claim own is. never own is;
      }
    where
      never : {A : Type 0} (own : Claimant T C S E) → None ≡ Some own → A
      never own e = cc

  pub led_kept : (old new : World T C S E) → Leads changed old new → Kept changed first old → Kept changed first new
  led_kept old new stay kept = kept
  led_kept old new (onward {mid = mid} before step) kept =
      step_kept changed first mid new step (led_kept old mid before kept)

  pub reached_kept : (world : World T C S E) → IsReached changed first world → Kept changed first world
  reached_kept world reached = led_kept (created first reached.0) world reached.1 (created_kept reached.0)

  module _ (world : World T C S E) (kept : Kept changed first world) where
    pub has_groups : HasItsGroups changed first world
    has_groups =
        let g = kept.sound.groups in
        record {
          exact = g.tables;
          numbers = g.follow;
          last = g.last ∙ last_counted 0 (groups_of world) g.follow ∙ nothing (length (groups_of world));
          whole = g.whole;
        }
      where
        nothing : (k : ℕ) → 0 + k ≡ k
        nothing k = omega arith

    pub ordered : AreOrdered world
    ordered =
        let w = kept.sound.writes in
        record { numbers = w.numbers; last = w.last; claims = w.claims; present = w.present }

    pub went_through : (known : Version) → In known world.acknowledged → WentThrough world known
    went_through known at =
        let d = kept.sound.done known at in
        record { write = d.write; there = d.there; claim = d.claim; number = d.number }

    -- of one write number there is one acknowledgement
    pub no_two : (known other : Version) → In known world.acknowledged → In other world.acknowledged
        → known.write ≡ other.write → known.claim ≡ other.claim
    no_two known other at bt same =
        let d = kept.sound.done known at in
        let e = kept.sound.done other bt in
        let is =
        same_write 0 world.history d.write e.write kept.sound.writes.numbers d.there e.there
        (d.number ∙ same ∙ sym e.number) in
        sym d.claim ∙ ap (λ (w : Write C S E). w.claim) is ∙ e.claim

    -- ---- what people were told

    waits_times : (ticket : ℕ) → Waits world.store.waiting ticket → 1 ≤ times waiter_of ticket world.store.waiting
    waits_times ticket waits =
        let r = of_map waiter_of world.store.waiting ticket waits in
        times_in waiter_of ticket world.store.waiting r.0 r.1 (sym r.2)

    ended_times : (ticket : ℕ) → HasEnded world.store.ended ticket → 1 ≤ times ticket_of ticket world.store.ended
    ended_times ticket ended =
        let r = of_map ticket_of world.store.ended ticket ended in
        times_in ticket_of ticket world.store.ended r.0 r.1 (sym r.2)

    not_both : (ticket : ℕ) → Waits world.store.waiting ticket → HasEnded world.store.ended ticket → ⊥
    not_both ticket waits ended =
        let low = kept.sound.once.once ticket in
        let one = waits_times ticket waits in
        let two = ended_times ticket ended in
        absurd (omega (arith, low, one, two))

    pub stands_once : (waiter : Waiter S) → In waiter world.tickets → StandsOnce world.store waiter
    stands_once waiter at = by (kept.sound.stand waiter at)
      where
        only : Stays world.store.waiting world.store.ended waiter → (other : Waiter S)
            → In other world.store.waiting → other.ticket ≡ waiter.ticket → other ≡ waiter
        only (inl there) other bt same =
            let low = kept.sound.once.once waiter.ticket in
            one_of waiter_of waiter.ticket world.store.waiting other waiter bt there same refl (omega (arith, low))
        only (inr ended) other bt same =
            let low = kept.sound.once.once waiter.ticket in
            let one = times_in waiter_of waiter.ticket world.store.waiting other bt same in
            let two = ended_times waiter.ticket ended in
            absurd (omega (arith, low, one, two))

        by : Stays world.store.waiting world.store.ended waiter → StandsOnce world.store waiter
        by stays = record { stands = stays; not_both = not_both waiter.ticket; only = only stays }

    pub has_ending : (one : Ended E) → In one world.endings → HasThisEnding world.store one
    has_ending one at =
        let there = kept.sound.ended one at in
        let low = kept.sound.once.once one.ticket in
        record {
          stands = there;
          only = λ other bt same.
              one_of ticket_of one.ticket world.store.ended other one bt there same refl (omega (arith, low));
          gone = λ waits. not_both one.ticket waits (to_map ticket_of world.store.ended one there);
        }

    -- ---- what a claimant has in memory

    pub stands_on : (own : Claimant T C S E) → world.claimants world.store.claim ≡ Some own
        → IsAhead changed world.store own ⊎ IsLevel world.store own
    stands_on own is = elim ((kept.right world.store.claim own is).now refl) [
      | inl h ↦ inl (record {
        write = h.write;
        tables = h.tables;
        numbers = h.follow;
        last = h.group;
        waiting =
            h.left;
      })
      | inr h ↦ inr (record {
        write = h.write;
        tables = h.tables;
        last = h.group;
        waiting = h.waiting;
        next = h.next;
      })
    ]

    pub is_untold : (own : Claimant T C S E) (one : Ended E) → world.claimants world.store.claim ≡ Some own
        → world.store.write ≡ own.write → In one own.ended → IsUntold world one.ticket
    is_untold own one is same at = elim ((kept.right world.store.claim own is).now refl) [
      | inl h ↦ of_ahead h
      | inr h ↦ let more = h.write in absurd (omega (arith, same, more))
    ]
      where
        of_ahead : Ahead changed world.store own → IsUntold world one.ticket
        of_ahead h =
            let there = times_in ticket_of one.ticket own.ended one at refl in
            let once = kept.sound.once in
            let low = once.once one.ticket in
            let waits : Waits world.store.waiting one.ticket ⊎ (world.store.next ≤ one.ticket) =
            elim (cases_lt one.ticket world.store.next) [
              | inl less ↦
                  let e = h.goes.old one.ticket less in
                  let r = in_times waiter_of one.ticket world.store.waiting (omega (arith, there, e)) in
                  inl (subst (Waits world.store.waiting) r.2 (to_map waiter_of world.store.waiting r.0 r.1))
              | inr from ↦ inr from
            ] in
            let not_ended : HasEnded world.store.ended one.ticket → ⊥ = λ ended. elim waits [
              | inl still ↦ not_both one.ticket still ended
              | inr from ↦
                  let none = once.none one.ticket from in
                  let two = ended_times one.ticket ended in
                  absurd (omega (arith, none, two))
            ] in
            record {
              waits = waits;
              new = λ from waiter told e.
                  let none = once.none one.ticket from in
                  let waits_not : Waits world.store.waiting one.ticket → ⊥ =
                  λ waits. let some = waits_times one.ticket waits in absurd (omega (arith, none, some)) in
                  elim (kept.sound.stand waiter told) [
                    | inl still ↦
                        waits_not
                        (subst (Waits world.store.waiting) e (to_map waiter_of world.store.waiting waiter still))
                    | inr ended ↦ not_ended (subst (HasEnded world.store.ended) e ended)
                  ];
              not_ended = not_ended;
              no_ending = λ other told e.
                  not_ended (subst (HasEnded world.store.ended) e
                  (to_map ticket_of world.store.ended other (kept.sound.ended other told)));
            }

    -- a version tells whether the write went through that was sent last
    pub late : (claim : ℕ) (own : Claimant T C S E) → world.claimants claim ≡ Some own
        → In (record { claim = claim; write = own.write + 1 }) world.versions
        → In (asked claim own) world.history
    late claim own is at = ((kept.right claim own is).through at).done

    pub tells : (own : Claimant T C S E) → world.claimants world.store.claim ≡ Some own
        → Tells world world.store.claim own
    tells own is =
        let right = kept.right world.store.claim own is in
        record {
          through = λ e. (right.through (at_now own e)).done;
          not_through = λ e at.
              let low = number_within 0 world.history (asked world.store.claim own) kept.sound.writes.numbers at in
              let last = kept.sound.writes.last in
              absurd (omega (arith, low, last, e));
          again = λ e. record { claim = refl; number = ap (λ (n : ℕ). n + 1) (sym e) };
          no_other = elim (right.now refl) [ inl h ↦ inr h.write | inr h ↦ inl h.write ];
        }
      where
        at_now : (own : Claimant T C S E) → world.store.write ≡ own.write + 1
            → In (record { claim = world.store.claim; write = own.write + 1 }) world.versions
        at_now own e =
            subst (λ (n : ℕ). In (record { claim = world.store.claim; write = n }) world.versions) e kept.sound.present
