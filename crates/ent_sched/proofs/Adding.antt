-- Events and their ticks add up.
use Rattle.std.proofs.Common.{◌≡◌, ◌≤◌, ◌<◌, ◌+◌, ◌^◌, ℕ, refl, ap, subst, sym, ◌∙◌, arith}
use Rattle.std.proofs.lemmas.Bool.Decides.{nat_tests}
use Rattle.ent_value.specs.Ticks.{ticked}
use Rattle.ent_protocol.specs.Event.{Event, Reply}
use Rattle.ent_protocol.specs.Reached.{LeadsTo}
use Rattle.ent_protocol.specs.Run.{Forms}
use Rattle.ent_protocol.specs.State.{State}
use Rattle.ent_sched.specs.Onward.{TicksOn}
use Rattle.ent_sched.specs.Tally.{MakesEvent, Tally}

pub ticked_none : (ticks : ℕ) → ticks < 2 ^ 64 → ticks ≡ ticked 0 ticks
ticked_none ticks bound = grind (arith, nat_tests)

pub ticked_twice : (n m ticks : ℕ) → ticked m (ticked n ticks) ≡ ticked (n + m) ticks
ticked_twice n m ticks = grind (arith, nat_tests)

module _ {F : Type 0} (forms : Forms F) where
  pub none_made : (tally : Tally) → tally.ticks < 2 ^ 64 → TicksOn forms 0 tally tally
  none_made tally bound =
      record {
        count = 0;
        few = omega arith;
        leads_on = record { leads = refl; opening = refl; submitted = refl };
        ticks = ticked_none tally.ticks bound;
      }

  pub one_made : (event : Event) (reply : Reply F) (old new : Tally) → MakesEvent forms event reply old new
      → new.core.opening ≡ old.core.opening → new.core.submitted ≡ old.core.submitted → TicksOn forms 1 old new
  one_made event reply old new made opening submitted =
      record {
        count = 1;
        few = omega arith;
        leads_on = record {
          leads = (old.core, event, reply, refl, made.step);
          opening = opening;
          submitted = submitted;
        };
        ticks = made.ticks;
      }

  -- what comes behind events, where events one behind the other lead on
  pub joined : ((n m : ℕ) (first middle last : State) → LeadsTo forms n first middle → LeadsTo forms m middle last
      → LeadsTo forms (n + m) first last)
      → (n m : ℕ) (first middle last : Tally) → TicksOn forms n first middle → TicksOn forms m middle last
      → TicksOn forms (n + m) first last
  joined law n m first middle last one other =
      record {
        count = one.count + other.count;
        few = let few = one.few in let less = other.few in omega (arith, few, less);
        leads_on =
            record {
              leads = law one.count other.count first.core middle.core last.core one.leads_on.leads
                  other.leads_on.leads;
              opening = other.leads_on.opening ∙ one.leads_on.opening;
              submitted = other.leads_on.submitted ∙ one.leads_on.submitted;
            };
        ticks = other.ticks ∙ ap (ticked other.count) one.ticks ∙ ticked_twice one.count other.count first.ticks;
      }

  pub widened : (n m : ℕ) (first last : Tally) → n ≤ m → TicksOn forms n first last → TicksOn forms m first last
  widened n m first last more h =
      record {
        count = h.count;
        few = let few = h.few in omega (arith, few, more);
        leads_on = h.leads_on;
        ticks = h.ticks;
      }

  -- where nothing was made, no more than any number of events were
  pub unmoved : (most : ℕ) (old new : Tally) → old.ticks < 2 ^ 64 → new ≡ old → TicksOn forms most old new
  unmoved most old new bound same =
      subst (λ (x : Tally). TicksOn forms most old x) (sym same)
      (widened 0 most old old (omega arith) (none_made old bound))
