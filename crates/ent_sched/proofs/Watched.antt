-- What watchers are told, one after the other.
use Rattle.std.proofs.Common.{◌≡◌, ◌<◌, ◌^◌, List, [], ◌∷◌, ◌++◌, length, length-append, refl, ap, subst, sym, ◌∙◌}
use Rattle.ent_value.specs.Ticks.{ticked}
use Rattle.ent_protocol_laws.specs.Commits.{NoneStarts, StartsAtMostFirst}
use Rattle.ent_form.specs.declared.fault.FormFault.{FormFault}
use Rattle.ent_protocol.specs.Event.{Event, Reply, StartRun}
use Rattle.ent_protocol.specs.Play.{Plays}
use Rattle.ent_protocol.specs.Run.{Forms}
use Rattle.ent_protocol.specs.State.{State}
use Rattle.ent_sched.specs.Tally.{MakesEvent, Tally}
use Rattle.ent_sched.specs.Watching.{Heard, HearsAll, IsRunWatched, IsWatched, IsWatchedInRun, PlaysThrough}
use Rattle.ent_sched.specs.Watching.{exchanged, heard_of}
use Rattle.ent_sched.proofs.Adding.{ticked_none, ticked_twice}

-- ---- events and what is heard of them

plays : (forms : Forms FormFault) (told : List Heard) (first last : State) → PlaysThrough forms first told last
    → Plays forms first (exchanged told) last
plays forms [] first last through = through
plays forms (heard ∷ more) first last through =
    (heard.after, through.0, plays forms more heard.after last through.1)

goes_through : (forms : Forms FormFault) (one more : List Heard) (first middle last : State)
    → PlaysThrough forms first one middle → PlaysThrough forms middle more last
    → PlaysThrough forms first (one ++ more) last
goes_through forms [] more first middle last before behind =
    subst (λ s. PlaysThrough forms s more last) before behind
goes_through forms (heard ∷ one) more first middle last before behind =
    (before.0, goes_through forms one more heard.after middle last before.1 behind)

hears_on : {W X : Type 0} (hears : W → X → W → Type 0) (one more : List X) (first middle last : W)
    → HearsAll hears first one middle → HearsAll hears middle more last → HearsAll hears first (one ++ more) last
hears_on hears [] more first middle last before behind = subst (λ w. HearsAll hears w more last) before behind
hears_on hears (x ∷ one) more first middle last before behind =
    (before.0, before.1, hears_on hears one more before.0 middle last before.2 behind)

-- ---- starts of runs

none_starts : (one more : List Heard) → NoneStarts (exchanged one) → NoneStarts (exchanged more)
    → NoneStarts (exchanged (one ++ more))
none_starts [] more before behind = behind
none_starts (heard ∷ one) more before behind = (before.0, none_starts one more before.1 behind)

at_most_first : (told : List Heard) → NoneStarts (exchanged told) → StartsAtMostFirst (exchanged told)
at_most_first [] none = tt
at_most_first (heard ∷ more) none = none.1

first_starts : (one more : List Heard) → StartsAtMostFirst (exchanged one) → NoneStarts (exchanged more)
    → StartsAtMostFirst (exchanged (one ++ more))
first_starts [] more before behind = at_most_first more behind
first_starts (heard ∷ one) more before behind = none_starts one more before behind

-- ---- watched events

module _ {W : Type 0} (forms : Forms FormFault) (hears : W → Heard → W → Type 0) where
  pub one_told : (event : Event) (reply : Reply FormFault) (old new : Tally) (before behind : W)
      → MakesEvent forms event reply old new → hears before (heard_of event reply new.core) behind
      → IsWatched forms hears old new before behind
  one_told event reply old new before behind made heard =
      record {
        told = heard_of event reply new.core ∷ [];
        plays = (new.core, made.step, refl);
        through = (made.step, refl);
        heard = (behind, heard, refl);
        ticks = made.ticks;
      }

  pub both_told : (first middle last : Tally) (before between behind : W)
      → IsWatched forms hears first middle before between → IsWatched forms hears middle last between behind
      → IsWatched forms hears first last before behind
  both_told first middle last before between behind one more =
      let through = goes_through forms one.told more.told first.core middle.core last.core one.through more.through in
      record {
        told = one.told ++ more.told;
        plays = plays forms (one.told ++ more.told) first.core last.core through;
        through = through;
        heard = hears_on hears one.told more.told before between behind one.heard more.heard;
        ticks = more.ticks ∙ ap (ticked (length more.told)) one.ticks
            ∙ ticked_twice (length one.told) (length more.told) first.ticks
            ∙ ap (λ n. ticked n first.ticks) (sym (length-append one.told more.told));
      }

  none_told : (old new : Tally) (before behind : W) → old.ticks < 2 ^ 64 → new ≡ old → behind ≡ before
      → IsWatched forms hears old new before behind
  none_told old new before behind bound same still =
      record {
        told = [];
        plays = ap (λ (t : Tally). t.core) same;
        through = ap (λ (t : Tally). t.core) same;
        heard = still;
        ticks = ap (λ (t : Tally). t.ticks) same ∙ ticked_none old.ticks bound;
      }

  -- within a run

  pub unwatched : (old new : Tally) (before behind : W) → old.ticks < 2 ^ 64 → new ≡ old → behind ≡ before
      → IsWatchedInRun forms hears old new before behind
  unfolding none_told
  unwatched old new before behind bound same still = (none_told old new before behind bound same still, tt)

  pub one_watched : (event : Event) (reply : Reply FormFault) (old new : Tally) (before behind : W)
      → MakesEvent forms event reply old new → hears before (heard_of event reply new.core) behind
      → (event ≡ StartRun → ⊥) → IsWatchedInRun forms hears old new before behind
  unfolding one_told
  one_watched event reply old new before behind made heard other =
      (one_told event reply old new before behind made heard, (other, tt))

  pub watched_on : (first middle last : Tally) (before between behind : W)
      → IsWatchedInRun forms hears first middle before between → IsWatchedInRun forms hears middle last between behind
      → IsWatchedInRun forms hears first last before behind
  unfolding both_told
  watched_on first middle last before between behind one more = (
    both_told first middle last before between behind one.0 more.0,
    none_starts one.0.told more.0.told one.1 more.1,
  )

  -- of a run

  pub not_started : (old new : Tally) (before behind : W) → old.ticks < 2 ^ 64 → new ≡ old → behind ≡ before
      → IsRunWatched forms hears old new before behind
  unfolding none_told
  not_started old new before behind bound same still = (none_told old new before behind bound same still, tt)

  pub start_watched : (reply : Reply FormFault) (old new : Tally) (before behind : W)
      → MakesEvent forms StartRun reply old new → hears before (heard_of StartRun reply new.core) behind
      → IsRunWatched forms hears old new before behind
  unfolding one_told
  start_watched reply old new before behind made heard =
      (one_told StartRun reply old new before behind made heard, tt)

  pub run_on : (first middle last : Tally) (before between behind : W)
      → IsRunWatched forms hears first middle before between → IsWatchedInRun forms hears middle last between behind
      → IsRunWatched forms hears first last before behind
  unfolding both_told
  run_on first middle last before between behind one more = (
    both_told first middle last before between behind one.0 more.0,
    first_starts one.0.told more.0.told one.1 more.1,
  )
