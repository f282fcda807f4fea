-- Acts behind acts.
use Rattle.std.proofs.Common.{◌≡◌, ◌∙◌, ℕ, zero, suc, refl, sym, ap, subst, inl, inr, Some, Bool, true, false, cond}
use Rattle.std.proofs.Common.{Option}
use Rattle.std.proofs.Common.{◌<◌, ◌++◌, ◌∷◌, [], List, length, nat_lt, arith, ⊎_elim}
use Rattle.std.proofs.lemmas.Bool.Decides.{nat_tests}
use Rattle.std.proofs.lemmas.Bool.{cases_Bool}
use Rattle.std.specs.BTreeMap.{is_at}
use Rattle.std.specs.BTreeSet.{BTreeSet, contains}
use Rattle.std.specs.Ordering.{nat_cmp}
use Rattle.ent_epoch.specs.Epoch.{Epoch}
use Rattle.ent_epoch.specs.Telling.{IsToldTo}
use Rattle.ent_feed.specs.Feed.{behind}
use Rattle.ent_feed.specs.Group.{AreNumbered}
use Rattle.ent_feed.specs.declared.group.EndedTicket.{EndedTicket}
use Rattle.ent_feed.specs.declared.group.Group.{Group}
use Rattle.ent_protocol.specs.Reached.{CanClose}
use Rattle.ent_protocol.specs.State.{State}
use Rattle.ent_waiting.specs.Waiter.{is_idle}
use Rattle.ent_waiting.specs.WaitingList.{Onward, UpdatesAt, WaitingList, is_stationed, moved, waiter_of, waits_idle}
use Rattle.ent_waiting.specs.declared.queues.Station.TheVariants.{Batch}
use Rattle.ent_waiting.specs.declared.waiter.WaitingPlace.{WaitingPlace}
use Rattle.ent_waiting.specs.declared.waiter.WaitingPlace.TheVariants.{Chosen, Queued, Resting, Submitted}
use Rattle.ent_waiting.specs.declared.waiter.Waiter.{Waiter}
use Rattle.ent_waiting.specs.Queues.{stands_in}
use Rattle.ent_waiting.proofs.Keeping.{idle}
use Rattle.ent_admission.specs.Acts.{Acts, Advances, LeadsOn, OnlyShifts, Plans, Turns}
use Rattle.ent_admission.specs.Admission.{Admission, IsAllTold, IsAtRest, IsOver, endings_due}
use Rattle.ent_admission.specs.Moves.{Chain, Goes, Moves, Runs, TellsCommits, TellsEndings}
use Rattle.ent_admission.proofs.Appending.{appends_nowhere, appends_on, appends_same, goes_append}
use Rattle.ent_admission.proofs.Changes.{onward_nowhere, onward_on}
use Rattle.ent_admission.proofs.Going.{goes_on, goes_once, joined}
use Rattle.ent_admission.proofs.Calls.{still}

leads_on : (first between last : Admission) → LeadsOn first between → LeadsOn between last → LeadsOn first last
leads_on first between last one two = joined Acts one.0 two.0 first between last one.1 two.1

leads_nowhere : (a : Admission) → LeadsOn a a
leads_nowhere a = (zero, refl)

leads_once : (first last : Admission) → Acts first last → LeadsOn first last
leads_once first last act = (suc zero, (first, refl, act))

by_moves : (n : ℕ) (first last : Admission) → Chain Moves n first last → Chain Acts n first last
by_moves zero first last is = is
by_moves (suc n) first last goes = (goes.0, by_moves n first goes.0 goes.1, inr (inr (inr goes.2)))

-- ---- advances

pub advances_nowhere : (a : Admission) → Advances a a
advances_nowhere a =
    record {
      leads = leads_nowhere a;
      feed = appends_nowhere a.feed;
      onward = onward_nowhere a.list;
      tables = refl;
    }

pub advances_on : (first between last : Admission) → Advances first between → Advances between last
    → Advances first last
advances_on first between last one two =
    record {
      leads = leads_on first between last one.leads two.leads;
      feed = appends_on first.feed between.feed last.feed one.feed two.feed;
      onward = onward_on first.list between.list last.list one.onward two.onward;
      tables = two.tables ∙ one.tables;
    }

pub goes_advances : (first last : Admission) → Goes first last → Onward first.list last.list
    → last.epoch.core.opening ≡ first.epoch.core.opening → Advances first last
goes_advances first last goes onward same =
    record {
      leads = (goes.0, by_moves goes.0 first last goes.1);
      feed = goes_append first last goes;
      onward = onward;
      tables = ap (λ o. o.tables) same;
    }

pub plans_advance : (first last : Admission) → Plans first last → Advances first last
plans_advance first last plans =
    subst (λ (x : Admission). Advances first x) (sym plans.is)
    (let x : Admission = record first { coming = last.coming; again = last.again } in
    record {
      leads = leads_once first x (inl (record { at_rest = plans.at_rest; batch = plans.batch; is = refl }));
      feed = appends_nowhere first.feed;
      onward = onward_nowhere first.list;
      tables = refl;
    })

pub turns_advance : (first last : Admission) → Turns first last → Advances first last
turns_advance first last turns =
    record {
      leads = leads_once first last (inr (inr (inl turns)));
      feed = appends_same first.feed last.feed turns.feed;
      onward = subst (λ (l : WaitingList). Onward first.list l) (sym turns.list) (onward_nowhere first.list);
      tables = turns.renewed.declarations;
    }

-- ---- shifts

pub shifts_nowhere : (a : Admission) → OnlyShifts a a
shifts_nowhere a =
    record {
      leads = leads_nowhere a;
      epoch = refl;
      coming = refl;
      again = refl;
      feed = refl;
      news = refl;
      onward = onward_nowhere a.list;
      at_rest = λ h. h;
    }

pub shifts_on : (first between last : Admission) → OnlyShifts first between → OnlyShifts between last
    → OnlyShifts first last
shifts_on first between last one two =
    record {
      leads = leads_on first between last one.leads two.leads;
      epoch = two.epoch ∙ one.epoch;
      coming = two.coming ∙ one.coming;
      again = two.again ∙ one.again;
      feed = two.feed ∙ one.feed;
      news = two.news ∙ one.news;
      onward = onward_on first.list between.list last.list one.onward two.onward;
      at_rest = λ h. two.at_rest (one.at_rest h);
    }

pub shifts_advance : (old new : Admission) → OnlyShifts old new → Advances old new
shifts_advance old new shifts =
    record {
      leads = shifts.leads;
      feed = appends_same old.feed new.feed shifts.feed;
      onward = shifts.onward;
      tables = ap (λ (e : Epoch). e.core.opening.tables) shifts.epoch;
    }

-- in no batch is who waits idle
idle_place : (place : WaitingPlace) → is_idle place ≡ true → stands_in Batch place ≡ false
idle_place Resting e = refl
idle_place (Queued rank) e = refl
idle_place Chosen e = absurd cc
idle_place (Submitted s) e = absurd cc

either : (here : Bool) (place : WaitingPlace) (waiter : Waiter) (found : Option Waiter) → is_idle place ≡ true
    → is_stationed Batch found ≡ false
    → is_stationed Batch (cond here (Some (record waiter { place = place })) found) ≡ false
either true place waiter found e none = idle_place place e
either false place waiter found e none = none

module _ (a : Admission) (list : WaitingList) (ticket : ℕ) (place : WaitingPlace) (free : is_idle place ≡ true)
    (is : list ≡ moved ticket place a.list)
    (updates : (waiter : Waiter) → waiter_of a.list ticket ≡ Some waiter → is_idle waiter.place ≡ true
    → UpdatesAt ticket (Some (record waiter { place = place })) a.list.waiters list.waiters)
    (onward : Onward a.list list) where
  abbrev shifted : Admission
  shifted = record a { list = list }

  still_idle : IsAtRest a → (t : ℕ) → is_stationed Batch (waiter_of list t) ≡ false
  still_idle rest t =
      ⊎_elim
      (λ yes. let w = idle (waiter_of a.list ticket) yes in
      ap (is_stationed Batch) (updates w.0 w.1 w.2 t)
      ∙ either (is_at (nat_cmp ticket) t) place w.0 (waiter_of a.list t) free (rest.over.idle t))
      (λ no. let same : list ≡ a.list = is ∙ still (waiter_of a.list ticket) ticket place a.list no in
      ap (λ (l : WaitingList). is_stationed Batch (waiter_of l t)) same ∙ rest.over.idle t)
      (cases_Bool (waits_idle (waiter_of a.list ticket)))

  pub shifts_only : OnlyShifts a shifted
  shifts_only =
      record {
        leads = leads_once a shifted (inr (inl (record {
          ticket = ticket;
          place = place;
          idle = free;
          is = ap (λ (l : WaitingList). record a { list = l }) is;
        })));
        epoch = refl;
        coming = refl;
        again = refl;
        feed = refl;
        news = refl;
        onward = onward;
        at_rest = λ rest. record {
          over = record { coming = rest.over.coming; closes = rest.over.closes; idle = still_idle rest };
          told = record { commits = rest.told.commits; endings = rest.told.endings };
        };
      }

-- ---- a batch goes on

pub record Gone (first last : Admission) : Type 0 where
  pub goes : Goes first last
  pub onward : Onward first.list last.list
  pub opening : last.epoch.core.opening ≡ first.epoch.core.opening

pub gone_on : (first between last : Admission) → Gone first between → Gone between last → Gone first last
gone_on first between last one two =
    record {
      goes = goes_on first between last one.goes two.goes;
      onward = onward_on first.list between.list last.list one.onward two.onward;
      opening = two.opening ∙ one.opening;
    }

pub gone_run : (first last : Admission) → Runs first last → last.epoch.core.opening ≡ first.epoch.core.opening
    → Gone first last
gone_run first last runs same =
    record {
      goes = goes_once first last (inr (inr (inl runs)));
      onward = subst (λ (l : WaitingList). Onward first.list l) (sym runs.list) (onward_nowhere first.list);
      opening = same;
    }

pub gone_advances : (first last : Admission) → Gone first last → Advances first last
gone_advances first last gone = goes_advances first last gone.goes gone.onward gone.opening

-- what is told of a batch
pub gone_told : (first last : Admission) → Goes first last → last.list ≡ first.list
    → last.epoch.core ≡ first.epoch.core → Gone first last
gone_told first last goes list core =
    record {
      goes = goes;
      onward = subst (λ (l : WaitingList). Onward first.list l) (sym list) (onward_nowhere first.list);
      opening = ap (λ (s : State). s.opening) core;
    }

-- ---- what is told

-- no batch is on, also once what came of the last one is told
pub at_rest_told : (over told : Admission) → IsOver over → told.coming ≡ over.coming
    → told.epoch.core ≡ over.epoch.core → told.list ≡ over.list → IsAllTold told → IsAtRest told
at_rest_told over told is coming core list all =
    record {
      over = record {
        coming = λ t. ap (λ (s : BTreeSet ℕ). contains nat_cmp s t) coming ∙ is.coming t;
        closes = subst (λ (s : State). CanClose s) (sym core) is.closes;
        idle = λ t. ap (λ (l : WaitingList). is_stationed Batch (waiter_of l t)) list ∙ is.idle t;
      };
      told = all;
    }

pub commits_told : (old new : Admission) → TellsCommits old new → IsToldTo new.epoch.telling new.epoch.core
commits_told old new tells =
    subst (λ (e : Epoch). IsToldTo e.telling e.core) (sym tells.publishes.all_told)
    (let s : State = old.epoch.core in record { entries = refl; tables = refl })

pub commits_all_told : (old new : Admission) → TellsCommits old new → new.news ≡ [] → IsAllTold new
commits_all_told old new tells none = record { commits = commits_told old new tells; endings = none }

pub endings_all_told : (old new : Admission) → TellsEndings old new → IsToldTo old.epoch.telling old.epoch.core
    → IsAllTold new
endings_all_told old new tells told =
    record {
      commits = subst (λ (a : Admission). IsToldTo a.epoch.telling a.epoch.core) (sym tells.is) told;
      endings = ap (λ (a : Admission). a.news) tells.is;
    }

pub goes_telling : (first between last : Admission) → TellsCommits first between → TellsEndings between last
    → Goes first last
goes_telling first between last commits endings =
    goes_on first between last (goes_once first between (inr (inr (inr (inr (inl commits))))))
    (goes_once between last (inr (inr (inr (inr (inr endings))))))

pub goes_telling_commits : (first last : Admission) → TellsCommits first last → Goes first last
goes_telling_commits first last commits = goes_once first last (inr (inr (inr (inr (inl commits)))))

pub goes_still : (first last : Admission) → last ≡ first → Goes first last
goes_still first last same = (zero, same)

pub one_due : (news : List EndedTicket) → 0 < length news → endings_due news ≡ 1
one_due [] some = absurd (omega (arith, some))
one_due (one ∷ more) some = refl

-- ---- groups that are kept no longer

all_behind : (number first next : ℕ) (groups : List Group) → AreNumbered first groups next → number < first
    → behind number groups ≡ groups
all_behind number first next [] numbered low = refl
all_behind number first next (group ∷ more) numbered low =
    let is : nat_lt number group.number ≡ true =
    let same = numbered.0 in grind (arith, nat_tests) in
    ap (λ (b : Bool). cond b (group ∷ behind number more) (behind number more)) is
    ∙ ap (λ (gs : List Group). group ∷ gs) (all_behind number (suc first) next more numbered.1 (omega (arith, low)))

-- the first ones are those up to a number
pub first_settled : (number first next : ℕ) (groups : List Group) → AreNumbered first groups next
    → (some : List Group) × (some ++ behind number groups ≡ groups)
first_settled number first next [] numbered = ([], refl)
first_settled number first next (group ∷ more) numbered =
    by (nat_lt number group.number) refl (first_settled number (suc first) next more numbered.1)
  where
    by : (later : Bool) → nat_lt number group.number ≡ later
        → ((some : List Group) × (some ++ behind number more ≡ more))
        → (some : List Group) × (some ++ behind number (group ∷ more) ≡ group ∷ more)
    by true is rest =
        let low : number < group.number = grind (arith, nat_tests) in (
          [],
          all_behind number group.number next (group ∷ more)
              (refl, subst (λ (n : ℕ). AreNumbered (suc n) more next) (sym numbered.0) numbered.1) low,
        )
    by false is rest = (
      group ∷ rest.0,
      ap (λ (b : Bool). group ∷ (rest.0 ++ cond b (group ∷ behind number more) (behind number more))) is
          ∙ ap (λ (gs : List Group). group ∷ gs) rest.1,
    )
