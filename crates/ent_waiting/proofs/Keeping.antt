-- What a waiting list keeps of its parts, through a change.
use Rattle.std.proofs.Common.{◌≡◌, ◌∙◌, ◌≤◌, ◌+◌, ℕ, Bool, true, false, cond, List, [], ◌∷◌, ◌++◌, refl, sym, ap, subst}
use Rattle.std.proofs.Common.{Option, Some, None, map, length, nat_eq, arith, inl, inr, ⊎_elim, ◌⊎◌}
use Rattle.std.proofs.lemmas.Bool.{cases_Bool}
use Rattle.std.specs.List.{IsDistinct}
use Rattle.std.specs.Map.{lookup, remove_entry, set_value}
use Rattle.std.proofs.Common.{OnErr, OnOk, Result, Ok, Err, ◌==◌, not, ◌&&◌, ◌||◌}
use Rattle.std.proofs.lemmas.Bool.{eqb-true}
use Rattle.ent_waiting.proofs.Endings.{ends_once, few_kept, told_beside}
use Rattle.std.specs.BTreeMap.{is_at}
use Rattle.std.specs.Ordering.{nat_cmp}
use Rattle.ent_waiting.specs.Ended.{ended_of, last_of}
use Rattle.ent_waiting.specs.Queues.{IsEmpty, MakesAt, has, same_rank, stands_in}
use Rattle.ent_waiting.specs.WaitingList.{AreQueued, IsKept, IsUsed, MayComeBack, Onward, UpdatesAt, WaitingList}
use Rattle.ent_waiting.specs.WaitingList.{is_stationed, waits_idle, waiter_of}
use Rattle.ent_waiting.specs.declared.ended.Ended.{Ended}
use Rattle.ent_waiting.specs.declared.queues.Queues.{Queues}
use Rattle.ent_waiting.specs.declared.queues.Rank.{Rank}
use Rattle.ent_waiting.specs.declared.queues.Rank.TheVariants.{Newcomer, Ordinary, Woken}
use Rattle.ent_waiting.specs.declared.queues.Station.{Station}
use Rattle.ent_waiting.specs.declared.queues.Station.TheVariants.{Batch, Queue}
use Rattle.ent_waiting.specs.Waiter.{is_idle}
use Rattle.ent_waiting.specs.declared.waiter.WaitingPlace.{WaitingPlace}
use Rattle.ent_waiting.specs.declared.waiter.WaitingPlace.TheVariants.{Chosen, Queued, Resting, Submitted}
use Rattle.ent_waiting.specs.declared.waiter.Submission.{Submission}
use Rattle.ent_waiting.specs.declared.waiter.Waiter.{Waiter}
use Rattle.std.specs.Option.{option_map}
use Rattle.std.proofs.lemmas.Grind.{common_steps}

-- nobody waits, and nobody ended
pub kept_empty : (list : WaitingList) (queues : Queues) → list.waiters ≡ [] → list.ended ≡ [] → list.first ≤ list.next
    → IsEmpty queues → IsKept list queues
unfolding IsDistinct
kept_empty list queues none_waits none_ended given empty =
    record {
      queued = λ station ticket. empty station ticket
          ∙ sym (ap (λ (ws : List (ℕ × Waiter)). is_stationed station (lookup (is_at (nat_cmp ticket)) ws)) none_waits);
      first_given = given;
      used = λ ticket waiter h.
          absurd (let e = ap (λ (ws : List (ℕ × Waiter)). lookup (is_at (nat_cmp ticket)) ws) none_waits in cc);
      ended_used = λ ticket one h. absurd (let e = ap (ended_of ticket) none_ended in cc);
      ended_gone = λ ticket one h. absurd (let e = ap (ended_of ticket) none_ended in cc);
      once = subst (λ (es : List Ended). IsDistinct nat_eq (map (λ one. one.ticket) es)) (sym none_ended) tt;
      few = subst (λ (es : List Ended). length es ≤ list.most_ended) (sym none_ended) (omega arith);
    }

cond_queued : (here : Bool) (station : Station) (value found : Option Waiter) (there : Bool) → there
    ≡ is_stationed station found
    → cond here (is_stationed station value) there ≡ is_stationed station (cond here value found)
cond_queued true station value found there e = refl
cond_queued false station value found there e = e

-- a ticket has another waiter, or none, and is in just the queues of that
pub queued_at : (old new : List (ℕ × Waiter)) (first last : Queues) (ticket : ℕ) (value : Option Waiter)
    → AreQueued old first → UpdatesAt ticket value old new → MakesAt ticket (λ station. is_stationed station value)
    first last
    → AreQueued new last
queued_at old new first last ticket value queued updates made = λ station t.
    made station t
    ∙ cond_queued (is_at (nat_cmp ticket) t) station value (lookup (is_at (nat_cmp t)) old) (has station first t)
    (queued station t)
    ∙ sym (ap (is_stationed station) (updates t))

-- ---- who stands where

pub placed : (found : Option Waiter) (place : WaitingPlace) → option_map (λ waiter. waiter.place) found ≡ Some place
    → (waiter : Waiter) × (found ≡ Some waiter) × (waiter.place ≡ place)
placed (Some waiter) place e = (waiter, refl, cc)
placed None place e = absurd cc

pub idle : (found : Option Waiter) → waits_idle found ≡ true
    → (waiter : Waiter) × (found ≡ Some waiter) × (is_idle waiter.place ≡ true)
idle (Some waiter) e = (waiter, refl, e)
idle None e = absurd cc

-- ---- a waiter changes

-- a key is at itself, and at no other
pub here : (ticket : ℕ) → is_at (nat_cmp ticket) ticket ≡ true
here ticket = grind (arith, common_steps)

pub at : (ticket t : ℕ) → is_at (nat_cmp ticket) t ≡ true → ticket ≡ t
at ticket t e = grind (arith, common_steps)

-- where one ticket has another script, what the look-up of a ticket finds was there, or is that one
pub either : (here : Bool) (value found : Option Waiter) (waiter : Waiter) → cond here value found ≡ Some waiter
    → ((here ≡ true) × (value ≡ Some waiter)) ⊎ ((here ≡ false) × (found ≡ Some waiter))
either true value found waiter e = inl (refl, e)
either false value found waiter e = inr (refl, e)

elsewhere : (here : Bool) (value found : Option Waiter) → here ≡ false → cond here value found ≡ found
elsewhere true value found e = absurd cc
elsewhere false value found e = refl

apart : (old : WaitingList) (ticket t : ℕ) (waiter : Waiter) → waiter_of old ticket ≡ Some waiter
    → waiter_of old t ≡ None
    → is_at (nat_cmp ticket) t ≡ false
apart old ticket t waiter waits gone =
    ⊎_elim (λ yes. absurd (let e = ap (waiter_of old) (at ticket t yes) in cc)) (λ no. no)
    (cases_Bool (is_at (nat_cmp ticket) t))

module _ (old : WaitingList) (waiters : List (ℕ × Waiter)) (ticket : ℕ) (before after : Waiter)
    (waits : waiter_of old ticket ≡ Some before) (updates : UpdatesAt ticket (Some after) old.waiters waiters) where
  abbrev over : WaitingList
  over = record old { waiters = waiters }

  used_over : (t : ℕ) → IsUsed old t → IsUsed over t
  used_over t h = record { given = h.given; not_earlier = h.not_earlier }

  gone_over : (t : ℕ) → waiter_of old t ≡ None → waiter_of over t ≡ None
  gone_over t gone =
      updates t
      ∙ elsewhere (is_at (nat_cmp ticket) t) (Some after) (waiter_of old t) (apart old ticket t before waits gone)
      ∙ gone

  -- who waits otherwise is kept
  pub kept_over : (first last : Queues) → IsKept old first → AreQueued waiters last → IsKept over last
  kept_over first last kept queued =
      record {
        queued = queued;
        first_given = kept.first_given;
        used = λ t waiter h.
            ⊎_elim
            (λ here. used_over t (subst (IsUsed old) (at ticket t here.0) (kept.used ticket before waits)))
            (λ there. used_over t (kept.used t waiter there.1))
            (either (is_at (nat_cmp ticket) t) (Some after) (waiter_of old t) waiter (sym (updates t) ∙ h));
        ended_used = λ t one h. used_over t (kept.ended_used t one h);
        ended_gone = λ t one h. gone_over t (kept.ended_gone t one h);
        once = kept.once;
        few = kept.few;
      }

  pub onward_over : Onward old over
  onward_over =
      record {
        used = used_over;
        gone = λ t used gone. gone_over t gone;
        told = λ t used gone. inl refl;
      }

-- ---- a waiter ends

none_of : (found : Option Ended) → ((x : Ended) → found ≡ Some x → ⊥) → found ≡ None
none_of (Some x) never = absurd (never x refl)
none_of None never = refl

module _ (old : WaitingList) (waiters : List (ℕ × Waiter)) (ticket : ℕ) (before : Waiter) (one : Ended)
    (waits : waiter_of old ticket ≡ Some before) (updates : UpdatesAt ticket None old.waiters waiters)
    (own : one.ticket ≡ ticket) where
  abbrev without : WaitingList
  without = record old { waiters = waiters; ended = last_of old.most_ended (old.ended ++ one ∷ []) }

  used_without : (t : ℕ) → IsUsed old t → IsUsed without t
  used_without t h = record { given = h.given; not_earlier = h.not_earlier }

  gone_without : (t : ℕ) → waiter_of old t ≡ None → waiter_of without t ≡ None
  gone_without t gone =
      updates t
      ∙ elsewhere (is_at (nat_cmp ticket) t) None (waiter_of old t) (apart old ticket t before waits gone)
      ∙ gone

  here_without : waiter_of without ticket ≡ None
  here_without = updates ticket ∙ ap (λ (b : Bool). cond b None (waiter_of old ticket)) (here ticket)

  beside : (t : ℕ) → waiter_of old t ≡ None → (one.ticket == t) ≡ false
  beside t gone =
      ⊎_elim
      (λ yes. absurd (let e = ap (waiter_of old) (sym own ∙ eqb-true one.ticket t yes) in cc))
      (λ no. no)
      (cases_Bool (one.ticket == t))

  module _ (first : Queues) (kept : IsKept old first) where
    none_yet : ended_of one.ticket old.ended ≡ None
    none_yet =
        none_of (ended_of one.ticket old.ended) (λ x h. absurd
        (let e = kept.ended_gone ticket x (subst (λ (t : ℕ). ended_of t old.ended ≡ Some x) own h) in cc))

    told_without : (t : ℕ) → waiter_of old t ≡ None
        → (ended_of t without.ended ≡ ended_of t old.ended) ⊎ (ended_of t without.ended ≡ None)
    told_without t gone = told_beside old.most_ended old.ended one kept.once none_yet t (beside t gone)

    pub onward_without : Onward old without
    onward_without =
        record {
          used = used_without;
          gone = λ t used gone. gone_without t gone;
          told = λ t used gone. told_without t gone;
        }

    -- who is found ended has the ticket, or ended before
    was_found : (t : ℕ) (x : Ended) → ended_of t without.ended ≡ Some x
        → (t ≡ ticket) ⊎ ((y : Ended) × (ended_of t old.ended ≡ Some y))
    was_found t x h =
        ⊎_elim
        (λ yes. inl (sym (eqb-true one.ticket t yes) ∙ own))
        (λ no. ⊎_elim (λ same. inr (x, sym same ∙ h)) (λ gone. absurd (let e = sym gone ∙ h in cc))
        (told_beside old.most_ended old.ended one kept.once none_yet t no))
        (cases_Bool (one.ticket == t))

    -- who waits no more is kept
    pub kept_without : (last : Queues) → AreQueued waiters last → IsKept without last
    kept_without last queued =
        record {
          queued = queued;
          first_given = kept.first_given;
          used = λ t waiter h.
              ⊎_elim
              (λ at_it. absurd (let e = at_it.1 in cc))
              (λ there. used_without t (kept.used t waiter there.1))
              (either (is_at (nat_cmp ticket) t) None (waiter_of old t) waiter (sym (updates t) ∙ h));
          ended_used = λ t x h.
              ⊎_elim
              (λ same. used_without t (subst (IsUsed old) (sym same) (kept.used ticket before waits)))
              (λ was. used_without t (kept.ended_used t was.0 was.1))
              (was_found t x h);
          ended_gone = λ t x h.
              ⊎_elim
              (λ same. subst (λ (k : ℕ). waiter_of without k ≡ None) (sym same) here_without)
              (λ was. gone_without t (kept.ended_gone t was.0 was.1))
              (was_found t x h);
          once = ends_once old.most_ended old.ended one kept.once none_yet;
          few = few_kept old.most_ended old.ended one kept.once none_yet;
        }

-- ---- one change behind another

again : (here : Bool) (value other found : Option Waiter) → cond here other (cond here value found)
    ≡ cond here other found
again true value other found = refl
again false value other found = refl

pub updates_twice : (first middle last : List (ℕ × Waiter)) (ticket : ℕ) (value other : Option Waiter)
    → UpdatesAt ticket value first middle → UpdatesAt ticket other middle last → UpdatesAt ticket other first last
updates_twice first middle last ticket value other one two = λ t.
    two t ∙ ap (cond (is_at (nat_cmp ticket) t) other) (one t)
    ∙ again (is_at (nat_cmp ticket) t) value other (lookup (is_at (nat_cmp t)) first)

remove_first : {K X : Type 0} (test : K → Bool) (e : K × X) (es : List (K × X)) (w : X) → test e.0 ≡ true
    → remove_entry test (set_value test (e ∷ es) w) ≡ remove_entry test (e ∷ es)
remove_first {K = K} {X = X} test e es w holds =
    ap (λ (b : Bool). remove_entry test (cond b ((e.0, w) ∷ es) (e ∷ set_value test es w))) holds
    ∙ ap (λ (b : Bool). cond b es ((e.0, w) ∷ remove_entry test es)) holds
    ∙ sym (ap (λ (b : Bool). cond b es (e ∷ remove_entry test es)) holds)

remove_behind : {K X : Type 0} (test : K → Bool) (e : K × X) (es : List (K × X)) (w : X) → test e.0 ≡ false
    → remove_entry test (set_value test es w) ≡ remove_entry test es
    → remove_entry test (set_value test (e ∷ es) w) ≡ remove_entry test (e ∷ es)
remove_behind {K = K} {X = X} test e es w fails behind =
    ap (λ (b : Bool). remove_entry test (cond b ((e.0, w) ∷ es) (e ∷ set_value test es w))) fails
    ∙ ap (λ (b : Bool). cond b (set_value test es w) (e ∷ remove_entry test (set_value test es w))) fails
    ∙ ap (λ (l : List (K × X)). e ∷ l) behind
    ∙ sym (ap (λ (b : Bool). cond b es (e ∷ remove_entry test es)) fails)

pub remove_set : {K X : Type 0} (test : K → Bool) (es : List (K × X)) (w : X)
    → remove_entry test (set_value test es w) ≡ remove_entry test es
remove_set test [] w = refl
remove_set test (e ∷ es) w =
    ⊎_elim
    (λ yes. remove_first test e es w yes)
    (λ no. remove_behind test e es w no (remove_set test es w))
    (cases_Bool (test e.0))

-- the same queues, where the place is in the same ones
same_queued : (here : Bool) (station : Station) (before after : Waiter) (found : Option Waiter)
    → (here ≡ true → found ≡ Some before) → stands_in station after.place ≡ stands_in station before.place
    → is_stationed station found ≡ is_stationed station (cond here (Some after) found)
same_queued true station before after found e same = ap (is_stationed station) (e refl) ∙ sym same
same_queued false station before after found e same = refl

pub queued_over : (old new : List (ℕ × Waiter)) (queues : Queues) (ticket : ℕ) (before after : Waiter)
    → lookup (is_at (nat_cmp ticket)) old ≡ Some before → UpdatesAt ticket (Some after) old new
    → ((station : Station) → stands_in station after.place ≡ stands_in station before.place) → AreQueued old queues
    → AreQueued new queues
queued_over old new queues ticket before after waits updates same queued = λ station t.
    queued station t
    ∙ same_queued (is_at (nat_cmp ticket) t) station before after (lookup (is_at (nat_cmp t)) old)
    (λ yes. subst (λ (k : ℕ). lookup (is_at (nat_cmp k)) old ≡ Some before) (at ticket t yes) waits) (same station)
    ∙ sym (ap (is_stationed station) (updates t))

pub errs : {T E P : Type 0} (r : Result T E) → P → OnErr r P
errs (Ok x) p = tt
errs (Err e) p = p

pub oks : {T E P : Type 0} (r : Result T E) → P → OnOk r P
oks (Ok x) p = p
oks (Err e) p = tt

-- ---- queues that are left

and_not : (b : Bool) → (not b && b) ≡ false
and_not true = refl
and_not false = refl

-- who leaves the queue of its place is in none
pub in_none : (first last : Queues) (ticket : ℕ) (place : WaitingPlace)
    → ((station : Station) → has station first ticket ≡ stands_in station place)
    → MakesAt ticket (λ station. not (stands_in station place) && has station first ticket) first last
    → MakesAt ticket (λ station. false) first last
in_none first last ticket place there made = λ station t.
    made station t
    ∙ ap (λ (b : Bool). cond (is_at (nat_cmp ticket) t) b (has station first t))
    (ap (λ (b : Bool). not (stands_in station place) && b) (there station) ∙ and_not (stands_in station place))

-- ---- tickets that nobody had

nobody_under : (found : Option Waiter) → ((waiter : Waiter) → found ≡ Some waiter → ⊥) → found ≡ None
nobody_under (Some waiter) never = absurd (never waiter refl)
nobody_under None never = refl

pub unused_absent : (list : WaitingList) (queues : Queues) (ticket : ℕ) → IsKept list queues → ¬ IsUsed list ticket
    → waiter_of list ticket ≡ None
unused_absent list queues ticket kept unused =
    nobody_under (waiter_of list ticket) (λ waiter waits. unused (kept.used ticket waiter waits))

next_unused : (list : WaitingList) → ¬ IsUsed list list.next
next_unused list used = let given = used.given in omega (arith, given)

pub next_absent : (list : WaitingList) (queues : Queues) → IsKept list queues → waiter_of list list.next ≡ None
next_absent list queues kept = unused_absent list queues list.next kept (next_unused list)

-- ---- from the batch back into a queue

pub like_chosen : (station : Station) (submission : Submission)
    → stands_in station (Submitted submission) ≡ stands_in station Chosen
like_chosen (Queue rank) submission = refl
like_chosen Batch submission = refl

or_false : (b : Bool) → (b || false) ≡ b
or_false true = refl
or_false false = refl

twice : (here : Bool) (x y z : Bool) → cond here x (cond here y z) ≡ cond here x z
twice true x y z = refl
twice false x y z = refl

-- ---- stations that differ

same_rank_is : (one other : Rank) → same_rank one other ≡ true → one ≡ other
same_rank_is Ordinary Ordinary e = refl
same_rank_is Ordinary Newcomer e = absurd cc
same_rank_is Ordinary Woken e = absurd cc
same_rank_is Newcomer Ordinary e = absurd cc
same_rank_is Newcomer Newcomer e = refl
same_rank_is Newcomer Woken e = absurd cc
same_rank_is Woken Ordinary e = absurd cc
same_rank_is Woken Newcomer e = absurd cc
same_rank_is Woken Woken e = refl

pub are_apart : (station : Station) (from to : WaitingPlace) → (from ≡ to → ⊥) → (is_idle from || is_idle to) ≡ true
    → stands_in station from ≡ true → stands_in station to ≡ true → ⊥
are_apart (Queue rank) (Queued own) (Queued other) differ idle one two =
    differ (ap (λ (r : Rank). Queued r) (same_rank_is own rank one ∙ sym (same_rank_is other rank two)))
are_apart (Queue rank) Resting to differ idle one two = absurd cc
are_apart (Queue rank) Chosen to differ idle one two = absurd cc
are_apart (Queue rank) (Submitted s) to differ idle one two = absurd cc
are_apart (Queue rank) (Queued own) Resting differ idle one two = absurd cc
are_apart (Queue rank) (Queued own) Chosen differ idle one two = absurd cc
are_apart (Queue rank) (Queued own) (Submitted s) differ idle one two = absurd cc
are_apart Batch Resting to differ idle one two = absurd cc
are_apart Batch (Queued own) to differ idle one two = absurd cc
are_apart Batch Chosen Resting differ idle one two = absurd cc
are_apart Batch Chosen (Queued own) differ idle one two = absurd cc
are_apart Batch Chosen Chosen differ idle one two = absurd cc
are_apart Batch Chosen (Submitted s) differ idle one two = absurd cc
are_apart Batch (Submitted s) Resting differ idle one two = absurd cc
are_apart Batch (Submitted s) (Queued own) differ idle one two = absurd cc
are_apart Batch (Submitted s) Chosen differ idle one two = absurd cc
are_apart Batch (Submitted s) (Submitted t) differ idle one two = absurd cc

pub are_same : (station : Station) (from to : WaitingPlace) → is_idle from ≡ false → is_idle to ≡ false
    → stands_in station from ≡ stands_in station to
are_same station Resting to one two = absurd cc
are_same station (Queued own) to one two = absurd cc
are_same station Chosen Resting one two = absurd cc
are_same station Chosen (Queued own) one two = absurd cc
are_same station (Submitted s) Resting one two = absurd cc
are_same station (Submitted s) (Queued own) one two = absurd cc
are_same station Chosen Chosen one two = refl
are_same (Queue rank) Chosen (Submitted s) one two = refl
are_same Batch Chosen (Submitted s) one two = refl
are_same (Queue rank) (Submitted s) Chosen one two = refl
are_same Batch (Submitted s) Chosen one two = refl
are_same (Queue rank) (Submitted s) (Submitted t) one two = refl
are_same Batch (Submitted s) (Submitted t) one two = refl

shifted : (from to : Bool) → (from ≡ true → to ≡ true → ⊥) → (not from && (to || from)) ≡ to
shifted true true never = absurd (never refl refl)
shifted true false never = refl
shifted false to never = or_false to

pub shifts : (first middle last : Queues) (ticket : ℕ) (from to : WaitingPlace)
    → ((station : Station) → stands_in station from ≡ true → stands_in station to ≡ true → ⊥)
    → ((station : Station) → has station first ticket ≡ stands_in station from)
    → MakesAt ticket (λ station. stands_in station to || has station first ticket) first middle
    → MakesAt ticket (λ station. not (stands_in station from) && has station middle ticket) middle last
    → MakesAt ticket (λ station. stands_in station to) first last
shifts first middle last ticket from to never were one two = λ station t.
    let before = stands_in station from in
    let after = stands_in station to in
    let b = is_at (nat_cmp ticket) t in
    let there : has station middle ticket ≡ (after || before) =
    one station ticket
    ∙ ap (λ (c : Bool). cond c (after || has station first ticket) (has station first ticket)) (here ticket)
    ∙ ap (λ (c : Bool). after || c) (were station) in
    two station t
    ∙ ap (λ (c : Bool). cond b (not before && has station middle ticket) c) (one station t)
    ∙ twice b (not before && has station middle ticket) (after || has station first ticket) (has station first t)
    ∙ ap (λ (c : Bool). cond b c (has station first t))
    (ap (λ (c : Bool). not before && c) there ∙ shifted before after (never station))

-- where a ticket stays at its station, so it does
stays_at : (b : Bool) (station : Station) (value : Bool) (queues : Queues) (ticket t : ℕ) → is_at (nat_cmp ticket) t ≡ b
    → has station queues ticket ≡ value → has station queues t ≡ cond b value (has station queues t)
stays_at true station value queues ticket t e is = ap (has station queues) (sym (at ticket t e)) ∙ is
stays_at false station value queues ticket t e is = refl

pub stays : (queues : Queues) (ticket : ℕ) (from to : WaitingPlace)
    → ((station : Station) → stands_in station from ≡ stands_in station to)
    → ((station : Station) → has station queues ticket ≡ stands_in station from)
    → MakesAt ticket (λ station. stands_in station to) queues queues
stays queues ticket from to same were = λ station t.
    stays_at (is_at (nat_cmp ticket) t) station (stands_in station to) queues ticket t refl
    (were station ∙ same station)

pub queue_again : (first middle last : Queues) (ticket : ℕ) (rank : Rank)
    → ((station : Station) → has station first ticket ≡ stands_in station Chosen)
    → MakesAt ticket (λ station. stands_in station (Queued rank) || has station first ticket) first middle
    → MakesAt ticket (λ station. not (stands_in station Chosen) && has station middle ticket) middle last
    → MakesAt ticket (λ station. stands_in station (Queued rank)) first last
queue_again first middle last ticket rank =
    shifts first middle last ticket Chosen (Queued rank)
    (λ station. are_apart station Chosen (Queued rank) (λ e. absurd cc) refl)

-- ---- a script of an earlier process comes in again

module _ (old : WaitingList) (waiters : List (ℕ × Waiter)) (ticket : ℕ) (after : Waiter)
    (updates : UpdatesAt ticket (Some after) old.waiters waiters) (may : MayComeBack old ticket) (first : Queues)
    (kept : IsKept old first) where
  abbrev restored : WaitingList
  restored = record old { earlier = ticket + 1; waiters = waiters }

  used_restored : (t : ℕ) → IsUsed old t → IsUsed restored t
  used_restored t h =
      record {
        given = h.given;
        not_earlier = λ e. let low = may.from in h.not_earlier (omega (arith, e, low));
      }

  own_used : IsUsed restored ticket
  own_used =
      record {
        given = let below = may.below in let more = kept.first_given in omega (arith, below, more);
        not_earlier = λ e. absurd (omega (arith, e));
      }

  own_unused : IsUsed old ticket → ⊥
  own_unused h = let high = h.not_earlier may.from in let below = may.below in omega (arith, high, below)

  gone_restored : (t : ℕ) (one : Ended) → ended_of t old.ended ≡ Some one → waiter_of restored t ≡ None
  gone_restored t one h =
      ⊎_elim
      (λ yes. absurd (own_unused (subst (IsUsed old) (sym (at ticket t yes)) (kept.ended_used t one h))))
      (λ no. updates t ∙ elsewhere (is_at (nat_cmp ticket) t) (Some after) (waiter_of old t) no
      ∙ kept.ended_gone t one h)
      (cases_Bool (is_at (nat_cmp ticket) t))

  pub kept_restored : (last : Queues) → AreQueued waiters last → IsKept restored last
  kept_restored last queued =
      record {
        queued = queued;
        first_given = kept.first_given;
        used = λ t waiter h.
            ⊎_elim
            (λ here. subst (IsUsed restored) (at ticket t here.0) own_used)
            (λ there. used_restored t (kept.used t waiter there.1))
            (either (is_at (nat_cmp ticket) t) (Some after) (waiter_of old t) waiter (sym (updates t) ∙ h));
        ended_used = λ t one h. used_restored t (kept.ended_used t one h);
        ended_gone = λ t one h. gone_restored t one h;
        once = kept.once;
        few = kept.few;
      }
