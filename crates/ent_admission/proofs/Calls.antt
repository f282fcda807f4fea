-- What an admission keeps through each kind of call.
use Rattle.std.proofs.Common.{◌≡◌, ◌∙◌, ◌<◌, ◌≤◌, ◌+◌, ◌++◌, ◌∷◌, [], append-nil, ℕ, suc, Bool, true, false, cond, List}
use Rattle.std.proofs.Common.{Option, Some, None, length}
use Rattle.std.proofs.Common.{refl, sym, ap, subst, arith, IsSome, Ok, nat_lt, ⊎_elim, if◌then◌else◌}
use Rattle.std.proofs.lemmas.Bool.{cases_Bool}
use Rattle.std.proofs.lemmas.Grind.{common_steps}
use Rattle.std.specs.BTreeMap.{is_at}
use Rattle.std.specs.BTreeSet.{BTreeSet, Updates, contains}
use Rattle.std.specs.List.{cons_option}
use Rattle.std.specs.Ordering.{nat_cmp}
use Rattle.ent_meetings.specs.Waiting.{ChangesAt, Waiting, named, party_at}
use Rattle.ent_meetings.specs.declared.party.Party.{Party}
use Rattle.ent_meetings.specs.Party.{party_of}
use Rattle.ent_epoch.specs.Telling.{Telling}
use Rattle.ent_feed.specs.Feed.{Feed}
use Rattle.ent_feed.specs.declared.group.EndedTicket.{EndedTicket}
use Rattle.ent_protocol.specs.State.{State}
use Rattle.ent_semantics.specs.Serial.{numbered}
use Rattle.ent_tree.specs.declared.declaration.Opening.{Opening}
use Rattle.ent_tree.specs.declared.script.Script.{Script}
use Rattle.ent_epoch.specs.Epoch.{AddsOne, Epoch, Takes, for_one_run}
use Rattle.ent_waiting.specs.Waiter.{back_in, is_idle, is_over, newcomer, with_batch}
use Rattle.ent_waiting.specs.WaitingList.{StandsAt, UpdatesAt, WaitingList, back_or_gone, changed, is_stationed, moved}
use Rattle.ent_waiting.specs.WaitingList.{moved_with, waiter_of, waits_idle}
use Rattle.ent_waiting.specs.declared.queues.Rank.{Rank}
use Rattle.ent_waiting.specs.declared.waiter.Patience.{Patience}
use Rattle.ent_waiting.specs.declared.waiter.WaitingPlace.{WaitingPlace}
use Rattle.ent_waiting.specs.declared.waiter.WaitingPlace.TheVariants.{Chosen, Queued, Resting, Submitted}
use Rattle.ent_waiting.specs.declared.waiter.Submission.{Submission}
use Rattle.ent_waiting.specs.declared.waiter.Waiter.{Waiter}
use Rattle.ent_admission.specs.Admission.{Admission, HasRoomFor, IsFormed, IsIndexed, IsKept, fresh, is_before}
use Rattle.ent_admission.specs.Admission.{parties_of, party_of_ticket}
use Rattle.ent_admission.specs.Admission.{is_chosen, waits_before}
use Rattle.ent_admission.proofs.Keeping.{Changed, indexed_at, indexed_same, kept_changed, party_in}
use Rattle.ent_admission.specs.Admission.{IsAtRest, IsBatch, waits_chosen}
use Rattle.ent_admission.specs.Moves.{WaitsAgain, ended_with, news_of, submission_at, submission_in}
use Rattle.ent_waiting.specs.declared.ended.Ending.TheVariants.{GaveUp}
use Rattle.ent_admission.specs.Again.{counts_for}
use Rattle.ent_admission.specs.declared.batch.Again.{Again}
use Rattle.ent_admission.proofs.Numbers.{all_keys, numbered_kept, numbered_last}
use Rattle.ent_form.specs.Catalogue.{schemas_of}
use Rattle.ent_form.specs.Form.{script_in}
use Rattle.ent_form.specs.declared.script.Plain.{Plain}
use Rattle.ent_tree.specs.declared.declaration.Create.{Create}
use Rattle.ent_tree.specs.declared.limits.TheConstants.{MOST_SCRIPTS}
use Rattle.ent_waiting.specs.Queues.{stands_in}
use Rattle.ent_waiting.specs.declared.queues.Station.TheVariants.{Batch}
use Rattle.ent_waiting.proofs.Keeping.{idle, at, here}

pub still : (found : Option Waiter) (ticket : ℕ) (place : WaitingPlace) (list : WaitingList) → waits_idle found ≡ false
    → moved_with found ticket place list ≡ list
still None ticket place list e = refl
still (Some waiter) ticket place list e =
    ap (λ (b : Bool). if b then changed ticket (record waiter { place = place }) list else list) e

no_submission : (place : WaitingPlace) (submission : Submission) → is_before place ≡ true
    → place ≡ Submitted submission → ⊥
no_submission place submission before is = absurd (let e = sym before ∙ ap is_before is in cc)

-- somebody who is in no batch comes to another place, which is in the batch only for who is to come
module _ (a : Admission) (index : Waiting) (kept : IsKept a index) (list : WaitingList) (ticket : ℕ)
    (place : WaitingPlace) (before : is_before place ≡ true) (is : list ≡ moved ticket place a.list)
    (updates : (waiter : Waiter) → waiter_of a.list ticket ≡ Some waiter → is_idle waiter.place ≡ true
    → UpdatesAt ticket (Some (record waiter { place = place })) a.list.waiters list.waiters)
    (comes : is_chosen place ≡ true → contains nat_cmp a.coming ticket ≡ true) where
  abbrev after : Admission
  after = record a { list = list }

  moves : (waiter : Waiter) → waiter_of a.list ticket ≡ Some waiter → is_idle waiter.place ≡ true → IsKept after index
  moves waiter waits free =
      let value : Waiter = record waiter { place = place } in
      let c : Changed a after ticket (Some value) = record {
        opening = refl;
        updates = updates waiter waits free;
        formed = λ w e. let same : w.script ≡ waiter.script = cc in
            subst (λ (s : Script). IsFormed a.epoch.core.opening s) (sym same) (kept.formed ticket waiter waits);
        number = refl;
        tickets = λ tx t e. e;
        linked = λ w s e p. let same : w.place ≡ place = cc in absurd (no_submission place s before (sym same ∙ p));
        fewer = λ t h. h;
        same = λ t no h. h;
        before = λ h. before;
        chosen = comes;
        room = kept.room;
      } in
      kept_changed a after ticket (Some value) c index kept index
      (indexed_same a after ticket (Some value) c index kept waiter value refl waits refl)

  pub kept_moved : IsKept after index
  kept_moved =
      ⊎_elim
      (λ yes. let w = idle (waiter_of a.list ticket) yes in moves w.0 w.1 w.2)
      (λ no. let same : list ≡ a.list = is ∙ still (waiter_of a.list ticket) ticket place a.list no in
      subst (λ (l : WaitingList). IsKept (record a { list = l }) index) (sym same) kept)
      (cases_Bool (waits_idle (waiter_of a.list ticket)))

-- a script comes to wait
module _ (a : Admission) (index : Waiting) (kept : IsKept a index) (list : WaitingList) (ticket : ℕ) (script : Script)
    (patience : Patience) (batches : ℕ) (rank : Rank) (formed : IsFormed a.epoch.core.opening script)
    (absent : waiter_of a.list ticket ≡ None)
    (updates : UpdatesAt ticket (Some (newcomer script patience batches rank)) a.list.waiters list.waiters) where
  abbrev with_it : Admission
  with_it = record a { list = list }

  none_comes : contains nat_cmp a.coming ticket ≡ true → ⊥
  none_comes h = absurd (let e = kept.before ticket h in let none = absent in cc)

  pub kept_put : (changed : Waiting) → ChangesAt ticket (Some (party_of script)) index changed → IsKept with_it changed
  kept_put changed changes =
      let value : Waiter = newcomer script patience batches rank in
      let c : Changed a with_it ticket (Some value) = record {
        opening = refl;
        updates = updates;
        formed = λ w e. let same : w.script ≡ script = cc in
            subst (λ (s : Script). IsFormed a.epoch.core.opening s) (sym same) formed;
        number = refl;
        tickets = λ tx t e. e;
        linked = λ w s e p. let same : w.place ≡ Queued rank = cc in absurd (let q = sym same ∙ p in cc);
        fewer = λ t h. h;
        same = λ t no h. h;
        before = λ h. absurd (none_comes h);
        chosen = λ h. absurd (let e : false ≡ true = h in cc);
        room = kept.room;
      } in
      kept_changed a with_it ticket (Some value) c index kept changed
      (indexed_at a with_it ticket (Some value) c index kept changed changes)

-- a script ends, or waits again, that isn't to come
module _ (a : Admission) (index : Waiting) (kept : IsKept a index) (list : WaitingList) (ticket : ℕ) (waiter : Waiter)
    (waits : waiter_of a.list ticket ≡ Some waiter) (none : contains nat_cmp a.coming ticket ≡ false) where
  abbrev left : Admission
  left = record a { list = list }

  never : contains nat_cmp a.coming ticket ≡ true → ⊥
  never h = absurd (let e = sym none ∙ h in cc)

  ended : UpdatesAt ticket None a.list.waiters list.waiters → Changed a left ticket None
  ended updates =
      record {
        opening = refl;
        updates = updates;
        formed = λ w e. absurd cc;
        number = refl;
        tickets = λ tx t e. e;
        linked = λ w s e p. absurd (let q : None ≡ Some w = e in cc);
        fewer = λ t h. h;
        same = λ t no h. h;
        before = λ h. absurd (never h);
        chosen = λ h. absurd (let e : false ≡ true = h in cc);
        room = kept.room;
      }

  pub kept_ended : (changed : Waiting) → UpdatesAt ticket None a.list.waiters list.waiters
      → ChangesAt ticket None index changed → IsKept left changed
  kept_ended changed updates changes =
      let c = ended updates in
      kept_changed a left ticket None c index kept changed (indexed_at a left ticket None c index kept changed changes)

  pub kept_back : (rank : Rank) (counts alone : Bool)
      → UpdatesAt ticket (Some (back_in rank counts alone waiter)) a.list.waiters list.waiters → IsKept left index
  kept_back rank counts alone updates =
      let value : Waiter = back_in rank counts alone waiter in
      let c : Changed a left ticket (Some value) = record {
        opening = refl;
        updates = updates;
        formed = λ w e. let same : w.script ≡ waiter.script = cc in
            subst (λ (s : Script). IsFormed a.epoch.core.opening s) (sym same) (kept.formed ticket waiter waits);
        number = refl;
        tickets = λ tx t e. e;
        linked = λ w s e p. let same : w.place ≡ Queued rank = cc in absurd (let q = sym same ∙ p in cc);
        fewer = λ t h. h;
        same = λ t no h. h;
        before = λ h. absurd (never h);
        chosen = λ h. absurd (let e : false ≡ true = h in cc);
        room = kept.room;
      } in
      kept_changed a left ticket (Some value) c index kept index
      (indexed_same a left ticket (Some value) c index kept waiter value refl waits refl)

  found_there : (value : Option Waiter) → UpdatesAt ticket value a.list.waiters list.waiters
      → waiter_of list ticket ≡ value
  found_there value updates =
      updates ticket ∙ ap (λ (b : Bool). cond b value (waiter_of a.list ticket)) (here ticket)

  again_by : (over : Bool) (rank : Rank) (counts alone : Bool) (changed : Waiting)
      → UpdatesAt ticket (if over then None else Some (back_in rank counts alone waiter)) a.list.waiters list.waiters
      → (waiter_of list ticket ≡ None → ChangesAt ticket None index changed)
      → ((own : Waiter) → waiter_of list ticket ≡ Some own → changed ≡ index) → IsKept left changed
  again_by true rank counts alone changed updates gone stays =
      kept_ended changed updates (gone (found_there None updates))
  again_by false rank counts alone changed updates gone stays =
      let own = back_in rank counts alone waiter in
      subst (λ (i : Waiting). IsKept left i) (sym (stays own (found_there (Some own) updates)))
      (kept_back rank counts alone updates)

  pub kept_again : (rank : Rank) (counts alone : Bool) (changed : Waiting)
      → UpdatesAt ticket (back_or_gone rank counts alone waiter) a.list.waiters list.waiters
      → (waiter_of list ticket ≡ None → ChangesAt ticket None index changed)
      → ((own : Waiter) → waiter_of list ticket ≡ Some own → changed ≡ index) → IsKept left changed
  kept_again rank counts alone =
      again_by (is_over waiter.patience (with_batch counts waiter.batches)) rank counts alone

-- who is chosen is submitted
module _ (a : Admission) (index : Waiting) (kept : IsKept a index) (new : Admission) (ticket : ℕ) (waiter : Waiter)
    (submission : Submission) (waits : waiter_of a.list ticket ≡ Some waiter)
    (comes : contains nat_cmp a.coming ticket ≡ true)
    (takes : Takes a.epoch ticket waiter.script submission new.epoch) (adds : AddsOne a.epoch.core new.epoch.core)
    (next : submission.tx ≡ length a.epoch.tickets + 1)
    (updates : UpdatesAt ticket (Some (record waiter { place = Submitted submission })) a.list.waiters new.list.waiters)
    (gone : Updates nat_cmp a.coming new.coming ticket false)
    (fewer : length new.coming.keys + 1 ≡ length a.coming.keys) where
  -- of others the batch is as it was
  rest : (b : Bool) (t : ℕ) → is_at (nat_cmp ticket) t ≡ b
      → cond b false (contains nat_cmp a.coming t) ≡ true → contains nat_cmp a.coming t ≡ true
  rest true t e h = absurd cc
  rest false t e h = h

  were : (t : ℕ) → contains nat_cmp new.coming t ≡ true → contains nat_cmp a.coming t ≡ true
  were t h = rest (is_at (nat_cmp ticket) t) t refl (sym (gone.0 t) ∙ h)

  room_left : HasRoomFor new.epoch (length new.coming.keys)
  room_left =
      let old = kept.room ticket comes in
      let members = old.members in
      let scripts = old.scripts in
      let more = adds.dormant in
      let many = adds.submitted in
      record {
        no_run = adds.running ∙ old.no_run;
        members = omega (arith, members, more, fewer);
        scripts = omega (arith, scripts, many, fewer);
      }

  pub kept_submitted : IsKept new index
  kept_submitted =
      let value : Waiter = record waiter { place = Submitted submission } in
      let number : submission.tx ≡ suc (length a.epoch.tickets) = omega (arith, next) in
      let c : Changed a new ticket (Some value) = record {
        opening = adds.opening;
        updates = updates;
        formed = λ w e. let same : w.script ≡ waiter.script = cc in
            subst (λ (s : Script). IsFormed a.epoch.core.opening s) (sym same) (kept.formed ticket waiter waits);
        number = takes.number;
        tickets = λ tx t e.
            subst (λ (ts : List ℕ). numbered ts tx ≡ Some t) (sym takes.tickets)
            (numbered_kept a.epoch.tickets ticket tx t e);
        linked = λ w s e p. let same : s ≡ submission = let q : Some value ≡ Some w = e in cc in
            subst (λ (x : Submission). (x.epoch ≡ new.epoch.number) × (numbered new.epoch.tickets x.tx ≡ Some ticket))
            (sym same) (
              takes.epoch ∙ sym takes.number,
              subst (λ (ts : List ℕ). numbered ts submission.tx ≡ Some ticket) (sym takes.tickets)
                  (numbered_last a.epoch.tickets ticket submission.tx number),
            );
        fewer = were;
        same = λ t no h. gone.2 t no ∙ h;
        before = λ h. absurd (let e = sym gone.1 ∙ h in cc);
        chosen = λ h. absurd (let e : false ≡ true = h in cc);
        room = λ t h. room_left;
      } in
      kept_changed a new ticket (Some value) c index kept index
      (indexed_same a new ticket (Some value) c index kept waiter value refl waits refl)

-- what is told, and who is to be told, is no part of it
pub kept_news : (a : Admission) (index : Waiting) (news : List EndedTicket) → IsKept a index
    → IsKept (record a { news = news }) index
kept_news a index news kept =
    record {
      formed = kept.formed;
      indexed = kept.indexed;
      linked = kept.linked;
      before = kept.before;
      chosen = kept.chosen;
      room = kept.room;
    }

pub kept_told : (a : Admission) (index : Waiting) (telling : Telling) (feed : Feed) (news : List EndedTicket)
    → IsKept a index
    → IsKept (record a { epoch = record a.epoch { telling = telling }; feed = feed; news = news }) index
kept_told a index telling feed news kept =
    record {
      formed = kept.formed;
      indexed = kept.indexed;
      linked = kept.linked;
      before = kept.before;
      chosen = kept.chosen;
      room = λ t h. let old = kept.room t h in
          record { no_run = old.no_run; members = old.members; scripts = old.scripts };
    }

-- a run is made
pub kept_run : (a : Admission) (index : Waiting) (core : State) (telling : Telling) → IsKept a index
    → core.opening ≡ a.epoch.core.opening → ((t : ℕ) → contains nat_cmp a.coming t ≡ false)
    → IsKept (record a { epoch = record a.epoch { core = core; telling = telling } }) index
kept_run a index core telling kept same none =
    record {
      formed = λ t waiter h.
          subst (λ (o : Opening). IsFormed o waiter.script) (sym same) (kept.formed t waiter h);
      indexed = kept.indexed;
      linked = kept.linked;
      before = kept.before;
      chosen = kept.chosen;
      room = λ t h. absurd (let e = sym (none t) ∙ h in cc);
    }

-- nobody waits yet
pub kept_fresh : (number : ℕ) (opening : Opening) (next next_group most_waiters most_ended : ℕ)
    → IsKept (fresh number opening next next_group most_waiters most_ended) []
kept_fresh number opening next next_group most_waiters most_ended =
    record {
      formed = λ t waiter h. absurd cc;
      indexed = λ t. refl;
      linked = λ t waiter submission h place. absurd (let e : None ≡ Some waiter = h in cc);
      before = λ t h. absurd (let e : false ≡ true = h in cc);
      chosen = λ t h. absurd (let e : false ≡ true = h in cc);
      room = λ t h. absurd (let e : false ≡ true = h in cc);
    }

-- ---- who is ready

before_busy : (place : WaitingPlace) → is_before place ≡ true → is_idle place ≡ false → place ≡ Chosen
before_busy Chosen before busy = refl
before_busy Resting before busy = absurd cc
before_busy (Queued rank) before busy = absurd cc
before_busy (Submitted s) before busy = absurd cc

waits_some : (found : Option Waiter) → waits_before found ≡ true
    → (waiter : Waiter) × (found ≡ Some waiter) × (is_before waiter.place ≡ true)
waits_some (Some waiter) e = (waiter, refl, e)
waits_some None e = absurd cc

module _ (a : Admission) (index : Waiting) (kept : IsKept a index) (list : WaitingList) (ticket : ℕ)
    (comes : contains nat_cmp a.coming ticket ≡ true) (is : list ≡ moved ticket Chosen a.list)
    (updates : (waiter : Waiter) → waiter_of a.list ticket ≡ Some waiter → is_idle waiter.place ≡ true
    → UpdatesAt ticket (Some (record waiter { place = Chosen })) a.list.waiters list.waiters) where
  ready : (waiter : Waiter) → waiter_of a.list ticket ≡ Some waiter → is_before waiter.place ≡ true
      → StandsAt list ticket Chosen
  ready waiter waits before =
      ⊎_elim
      (λ yes. record {
        waiter = record waiter { place = Chosen };
        waits = updates waiter waits yes ticket
            ∙ ap (λ (b : Bool). cond b (Some (record waiter { place = Chosen })) (waiter_of a.list ticket))
            (here ticket);
        place_is = refl;
      })
      (λ no. let same : list ≡ a.list =
      is ∙ still (waiter_of a.list ticket) ticket Chosen a.list (ap waits_idle waits ∙ no) in
      record {
        waiter = waiter;
        waits = ap (λ (l : WaitingList). waiter_of l ticket) same ∙ waits;
        place_is = before_busy waiter.place before no;
      })
      (cases_Bool (is_idle waiter.place))

  pub stands_ready : StandsAt list ticket Chosen
  stands_ready =
      let w = waits_some (waiter_of a.list ticket) (kept.before ticket comes) in
      ready w.0 w.1 w.2

-- ---- who comes, and goes again

none_left : (b : Bool) (found known : Option Party) (value : Option Party) → cond b None (cond b value known)
    ≡ cond b None known
none_left true found known value = refl
none_left false found known value = refl

absent_at : (b : Bool) (index : Waiting) (ticket t : ℕ) → is_at (nat_cmp ticket) t ≡ b → party_at index ticket ≡ None
    → cond b None (party_at index t) ≡ party_at index t
absent_at true index ticket t e none = sym none ∙ ap (party_at index) (at ticket t e)
absent_at false index ticket t e none = refl

pub kept_unput : (a : Admission) (first between last : Waiting) (ticket : ℕ) (party : Party) → IsKept a first
    → waiter_of a.list ticket ≡ None → ChangesAt ticket (Some party) first between → ChangesAt ticket None between last
    → IsKept a last
kept_unput a first between last ticket party kept absent one two =
    let nobody : party_at first ticket ≡ None = kept.indexed ticket ∙ ap party_in absent in
    record {
      formed = kept.formed;
      indexed = λ t.
          two t ∙ ap (cond (is_at (nat_cmp ticket) t) None) (one t)
          ∙ none_left (is_at (nat_cmp ticket) t) None (party_at first t) (Some party)
          ∙ absent_at (is_at (nat_cmp ticket) t) first ticket t refl nobody ∙ kept.indexed t;
      linked = kept.linked;
      before = kept.before;
      chosen = kept.chosen;
      room = kept.room;
    }

-- ---- who is in the batch

chosen_or : (a : Admission) (index : Waiting) → IsKept a index → ((t : ℕ) → contains nat_cmp a.coming t ≡ false)
    → (ticket : ℕ) (waiter : Waiter) (place : WaitingPlace) → waiter_of a.list ticket ≡ Some waiter
    → waiter.place ≡ place → stands_in Batch place ≡ true
    → (submission : Submission) × StandsAt a.list ticket (Submitted submission)
chosen_or a index kept none ticket waiter Resting waits is batch = absurd cc
chosen_or a index kept none ticket waiter (Queued rank) waits is batch = absurd cc
chosen_or a index kept none ticket waiter Chosen waits is batch =
    absurd (let h = kept.chosen ticket (ap waits_chosen waits ∙ ap is_chosen is) in let e = sym (none ticket) ∙ h in cc)
chosen_or a index kept none ticket waiter (Submitted submission) waits is batch =
    (submission, record { waiter = waiter; waits = waits; place_is = is })

by_found : (a : Admission) (index : Waiting) → IsKept a index → ((t : ℕ) → contains nat_cmp a.coming t ≡ false)
    → (ticket : ℕ) (found : Option Waiter) → waiter_of a.list ticket ≡ found → is_stationed Batch found ≡ true
    → (submission : Submission) × StandsAt a.list ticket (Submitted submission)
by_found a index kept none ticket None is batch = absurd cc
by_found a index kept none ticket (Some waiter) is batch =
    chosen_or a index kept none ticket waiter waiter.place is refl batch

pub batch_submitted : (a : Admission) (index : Waiting) → IsKept a index
    → ((t : ℕ) → contains nat_cmp a.coming t ≡ false)
    → (ticket : ℕ) → is_stationed Batch (waiter_of a.list ticket) ≡ true
    → (submission : Submission) × StandsAt a.list ticket (Submitted submission)
batch_submitted a index kept none ticket batch = by_found a index kept none ticket (waiter_of a.list ticket) refl batch

pub submission_of : (list : WaitingList) (ticket : ℕ) (submission : Submission)
    → StandsAt list ticket (Submitted submission) → submission_at (waiter_of list ticket) ≡ Some submission
submission_of list ticket submission stands = ap submission_at stands.waits ∙ ap submission_in stands.place_is

-- who waits again isn't in the batch
back_by : (over : Bool) (rank : Rank) (counts alone : Bool) (waiter : Waiter)
    → is_stationed Batch (if over then None else Some (back_in rank counts alone waiter)) ≡ false
back_by true rank counts alone waiter = refl
back_by false rank counts alone waiter = refl

pub back_settled : (again : Again) (old new : WaitingList) (ticket : ℕ) (waiter : Waiter)
    → WaitsAgain again ticket waiter old new → is_stationed Batch (waiter_of new ticket) ≡ false
back_settled again old new ticket waiter waits =
    ap (is_stationed Batch)
    (waits.updates ticket
    ∙ ap (λ (b : Bool). cond b (back_or_gone again.rank (counts_for again ticket) false waiter) (waiter_of old ticket))
    (here ticket))
    ∙ back_by (is_over waiter.patience (with_batch (counts_for again ticket) waiter.batches)) again.rank (counts_for again ticket)
    false waiter

pub back_others : (again : Again) (old new : WaitingList) (ticket : ℕ) (waiter : Waiter)
    → WaitsAgain again ticket waiter old new → (other : ℕ) → is_at (nat_cmp ticket) other ≡ false
    → waiter_of new other ≡ waiter_of old other
back_others again old new ticket waiter waits other apart =
    waits.updates other
    ∙ ap (λ (b : Bool). cond b (back_or_gone again.rank (counts_for again ticket) false waiter) (waiter_of old other)) apart

-- who waited again or gave up is to be told where it gave up
news_by : (over : Bool) (ticket : ℕ) (again : Again) (waiter : Waiter) (found : Option Waiter)
    (older newer : List EndedTicket)
    → found ≡ (if over then None else Some (back_in again.rank (counts_for again ticket) false waiter))
    → (found ≡ None → newer ≡ older ++ news_of ticket (Some GaveUp))
    → ((own : Waiter) → found ≡ Some own → newer ≡ older)
    → newer ≡ older ++ news_of ticket (if over then Some GaveUp else None)
news_by true ticket again waiter found older newer is gone stays = gone is
news_by false ticket again waiter found older newer is gone stays = stays _ is ∙ sym (append-nil older)

pub news_again : (old new : WaitingList) (ticket : ℕ) (again : Again) (waiter : Waiter) (older newer : List EndedTicket)
    → UpdatesAt ticket (back_or_gone again.rank (counts_for again ticket) false waiter) old.waiters new.waiters
    → (waiter_of new ticket ≡ None → newer ≡ older ++ news_of ticket (Some GaveUp))
    → ((own : Waiter) → waiter_of new ticket ≡ Some own → newer ≡ older)
    → newer ≡ older ++ news_of ticket (ended_with None again ticket waiter)
news_again old new ticket again waiter older newer updates gone stays =
    let value = back_or_gone again.rank (counts_for again ticket) false waiter in
    news_by (is_over waiter.patience (with_batch (counts_for again ticket) waiter.batches)) ticket again waiter
    (waiter_of new ticket)
    older newer (updates ticket ∙ ap (λ (b : Bool). cond b value (waiter_of old ticket)) (here ticket)) gone stays

-- ---- a batch is made up

idle_before : (found : Option Waiter) → waits_idle found ≡ true → waits_before found ≡ true
idle_before None e = absurd cc
idle_before (Some waiter) e = by waiter.place e
  where
    by : (place : WaitingPlace) → is_idle place ≡ true → is_before place ≡ true
    by Resting e = refl
    by (Queued rank) e = refl
    by Chosen e = refl
    by (Submitted s) e = absurd cc

chosen_busy : (found : Option Waiter) → waits_chosen found ≡ true → is_stationed Batch found ≡ true
chosen_busy None e = absurd cc
chosen_busy (Some waiter) e = by waiter.place e
  where
    by : (place : WaitingPlace) → is_chosen place ≡ true → stands_in Batch place ≡ true
    by Chosen e = refl
    by Resting e = absurd cc
    by (Queued rank) e = absurd cc
    by (Submitted s) e = absurd cc

pub kept_planned : (a : Admission) (index : Waiting) (set : BTreeSet ℕ) → IsKept a index → IsAtRest a
    → IsBatch a set.keys
    → length a.epoch.core.submitted + length set.keys ≤ MOST_SCRIPTS → (again : Again)
    → IsKept (record a { coming = set; again = again }) index
kept_planned a index set kept rest batch room again =
    record {
      formed = kept.formed;
      indexed = kept.indexed;
      linked = kept.linked;
      before = λ t h.
          idle_before (waiter_of a.list t) (all_keys (λ (k : ℕ). waits_idle (waiter_of a.list k) ≡ true) set t
          batch.waits h);
      chosen = λ t h.
          absurd (let e = sym (rest.over.idle t) ∙ chosen_busy (waiter_of a.list t) h in cc);
      room = λ t h.
          let none : length a.epoch.core.dormant ≡ 0 = ap length rest.over.closes.1 in
          let few = batch.few in
          record { no_run = rest.over.closes.0; members = omega (arith, none, few); scripts = room };
    }

-- ---- an epoch turns

pub kept_turned : (a : Admission) (index : Waiting) (epoch : Epoch) → IsKept a index → IsAtRest a
    → epoch.core.opening.tables ≡ a.epoch.core.opening.tables → IsKept (record a { epoch = epoch }) index
kept_turned a index epoch kept rest same =
    record {
      formed = λ t waiter h.
          subst (λ (ts : List Create). (plain : Plain) × (script_in (schemas_of ts) (for_one_run waiter.script)
          ≡ Ok plain))
          (sym same) (kept.formed t waiter h);
      indexed = kept.indexed;
      linked = λ t waiter submission h place.
          absurd
          (let e = sym (rest.over.idle t) ∙ ap (is_stationed Batch) h ∙ ap (stands_in Batch) place in cc);
      before = λ t h. absurd (let e = sym (rest.over.coming t) ∙ h in cc);
      chosen = λ t h. absurd (let e = sym (rest.over.idle t) ∙ chosen_busy (waiter_of a.list t) h in cc);
      room = λ t h. absurd (let e = sym (rest.over.coming t) ∙ h in cc);
    }

pub is_some_by : (found : Option Waiter) (own : Waiter) → found ≡ Some own → IsSome found
is_some_by (Some waiter) own e = refl
is_some_by None own e = absurd cc

-- ---- a batch is gone over by tickets

apart_at : (ticket other : ℕ) → is_at (nat_cmp ticket) other ≡ false → ticket ≡ other → ⊥
apart_at ticket other apart same =
    absurd (let e = sym (here ticket) ∙ ap (λ (k : ℕ). is_at (nat_cmp ticket) k) same ∙ apart in cc)

module _ (old new : WaitingList) (from ticket : ℕ)
    (settled : (t : ℕ) → t < from → is_stationed Batch (waiter_of old t) ≡ false)
    (least : (other : ℕ) → is_stationed Batch (waiter_of old other) ≡ true → from ≤ other → ticket ≤ other)
    (others : (other : ℕ) → is_at (nat_cmp ticket) other ≡ false → waiter_of new other ≡ waiter_of old other) where
  not_yet : (t : ℕ) → t < ticket → (below : Bool) → nat_lt t from ≡ below → (there : Bool)
      → is_stationed Batch (waiter_of old t) ≡ there → is_stationed Batch (waiter_of old t) ≡ false
  not_yet t low true is there stands = settled t (grind (arith, common_steps))
  not_yet t low false is false stands = stands
  not_yet t low false is true stands =
      let high : from ≤ t = grind (arith, common_steps) in
      let beyond = least t stands high in
      absurd (omega (arith, low, beyond))

  differs : (t : ℕ) → t < ticket → (b : Bool) → is_at (nat_cmp ticket) t ≡ b → is_at (nat_cmp ticket) t ≡ false
  differs t low false e = e
  differs t low true e = let same = at ticket t e in absurd (omega (arith, low, same))

  pub settled_on : (t : ℕ) → t < ticket → is_stationed Batch (waiter_of new t) ≡ false
  settled_on t low =
      ap (is_stationed Batch) (others t (differs t low (is_at (nat_cmp ticket) t) refl))
      ∙ not_yet t low (nat_lt t from) refl (is_stationed Batch (waiter_of old t)) refl

-- ---- an index names those who wait

pub named_is : (index : Waiting) (list : WaitingList) → IsIndexed index list → (tickets : List ℕ)
    → named index tickets ≡ parties_of list tickets
named_is index list indexed [] = refl
named_is index list indexed (t ∷ ts) =
    ap (λ (o : Option Party). cons_option o (named index ts)) (indexed t)
    ∙ ap (cons_option (party_of_ticket list t)) (named_is index list indexed ts)
