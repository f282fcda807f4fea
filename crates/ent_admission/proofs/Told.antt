-- What the groups tell, whatever happens within an epoch.
use Rattle.std.proofs.Common.{◌≡◌, ◌∙◌, ◌+◌, ◌≤◌, ◌++◌, ◌∷◌, [], ℕ, zero, suc, List, Some, None}
use Rattle.std.proofs.Common.{length, take, map, refl, sym, ap, subst, arith, ⊎_elim}
use Rattle.std.proofs.Common.{append_assoc, append-nil, length-append}
use Rattle.std.proofs.lemmas.List.{take-append-le, take_all}
use Rattle.std.proofs.Math.Seq.{take-append_seam}
use Rattle.std.specs.Prelude.{unwrap_or}
use Rattle.ent_tree.specs.declared.declaration.Opening.{Opening}
use Rattle.ent_tree.specs.declared.script.Script.{Script}
use Rattle.ent_semantics.specs.Book.{IsLegal}
use Rattle.ent_semantics.specs.Database.{opening_database}
use Rattle.ent_semantics.specs.Serial.{Runs as SerialRuns, Turn, numbered, scripts_run}
use Rattle.ent_semantics.specs.declared.book.Entry.{Entry}
use Rattle.ent_form.specs.OpeningFault.{opening_fault}
use Rattle.ent_form.specs.declared.fault.FormFault.{FormFault}
use Rattle.ent_epoch.specs.Passed.{resolved_forms}
use Rattle.ent_protocol_laws.specs.Commits.{GoesOnBy, committed_by}
use Rattle.ent_epoch.specs.Telling.{HaveTickets, Telling, TellsRest, telling_at}
use Rattle.ent_protocol.specs.Event.{Event, Recall, Recalled, Reply, StartRun, Submit, Submitted}
use Rattle.ent_protocol.specs.Reached.{IsReached, LeadsTo, book_of, named_tables, opened, settled, table_names}
use Rattle.ent_protocol.specs.State.{State}
use Rattle.ent_protocol.specs.Step.{Step}
use Rattle.ent_protocol_laws.specs.Standing.{GoesOn}
use Rattle.ent_epoch.specs.Epoch.{Epoch, Publishes, Takes, begun, for_one_run}
use Rattle.ent_epoch.specs.OneRun.{MakesRun}
use Rattle.ent_epoch.proofs.Told.{groups_both}
use Rattle.ent_feed.specs.Feed.{Feed}
use Rattle.ent_feed.specs.Group.{AreNumbered, after_groups}
use Rattle.ent_feed.specs.Telling.{AreTold, all_commits, commits_of, settled_database}
use Rattle.ent_feed.specs.declared.group.Commit.{Commit}
use Rattle.ent_feed.specs.declared.group.Group.{Group}
use Rattle.ent_feed.proofs.Numbers.{numbered_joined}
use Rattle.ent_feed.proofs.Told.{commits-append}
use Rattle.ent_waiting.specs.declared.waiter.Submission.{Submission}
use Rattle.ent_admission.specs.Acts.{Acts, Asks, Happens, Plans, Shifts, Turns}
use Rattle.ent_admission.specs.Admission.{Admission}
use Rattle.ent_admission.specs.Groups.{HasTold, told_database, told_journal}
use Rattle.ent_admission.specs.Moves.{Chain, Chooses, Enters, Moves, Runs, Settles, Tells, TellsCommits, TellsEndings}
use Rattle.ent_admission.specs.Moves.{endings_group}
use Rattle.ent_admission.proofs.Numbers.{numbered_kept}

-- the laws of lower crates
pub record Laws : Type 0 where
  pub goes_on : (s : State) (event : Event) (reply : Reply FormFault) (new : State)
      → Step resolved_forms s event reply new → GoesOn s new
  pub grows : (s : State) (event : Event) (reply : Reply FormFault) (new : State)
      → Step resolved_forms s event reply new → GoesOnBy s new (committed_by reply)
  pub legal : (s : State) → opening_fault s.opening ≡ None → IsReached resolved_forms s → IsLegal (book_of s)
  pub tables : (tickets : List ℕ) (first last : State) (groups : List Group) → AreTold tickets first groups last
      → after_groups groups (settled_database first) ≡ settled_database last
  pub journal : (tickets : List ℕ) (first last : State) (groups : List Group) → AreTold tickets first groups last
      → (entries : List Entry) × (last.journal ≡ first.journal ++ entries)
      × (all_commits groups ≡ commits_of tickets (suc (length first.journal)) entries)

-- ---- a core goes on

-- over the same opening the journal goes on
record WentOn (s new : State) : Type 0 where
  opening : new.opening ≡ s.opening
  added : List Entry
  journal : new.journal ≡ s.journal ++ added

went_on_on : (first between last : State) → WentOn first between → WentOn between last → WentOn first last
went_on_on first between last one two =
    record {
      opening = two.opening ∙ one.opening;
      added = one.added ++ two.added;
      journal = two.journal ∙ ap (λ (j : List Entry). j ++ two.added) one.journal
          ∙ append_assoc first.journal one.added two.added;
    }

module _ (laws : Laws) where
  by_event : (s : State) (event : Event) (reply : Reply FormFault) (new : State) → Step resolved_forms s event reply new
      → WentOn s new
  by_event s event reply new step =
      let grows = laws.grows s event reply new step in
      record {
        opening = (laws.goes_on s event reply new step).opening;
        added = grows.added;
        journal = grows.journal;
      }

  by_events : (n : ℕ) (s new : State) → LeadsTo resolved_forms n s new → WentOn s new
  by_events zero s new same =
      record {
        opening = ap (λ (t : State). t.opening) same;
        added = [];
        journal = ap (λ (t : State). t.journal) same ∙ sym (append-nil s.journal);
      }
  by_events (suc n) s new (between, event, reply, before, step) =
      went_on_on s between new (by_events n s between before) (by_event between event reply new step)

  by_run : (s new : State) → MakesRun s new → WentOn s new
  by_run s new made =
      let starts = made.starts in
      let ends = made.ends in
      went_on_on s made.started new
      (went_on_on s starts.recalled made.started (by_event s Recall Recalled starts.recalled starts.recalls)
      (by_event starts.recalled StartRun starts.reply made.started starts.starts))
      (by_events ends.count made.started new ends.leads_on.leads)

  made_on : (old new : Admission) → Runs old new → WentOn old.epoch.core new.epoch.core
  made_on old new runs =
      ⊎_elim
      (λ (made : MakesRun old.epoch.core new.epoch.core). by_run old.epoch.core new.epoch.core made)
      (λ leads. by_events leads.0 old.epoch.core new.epoch.core leads.1.leads)
      runs.made

-- ---- commits

groups_joined : (some more : List Group) → all_commits (some ++ more) ≡ all_commits some ++ all_commits more
groups_joined [] more = refl
groups_joined (group ∷ some) more =
    ap (λ (commits : List Commit). group.commits ++ commits) (groups_joined some more)
    ∙ sym (append_assoc group.commits (all_commits some) (all_commits more))

-- who has a ticket keeps it
tickets_kept : (tickets : List ℕ) (ticket : ℕ) (entries : List Entry) → HaveTickets tickets entries
    → HaveTickets (tickets ++ ticket ∷ []) entries
tickets_kept tickets ticket [] have = tt
tickets_kept tickets ticket (entry ∷ more) have =
    ((have.0.0, numbered_kept tickets ticket entry.tx have.0.0 have.0.1), tickets_kept tickets ticket more have.1)

same_commits : (tickets : List ℕ) (ticket number : ℕ) (entries : List Entry) → HaveTickets tickets entries
    → commits_of (tickets ++ ticket ∷ []) number entries ≡ commits_of tickets number entries
same_commits tickets ticket number [] have = refl
same_commits tickets ticket number (entry ∷ more) have =
    let own = numbered_kept tickets ticket entry.tx have.0.0 have.0.1 ∙ sym have.0.1 in
    let rest = same_commits tickets ticket (suc number) more have.1 in
    λ i. record { ticket = unwrap_or (own i) 0; number = number; answers = entry.answers } ∷ rest i

-- ---- what is told so far

-- these groups came since a feed stood so, and tell of the epoch what is told
record TellsOf (start : Feed) (epoch : Epoch) (feed : Feed) : Type 0 where
  few : epoch.telling.entries ≤ length epoch.core.journal
  tickets : HaveTickets epoch.tickets (told_journal epoch)
  groups : List Group
  numbered_on : AreNumbered start.next groups feed.next
  settled_first : List Group
  kept : settled_first ++ feed.groups ≡ start.groups ++ groups
  tables : after_groups groups (opening_database epoch.core.opening) ≡ told_database epoch
  commits : all_commits groups ≡ commits_of epoch.tickets 1 (told_journal epoch)

module _ (laws : Laws) (start : Feed) where
  -- ---- at first

  no_turn : (turns : List Turn) → map (λ turn. turn.tx) turns ≡ [] → turns ≡ []
  no_turn [] e = refl
  no_turn (turn ∷ more) e = absurd cc

  same_database : (one other : SerialRuns) → Some one ≡ Some other → one.database ≡ other.database
  same_database one other e = cc

  first_tables : (opening : Opening) → opening_fault opening ≡ None
      → opening_database opening ≡ named_tables (table_names opening) (settled (opened opening))
  first_tables opening formed =
      let legal = laws.legal (opened opening) formed (zero, refl) in
      let none = no_turn legal.turns legal.runs.in_order in
      same_database _ _
      ((λ i. scripts_run opening.tables (sym none i) (opening_database opening))
      ∙ legal.runs.run)

  at_first : (number : ℕ) (opening : Opening) → opening_fault opening ≡ None
      → TellsOf start (begun number opening) start
  at_first number opening formed =
      record {
        few = omega arith;
        tickets = tt;
        groups = [];
        numbered_on = refl;
        settled_first = [];
        kept = sym (append-nil start.groups);
        tables = first_tables opening formed;
        commits = refl;
      }

  -- ---- nothing is told, and nothing commits

  still : (old new : Epoch) (before after : Feed) → new ≡ old → after ≡ before → TellsOf start old before
      → TellsOf start new after
  still old new before after same feed told =
      subst (λ (e : Epoch). TellsOf start e after) (sym same)
      (subst (λ (f : Feed). TellsOf start old f) (sym feed) told)

  asked : (old new : Admission) → Asks old new → TellsOf start old.epoch old.feed → TellsOf start new.epoch new.feed
  asked old new asks told =
      subst (λ (e : Epoch). TellsOf start e new.feed) (sym asks.epoch)
      (record {
        few = told.few;
        tickets = told.tickets;
        groups = told.groups;
        numbered_on = subst (λ (n : ℕ). AreNumbered start.next told.groups n) (sym asks.next) told.numbered_on;
        settled_first = told.settled_first ++ asks.settled;
        kept = append_assoc told.settled_first asks.settled new.feed.groups
            ∙ ap (λ (gs : List Group). told.settled_first ++ gs) asks.kept ∙ told.kept;
        tables = told.tables;
        commits = told.commits;
      })

  -- a script comes in
  module _ (old new : Epoch) (feed : Feed) (ticket : ℕ) (script : Script) (submission : Submission)
      (takes : Takes old ticket script submission new) (told : TellsOf start old feed) where
    came : WentOn old.core new.core
    came = by_event laws old.core (Submit (for_one_run script)) (Submitted submission.tx) new.core takes.step

    telling : new.telling ≡ old.telling
    telling = takes.telling

    same_told : told_journal new ≡ told_journal old
    same_told =
        (λ i. take (telling i).entries (came.journal i))
        ∙ take-append-le old.telling.entries old.core.journal came.added told.few

    taken : TellsOf start new feed
    taken =
        let longer = ap length came.journal in
        let grown = length-append old.core.journal came.added in
        let before = told.few in
        record {
          few = subst (λ (t : Telling). t.entries ≤ length new.core.journal) (sym telling)
              (omega (arith, longer, grown, before));
          tickets = subst (λ (ts : List ℕ). HaveTickets ts (told_journal new)) (sym takes.tickets)
              (subst (λ (j : List Entry). HaveTickets (old.tickets ++ ticket ∷ []) j) (sym same_told)
              (tickets_kept old.tickets ticket (told_journal old) told.tickets));
          groups = told.groups;
          numbered_on = told.numbered_on;
          settled_first = told.settled_first;
          kept = told.kept;
          tables = ap (λ (o : Opening). after_groups told.groups (opening_database o)) came.opening ∙ told.tables
              ∙ (λ i. named_tables (table_names (sym came.opening i)) (sym telling i).tables);
          commits = told.commits
              ∙ sym (same_commits old.tickets ticket 1 (told_journal old) told.tickets)
              ∙ (λ i. commits_of (sym takes.tickets i) 1 (sym same_told i));
        }

  -- a run is made
  ran : (old new : Admission) → Runs old new → TellsOf start old.epoch old.feed → TellsOf start new.epoch new.feed
  ran old new runs told =
      let on = made_on laws old new runs in
      let core = old.epoch.core in
      let after = new.epoch.core in
      let entries : new.epoch.telling.entries ≡ old.epoch.telling.entries =
      ap (λ (t : Telling). t.entries) runs.telling in
      let rows : new.epoch.telling.tables ≡ old.epoch.telling.tables = ap (λ (t : Telling). t.tables) runs.telling in
      let tickets : new.epoch.tickets ≡ old.epoch.tickets = ap (λ (e : Epoch). e.tickets) runs.epoch in
      let longer = ap length on.journal in
      let grown = length-append core.journal on.added in
      let before = told.few in
      let same : told_journal new.epoch ≡ told_journal old.epoch =
      (λ i. take (entries i) (on.journal i)) ∙ take-append-le old.epoch.telling.entries core.journal on.added
      told.few in
      subst (λ (f : Feed). TellsOf start new.epoch f) (sym runs.feed)
      (record {
        few = subst (λ (n : ℕ). n ≤ length after.journal) (sym entries) (omega (arith, longer, grown, before));
        tickets = subst (λ (ts : List ℕ). HaveTickets ts (told_journal new.epoch)) (sym tickets)
            (subst (λ (j : List Entry). HaveTickets old.epoch.tickets j) (sym same) told.tickets);
        groups = told.groups;
        numbered_on = told.numbered_on;
        settled_first = told.settled_first;
        kept = told.kept;
        tables = ap (λ (o : Opening). after_groups told.groups (opening_database o)) on.opening ∙ told.tables
            ∙ (λ i. named_tables (table_names (sym on.opening i)) (sym rows i));
        commits = told.commits ∙ (λ i. commits_of (sym tickets i) 1 (sym same i));
      })

  -- ---- what committed is told

  same_opening : (tickets : List ℕ) (first last : State) (groups : List Group) → AreTold tickets first groups last
      → last.opening ≡ first.opening
  same_opening tickets first last [] same = ap (λ (s : State). s.opening) same
  same_opening tickets first last (group ∷ more) told =
      same_opening tickets told.0 last more told.2 ∙ told.1.opening

  module _ (old new : Epoch) (before after : Feed) (published : Publishes old before after new)
      (told : TellsOf start old before) where
    rest : TellsRest old.tickets old.telling old.core published.groups
    rest = published.told

    since : (entries : List Entry) × (rest.behind.journal ≡ rest.first.journal ++ entries)
        × (all_commits published.groups ≡ commits_of old.tickets (suc (length rest.first.journal)) entries)
    since = laws.journal old.tickets rest.first rest.behind published.groups rest.told

    whole : old.core.journal ≡ rest.first.journal ++ since.0
    whole = rest.journal ∙ since.1

    told_first : told_journal old ≡ rest.first.journal
    told_first =
        (λ i. take (rest.told_to.entries i) (whole i)) ∙ take-append_seam rest.first.journal since.0

    opening : old.core.opening ≡ rest.first.opening
    opening = rest.opening ∙ same_opening old.tickets rest.first rest.behind published.groups rest.told

    abbrev present : Epoch
    present = record old { telling = telling_at old.core }

    tables_on : after_groups (told.groups ++ published.groups) (opening_database old.core.opening)
        ≡ told_database present
    tables_on =
        groups_both told.groups published.groups (opening_database old.core.opening)
        ∙ ap (after_groups published.groups) (told.tables
        ∙ (λ i. named_tables (table_names (opening i)) (rest.told_to.tables i)))
        ∙ laws.tables old.tickets rest.first rest.behind published.groups rest.told
        ∙ (λ i. named_tables (table_names (sym rest.opening i)) (sym rest.tables i))

    all_of_it : told_journal present ≡ old.core.journal
    all_of_it = take_all (length old.core.journal) old.core.journal (omega arith)

    next : suc (length rest.first.journal) ≡ 1 + length rest.first.journal
    next = omega arith

    commits_on : all_commits (told.groups ++ published.groups) ≡ commits_of old.tickets 1 (told_journal present)
    commits_on =
        groups_joined told.groups published.groups
        ∙ (λ i. told.commits i ++ since.2 i)
        ∙ (λ i. commits_of old.tickets 1 (told_first i)
        ++ commits_of old.tickets (suc (length rest.first.journal)) since.0)
        ∙ ap (λ (n : ℕ). commits_of old.tickets 1 rest.first.journal ++ commits_of old.tickets n since.0) next
        ∙ sym (commits-append old.tickets 1 rest.first.journal since.0)
        ∙ ap (commits_of old.tickets 1) (sym whole)
        ∙ ap (commits_of old.tickets 1) (sym all_of_it)

    kept_on : told.settled_first ++ after.groups ≡ start.groups ++ (told.groups ++ published.groups)
    kept_on =
        ap (λ (f : Feed). told.settled_first ++ f.groups) published.feed
        ∙ sym (append_assoc told.settled_first before.groups published.groups)
        ∙ ap (λ (gs : List Group). gs ++ published.groups) told.kept
        ∙ append_assoc start.groups told.groups published.groups

    published_on : TellsOf start new after
    published_on =
        subst (λ (e : Epoch). TellsOf start e after) (sym published.all_told)
        (record {
          few = omega arith;
          tickets = subst (λ (j : List Entry). HaveTickets old.tickets j) (sym all_of_it) rest.owned;
          groups = told.groups ++ published.groups;
          numbered_on = numbered_joined start.next before.next after.next told.groups published.groups told.numbered_on
              published.numbered;
          settled_first = told.settled_first;
          kept = kept_on;
          tables = tables_on;
          commits = commits_on;
        })

  -- ---- who ended otherwise is told

  endings_on : (old new : Admission) → TellsEndings old new → TellsOf start old.epoch old.feed
      → TellsOf start new.epoch new.feed
  endings_on old new tells told =
      let group : Group = endings_group old.feed.next old.epoch.number old.news in
      let next : suc old.feed.next ≡ new.feed.next = omega (arith, tells.next) in
      let epoch : new.epoch ≡ old.epoch = ap (λ (a : Admission). a.epoch) tells.is in
      subst (λ (e : Epoch). TellsOf start e new.feed) (sym epoch)
      (record {
        few = told.few;
        tickets = told.tickets;
        groups = told.groups ++ group ∷ [];
        numbered_on = numbered_joined start.next old.feed.next new.feed.next told.groups (group ∷ []) told.numbered_on
            (refl, next);
        settled_first = told.settled_first;
        kept = ap (λ (gs : List Group). told.settled_first ++ gs) tells.groups
            ∙ sym (append_assoc told.settled_first old.feed.groups (group ∷ []))
            ∙ ap (λ (gs : List Group). gs ++ group ∷ []) told.kept
            ∙ append_assoc start.groups told.groups (group ∷ []);
        tables = groups_both told.groups (group ∷ []) (opening_database old.epoch.core.opening) ∙ told.tables;
        commits = groups_joined told.groups (group ∷ []) ∙ append-nil (all_commits told.groups) ∙ told.commits;
      })

  -- ---- whatever happens

  moved_on : (old new : Admission) → Moves old new → TellsOf start old.epoch old.feed → TellsOf start new.epoch new.feed
  moved_on old new move told =
      ⊎_elim
      (λ (chooses : Chooses old new). still old.epoch new.epoch old.feed new.feed chooses.epoch chooses.feed told)
      (λ others. ⊎_elim
      (λ (enters : Enters old new). subst (λ (f : Feed). TellsOf start new.epoch f) (sym enters.feed)
      (taken old.epoch new.epoch old.feed enters.ticket enters.waiter.script enters.submission enters.takes told))
      (λ over. ⊎_elim
      (λ (runs : Runs old new). ran old new runs told)
      (λ last. ⊎_elim
      (λ (settles : Settles old new). still old.epoch new.epoch old.feed new.feed settles.epoch settles.feed told)
      (λ (tells : Tells old new). ⊎_elim
      (λ (commits : TellsCommits old new). published_on old.epoch new.epoch old.feed new.feed commits.publishes told)
      (λ (endings : TellsEndings old new). endings_on old new endings told)
      tells)
      last)
      over)
      others)
      move

-- ---- epochs are counted on

grown : (old new : Admission) → new.epoch ≡ old.epoch → old.epoch.number ≤ new.epoch.number
grown old new same =
    let e : new.epoch.number ≡ old.epoch.number = ap (λ (epoch : Epoch). epoch.number) same in
    omega (arith, e)

move_grown : (old new : Admission) → Moves old new → old.epoch.number ≤ new.epoch.number
move_grown old new move =
    ⊎_elim
    (λ (chooses : Chooses old new). grown old new chooses.epoch)
    (λ others. ⊎_elim
    (λ (enters : Enters old new). let e = enters.takes.number in omega (arith, e))
    (λ over. ⊎_elim
    (λ (runs : Runs old new).
    let e : new.epoch.number ≡ old.epoch.number = ap (λ (epoch : Epoch). epoch.number) runs.epoch in omega (arith, e))
    (λ last. ⊎_elim
    (λ (settles : Settles old new). grown old new settles.epoch)
    (λ (tells : Tells old new). ⊎_elim
    (λ (commits : TellsCommits old new).
    let e : new.epoch.number ≡ old.epoch.number = ap (λ (epoch : Epoch). epoch.number) commits.publishes.all_told in
    omega (arith, e))
    (λ (endings : TellsEndings old new). grown old new (ap (λ (a : Admission). a.epoch) endings.is))
    tells)
    last)
    over)
    others)
    move

turned : (old new : Admission) → Turns old new → new.epoch.number ≡ old.epoch.number + 1
turned old new turns = ap (λ (epoch : Epoch). epoch.number) turns.begins

happens_grown : (old new : Admission) → Happens old new → old.epoch.number ≤ new.epoch.number
happens_grown old new happens =
    ⊎_elim
    (λ (acts : Acts old new). ⊎_elim
    (λ (plans : Plans old new). grown old new (ap (λ (a : Admission). a.epoch) plans.is))
    (λ others. ⊎_elim
    (λ (shifts : Shifts old new). grown old new (ap (λ (a : Admission). a.epoch) shifts.is))
    (λ over. ⊎_elim
    (λ (turns : Turns old new). let e = turned old new turns in omega (arith, e))
    (λ (moves : Moves old new). move_grown old new moves)
    over)
    others)
    acts)
    (λ (asks : Asks old new). grown old new asks.epoch)
    happens

chain_grown : (count : ℕ) (first last : Admission) → Chain Happens count first last
    → first.epoch.number ≤ last.epoch.number
chain_grown zero first last same = grown first last (ap (λ (a : Admission). a.epoch) same)
chain_grown (suc count) first last chain =
    let one = chain_grown count first chain.0 chain.1 in
    let two = happens_grown chain.0 last chain.2 in
    omega (arith, one, two)

module _ (laws : Laws) where
  happened : (start : Feed) (old new : Admission) → Happens old new → new.epoch.number ≡ old.epoch.number
      → TellsOf start old.epoch old.feed → TellsOf start new.epoch new.feed
  happened start old new happens within told =
      ⊎_elim
      (λ (acts : Acts old new). ⊎_elim
      (λ (plans : Plans old new). still laws start old.epoch new.epoch old.feed new.feed
      (ap (λ (a : Admission). a.epoch) plans.is) (ap (λ (a : Admission). a.feed) plans.is) told)
      (λ others. ⊎_elim
      (λ (shifts : Shifts old new). still laws start old.epoch new.epoch old.feed new.feed
      (ap (λ (a : Admission). a.epoch) shifts.is) (ap (λ (a : Admission). a.feed) shifts.is) told)
      (λ over. ⊎_elim
      (λ (turns : Turns old new). let e = turned old new turns in absurd (omega (arith, e, within)))
      (λ (moves : Moves old new). moved_on laws start old new moves told)
      over)
      others)
      acts)
      (λ (asks : Asks old new). asked laws start old new asks told)
      happens

  goes_through : (count : ℕ) (first last : Admission) → Chain Happens count first last
      → last.epoch.number ≡ first.epoch.number → TellsOf first.feed first.epoch first.feed
      → TellsOf first.feed last.epoch last.feed
  goes_through zero first last same within told =
      still laws first.feed first.epoch last.epoch first.feed last.feed (ap (λ (a : Admission). a.epoch) same)
      (ap (λ (a : Admission). a.feed) same) told
  goes_through (suc count) first last chain within told =
      let one = chain_grown count first chain.0 chain.1 in
      let two = happens_grown chain.0 last chain.2 in
      happened first.feed chain.0 last chain.2 (omega (arith, one, two, within))
      (goes_through count first chain.0 chain.1 (omega (arith, one, two, within)) told)

  pub tells_what_committed : (count : ℕ) (first last : Admission) → opening_fault first.epoch.core.opening ≡ None
      → first.epoch ≡ begun first.epoch.number first.epoch.core.opening → Chain Happens count first last
      → last.epoch.number ≡ first.epoch.number → HasTold first last
  tells_what_committed count first last formed begins chain within =
      let at_first_told : TellsOf first.feed first.epoch first.feed =
      subst (λ (e : Epoch). TellsOf first.feed e first.feed) (sym begins)
      (at_first laws first.feed first.epoch.number first.epoch.core.opening formed) in
      let told = goes_through count first last chain within at_first_told in
      record {
        groups = told.groups;
        numbered = told.numbered_on;
        settled = told.settled_first;
        kept = told.kept;
        tables = told.tables;
        commits = told.commits;
      }
