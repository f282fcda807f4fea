-- Groups that tell of an epoch.
use Rattle.std.proofs.Common.{◌≡◌, ◌+◌, ℕ, zero, suc, List, [], ◌∷◌, ◌++◌, Some, length, take, refl, sym, ap, subst}
use Rattle.std.proofs.Common.{◌∙◌, arith, append_assoc, append-nil, length-append}
use Rattle.std.specs.Prelude.{unwrap_or}
use Rattle.std.proofs.Math.Seq.{take-append_seam}
use Rattle.std.proofs.lemmas.List.{take-append-le}
use Rattle.std.proofs.lemmas.Grind.{flat_map-append}
use Rattle.ent_tree.specs.declared.declaration.Opening.{Opening}
use Rattle.ent_tree.specs.declared.script.Script.{Script}
use Rattle.ent_form.specs.declared.fault.FormFault.{FormFault}
use Rattle.ent_sched.specs.Passed.{resolved_forms}
use Rattle.ent_semantics.specs.Database.{Database}
use Rattle.ent_semantics.specs.Form.{Tables}
use Rattle.ent_semantics.specs.Serial.{numbered}
use Rattle.ent_semantics.specs.declared.book.Entry.{Entry}
use Rattle.ent_protocol_laws.specs.Commits.{GoesOnBy, committed_by}
use Rattle.ent_protocol.specs.Event.{Event, Recall, Recalled, Reply, StartRun}
use Rattle.ent_protocol.specs.Reached.{LeadsTo, named_tables, opened, settled, table_names}
use Rattle.ent_protocol.specs.State.{State}
use Rattle.ent_protocol.specs.Step.{Step}
use Rattle.ent_feed.specs.declared.group.Commit.{Commit}
use Rattle.ent_feed.specs.declared.group.Group.{Group}
use Rattle.ent_feed.specs.Feed.{Feed}
use Rattle.ent_feed.specs.Group.{after_changes, after_groups}
use Rattle.ent_feed.specs.Telling.{AreTold, all_commits, commits_of, settled_database}
use Rattle.ent_feed.proofs.Told.{commits-append}
use Rattle.ent_epoch.specs.Telling.{HaveTickets, TellsRest, telling_at}
use Rattle.ent_waiting.specs.declared.waiter.Submission.{Submission}
use Rattle.ent_epoch.specs.Epoch.{Epoch, Publishes, Takes}
use Rattle.ent_epoch.specs.OneRun.{MakesRun}
use Rattle.ent_epoch.specs.Told.{AreToldOf, GoesOnUntold}

-- ---- entries come behind others

abbrev pub Behind : State → State → Type 0
Behind s new = (added : List Entry) × (new.journal ≡ s.journal ++ added)

then_behind : (s middle new : State) → Behind s middle → Behind middle new → Behind s new
then_behind s middle new first second = (
  first.0 ++ second.0,
  second.1 ∙ ap (λ (journal : List Entry). journal ++ second.0) first.1 ∙ append_assoc s.journal first.0 second.0,
)

module _
    (grows : (s : State) (event : Event) (reply : Reply FormFault) (new : State)
    → Step resolved_forms s event reply new → GoesOnBy s new (committed_by reply)) where
  pub one_behind : (s : State) (event : Event) (reply : Reply FormFault) (new : State)
      → Step resolved_forms s event reply new → Behind s new
  one_behind s event reply new step =
      let here = grows s event reply new step in
      (here.added, here.journal)

  pub led_behind : (n : ℕ) (s new : State) → LeadsTo resolved_forms n s new → Behind s new
  led_behind zero s new same = ([], ap (λ (t : State). t.journal) same ∙ sym (append-nil s.journal))
  led_behind (suc n) s new leads =
      then_behind s leads.0 new (led_behind n s leads.0 leads.3)
      (one_behind leads.0 leads.1 leads.2 new leads.4)

  pub made_behind : (s new : State) → MakesRun s new → Behind s new
  made_behind s new makes =
      let starts = makes.starts in
      let ends = makes.ends in
      then_behind s makes.started new
      (then_behind s starts.recalled makes.started
      (one_behind s Recall Recalled starts.recalled starts.recalls)
      (one_behind starts.recalled StartRun starts.reply makes.started starts.starts))
      (led_behind ends.count makes.started new ends.leads_on.leads)

-- ---- commits, under more tickets and behind others

still_at : (tickets more : List ℕ) (tx ticket : ℕ) → numbered tickets tx ≡ Some ticket
    → numbered (tickets ++ more) tx ≡ Some ticket
still_at tickets more zero ticket e = e
still_at [] more (suc n) ticket e = absurd cc
still_at (first ∷ tickets) more (suc zero) ticket e = e
still_at (first ∷ tickets) more (suc (suc n)) ticket e = still_at tickets more (suc n) ticket e

still_owned : (tickets more : List ℕ) (entries : List Entry) → HaveTickets tickets entries
    → HaveTickets (tickets ++ more) entries
still_owned tickets more [] owned = tt
still_owned tickets more (entry ∷ entries) owned = (
  (owned.0.0, still_at tickets more entry.tx owned.0.0 owned.0.1),
  still_owned tickets more entries owned.1,
)

same_commits : (tickets more : List ℕ) (number : ℕ) (entries : List Entry) → HaveTickets tickets entries
    → commits_of (tickets ++ more) number entries ≡ commits_of tickets number entries
same_commits tickets more number [] owned = refl
same_commits tickets more number (entry ∷ entries) owned =
    let here = still_at tickets more entry.tx owned.0.0 owned.0.1 ∙ sym owned.0.1 in
    let others = same_commits tickets more (suc number) entries owned.1 in
    λ i. record { ticket = unwrap_or (here i) 0; number = number; answers = entry.answers } ∷ others i

pub groups_both : (first second : List Group) (database : Database)
    → after_groups (first ++ second) database ≡ after_groups second (after_groups first database)
groups_both [] second database = refl
groups_both (group ∷ first) second database = groups_both first second (after_changes group.changes database)

opened_told : (tickets : List ℕ) (groups : List Group) (first last : State) → AreTold tickets first groups last
    → last.opening ≡ first.opening
opened_told tickets [] first last same = ap (λ (t : State). t.opening) same
opened_told tickets (group ∷ groups) first last told =
    opened_told tickets groups told.0 last told.2 ∙ told.1.opening

all_taken : (entries : List Entry) → take (length entries) entries ≡ entries
all_taken entries =
    ap (λ (more : List Entry). take (length entries) more) (sym (append-nil entries)) ∙ take-append_seam entries []

-- ---- an epoch goes on

pub taken_untold : (old : Epoch) (ticket : ℕ) (script : Script) (submission : Submission) (new : Epoch)
    → Takes old ticket script submission new → new.core.opening ≡ old.core.opening → Behind old.core new.core
    → GoesOnUntold old new
taken_untold old ticket script submission new takes opening behind =
    record {
      opening = opening;
      more = ticket ∷ [];
      tickets = takes.tickets;
      added = behind.0;
      journal = behind.1;
      told_entries = ap (λ t. t.entries) takes.telling;
      told_tables = ap (λ t. t.tables) takes.telling;
    }

pub still_told : (opening : Opening) (old new : Epoch) (groups : List Group) → AreToldOf opening old groups
    → GoesOnUntold old new → AreToldOf opening new groups
still_told opening old new groups told goes =
    let n = old.telling.entries in
    let before = take n old.core.journal in
    let same : take new.telling.entries new.core.journal ≡ before =
    ap (λ k. take k new.core.journal) goes.told_entries
    ∙ ap (λ (journal : List Entry). take n journal) goes.journal
    ∙ take-append-le n old.core.journal goes.added told.within in
    let long : length new.core.journal ≡ length old.core.journal + length goes.added =
    ap (λ (journal : List Entry). length journal) goes.journal ∙ length-append old.core.journal goes.added in
    record {
      over = goes.opening ∙ told.over;
      within = omega (arith, long, goes.told_entries, told.within);
      owned =
          subst (λ (entries : List Entry). HaveTickets new.tickets entries) (sym same)
          (subst (λ (tickets : List ℕ). HaveTickets tickets before) (sym goes.tickets)
          (still_owned old.tickets goes.more before told.owned));
      tables = told.tables ∙ ap (λ (tables : Tables). named_tables (table_names opening) tables)
          (sym goes.told_tables);
      commits =
          told.commits ∙ sym (same_commits old.tickets goes.more 1 before told.owned)
          ∙ ap (λ (tickets : List ℕ). commits_of tickets 1 before) (sym goes.tickets)
          ∙ ap (λ (entries : List Entry). commits_of new.tickets 1 entries) (sym same);
    }

-- ---- it publishes

module _
    (gives_tables : (tickets : List ℕ) (first last : State) (groups : List Group)
    → AreTold tickets first groups last → after_groups groups (settled_database first) ≡ settled_database last)
    (gives_journal : (tickets : List ℕ) (first last : State) (groups : List Group)
    → AreTold tickets first groups last
    → (entries : List Entry) × (last.journal ≡ first.journal ++ entries)
    × (all_commits groups ≡ commits_of tickets (suc (length first.journal)) entries))
    (opening : Opening) (old new : Epoch) (before after : Feed) (groups : List Group)
    (told : AreToldOf opening old groups) (publishes : Publishes old before after new) where
  abbrev tells : TellsRest old.tickets old.telling old.core publishes.groups
  tells = publishes.told

  abbrev first : State
  first = publishes.told.first

  abbrev behind : State
  behind = publishes.told.behind

  abbrev journal : List Entry
  journal = old.core.journal

  abbrev since : (entries : List Entry) × (behind.journal ≡ first.journal ++ entries)
      × (all_commits publishes.groups ≡ commits_of old.tickets (suc (length first.journal)) entries)
  since = gives_journal old.tickets first behind publishes.groups tells.told

  grown : journal ≡ first.journal ++ since.0
  grown = tells.journal ∙ since.1

  told_then : take old.telling.entries journal ≡ first.journal
  told_then =
      ap (λ n. take n journal) tells.told_to.entries
      ∙ ap (λ (entries : List Entry). take (length first.journal) entries) grown
      ∙ take-append_seam first.journal since.0

  opening_behind : behind.opening ≡ opening
  opening_behind = sym tells.opening ∙ told.over

  opening_first : first.opening ≡ opening
  opening_first = sym (opened_told old.tickets publishes.groups first behind tells.told) ∙ opening_behind

  tables_now : after_groups (groups ++ publishes.groups) (settled_database (opened opening))
      ≡ named_tables (table_names opening) (settled old.core)
  tables_now =
      groups_both groups publishes.groups (settled_database (opened opening))
      ∙ ap (λ (database : Database). after_groups publishes.groups database)
      (told.tables
      ∙ ap (λ (tables : Tables). named_tables (table_names opening) tables) tells.told_to.tables
      ∙ ap (λ (o : Opening). named_tables (table_names o) (settled first)) (sym opening_first))
      ∙ gives_tables old.tickets first behind publishes.groups tells.told
      ∙ ap (λ (o : Opening). named_tables (table_names o) (settled behind)) opening_behind
      ∙ ap (λ (tables : Tables). named_tables (table_names opening) tables) (sym tells.tables)

  commits_now : all_commits (groups ++ publishes.groups) ≡ commits_of old.tickets 1 (take (length journal) journal)
  commits_now =
      flat_map-append (λ (group : Group). group.commits) groups publishes.groups
      ∙ ap (λ (commits : List Commit). commits ++ all_commits publishes.groups)
      (told.commits ∙ ap (λ (entries : List Entry). commits_of old.tickets 1 entries) told_then)
      ∙ ap (λ (commits : List Commit). commits_of old.tickets 1 first.journal ++ commits)
      (since.2 ∙ ap (λ n. commits_of old.tickets n since.0) (let e : suc (length first.journal)
      ≡ 1 + length first.journal = omega arith in e))
      ∙ sym (commits-append old.tickets 1 first.journal since.0)
      ∙ ap (λ (entries : List Entry). commits_of old.tickets 1 entries) (sym grown ∙ sym (all_taken journal))

  pub published_told : AreToldOf opening new (groups ++ publishes.groups)
  published_told =
      subst (λ (epoch : Epoch). AreToldOf opening epoch (groups ++ publishes.groups)) (sym publishes.all_told)
      (record {
        over = told.over;
        within = omega arith;
        owned = subst (λ (entries : List Entry). HaveTickets old.tickets entries) (sym (all_taken journal))
            tells.owned;
        tables = tables_now;
        commits = commits_now;
      })

pub begun_told : (opening : Opening) (epoch : Epoch) → epoch.core ≡ opened opening → epoch.tickets ≡ []
    → epoch.telling ≡ telling_at (opened opening) → AreToldOf opening epoch []
begun_told opening epoch core tickets telling =
    let fresh : Epoch =
    record { number = epoch.number; core = opened opening; tickets = []; telling = telling_at (opened opening) } in
    let same : fresh ≡ epoch =
    λ i. record { number = epoch.number; core = sym core i; tickets = sym tickets i; telling = sym telling i } in
    subst (λ (e : Epoch). AreToldOf opening e []) same
    (record { over = refl; within = omega arith; owned = tt; tables = refl; commits = refl })
