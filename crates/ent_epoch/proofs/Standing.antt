-- What a telling that keeps up with a core has to tell of it.
use Rattle.std.proofs.Common.{◌≡◌, ◌≤◌, ◌+◌, ℕ, suc, false, List, [], ◌∷◌, ◌++◌, All, None, length, map, drop}
use Rattle.std.proofs.Common.{refl, sym, ap, subst, ◌∙◌, arith, append_assoc, append-nil, length-append}
use Rattle.std.specs.List.{AllByRecursion, IsDistinct}
use Rattle.std.proofs.Math.Seq.{drop-append_seam}
use Rattle.std.proofs.lemmas.List.Elements.{All-append, All-cons, All-nil}
use Rattle.ent_lists.specs.Elements.{Pairs}
use Rattle.ent_tree.specs.declared.declaration.Create.{Create}
use Rattle.ent_tree.specs.declared.declaration.Opening.{Opening}
use Rattle.ent_form.specs.OpeningFault.{opening_fault}
use Rattle.ent_form.specs.declared.fault.FormFault.{FormFault}
use Rattle.ent_form.proofs.NamesApart.{AreApart, names_apart}
use Rattle.ent_form.proofs.Opened.{declared_once}
use Rattle.ent_sched.specs.Passed.{resolved_forms}
use Rattle.ent_semantics.specs.Database.{Name, same_name}
use Rattle.ent_semantics.specs.Form.{Tables}
use Rattle.ent_semantics.specs.declared.book.Entry.{Entry}
use Rattle.ent_protocol.specs.Event.{Committed, Event, Reply}
use Rattle.ent_protocol.specs.Reached.{IsReached, named_tables, settled, table_names}
use Rattle.ent_protocol.specs.State.{State}
use Rattle.ent_protocol.specs.Step.{Step}
use Rattle.ent_protocol_laws.proofs.Frame.{Laws}
use Rattle.ent_protocol_laws.proofs.Reached.{reached_kept}
use Rattle.ent_protocol_laws.proofs.Undo.{put_length, wide_length}
use Rattle.ent_protocol_laws.specs.Faithful.{AreFaithful}
use Rattle.ent_protocol.specs.Numbers.{entry_numbers}
use Rattle.ent_protocol_laws.specs.Commits.{GoesOnBy, committed_by, is_commit}
use Rattle.ent_protocol_laws.proofs.SerialCounted.{reached_next}
use Rattle.ent_sched.specs.Watching.{Heard, PlaysThrough}
use Rattle.ent_feed.specs.declared.group.Group.{Group}
use Rattle.ent_feed.specs.Group.{changes_between}
use Rattle.ent_feed.specs.Telling.{Tells, commits_of, settled_database}
use Rattle.ent_epoch.specs.Notes.{Note, all_noted, noted_of}
use Rattle.ent_epoch.specs.Publishing.{IsGroupOfRest}
use Rattle.ent_epoch.specs.Telling.{CanTell, HaveTickets, KeepsUp, Telling, TellsRest}

-- ---- declared tables

apart_names : (create : Create) (creates : List Create) → AllByRecursion (AreApart create) creates
    → AllByRecursion (λ (name : Name). same_name create.name.name name ≡ false)
    (map (λ (other : Create). other.name.name) creates)
apart_names create [] all = tt
apart_names create (other ∷ more) all = (all.0, apart_names create more all.1)

distinct_names : (creates : List Create) → Pairs AreApart creates
    → IsDistinct same_name (map (λ (create : Create). create.name.name) creates)
unfolding IsDistinct
distinct_names [] apart = tt
distinct_names (create ∷ more) apart = (apart_names create more apart.0, distinct_names more apart.1)

pub tables_distinct : (opening : Opening) → opening_fault opening ≡ None → IsDistinct same_name (table_names opening)
tables_distinct opening formed =
    distinct_names opening.tables (names_apart opening.tables (declared_once opening formed))

pub tables_declared : (laws : Laws) (s : State) → AreFaithful resolved_forms s.opening → IsReached resolved_forms s
    → length (settled s) ≡ length s.opening.tables
tables_declared laws s faithful reached =
    put_length s.changes s.tables
    ∙ wide_length s.opening.tables s.tables (reached_kept resolved_forms laws s faithful reached).sound.wide

-- ---- events, one after the other

nothing_added : (number : ℕ) (added : List Entry) (entries : List (ℕ × ℕ)) → entry_numbers number added ≡ entries
    → 1 ≤ length entries → length added ≡ 0 → ⊥
nothing_added number [] entries are some none =
    let few : length entries ≡ 0 = ap (λ (xs : List (ℕ × ℕ)). length xs) (sym are) in
    absurd (omega (arith, some, few))
nothing_added number (entry ∷ added) entries are some none = absurd (omega (arith, none))

module _
    (opens : (s : State) (event : Event) (reply : Reply FormFault) (new : State)
    → Step resolved_forms s event reply new → new.opening ≡ s.opening)
    (grows : (s : State) (event : Event) (reply : Reply FormFault) (new : State)
    → Step resolved_forms s event reply new → GoesOnBy s new (committed_by reply)) where
  pub opened_so : (told : List Heard) (s last : State) → PlaysThrough resolved_forms s told last
      → last.opening ≡ s.opening
  opened_so [] s last same = ap (λ (t : State). t.opening) same
  opened_so (heard ∷ more) s last through =
      opened_so more heard.after last through.1 ∙ opens s heard.one.0 heard.one.1 heard.after through.0

  pub journal_on : (told : List Heard) (s last : State) → PlaysThrough resolved_forms s told last
      → (rest : List Entry) × (last.journal ≡ s.journal ++ rest)
  journal_on [] s last same = ([], ap (λ (t : State). t.journal) same ∙ sym (append-nil s.journal))
  journal_on (heard ∷ more) s last through =
      let here = grows s heard.one.0 heard.one.1 heard.after through.0 in
      let rest = journal_on more heard.after last through.1 in (
        here.added ++ rest.0,
        rest.1 ∙ ap (λ journal. journal ++ rest.0) here.journal ∙ append_assoc s.journal here.added rest.0,
      )

  -- ---- no entry came

  module _
      (some : (s : State) (event : Event) (entries : List (ℕ × ℕ)) (new : State)
      → Step resolved_forms s event (Committed entries) new → 1 ≤ length entries)
      (settles : (s : State) (event : Event) (reply : Reply FormFault) (new : State)
      → AreFaithful resolved_forms s.opening → IsReached resolved_forms s → Step resolved_forms s event reply new
      → is_commit reply ≡ false → settled new ≡ settled s) where
    no_entry : (s : State) (event : Event) (reply : Reply FormFault) (new : State)
        → AreFaithful resolved_forms s.opening → IsReached resolved_forms s → Step resolved_forms s event reply new
        → (added : List Entry) → entry_numbers (suc (length s.journal)) added ≡ committed_by reply
        → length added ≡ 0 → settled new ≡ settled s
    no_entry s event (Committed entries) new faithful reached step added are none =
        absurd (nothing_added (suc (length s.journal)) added entries are (some s event entries new step) none)
    no_entry s event other new faithful reached step added are none =
        settles s event other new faithful reached step refl

    pub settled_so : (told : List Heard) (s last : State) → AreFaithful resolved_forms s.opening
        → IsReached resolved_forms s → PlaysThrough resolved_forms s told last
        → length last.journal ≡ length s.journal → settled last ≡ settled s
    settled_so [] s last faithful reached same long = ap settled same
    settled_so (heard ∷ more) s last faithful reached through long =
        let new = heard.after in
        let event = heard.one.0 in
        let reply = heard.one.1 in
        let here = grows s event reply new through.0 in
        let rest = journal_on more new last through.1 in
        let here_long : length new.journal ≡ length s.journal + length here.added =
        ap (λ (js : List Entry). length js) here.journal ∙ length-append s.journal here.added in
        let rest_long : length last.journal ≡ length new.journal + length rest.0 =
        ap (λ (js : List Entry). length js) rest.1 ∙ length-append new.journal rest.0 in
        let opened : new.opening ≡ s.opening = opens s event reply new through.0 in
        settled_so more new last (subst (λ (o : Opening). AreFaithful resolved_forms o) (sym opened) faithful)
        (reached_next resolved_forms s event reply new opened reached through.0) through.1
        (omega (arith, here_long, rest_long, long))
        ∙ no_entry s event reply new faithful reached through.0 here.added here.are
        (omega (arith, here_long, rest_long, long))

  -- ---- what is to be told

  module _ (telling : Telling) (core : State) (keeps : KeepsUp telling core) where
    pub same_opening : core.opening ≡ keeps.first.opening
    same_opening = opened_so keeps.told keeps.first core keeps.through

    pub told_before : telling.entries ≤ length core.journal
    told_before =
        let rest = journal_on keeps.told keeps.first core keeps.through in
        let long : length core.journal ≡ length keeps.first.journal + length rest.0 =
        ap (λ (js : List Entry). length js) rest.1 ∙ length-append keeps.first.journal rest.0 in
        omega (arith, long, keeps.told_to.entries)

    pub rest_tells : (tickets : List ℕ) (group : Group) → HaveTickets tickets core.journal
        → IsGroupOfRest tickets core.opening core.journal telling.entries telling.tables (settled core) group
        → TellsRest tickets telling core (group ∷ [])
    rest_tells tickets group owned of =
        let first = keeps.first in
        let rest = journal_on keeps.told first core keeps.through in
        let left : drop telling.entries core.journal ≡ rest.0 =
        ap (λ n. drop n core.journal) keeps.told_to.entries
        ∙ ap (λ (js : List Entry). drop (length first.journal) js) rest.1
        ∙ drop-append_seam first.journal rest.0 in
        let tells : Tells tickets first group core =
        record {
          opening = same_opening;
          entries = rest.0;
          journal = rest.1;
          commits =
              of.commits
              ∙ ap (λ n. commits_of tickets (suc n) (drop telling.entries core.journal)) keeps.told_to.entries
              ∙ ap (λ (js : List Entry). commits_of tickets (suc (length first.journal)) js) left;
          changes =
              of.changes
              ∙ ap (λ (before : Tables). changes_between (table_names core.opening)
              (named_tables (table_names core.opening) before) (settled_database core)) keeps.told_to.tables
              ∙ ap (λ (o : Opening). changes_between (table_names o)
              (named_tables (table_names o) (settled first)) (settled_database core)) same_opening;
        } in
        record {
          first = first;
          told_to = keeps.told_to;
          behind = core;
          told = (core, tells, refl);
          tables = refl;
          journal = refl;
          opening = refl;
          owned = owned;
        }

    -- ---- a table for each name

    module _ (formed : opening_fault core.opening ≡ None)
        (declared : (s : State) → opening_fault s.opening ≡ None → IsReached resolved_forms s
        → length (settled s) ≡ length s.opening.tables) where
      formed_first : opening_fault keeps.first.opening ≡ None
      formed_first = subst (λ (o : Opening). opening_fault o ≡ None) same_opening formed

      pub told_tables : length telling.tables ≡ length core.opening.tables
      told_tables =
          ap (λ (tables : Tables). length tables) keeps.told_to.tables
          ∙ declared keeps.first formed_first keeps.reached
          ∙ ap (λ (o : Opening). length o.tables) (sym same_opening)

      abbrev HasAll : ℕ → Note → Type 0
      HasAll count note = length note.tables ≡ count

      one_noted : (count : ℕ) (reply : Reply FormFault) (tables : Tables) → length tables ≡ count
          → All (HasAll count) (noted_of reply tables)
      one_noted count (Committed entries) tables is = All-cons (HasAll count) _ [] is (All-nil (HasAll count))
      one_noted count other tables is = All-nil (HasAll count)

      noted_tables : (told : List Heard) (s last : State) → opening_fault s.opening ≡ None
          → IsReached resolved_forms s → PlaysThrough resolved_forms s told last
          → All (HasAll (length s.opening.tables)) (all_noted told)
      noted_tables [] s last fine reached same = All-nil (HasAll (length s.opening.tables))
      noted_tables (heard ∷ more) s last fine reached through =
          let new = heard.after in
          let opened : new.opening ≡ s.opening = opens s heard.one.0 heard.one.1 new through.0 in
          let fine_new : opening_fault new.opening ≡ None =
          subst (λ (o : Opening). opening_fault o ≡ None) (sym opened) fine in
          let reached_new = reached_next resolved_forms s heard.one.0 heard.one.1 new opened reached through.0 in
          let count = length s.opening.tables in
          let same : length new.opening.tables ≡ count = ap (λ (o : Opening). length o.tables) opened in
          All-append (HasAll count) (noted_of heard.one.1 (settled new)) (all_noted more)
          (one_noted count heard.one.1 (settled new) (declared new fine_new reached_new ∙ same))
          (subst (λ n. All (HasAll n) (all_noted more)) same
          (noted_tables more new last fine_new reached_new through.1))

      pub can_tell : CanTell telling core
      can_tell =
          record {
            distinct = tables_distinct core.opening formed;
            tables = told_tables;
            notes = λ whole.
                subst (λ (notes : List Note). All (HasAll (length core.opening.tables)) notes)
                (sym (keeps.noted whole))
                (subst (λ (o : Opening). All (HasAll (length o.tables)) (all_noted keeps.told)) (sym same_opening)
                (noted_tables keeps.told keeps.first core formed_first keeps.reached keeps.through));
            entries = told_before;
          }
