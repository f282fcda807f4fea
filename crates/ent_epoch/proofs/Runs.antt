-- The groups of what was noted of a run tell of the run.
use Rattle.std.proofs.Common.{◌≡◌, ℕ, suc, false, List, [], ◌∷◌, ◌++◌, length, map, refl, sym, ap, subst}
use Rattle.std.proofs.Common.{◌∙◌, arith, append_assoc, append-nil, length-append}
use Rattle.std.specs.Prelude.{Some, Option, slice_get, unwrap_or}
use Rattle.ent_book.specs.Report.{entry_answers}
use Rattle.ent_tree.specs.declared.declaration.Opening.{Opening}
use Rattle.ent_semantics.specs.Serial.{numbered}
use Rattle.ent_semantics.specs.declared.book.Entry.{Entry}
use Rattle.ent_form.specs.declared.fault.FormFault.{FormFault}
use Rattle.ent_protocol.specs.Event.{Event, Reply, Committed}
use Rattle.ent_protocol.specs.Reached.{IsReached, named_tables, settled, table_names}
use Rattle.ent_protocol.specs.Run.{Forms}
use Rattle.ent_protocol.specs.State.{State}
use Rattle.ent_protocol.specs.Step.{Step}
use Rattle.ent_protocol_laws.specs.Faithful.{AreFaithful}
use Rattle.ent_protocol.specs.Numbers.{entry_numbers}
use Rattle.ent_protocol_laws.specs.Commits.{GoesOnBy, committed_by, is_commit}
use Rattle.ent_sched.specs.Watching.{Heard, PlaysThrough}
use Rattle.ent_feed.specs.declared.group.Commit.{Commit}
use Rattle.ent_feed.specs.declared.group.Group.{Group}
use Rattle.ent_feed.specs.Group.{changes_between}
use Rattle.ent_epoch.specs.Notes.{Note, all_noted, noted_of}
use Rattle.ent_epoch.specs.Publishing.{AreGroupsOf, IsGroupOf, commit_at}
use Rattle.ent_feed.specs.Telling.{AreTold, Tells, commits_of, settled_database}

-- ---- entries by their numbers

get_behind : (front : List Entry) (entry : Entry) (more : List Entry)
    → slice_get (front ++ entry ∷ more) (length front) ≡ Some entry
get_behind [] entry more = refl
get_behind (first ∷ front) entry more = get_behind front entry more

-- the commits of entries that stand in a journal behind others
commits_there : (tickets : List ℕ) (front added rest journal : List Entry) → journal ≡ front ++ (added ++ rest)
    → map (commit_at tickets journal) (entry_numbers (suc (length front)) added)
    ≡ commits_of tickets (suc (length front)) added
commits_there tickets front [] rest journal is = refl
commits_there tickets front (entry ∷ added) rest journal is =
    let here : numbered journal (suc (length front)) ≡ Some entry =
    ap (λ (entries : List Entry). slice_get entries (length front)) is ∙ get_behind front entry (added ++ rest) in
    let longer : length (front ++ entry ∷ []) ≡ suc (length front) =
    length-append front (entry ∷ []) ∙ omega arith in
    let next : journal ≡ (front ++ entry ∷ []) ++ (added ++ rest) =
    is ∙ sym (append_assoc front (entry ∷ []) (added ++ rest)) in
    let others : map (commit_at tickets journal) (entry_numbers (suc (suc (length front))) added)
    ≡ commits_of tickets (suc (suc (length front))) added =
    subst (λ n. map (commit_at tickets journal) (entry_numbers (suc n) added) ≡ commits_of tickets (suc n) added)
    longer (commits_there tickets (front ++ entry ∷ []) added rest journal next) in
    let first : ℕ → Option Entry → Commit =
    λ number found. record {
      ticket = unwrap_or (numbered tickets entry.tx) 0;
      number = number;
      answers = entry_answers found;
    } in
    λ i. first (suc (length front)) (here i) ∷ others i

no_entries : (number : ℕ) (added : List Entry) → entry_numbers number added ≡ [] → added ≡ []
no_entries number [] is = refl
no_entries number (entry ∷ added) is = absurd cc

-- ---- states that agree

-- a state has the opening, the settled tables and the journal of another
pub record Agrees (first second : State) : Type 0 where
  pub opening : second.opening ≡ first.opening
  pub tables : settled second ≡ settled first
  pub journal : second.journal ≡ first.journal

pub itself : (s : State) → Agrees s s
itself s = record { opening = refl; tables = refl; journal = refl }

module _ (forms : Forms FormFault) (tickets : List ℕ)
    (opens : (s : State) (event : Event) (reply : Reply FormFault) (new : State) → Step forms s event reply new
    → new.opening ≡ s.opening)
    (leads : (s : State) (event : Event) (reply : Reply FormFault) (new : State) → IsReached forms s
    → Step forms s event reply new → IsReached forms new)
    (grows : (s : State) (event : Event) (reply : Reply FormFault) (new : State) → Step forms s event reply new
    → GoesOnBy s new (committed_by reply))
    (settles : (s : State) (event : Event) (reply : Reply FormFault) (new : State) → AreFaithful forms s.opening
    → IsReached forms s → Step forms s event reply new → is_commit reply ≡ false → settled new ≡ settled s) where
  -- the journal grows at its end
  journal_behind : (told : List Heard) (s last : State) → PlaysThrough forms s told last
      → (rest : List Entry) × (last.journal ≡ s.journal ++ rest)
  journal_behind [] s last same = ([], ap (λ (t : State). t.journal) same ∙ sym (append-nil s.journal))
  journal_behind (heard ∷ more) s last through =
      let here = grows s heard.one.0 heard.one.1 heard.after through.0 in
      let rest = journal_behind more heard.after last through.1 in (
        here.added ++ rest.0,
        rest.1 ∙ ap (λ journal. journal ++ rest.0) here.journal
            ∙ append_assoc s.journal here.added rest.0,
      )

  -- an event that is no commit
  stays : (s : State) (event : Event) (reply : Reply FormFault) (new : State) → AreFaithful forms s.opening
      → IsReached forms s → Step forms s event reply new → is_commit reply ≡ false → committed_by reply ≡ []
      → Agrees s new
  stays s event reply new faithful reached step no_commit none =
      let goes = grows s event reply new step in
      let nothing = no_entries (suc (length s.journal)) goes.added (goes.are ∙ none) in
      record {
        opening = opens s event reply new step;
        tables = settles s event reply new faithful reached step no_commit;
        journal = goes.journal ∙ ap (λ added. s.journal ++ added) nothing ∙ append-nil s.journal;
      }

  then_agrees : (mark s new : State) → Agrees mark s → Agrees s new → Agrees mark new
  then_agrees mark s new first second =
      record {
        opening = second.opening ∙ first.opening;
        tables = second.tables ∙ first.tables;
        journal = second.journal ∙ first.journal;
      }

  -- a commit, and the group of its note
  commit_tells : (mark s new : State) (event : Event) (entries : List (ℕ × ℕ)) (group : Group)
      (journal rest : List Entry) → Agrees mark s → Step forms s event (Committed entries) new
      → journal ≡ new.journal ++ rest
      → IsGroupOf tickets mark.opening journal (settled mark) (record { entries = entries; tables = settled new }) group
      → Tells tickets mark group new
  commit_tells mark s new event entries group journal rest agrees step is of =
      let goes = grows s event (Committed entries) new step in
      let opening : new.opening ≡ mark.opening = opens s event (Committed entries) new step ∙ agrees.opening in
      let grown : new.journal ≡ mark.journal ++ goes.added =
      goes.journal ∙ ap (λ front. front ++ goes.added) agrees.journal in
      let names = table_names mark.opening in
      record {
        opening = opening;
        entries = goes.added;
        journal = grown;
        commits =
            of.commits ∙ ap (map (commit_at tickets journal)) (sym goes.are)
            ∙ ap (λ front. map (commit_at tickets journal) (entry_numbers (suc (length front)) goes.added))
            agrees.journal
            ∙ commits_there tickets mark.journal goes.added rest journal
            (is ∙ ap (λ front. front ++ rest) grown ∙ append_assoc mark.journal goes.added rest);
        changes =
            of.changes
            ∙ ap (λ (opened : Opening). changes_between names (settled_database mark)
            (named_tables (table_names opened) (settled new))) (sym opening);
      }

  -- the groups tell of what happened up to a state that agrees with the last one
  abbrev Found : State → State → List Group → Type 0
  Found mark last groups = (behind : State) × AreTold tickets mark groups behind × Agrees behind last

  -- what comes behind a state, whose events the notes of the others are of
  abbrev Behind : State → State → List Entry → List Note → Type 0
  Behind s last journal notes =
      (mark : State) (groups : List Group) → Agrees mark s
      → AreGroupsOf tickets mark.opening journal (settled mark) notes groups → Found mark last groups

  behind_commit : (mark s new last : State) (event : Event) (entries : List (ℕ × ℕ)) (journal rest : List Entry)
      (notes : List Note) (groups : List Group) → Agrees mark s → Step forms s event (Committed entries) new
      → journal ≡ new.journal ++ rest → Behind new last journal notes
      → AreGroupsOf tickets mark.opening journal (settled mark)
      (record { entries = entries; tables = settled new } ∷ notes) groups
      → Found mark last groups
  behind_commit mark s new last event entries journal rest notes [] agrees step is on of = absurd of
  behind_commit mark s new last event entries journal rest notes (group ∷ groups) agrees step is on of =
      let tells = commit_tells mark s new event entries group journal rest agrees step is of.0 in
      let opened : new.opening ≡ mark.opening = tells.opening in
      let found = on new groups (itself new)
      (subst (λ (o : Opening). AreGroupsOf tickets o journal (settled new) notes groups) (sym opened) of.1) in
      (found.0, (new, tells, found.1), found.2)

  behind_event : (mark s new last : State) (event : Event) (reply : Reply FormFault) (journal rest : List Entry)
      (notes : List Note) (groups : List Group) → Agrees mark s → AreFaithful forms s.opening → IsReached forms s
      → Step forms s event reply new → journal ≡ new.journal ++ rest → Behind new last journal notes
      → AreGroupsOf tickets mark.opening journal (settled mark) (noted_of reply (settled new) ++ notes) groups
      → Found mark last groups
  behind_event mark s new last event (Committed entries) journal rest notes groups agrees faithful reached step
      is on of =
      behind_commit mark s new last event entries journal rest notes groups agrees step is on of
  behind_event mark s new last event other journal rest notes groups agrees faithful reached step is on of =
      on mark groups
      (then_agrees mark s new agrees (stays s event other new faithful reached step refl refl)) of

  pub groups_tell : (told : List Heard) (s last : State) (journal : List Entry) → AreFaithful forms s.opening
      → IsReached forms s → PlaysThrough forms s told last → journal ≡ last.journal
      → Behind s last journal (all_noted told)
  groups_tell [] s last journal faithful reached same is mark [] agrees of =
      (mark, refl, subst (λ (t : State). Agrees mark t) (sym same) agrees)
  groups_tell [] s last journal faithful reached same is mark (group ∷ groups) agrees of = absurd of
  groups_tell (heard ∷ more) s last journal faithful reached through is mark groups agrees of =
      let new = heard.after in
      let event = heard.one.0 in
      let reply = heard.one.1 in
      let opened : new.opening ≡ s.opening = opens s event reply new through.0 in
      let rest = journal_behind more new last through.1 in
      behind_event mark s new last event reply journal rest.0 (all_noted more) groups agrees faithful reached through.0
      (is ∙ rest.1)
      (groups_tell more new last journal (subst (λ (o : Opening). AreFaithful forms o) (sym opened) faithful)
      (leads s event reply new reached through.0) through.1 is)
      of
