-- What events add to the journal.
use Rattle.std.proofs.Common.{◌≡◌, ◌≤◌, ◌+◌, inl, inr, ℕ, suc, true, false, List, [], ◌∷◌, ◌++◌, length, map}
use Rattle.std.proofs.Common.{refl, sym, ap, ◌∙◌, append_assoc, arith}
use Rattle.std.proofs.lemmas.List.{append-nil, length-append}
use Rattle.ent_value.specs.declared.value.Value.{Value}
use Rattle.ent_semantics.specs.declared.book.Entry.{Entry}
use Rattle.ent_semantics.specs.declared.statement.Statement.{Statement}
use Rattle.ent_protocol.specs.Commit.{commit_numbers, committing_members, entry_of, preparing}
use Rattle.ent_protocol.specs.Event.{Event, Reply, Committed}
use Rattle.ent_protocol.specs.Finish.{finished}
use Rattle.ent_protocol.specs.Job.{Outcome, Shown, Changed, Bound, Choice, Fault}
use Rattle.ent_protocol.specs.Member.{is_of}
use Rattle.ent_protocol.specs.Play.{Plays}
use Rattle.ent_protocol.specs.Run.{Forms}
use Rattle.ent_protocol.specs.State.{State, Member}
use Rattle.ent_protocol.specs.Step.{Step}
use Rattle.ent_lists.specs.Elements.{clash, in_second, number_itself, to_filter}
use Rattle.ent_lists.proofs.Lists.{some_in}
use Rattle.ent_protocol.specs.Numbers.{entry_numbers}
use Rattle.ent_protocol_laws.specs.Commits.{GoesOnBy, committed_by, entries_in, is_commit}
use Rattle.ent_protocol_laws.proofs.Replied.{Quiet, commits_or_keeps}

abbrev Keeps : State → State → Type 0
Keeps s new = new.journal ≡ s.journal

finishes : (s : State) (m : Member) (c : Statement Value) (outcome : Outcome) → Keeps s (finished s m c outcome)
finishes s m c (Changed count removed added) = refl
finishes s m c (Bound value) = refl
finishes s m c (Shown rows) = refl
finishes s m c (Choice groundings) = refl
finishes s m c (Fault failure) = refl

pub journal_kept : (s : State) → Quiet s (λ new. new.journal ≡ s.journal)
journal_kept s =
    record {
      same = refl;
      submits = λ script form. refl;
      lends = λ m c. refl;
      posts = λ m c. refl;
      prepares = λ m at. refl;
      rolls_back = λ group cause. refl;
      fails = λ left group cause. refl;
      finishes = λ left m c outcome. finishes (record s { lent = left }) m c outcome;
      picks = λ asked. refl;
      joins = λ left asked groundings. refl;
      tries = λ left asked. refl;
      ends = refl;
      recalls = refl;
    }

-- ---- entries and their numbers

entries_numbered : (number : ℕ) (ms : List Member)
    → entry_numbers number (map entry_of ms) ≡ commit_numbers number ms
entries_numbered number [] = refl
entries_numbered number (m ∷ ms) = ap (λ more. (number, m.tx) ∷ more) (entries_numbered (suc number) ms)

numbered_joined : (entries more : List Entry) (number next : ℕ) → next ≡ length entries + number
    → entry_numbers number (entries ++ more) ≡ entry_numbers number entries ++ entry_numbers next more
numbered_joined [] more number next is =
    let e : number ≡ next = omega (arith, is) in ap (λ n. entry_numbers n more) e
numbered_joined (entry ∷ entries) more number next is =
    ap (λ rest. (number, entry.tx) ∷ rest) (numbered_joined entries more (suc number) next (omega (arith, is)))

none_by : {F : Type 0} (reply : Reply F) → is_commit reply ≡ false → [] ≡ committed_by reply
none_by (Committed entries) is = cc
none_by other is = refl

-- ---- one event

numbers_length : (number : ℕ) (ms : List Member) → length (commit_numbers number ms) ≡ length ms
numbers_length number [] = refl
numbers_length number (m ∷ ms) = ap suc (numbers_length (suc number) ms)

module _ {F : Type 0} (forms : Forms F) (s : State) (event : Event) (new : State) where
  pub grows : (reply : Reply F) → Step forms s event reply new → GoesOnBy s new (committed_by reply)
  grows reply step =
      elim (commits_or_keeps forms s (λ after. after.journal ≡ s.journal) (journal_kept s) refl event reply new step) [
        | inl c ↦ record {
          added = map entry_of (committing_members (preparing s c.member) c.member.group);
          journal = ap (λ (after : State). after.journal) c.is;
          are = entries_numbered (suc (length s.journal)) (committing_members (preparing s c.member) c.member.group)
              ∙ ap committed_by (sym c.replies);
        }
        | inr kept ↦ record {
          added = [];
          journal = kept.1 ∙ sym (append-nil s.journal);
          are = none_by reply kept.0;
        }
      ]

  pub some_entries : (reply : Reply F) → Step forms s event reply new → is_commit reply ≡ true
      → 1 ≤ length (committed_by reply)
  some_entries reply step is =
      elim (commits_or_keeps forms s (λ after. after.journal ≡ s.journal) (journal_kept s) refl event reply new step) [
        | inl c ↦
            let gone = committing_members (preparing s c.member) c.member.group in
            let one : 1 ≤ length gone =
            some_in c.member gone
            (to_filter (is_of c.member.group) (s.prepared ++ c.member ∷ []) c.member
            (in_second s.prepared (c.member ∷ []) c.member (inl refl)) (number_itself c.member.group)) in
            let as_many : length (committed_by reply) ≡ length gone =
            ap length (ap committed_by c.replies) ∙ numbers_length (suc (length s.journal)) gone in
            omega (arith, one, as_many)
        | inr kept ↦ clash (is_commit reply) is kept.0
      ]

-- ---- events, one after the other

both_grow : (s middle last : State) (entries more : List (ℕ × ℕ)) → GoesOnBy s middle entries
    → GoesOnBy middle last more → GoesOnBy s last (entries ++ more)
both_grow s middle last entries more one rest =
    record {
      added = one.added ++ rest.added;
      journal = rest.journal ∙ ap (λ journal. journal ++ rest.added) one.journal
          ∙ append_assoc s.journal one.added rest.added;
      are = numbered_joined one.added rest.added (suc (length s.journal)) (suc (length middle.journal)) behind
          ∙ (λ i. one.are i ++ rest.are i);
    }
  where
    behind : suc (length middle.journal) ≡ length one.added + suc (length s.journal)
    behind =
        let e : length middle.journal ≡ length s.journal + length one.added =
        ap length one.journal ∙ length-append s.journal one.added in
        omega (arith, e)

pub all_grow : {F : Type 0} (forms : Forms F) (s last : State) (told : List (Event × Reply F))
    → Plays forms s told last → GoesOnBy s last (entries_in told)
all_grow forms s last [] played =
    record {
      added = [];
      journal = ap (λ (after : State). after.journal) played ∙ sym (append-nil s.journal);
      are = refl;
    }
all_grow forms s last (one ∷ more) played =
    both_grow s played.0 last (committed_by one.1) (entries_in more)
    (grows forms s one.0 played.0 one.1 played.1) (all_grow forms played.0 last more played.2)
