-- The journal of a history's book is right where commits are numbered from 1 on, each once.
use Rattle.std.proofs.Common.{◌≡◌, ℕ, zero, suc, ◌<◌, ◌≤◌, true, List, [], ◌∷◌, map, refl, sym, ap, subst, ◌∙◌, inl}
use Rattle.std.proofs.Common.{inr, arith, Some, slice_get, Contains}
use Rattle.ent_tree.specs.declared.script.Script.{Script}
use Rattle.ent_semantics.specs.declared.book.Book.{Book}
use Rattle.ent_semantics.specs.declared.book.Entry.{Entry}
use Rattle.ent_semantics.specs.declared.book.Fate.{Fate}
use Rattle.ent_semantics.specs.declared.book.Fate.TheVariants as fates
use Rattle.ent_semantics.specs.declared.book.Fated.{Fated}
use Rattle.ent_semantics.specs.Book.{HasCommitted, IsEntryOf, JournalIsRight}
use Rattle.ent_semantics.specs.Database.{Database}
use Rattle.ent_semantics.specs.Serial.{numbered}
use Rattle.ent_history.specs.declared.history.History.{History}
use Rattle.ent_history.specs.Told.{joint_answer_of, shown_database}
use Rattle.ent_history.specs.Account.{Account, accounts, commit_count, commit_number}
use Rattle.ent_history.specs.Account.{in_commit_order}
use Rattle.ent_history.specs.Journal.{commits}
use Rattle.ent_history.proofs.Accounts.{Other, accounts_apart, one_account, own_script}
use Rattle.ent_history.proofs.Bridge.{entry_of, fated_of}
use Rattle.ent_history.proofs.Commits.{IsNumbered, NotSame, at_its_number, of_its_number, in_order_committed}
use Rattle.ent_history.proofs.Commits.{in_order_number, order_apart}
use Rattle.ent_lists.specs.Elements.{In, Pairs, contains_in, in_contains, of_map, to_map, pairs_index, pairs_map}
use Rattle.ent_lists.specs.Elements.{got_in, of_all, to_all}

number_of_fate : (fate : Fate) (n : ℕ) → commit_number fate ≡ Some n → (runs : ℕ) × (fate ≡ fates.Committed n runs)
number_of_fate (fates.Committed m runs) n e = (runs, ap (λ k. fates.Committed k runs) (one m n e))
  where
    one : (m n : ℕ) → Some m ≡ Some n → m ≡ n
    one m n e = cc
number_of_fate (fates.GaveUp runs) n e = cc
number_of_fate (fates.RolledBack runs) n e = cc
number_of_fate (fates.Failed failure runs) n e = cc

get_map : {X Y : Type 0} (f : X → Y) (xs : List X) (k : ℕ) (y : Y) → slice_get (map f xs) k ≡ Some y
    → (x : X) × (slice_get xs k ≡ Some x) × (y ≡ f x)
get_map f [] k y e = cc (e)
get_map {X} {Y} f (x ∷ xs) zero y e = (x, refl, one y (f x) e)
  where
    one : (y z : Y) → Some z ≡ Some y → y ≡ z
    one y z e = cc
get_map f (x ∷ xs) (suc k) y e = get_map f xs k y e

map_get : {X Y : Type 0} (f : X → Y) (xs : List X) (k : ℕ) (x : X) → slice_get xs k ≡ Some x
    → slice_get (map f xs) k ≡ Some (f x)
map_get f [] k x e = cc (e)
map_get {X} {Y} f (z ∷ xs) zero x e = one z x e
  where
    one : (z x : X) → Some z ≡ Some x → Some (f z) ≡ Some (f x)
    one z x e = cc
map_get f (z ∷ xs) (suc k) x e = map_get f xs k x e

-- a place in a list counts from 1
from_one : {X : Type 0} (xs : List X) (n : ℕ) (x : X) → numbered xs n ≡ Some x
    → (k : ℕ) × (n ≡ suc k) × (slice_get xs k ≡ Some x)
from_one xs zero x e = cc (e)
from_one xs (suc k) x e = (k, refl, e)

module _ (history : History) where
  abbrev all : List Account
  all = accounts history

  -- the book of the history, transaction by transaction
  abbrev pub book : Book Database
  book =
      record {
        opening = history.opening;
        scripts = history.scripts;
        journal = map entry_of (in_commit_order all);
        joint_answers = map joint_answer_of history.joint_answers;
        fates = map fated_of all;
        database = shown_database history.tables;
      }

  -- who has committed by the fates of the book
  committed_account : (tx n : ℕ) → HasCommitted book.fates tx n
      → (a : Account) × In a all × (a.tx ≡ tx) × (commit_number a.fate ≡ Some n)
  committed_account tx n h =
      let r = of_map fated_of all (record { tx = tx; fate = fates.Committed n h.0 })
      (contains_in book.fates (record { tx = tx; fate = fates.Committed n h.0 }) h.1) in
      (r.0, r.1, ap (λ (f : Fated). f.tx) (sym r.2), ap (λ (f : Fated). commit_number f.fate) (sym r.2))

  account_committed : (a : Account) → In a all → (n : ℕ) → commit_number a.fate ≡ Some n
      → HasCommitted book.fates a.tx n
  account_committed a at n own =
      let f = number_of_fate a.fate n own in (
        f.0,
        in_contains book.fates (record { tx = a.tx; fate = fates.Committed n f.0 })
            (subst (λ (fate : Fate). In (record { tx = a.tx; fate = fate }) book.fates) f.1 (to_map fated_of all a at)),
      )

  -- whose entry stands at a number of the journal
  entry_account : (tx n : ℕ) → IsEntryOf book.journal tx n
      → (k : ℕ) × (n ≡ suc k) × (a : Account) × (slice_get (in_commit_order all) k ≡ Some a) × (a.tx ≡ tx)
  entry_account tx n h =
      let one = from_one book.journal n h.0 h.1 in
      let r = get_map entry_of (in_commit_order all) one.0 h.0 one.2 in
      (one.0, one.1, r.0, r.1, ap (λ (e : Entry). e.tx) (sym r.2) ∙ h.2)

  entry_of_list : (entry : Entry) → Contains book.journal entry
      → (script : Script) × (numbered book.scripts entry.tx ≡ Some script)
  entry_of_list entry c =
      let r = of_map entry_of (in_commit_order all) entry (contains_in book.journal entry c) in
      let at = in_order_committed all r.0 r.1 in
      (r.0.script, ap (λ (e : Entry). numbered history.scripts e.tx) r.2 ∙ own_script history r.0 at.0)

  pub journal_if_numbered : IsNumbered all → JournalIsRight book
  journal_if_numbered is =
      record {
        distinct = pairs_index (λ (first second : Entry). first.tx ≡ second.tx → ⊥) book.journal
            (pairs_map entry_of (λ (first second : Entry). first.tx ≡ second.tx → ⊥) (in_commit_order all)
            (order_apart all (accounts_apart history)));
        of_list = entry_of_list;
        one_fate = pairs_index (λ (first second : Fated). first.tx ≡ second.tx → ⊥) book.fates
            (pairs_map fated_of (λ (first second : Fated). first.tx ≡ second.tx → ⊥) all (accounts_apart history));
        committed = λ tx n. (there tx n, back tx n);
      }
    where
      there : (tx n : ℕ) → HasCommitted book.fates tx n → IsEntryOf book.journal tx n
      there tx zero h =
          let r = committed_account tx zero h in
          let low = (is.fits r.0 r.1 zero r.3).0 in
          absurd (omega (arith, low))
      there tx (suc k) h =
          let r = committed_account tx (suc k) h in
          (entry_of r.0, map_get entry_of (in_commit_order all) k r.0 (at_its_number all is k r.0 r.1 r.3), r.2)

      back : (tx n : ℕ) → IsEntryOf book.journal tx n → HasCommitted book.fates tx n
      back tx n h =
          let r = entry_account tx n h in
          let own = of_its_number all is r.0 r.2 r.3 in
          subst (λ (m : ℕ). HasCommitted book.fates m n) r.4
          (account_committed r.2 own.0 n (own.1 ∙ ap (λ m. Some m) (sym r.1)))

  -- and then only
  pub numbered_if_journal : JournalIsRight book
      → ((a : Account) → In a (in_commit_order all) → commits a.script.end ≡ true) → IsNumbered all
  numbered_if_journal right ends = record { fits = fits; apart = not_same }
    where
      entry : (a : Account) → In a all → (n : ℕ) → commit_number a.fate ≡ Some n → In a (in_commit_order all)
      entry a at n own =
          let r = entry_account a.tx n ((right.committed a.tx n).0 (account_committed a at n own)) in
          let bt = got_in (in_commit_order all) r.0 r.2 r.3 in
          let same = one_account all (accounts_apart history) r.2 a (in_order_committed all r.2 bt).0 at r.4 in
          subst (λ (x : Account). In x (in_commit_order all)) same bt

      fits : (a : Account) → In a all → (n : ℕ) → commit_number a.fate ≡ Some n
          → (0 < n) × (n ≤ commit_count all) × (commits a.script.end ≡ true)
      fits a at n own =
          let ordered = entry a at n own in
          let low = in_order_number all a ordered n own in
          (low.0, low.1, ends a ordered)

      one_of_two : (a b : Account) → In a all → In b all → Other a b → NotSame a b
      one_of_two a b at bt other n first second =
          let one = entry_account a.tx n ((right.committed a.tx n).0 (account_committed a at n first)) in
          let two = entry_account b.tx n ((right.committed b.tx n).0 (account_committed b bt n second)) in
          other (sym one.4 ∙ ap (λ (x : Account). x.tx) (same one.0 two.0 one.2 two.2 (sym one.1 ∙ two.1) one.3 two.3)
          ∙ two.4)
        where
          some_account : (x y : Account) → Some x ≡ Some y → x ≡ y
          some_account x y e = cc

          less : (j k : ℕ) → suc j ≡ suc k → j ≡ k
          less j k e = omega (arith, e)

          same : (j k : ℕ) (x y : Account) → suc j ≡ suc k → slice_get (in_commit_order all) j ≡ Some x
              → slice_get (in_commit_order all) k ≡ Some y → x ≡ y
          same j k x y e f g =
              some_account x y (sym f ∙ ap (slice_get (in_commit_order all)) (less j k e) ∙ g)

      not_same : Pairs NotSame all
      not_same = pairs_among all (λ a at. at) (accounts_apart history)
        where
          pairs_among : (xs : List Account) → ((a : Account) → In a xs → In a all) → Pairs Other xs → Pairs NotSame xs
          pairs_among [] among apart = tt
          pairs_among (x ∷ xs) among apart = (
            to_all (NotSame x) xs (λ b bt.
                one_of_two x b (among x (inl refl)) (among b (inr bt)) (of_all (Other x) xs b apart.0 bt)),
            pairs_among xs (λ a at. among a (inr at)) apart.1,
          )
