-- What begins with a line.
use Rattle.std.proofs.Common.{◌≡◌, ◌⊎◌, ◌≤◌, ◌+◌, ℕ, suc, List, [], ◌∷◌, ◌++◌, length, map, refl, sym, ap, ◌∙◌}
use Rattle.std.proofs.Common.{arith, inl, inr, subst, Bool, true, false, Option, Some, None, nat_lt, if◌then◌else◌}
use Rattle.std.proofs.lemmas.List.{length-map}
use Rattle.ent_history.specs.declared.finding.Thing.{Thing}
use Rattle.ent_history.specs.declared.finding.Thing.TheVariants as things
use Rattle.ent_history.specs.declared.history.History.{History}
use Rattle.ent_history.specs.declared.history.Told.{Told}
use Rattle.ent_history.specs.declared.history.ToldJoint.{ToldJoint}
use Rattle.ent_history.specs.Draft.{Draft, on_last}
use Rattle.ent_history.specs.Answers.{AnswerRowStands, AnswerStands, TxStands, answers_so_far, with_answer}
use Rattle.ent_history.specs.Answers.{with_answer_row, with_row}
use Rattle.ent_history.specs.Joints.{JointStands, MemberStands, member_told, with_member}
use Rattle.ent_history.specs.Tables.{TableRowStands, TableStands, with_table_row}
use Rattle.ent_history.specs.Stands.{Stands}
use Rattle.ent_history.specs.Stands as stands
use Rattle.ent_report_reader.specs.Located.{Begins, IsAmong, TellsOf, answer_counts, begun, counts_of, member_counts}
use Rattle.ent_report_reader.specs.Located.{members_so_far}
use Rattle.ent_report_reader.specs.declared.located.Counts.{Counts}
use Rattle.ent_report_reader.proofs.Counted.{counts_behind, counts_grown, counts_same, last_count}
use Rattle.ent_report_reader.proofs.Counted.{last_grown, length_changed, one_longer, part_behind, part_grown}
use Rattle.ent_report_reader.proofs.Counted.{part_is_new, part_is_told, part_stays_behind, part_stays_grown}
use Rattle.ent_report_reader.proofs.Counted.{some_or_none, up_to}

-- ---- what is told, in counts

abbrev answers_of : Told → ℕ
answers_of told = length told.answers

abbrev members_of : ToldJoint → ℕ
members_of joint = length joint.members

answers_are : (told : List Told) → answers_so_far told ≡ last_count (map answers_of told)
answers_are [] = refl
answers_are (told ∷ []) = refl
answers_are (told ∷ next ∷ more) = answers_are (next ∷ more)

members_are : (joints : List ToldJoint) → members_so_far joints ≡ last_count (map members_of joints)
members_are [] = refl
members_are (joint ∷ []) = refl
members_are (joint ∷ next ∷ more) = members_are (next ∷ more)

abbrev in_counts : List ℕ → List ℕ → ℕ → Counts
in_counts answers members tables = record {
  transactions = length answers;
  answers = last_count answers;
  joints = length members;
  members = last_count members;
  tables = tables;
}

abbrev told_counts : History → Counts
told_counts told = in_counts (answer_counts told) (member_counts told) (length told.tables)

counts_are : (told : History) → counts_of told ≡ told_counts told
counts_are told = λ i. record {
  transactions = sym (length-map told.transactions answers_of) i;
  answers = answers_are told.transactions i;
  joints = sym (length-map told.joint_answers members_of) i;
  members = members_are told.joint_answers i;
  tables = length told.tables;
}

-- ---- how the counts grow

-- so many answers, members and tables are told
abbrev AreCounts : History → List ℕ → List ℕ → ℕ → Type 0
AreCounts told answers members tables =
    (answer_counts told ≡ answers) × (member_counts told ≡ members) × (length told.tables ≡ tables)

abbrev grown : List ℕ → List ℕ
grown counts = on_last (λ n. suc n) counts

abbrev answers_in : Draft → List ℕ
answers_in draft = answer_counts draft.told

abbrev members_in : Draft → List ℕ
members_in draft = member_counts draft.told

abbrev tables_in : Draft → ℕ
tables_in draft = length draft.told.tables

abbrev AreSame : Draft → Draft → Type 0
AreSame draft next = AreCounts next.told (answers_in draft) (members_in draft) (tables_in draft)

same_row_of : (draft : Draft) (text : List ℕ) (next : Draft) → AnswerRowStands draft text next → AreSame draft next
same_row_of draft text next s = (
  ap answers_in s.next_is
      ∙ counts_same answers_of (with_answer_row s.row) draft.told.transactions
      (λ told. length_changed (with_row s.row) told.answers),
  ap members_in s.next_is,
  ap tables_in s.next_is,
)

same_table_row : (draft : Draft) (text : List ℕ) (next : Draft) → TableRowStands draft text next → AreSame draft next
same_table_row draft text next s = (
  ap answers_in s.next_is,
  ap members_in s.next_is,
  ap tables_in s.next_is ∙ length_changed (with_table_row s.row) draft.told.tables,
)

more_transactions : (draft : Draft) (text : List ℕ) (next : Draft) → TxStands draft text next
    → AreCounts next.told (answers_in draft ++ 0 ∷ []) (members_in draft) (tables_in draft)
more_transactions draft text next s = (
  ap answers_in s.next_is ∙ counts_behind answers_of draft.told.transactions (record { fate = s.fate; answers = [] }),
  ap members_in s.next_is,
  ap tables_in s.next_is,
)

more_answers : (draft : Draft) (text : List ℕ) (next : Draft) → AnswerStands draft text next
    → AreCounts next.told (grown (answers_in draft)) (members_in draft) (tables_in draft)
more_answers draft text next s = (
  ap answers_in s.next_is
      ∙ counts_grown answers_of (with_answer s.answer) draft.told.transactions
      (λ told. one_longer told.answers s.answer),
  ap members_in s.next_is,
  ap tables_in s.next_is,
)

more_joints : (draft : Draft) (text : List ℕ) (next : Draft) → JointStands draft text next
    → AreCounts next.told (answers_in draft) (members_in draft ++ 0 ∷ []) (tables_in draft)
more_joints draft text next s = (
  ap answers_in s.next_is,
  ap members_in s.next_is ∙ counts_behind members_of draft.told.joint_answers (record { members = [] }),
  ap tables_in s.next_is,
)

more_members : (draft : Draft) (text : List ℕ) (next : Draft) → MemberStands draft text next
    → AreCounts next.told (answers_in draft) (grown (members_in draft)) (tables_in draft)
more_members draft text next s = (
  ap answers_in s.next_is,
  ap members_in s.next_is
      ∙ counts_grown members_of (with_member (member_told s.tx s.place s.variables s.values)) draft.told.joint_answers
      (λ joint. one_longer joint.members (member_told s.tx s.place s.variables s.values)),
  ap tables_in s.next_is,
)

more_tables : (draft : Draft) (text : List ℕ) (next : Draft) → TableStands draft text next
    → AreCounts next.told (answers_in draft) (members_in draft) (suc (tables_in draft))
more_tables draft text next s = (
  ap answers_in s.next_is,
  ap members_in s.next_is,
  ap tables_in s.next_is ∙ one_longer draft.told.tables (record { name = s.create.name.name; rows = [] }),
)

-- ---- what is told stays told

abbrev Stays : List ℕ → List ℕ → ℕ → List ℕ → List ℕ → ℕ → Type 0
Stays a m t b n u = (thing : Thing) → IsAmong a m t thing → IsAmong b n u thing

moved : (new : History) (a m : List ℕ) (t : ℕ) → AreCounts new a m t → (P : List ℕ → List ℕ → ℕ → Type 0) → P a m t
    → P (answer_counts new) (member_counts new) (length new.tables)
moved new a m t are P p =
    subst (λ b. P b (member_counts new) (length new.tables)) (sym are.0)
    (subst (λ n. P a n (length new.tables)) (sym are.1) (subst (λ u. P a m u) (sym are.2) p))

stay_transactions : (a m : List ℕ) (t : ℕ) → Stays a m t (a ++ 0 ∷ []) m t
stay_transactions a m t (things.Transaction tx) is = (is.0, omega (arith, is.1, one_longer a 0))
stay_transactions a m t (things.Answer tx place) is = part_stays_behind a tx place is
stay_transactions a m t (things.Joint joint) is = is
stay_transactions a m t (things.Member joint member) is = is
stay_transactions a m t (things.Table table) is = is

stay_answers : (a m : List ℕ) (t : ℕ) → Stays a m t (on_last (λ n. suc n) a) m t
stay_answers a m t (things.Transaction tx) is = (is.0, omega (arith, is.1, length_changed (λ n. suc n) a))
stay_answers a m t (things.Answer tx place) is = part_stays_grown a tx place is
stay_answers a m t (things.Joint joint) is = is
stay_answers a m t (things.Member joint member) is = is
stay_answers a m t (things.Table table) is = is

stay_joints : (a m : List ℕ) (t : ℕ) → Stays a m t a (m ++ 0 ∷ []) t
stay_joints a m t (things.Transaction tx) is = is
stay_joints a m t (things.Answer tx place) is = is
stay_joints a m t (things.Joint joint) is = (is.0, omega (arith, is.1, one_longer m 0))
stay_joints a m t (things.Member joint member) is = part_stays_behind m joint member is
stay_joints a m t (things.Table table) is = is

stay_members : (a m : List ℕ) (t : ℕ) → Stays a m t a (on_last (λ n. suc n) m) t
stay_members a m t (things.Transaction tx) is = is
stay_members a m t (things.Answer tx place) is = is
stay_members a m t (things.Joint joint) is = (is.0, omega (arith, is.1, length_changed (λ n. suc n) m))
stay_members a m t (things.Member joint member) is = part_stays_grown m joint member is
stay_members a m t (things.Table table) is = is

stay_tables : (a m : List ℕ) (t : ℕ) → Stays a m t a m (suc t)
stay_tables a m t (things.Transaction tx) is = is
stay_tables a m t (things.Answer tx place) is = is
stay_tables a m t (things.Joint joint) is = is
stay_tables a m t (things.Member joint member) is = is
stay_tables a m t (things.Table table) is = (is.0, omega (arith, is.1))

module _ (draft : Draft) (text : List ℕ) (next : Draft) where
  stays_by : (a m : List ℕ) (t : ℕ) → AreCounts next.told a m t
      → Stays (answers_in draft) (members_in draft) (tables_in draft) a m t
      → (thing : Thing) → TellsOf draft.told thing → TellsOf next.told thing
  stays_by a m t are so =
      moved next.told a m t are (Stays (answers_in draft) (members_in draft) (tables_in draft)) so

  stays_same : AreSame draft next → (thing : Thing) → TellsOf draft.told thing → TellsOf next.told thing
  stays_same are = stays_by (answers_in draft) (members_in draft) (tables_in draft) are (λ thing is. is)

  pub stays : Stands draft text next → (thing : Thing) → TellsOf draft.told thing → TellsOf next.told thing
  stays (stands.Heading s) = stays_same (ap answers_in s.next_is, ap members_in s.next_is, ap tables_in s.next_is)
  stays (stands.Opening s) = stays_same (ap answers_in s.next_is, ap members_in s.next_is, ap tables_in s.next_is)
  stays (stands.OpeningRow s) = stays_same (ap answers_in s.next_is, ap members_in s.next_is, ap tables_in s.next_is)
  stays (stands.Script s) = stays_same (ap answers_in s.next_is, ap members_in s.next_is, ap tables_in s.next_is)
  stays (stands.Tx s) = stays_by _ _ _ (more_transactions draft text next s) (stay_transactions _ _ _)
  stays (stands.Answer s) = stays_by _ _ _ (more_answers draft text next s) (stay_answers _ _ _)
  stays (stands.AnswerRow s) = stays_same (same_row_of draft text next s)
  stays (stands.Joint s) = stays_by _ _ _ (more_joints draft text next s) (stay_joints _ _ _)
  stays (stands.Member s) = stays_by _ _ _ (more_members draft text next s) (stay_members _ _ _)
  stays (stands.Table s) = stays_by _ _ _ (more_tables draft text next s) (stay_tables _ _ _)
  stays (stands.TableRow s) = stays_same (same_table_row draft text next s)
  stays (stands.End s) = stays_same (ap answers_in s.next_is, ap members_in s.next_is, ap tables_in s.next_is)

-- ---- what is told beyond that

-- what is told and wasn't is this thing
abbrev Only : List ℕ → List ℕ → ℕ → Thing → List ℕ → List ℕ → ℕ → Type 0
Only a m t thing b n u = (other : Thing) → IsAmong b n u other → IsAmong a m t other ⊎ (other ≡ thing)

only_transaction : (a m : List ℕ) (t : ℕ)
    → Only a m t (things.Transaction (length a + 1)) (a ++ 0 ∷ []) m t
only_transaction a m t (things.Transaction tx) is =
    by (up_to tx (length a) (omega (arith, is.1, one_longer a 0)))
  where
    by : (tx ≤ length a) ⊎ (tx ≡ suc (length a))
        → IsAmong a m t (things.Transaction tx) ⊎ (things.Transaction tx ≡ things.Transaction (length a + 1))
    by (inl few) = inl (is.0, few)
    by (inr next) = inr (ap things.Transaction (omega (arith, next)))
only_transaction a m t (things.Answer tx place) is = inl (part_behind a tx place is)
only_transaction a m t (things.Joint joint) is = inl is
only_transaction a m t (things.Member joint member) is = inl is
only_transaction a m t (things.Table table) is = inl is

only_answer : (a m : List ℕ) (t : ℕ)
    → Only a m t (things.Answer (length a) (last_count a + 1)) (on_last (λ n. suc n) a) m t
only_answer a m t (things.Transaction tx) is = inl (is.0, omega (arith, is.1, length_changed (λ n. suc n) a))
only_answer a m t (things.Answer tx place) is =
    elim (part_grown a tx place is) [
      | inl was ↦ inl was
      | inr next ↦ inr (λ i. things.Answer (next.0 i) (next.1 i))
    ]
only_answer a m t (things.Joint joint) is = inl is
only_answer a m t (things.Member joint member) is = inl is
only_answer a m t (things.Table table) is = inl is

only_joint : (a m : List ℕ) (t : ℕ) → Only a m t (things.Joint (length m + 1)) a (m ++ 0 ∷ []) t
only_joint a m t (things.Transaction tx) is = inl is
only_joint a m t (things.Answer tx place) is = inl is
only_joint a m t (things.Joint joint) is =
    by (up_to joint (length m) (omega (arith, is.1, one_longer m 0)))
  where
    by : (joint ≤ length m) ⊎ (joint ≡ suc (length m))
        → IsAmong a m t (things.Joint joint) ⊎ (things.Joint joint ≡ things.Joint (length m + 1))
    by (inl few) = inl (is.0, few)
    by (inr next) = inr (ap things.Joint (omega (arith, next)))
only_joint a m t (things.Member joint member) is = inl (part_behind m joint member is)
only_joint a m t (things.Table table) is = inl is

only_member : (a m : List ℕ) (t : ℕ)
    → Only a m t (things.Member (length m) (last_count m + 1)) a (on_last (λ n. suc n) m) t
only_member a m t (things.Transaction tx) is = inl is
only_member a m t (things.Answer tx place) is = inl is
only_member a m t (things.Joint joint) is = inl (is.0, omega (arith, is.1, length_changed (λ n. suc n) m))
only_member a m t (things.Member joint member) is =
    elim (part_grown m joint member is) [
      | inl was ↦ inl was
      | inr next ↦ inr (λ i. things.Member (next.0 i) (next.1 i))
    ]
only_member a m t (things.Table table) is = inl is

only_table : (a m : List ℕ) (t : ℕ) → Only a m t (things.Table (t + 1)) a m (suc t)
only_table a m t (things.Transaction tx) is = inl is
only_table a m t (things.Answer tx place) is = inl is
only_table a m t (things.Joint joint) is = inl is
only_table a m t (things.Member joint member) is = inl is
only_table a m t (things.Table table) is = by (up_to table t (omega (arith, is.1)))
  where
    by : (table ≤ t) ⊎ (table ≡ suc t)
        → IsAmong a m t (things.Table table) ⊎ (things.Table table ≡ things.Table (t + 1))
    by (inl few) = inl (is.0, few)
    by (inr next) = inr (ap things.Table (omega (arith, next)))

-- ---- what is noted

-- Nothing begins, and nothing more is told; or one thing does, and nothing else is told more.
pub data Noted (draft : Draft) (text : List ℕ) (next : Draft) : Type 0 where
  Nothing : begun (counts_of draft.told) (counts_of next.told) ≡ None
      → ((thing : Thing) → TellsOf next.told thing → TellsOf draft.told thing) → Noted draft text next
  Begun : (thing : Thing) → begun (counts_of draft.told) (counts_of next.told) ≡ Some thing
      → Begins thing draft text next
      → ((other : Thing) → TellsOf next.told other → TellsOf draft.told other ⊎ (other ≡ thing))
      → Noted draft text next

same : (n : ℕ) → nat_lt n n ≡ false
same n = grind arith

less : (n m : ℕ) → m ≡ suc n → nat_lt n m ≡ true
less n m e = grind (arith, e)

alike : (n m : ℕ) → m ≡ n → nat_lt n m ≡ false
alike n m e = grind (arith, e)

abbrev picked : Bool → Bool → Bool → Bool → Bool → Counts → Option Thing
picked a b c d e after =
    if a then Some (things.Transaction after.transactions)
    else if b then Some (things.Answer after.transactions after.answers)
    else if c then Some (things.Joint after.joints)
    else if d then Some (things.Member after.joints after.members)
    else if e then Some (things.Table after.tables)
    else None

module _ (draft : Draft) (text : List ℕ) (next : Draft) where
  abbrev a : List ℕ
  a = answers_in draft

  abbrev m : List ℕ
  m = members_in draft

  abbrev t : ℕ
  t = tables_in draft

  -- by the counts of both
  begun_by : (b n : List ℕ) (u : ℕ) → AreCounts next.told b n u
      → begun (counts_of draft.told) (counts_of next.told) ≡ begun (in_counts a m t) (in_counts b n u)
  begun_by b n u are =
      λ i. begun (counts_are draft.told i)
      ((counts_are next.told ∙ (λ j. in_counts (are.0 j) (are.1 j) (are.2 j))) i)

  only_by : (b n : List ℕ) (u : ℕ) (thing : Thing) → AreCounts next.told b n u → Only a m t thing b n u
      → (other : Thing) → TellsOf next.told other → TellsOf draft.told other ⊎ (other ≡ thing)
  only_by b n u thing are only = moved next.told b n u are (Only a m t thing) only

  nothing : AreSame draft next → Noted draft text next
  nothing are =
      Nothing
      (begun_by a m t are
      ∙ (λ i. picked (same (length a) i) (same (last_count a) i) (same (length m) i) (same (last_count m) i) (same t i)
      (in_counts a m t)))
      (moved next.told a m t are (λ b n u. (thing : Thing) → IsAmong b n u thing → IsAmong a m t thing)
      (λ thing is. is))

  transaction : TxStands draft text next → Noted draft text next
  transaction s =
      let are = more_transactions draft text next s in
      let longer = one_longer a 0 in
      let after : Counts = in_counts (a ++ 0 ∷ []) m t in
      Begun (things.Transaction (length a + 1))
      (begun_by _ _ _ are
      ∙ (λ i. picked (less (length a) (length (a ++ 0 ∷ [])) longer i) (nat_lt (last_count a) after.answers)
      (nat_lt (length m) (length m)) (nat_lt (last_count m) (last_count m)) (nat_lt t t) after)
      ∙ ap (λ n. Some (things.Transaction n)) (omega (arith, longer)))
      (s, omega (arith, length-map draft.told.transactions answers_of))
      (only_by _ _ _ _ are (only_transaction a m t))

  answer_of : AnswerStands draft text next → (a ≡ []) ⊎ (1 ≤ length a) → Noted draft text next
  answer_of s (inl none) =
      let are = more_answers draft text next s in
      nothing (are.0 ∙ ap grown none ∙ sym none, are.1, are.2)
  answer_of s (inr some) =
      let are = more_answers draft text next s in
      let longer = length_changed (λ n. suc n) a in
      let last = last_grown a some in
      let after : Counts = in_counts (grown a) m t in
      Begun (things.Answer (length a) (last_count a + 1))
      (begun_by _ _ _ are
      ∙ (λ i. picked (alike (length a) (length (grown a)) longer i)
      (less (last_count a) (last_count (grown a)) last i)
      (nat_lt (length m) (length m)) (nat_lt (last_count m) (last_count m)) (nat_lt t t) after)
      ∙ (λ i. Some (things.Answer (longer i) (next_number (last_count a) (last_count (grown a)) last i)))) (
        s,
        length-map draft.told.transactions answers_of,
        some,
        ap (λ n. n + 1) (sym (answers_are draft.told.transactions)),
      )
      (only_by _ _ _ _ are (only_answer a m t))
    where
      next_number : (n k : ℕ) → k ≡ suc n → k ≡ n + 1
      next_number n k e = omega (arith, e)

  joint : JointStands draft text next → Noted draft text next
  joint s =
      let are = more_joints draft text next s in
      let longer = one_longer m 0 in
      let after : Counts = in_counts a (m ++ 0 ∷ []) t in
      Begun (things.Joint (length m + 1))
      (begun_by _ _ _ are
      ∙ (λ i. picked (same (length a) i) (same (last_count a) i)
      (less (length m) (length (m ++ 0 ∷ [])) longer i) (nat_lt (last_count m) after.members) (nat_lt t t) after)
      ∙ ap (λ n. Some (things.Joint n)) (omega (arith, longer)))
      (s, omega (arith, length-map draft.told.joint_answers members_of))
      (only_by _ _ _ _ are (only_joint a m t))

  member_of : MemberStands draft text next → (m ≡ []) ⊎ (1 ≤ length m) → Noted draft text next
  member_of s (inl none) =
      let are = more_members draft text next s in
      nothing (are.0, are.1 ∙ ap grown none ∙ sym none, are.2)
  member_of s (inr some) =
      let are = more_members draft text next s in
      let longer = length_changed (λ n. suc n) m in
      let last = last_grown m some in
      let after : Counts = in_counts a (grown m) t in
      Begun (things.Member (length m) (last_count m + 1))
      (begun_by _ _ _ are
      ∙ (λ i. picked (same (length a) i) (same (last_count a) i) (alike (length m) (length (grown m)) longer i)
      (less (last_count m) (last_count (grown m)) last i) (nat_lt t t) after)
      ∙ (λ i. Some (things.Member (longer i) (next_number (last_count m) (last_count (grown m)) last i)))) (
        s,
        length-map draft.told.joint_answers members_of,
        some,
        ap (λ n. n + 1) (sym (members_are draft.told.joint_answers)),
      )
      (only_by _ _ _ _ are (only_member a m t))
    where
      next_number : (n k : ℕ) → k ≡ suc n → k ≡ n + 1
      next_number n k e = omega (arith, e)

  table : TableStands draft text next → Noted draft text next
  table s =
      let are = more_tables draft text next s in
      let after : Counts = in_counts a m (suc t) in
      Begun (things.Table (t + 1))
      (begun_by _ _ _ are
      ∙ (λ i. picked (same (length a) i) (same (last_count a) i) (same (length m) i) (same (last_count m) i)
      (less t (suc t) refl i) after)
      ∙ ap (λ n. Some (things.Table n)) (omega arith))
      (s, refl)
      (only_by _ _ _ _ are (only_table a m t))

  -- what a line that stands begins is noted
  pub noted : Stands draft text next → Noted draft text next
  noted (stands.Heading s) = nothing (ap answers_in s.next_is, ap members_in s.next_is, ap tables_in s.next_is)
  noted (stands.Opening s) = nothing (ap answers_in s.next_is, ap members_in s.next_is, ap tables_in s.next_is)
  noted (stands.OpeningRow s) = nothing (ap answers_in s.next_is, ap members_in s.next_is, ap tables_in s.next_is)
  noted (stands.Script s) = nothing (ap answers_in s.next_is, ap members_in s.next_is, ap tables_in s.next_is)
  noted (stands.Tx s) = transaction s
  noted (stands.Answer s) = answer_of s (some_or_none a)
  noted (stands.AnswerRow s) = nothing (same_row_of draft text next s)
  noted (stands.Joint s) = joint s
  noted (stands.Member s) = member_of s (some_or_none m)
  noted (stands.Table s) = table s
  noted (stands.TableRow s) = nothing (same_table_row draft text next s)
  noted (stands.End s) = nothing (ap answers_in s.next_is, ap members_in s.next_is, ap tables_in s.next_is)

  -- ---- what begins is told then, and wasn't before

  pub is_new : (thing : Thing) → Begins thing draft text next → TellsOf draft.told thing → ⊥
  is_new (things.Transaction tx) b is =
      omega (arith, is.1, b.1, length-map draft.told.transactions answers_of)
  is_new (things.Answer tx place) b is =
      part_is_new a tx place (b.1 ∙ sym (length-map draft.told.transactions answers_of))
      (b.3 ∙ ap (λ n. n + 1) (answers_are draft.told.transactions)) is
  is_new (things.Joint number) b is =
      omega (arith, is.1, b.1, length-map draft.told.joint_answers members_of)
  is_new (things.Member number member) b is =
      part_is_new m number member (b.1 ∙ sym (length-map draft.told.joint_answers members_of))
      (b.3 ∙ ap (λ n. n + 1) (members_are draft.told.joint_answers)) is
  is_new (things.Table number) b is = omega (arith, is.1, b.1)

  told_by : (b n : List ℕ) (u : ℕ) (thing : Thing) → AreCounts next.told b n u → IsAmong b n u thing
      → TellsOf next.told thing
  told_by b n u thing are is = moved next.told b n u are (λ b n u. IsAmong b n u thing) is

  pub is_told : (thing : Thing) → Begins thing draft text next → TellsOf next.told thing
  is_told (things.Transaction tx) b =
      told_by (a ++ 0 ∷ []) m t (things.Transaction tx) (more_transactions draft text next b.0) (
        omega (arith, b.1),
        omega (arith, b.1, length-map draft.told.transactions answers_of, one_longer a 0),
      )
  is_told (things.Answer tx place) b =
      told_by (grown a) m t (things.Answer tx place) (more_answers draft text next b.0)
      (part_is_told a tx place (b.1 ∙ sym (length-map draft.told.transactions answers_of)) b.2
      (b.3 ∙ ap (λ n. n + 1) (answers_are draft.told.transactions)))
  is_told (things.Joint number) b =
      told_by a (m ++ 0 ∷ []) t (things.Joint number) (more_joints draft text next b.0) (
        omega (arith, b.1),
        omega (arith, b.1, length-map draft.told.joint_answers members_of, one_longer m 0),
      )
  is_told (things.Member number member) b =
      told_by a (grown m) t (things.Member number member) (more_members draft text next b.0)
      (part_is_told m number member (b.1 ∙ sym (length-map draft.told.joint_answers members_of)) b.2
      (b.3 ∙ ap (λ n. n + 1) (members_are draft.told.joint_answers)))
  is_told (things.Table number) b =
      told_by a m (suc t) (things.Table number) (more_tables draft text next b.0)
      (omega (arith, b.1), omega (arith, b.1))
