-- Rows that mark all for whom holders of tables make those wait who ask for uses.
use Rattle.std.proofs.Common.{◌≡◌, ◌⊎◌, inl, inr, ℕ, ◌+◌, ◌<◌, ◌≤◌, ◌==◌, Bool, true, false, not, nat_eq}
use Rattle.std.proofs.Common.{if◌then◌else◌, List, [], ◌∷◌, ◌++◌, length, map, take, get_or, refl, sym, ap, subst}
use Rattle.std.proofs.Common.{◌∙◌, arith}
use Rattle.std.specs.Prelude.{◌↔◌, Contains, IfSome, Option, None, Some, filter}
use Rattle.std.specs.List.{IsDistinct, list_any}
use Rattle.std.specs.Option.{option_eq}
use Rattle.std.proofs.lemmas.Bool.Decides.{Decides-eqb}
use Rattle.std.proofs.lemmas.List.{get_or_default, get_or-map, length-map, take_all, take_more}
use Rattle.std.proofs.lemmas.List.Elements.{Contains-append_cases, Contains-append_left}
use Rattle.std.proofs.lemmas.List.Elements.{Contains-append_right, Contains-push_cases}
use Rattle.std.proofs.lemmas.Map.Made.{AllPairs-from_IsDistinct}
use Rattle.std.proofs.lemmas.Bool.{cases_lt}
use Rattle.std.proofs.lemmas.Option.{same_Some}
use Rattle.ent_lists.specs.Elements.{and_both, clash, differ, number_itself, other_number, same_number}
use Rattle.ent_lists.specs.Elements.{turned}
use Rattle.ent_group.specs.Marks.{has_mark}
use Rattle.ent_lock.specs.declared.holders.Holder.{Holder}
use Rattle.ent_lock.specs.declared.mode.Mode.{Mode}
use Rattle.ent_lock.specs.declared.mode.Mode.TheVariants.{Shared, Exclusive}
use Rattle.ent_lock.specs.Mode.{in_conflict}
use Rattle.ent_members.specs.Order.{tx_of}
use Rattle.ent_run.specs.Grouped.{IsLabelled}
use Rattle.ent_run.specs.Locks.{IsHeld, use_of}
use Rattle.ent_run.specs.Places.{IsAt as IsPlace}
use Rattle.ent_run.specs.Run.{Run, with_run}
use Rattle.ent_run.specs.Waits.{waits_by, waits_over}
use Rattle.ent_run.proofs.HeldUses.{into_by_number}
use Rattle.ent_run.proofs.Lists.{contains_cases, contains_none, into_filter, into_map, out_of_filter, some_of}
use Rattle.ent_run.proofs.OneMember.{found_tx}
use Rattle.ent_protocol.specs.Member.{active_member, is_of, is_tx}
use Rattle.ent_protocol.specs.Rollback.{group_numbers}
use Rattle.ent_protocol.specs.State.{Member, State, Use, by_number, first_of}
use Rattle.ent_protocol.specs.Uses.{conflicting, exclusive, is_conflicting, not_passed, uses_conflict}
use Rattle.ent_waits.specs.Rows.{IsMember, IsNotPassed, IsRowOf, IsRowOfAny, MarksAll}
use Rattle.ent_waits.specs.Rows.{MarksGroup, MarksGroupOf, MarksInConflict, MarksOne, MarksOver, StandsAt}
use Rattle.ent_waits.specs.Waits.{nothing}
use Rattle.ent_waits.specs.declared.rows.Askers.{Askers}
use Rattle.ent_waits.proofs.Stuck.{MarksOneMore, mark_made}

-- ---- the member of a number

-- members of one number stand at one place
one_place : (members : List Member) (i j : ℕ) (d : Member) → IsDistinct nat_eq (map tx_of members)
    → i < length members → j < length members → tx_of (get_or members i d) ≡ tx_of (get_or members j d) → j ≡ i
one_place members i j d distinct low high same = elim (cases_lt i j) [
  | inl before ↦ absurd (apart i j before high same)
  | inr after ↦ elim (cases_lt j i) [
    | inl before ↦ absurd (apart j i before low (sym same))
    | inr still ↦ omega arith
  ]
]
  where
    number : (k : ℕ) → k < length members → get_or (map tx_of members) k 0 ≡ tx_of (get_or members k d)
    number k within = get_or-map tx_of members k d 0 within

    apart : (k n : ℕ) → k < n → n < length members → tx_of (get_or members k d) ≡ tx_of (get_or members n d) → ⊥
    apart k n before within one =
        let first : k < length members = omega arith in
        AllPairs-from_IsDistinct Decides-eqb (map tx_of members) distinct k n 0 before
        (omega (arith, length-map members tx_of, within)) (number k first ∙ one ∙ sym (number n within))

pub one_marked : (run : Run) (tx row new place : ℕ) → IsDistinct nat_eq (map tx_of run.active)
    → IsPlace run.active tx place → MarksOneMore row new place → MarksOne run tx new
one_marked run tx row new place distinct at step = λ k other stands is.
    let first = found_tx run.active tx (get_or run.active place other) (at.first other) in
    let own = ap tx_of stands.1 ∙ sym (same_number tx other.tx is) in
    mark_made row new place k step (one_place run.active place k other distinct at.in_range stands.0 (first ∙ sym own))

-- ---- over a list

module _ {X : Type 0} (P : X → ℕ → Type 0) where
  abbrev pub ForEach : List X → ℕ → Type 0
  ForEach xs row = (x : X) → Contains xs x → P x row

  pub each_none : (row : ℕ) → ForEach [] row
  each_none row = λ x there. absurd (contains_none x there)

  pub each_more : (xs : List X) (at : ℕ) (x : X) (row new : ℕ) → at < length xs → get_or xs at x ≡ x
      → ((y : X) → P y row → P y new) → P x new → ForEach (take at xs) row → ForEach (take (at + 1) xs) new
  each_more xs at x row new within is kept own each = λ y there.
      let more = subst (λ (ys : List X). Contains ys y) (take_more xs at x within) there in
      elim (Contains-push_cases (take at xs) (get_or xs at x) y more) [
        | inl before ↦ kept y (each y before)
        | inr same ↦ subst (λ (z : X). P z new) (sym is ∙ same) own
      ]

  pub each_next : (xs : List X) (at : ℕ) (d : X) (row new : ℕ) → at < length xs → ((y : X) → P y row → P y new)
      → P (get_or xs at d) new → ForEach (take at xs) row → ForEach (take (at + 1) xs) new
  each_next xs at d row new within =
      each_more xs at (get_or xs at d) row new within (get_or_default xs at (get_or xs at d) d within)

  pub each_whole : (xs : List X) (n row : ℕ) → length xs ≤ n → ForEach (take n xs) row → ForEach xs row
  each_whole xs n row gone = subst (λ (ys : List X). ForEach ys row) (take_all n xs gone)

-- ---- who blocks those who ask

module _ (run : Run) where
  abbrev s : State
  s = with_run run nothing

  is_member : (active : Member) (k : ℕ) → StandsAt run.active k active → IsMember run active
  is_member active k stands = Contains-append_right run.prepared run.active active (k, stands.0, stands.1)

  pub group_marked : (group row : ℕ) → ForEach (MarksOne run) (group_numbers s group) row → MarksGroup run group row
  group_marked group row each = λ member there is.
      let of_group = filter (is_of group) (run.prepared ++ run.active) in
      each member.tx (into_map tx_of (by_number tx_of of_group) member (into_by_number tx_of of_group member
      (into_filter (is_of group) (run.prepared ++ run.active) member there
      (ap (λ (label : ℕ). label == group) is ∙ number_itself group))))

  pub awaited_group : (own tx group row : ℕ) → ¬ (group ≡ own) → MarksGroup run group row
      → MarksAll run.active (λ other. waits_by own other tx (Some group)) row
  awaited_group own tx group row foreign marks = λ place other stands waits.
      let is = ap (λ b. if b then tx == other.tx else (other.group == group)) (sym (other_number group own foreign))
      ∙ waits in
      marks other (is_member other place stands) (same_number other.group group is) place other stands
      (number_itself other.tx)

  nobody : (tx : ℕ) (member : Member) → active_member s tx ≡ None → Contains run.active member → member.tx ≡ tx → ⊥
  nobody tx member none there is =
      first_none (filter (is_tx tx) run.active) member none (into_filter (is_tx tx) run.active member there
      (ap (λ (n : ℕ). n == tx) is ∙ number_itself tx))
    where
      first_none : (xs : List Member) (x : Member) → first_of xs ≡ None → Contains xs x → ⊥
      first_none [] x none there = contains_none x there
      first_none (y ∷ xs) x none there = let some : Some y ≡ None = none in absurd cc

  pub not_one : (tx row : ℕ) → active_member s tx ≡ None → MarksOne run tx row
  not_one tx row none = λ place other stands is.
      absurd (nobody tx other none (place, stands.0, stands.1) (sym (same_number tx other.tx is)))

  -- of those whom an asker doesn't pass, the prepared ones are of another group, and the others aren't the asker
  unpassed_cases : (asker holder : Member) → Contains (not_passed s asker) holder
      → (Contains run.prepared holder × ((holder.group == asker.group) ≡ false))
      ⊎ (Contains run.active holder × ((holder.tx == asker.tx) ≡ false))
  unpassed_cases asker holder there =
      elim (Contains-append_cases (filter of_other run.prepared) (filter is_other run.active) holder there) [
        | inl early ↦
            let at = out_of_filter of_other run.prepared holder early in
            inl (at.0, turned (holder.group == asker.group) at.1)
        | inr late ↦
            let at = out_of_filter is_other run.active holder late in
            inr (at.0, turned (holder.tx == asker.tx) at.1)
      ]
    where
      of_other : Member → Bool
      of_other m = not (m.group == asker.group)

      is_other : Member → Bool
      is_other m = not (m.tx == asker.tx)

  member_by : (asker holder : Member) → Contains (not_passed s asker) holder → IsMember run holder
  member_by asker holder there = elim (unpassed_cases asker holder there) [
    | inl early ↦ Contains-append_left run.prepared run.active holder early.0
    | inr late ↦ Contains-append_right run.prepared run.active holder late.0
  ]

  pub unpassed_member : (askers : Askers) (holder : Member) → IsNotPassed run askers holder → IsMember run holder
  unpassed_member askers holder (asker, is_asker, there) = member_by asker holder there

  -- a member of their group that some of them don't pass isn't the only one of them
  pub other_one : (askers : Askers) (holder : Member) (tx : ℕ) → holder.group ≡ askers.group
      → IsNotPassed run askers holder → holder.tx ≡ tx → option_eq nat_eq askers.only (Some tx) ≡ false
  other_one askers holder tx of_group (asker, is_asker, there) own =
      elim (unpassed_cases asker holder there) [
        | inl early ↦ clash (holder.group == asker.group)
            (ap (λ (n : ℕ). n == asker.group) (of_group ∙ is_asker.0) ∙ number_itself asker.group) early.1
        | inr late ↦ not_only askers.only is_asker.1 (λ same. differ holder.tx asker.tx late.1 (own ∙ same))
      ]
    where
      not_only : (only : Option ℕ) → IfSome only (λ n. n ≡ asker.tx) → (tx ≡ asker.tx → ⊥)
          → option_eq nat_eq only (Some tx) ≡ false
      not_only None is other = refl
      not_only (Some n) is other = other_number n tx (λ same. other (sym same ∙ is))

  -- what is answered for the label of the member of a number
  abbrev pub IsLabelOf : ℕ → Option ℕ → Type 0
  IsLabelOf tx label = (group : ℕ) → (label ≡ Some group) ↔ IsLabelled (run.prepared ++ run.active) tx group

  pub label_is : (tx group : ℕ) (label : Option ℕ) → IsLabelOf tx label → label ≡ Some group → (member : Member)
      → IsMember run member → member.tx ≡ tx → member.group ≡ group
  label_is tx group label labels is member there own =
      sym (same_Some group member.group (sym is ∙ (labels member.group).1 (member, there, own, refl)))

  pub no_label : (tx : ℕ) (label : Option ℕ) → IsLabelOf tx label → label ≡ None → (member : Member)
      → IsMember run member → member.tx ≡ tx → ⊥
  no_label tx label labels is member there own =
      let some : None ≡ Some member.group = sym is ∙ (labels member.group).1 (member, there, own, refl) in absurd cc

  pub over_marked : (askers : Askers) (tx group row : ℕ) (holder : Member) → holder.group ≡ group → holder.tx ≡ tx
      → MarksAll run.active (λ other. waits_by askers.group other tx (Some group)) row
      → MarksAll run.active (λ other. waits_over askers.group other holder) row
  over_marked askers tx group row holder label own marks = λ place other stands waits.
      marks place other stands
      (ap (λ (n : ℕ). waits_by askers.group other n (Some group)) (sym own)
      ∙ ap (λ (g : ℕ). waits_by askers.group other holder.tx (Some g)) (sym label) ∙ waits)

  -- a holder of a use in conflict holds the table, in a mode in conflict
  held_use : (asked : Use) (holder : Member) → list_any (uses_conflict asked) holder.uses ≡ true
      → (mode : Mode) × Contains holder.uses (use_of asked.table mode) × (in_conflict mode asked.mode ≡ true)
  held_use asked holder way =
      let other = some_of (uses_conflict asked) holder.uses way in
      let parts = and_both (asked.table == other.0.table) (in_conflict asked.mode other.0.mode) other.2 in
      let same : other.0 ≡ use_of asked.table other.0.mode =
      λ i. use_of (sym (same_number asked.table other.0.table parts.0) i) other.0.mode in
      (other.0.mode, subst (Contains holder.uses) same other.1, either_way asked.mode other.0.mode parts.1)
    where
      either_way : (a b : Mode) → in_conflict a b ≡ true → in_conflict b a ≡ true
      either_way Shared Shared e = e
      either_way Shared Exclusive e = refl
      either_way Exclusive Shared e = refl
      either_way Exclusive Exclusive e = refl

  -- those who hold a table are its holders
  abbrev pub AreHolders : ℕ → List Holder → Type 0
  AreHolders table holders =
      (tx : ℕ) (mode : Mode) → Contains holders (record { holder = tx; mode = mode })
      ↔ IsHeld (run.prepared ++ run.active) tx (use_of table mode)

  abbrev pub MarksHolder : Askers → Use → Holder → ℕ → Type 0
  MarksHolder askers asked held row =
      in_conflict held.mode asked.mode ≡ true
      → (holder : Member) → holder.tx ≡ held.holder → MarksOver run askers holder row

  pub holders_marked : (askers : Askers) (asked : Use) (holders : List Holder) (row : ℕ)
      → AreHolders asked.table holders → ForEach (MarksHolder askers asked) holders row
      → MarksInConflict run askers asked row
  holders_marked askers asked holders row are each = λ holder way unpassed.
      let hold = held_use asked holder way in
      let held : Holder = record { holder = holder.tx; mode = hold.0 } in
      each held ((are holder.tx hold.0).1 (holder, unpassed_member askers holder unpassed, refl, hold.1)) hold.2 holder
      refl unpassed

  pub row_marks : (askers : Askers) (asked : List Use) (row : ℕ) → ForEach (MarksInConflict run askers) asked row
      → IsRowOf run askers asked row
  row_marks askers asked row each = λ asker is_asker place other stands waits.
      let found = some_of (waits_over asker.group other) (conflicting s asker asked) waits in
      let holder = found.0 in
      let way = out_of_filter (is_conflicting asked) (not_passed s asker) holder found.1 in
      let own = some_of (λ own. list_any (uses_conflict own) holder.uses) asked way.1 in
      each own.0 own.1 holder own.2 (asker, is_asker, way.0) place other stands
      (ap (λ (group : ℕ). waits_over group other holder) is_asker.0 ∙ found.2)

  -- whoever asks waits for none but the holder itself and those of its group
  by_group : (row : ℕ) (holder other : Member) (b : Bool) (place : ℕ) → MarksGroup run holder.group row
      → IsMember run holder → StandsAt run.active place other
      → (if b then holder.tx == other.tx else (other.group == holder.group)) ≡ true → has_mark row place ≡ true
  by_group row holder other true place marks there stands is = marks holder there refl place other stands is
  by_group row holder other false place marks there stands is =
      marks other (is_member other place stands) (same_number other.group holder.group is) place other stands
      (number_itself other.tx)

  pub any_marks : (table : ℕ) (holders : List Holder) (row : ℕ) → AreHolders table holders
      → ForEach (λ (held : Holder). MarksGroupOf run held.holder) holders row
      → IsRowOfAny run (exclusive table ∷ []) row
  any_marks table holders row are each = λ asker place other stands waits.
      let asked = exclusive table ∷ [] in
      let found = some_of (waits_over asker.group other) (conflicting s asker asked) waits in
      let holder = found.0 in
      let way = out_of_filter (is_conflicting asked) (not_passed s asker) holder found.1 in
      let own = some_of (λ own. list_any (uses_conflict own) holder.uses) asked way.1 in
      let is : exclusive table ≡ own.0 = one_of (exclusive table) own.0 own.1 in
      let hold = held_use (exclusive table) holder
      (ap (λ (u : Use). list_any (uses_conflict u) holder.uses) is ∙ own.2) in
      let held : Holder = record { holder = holder.tx; mode = hold.0 } in
      let there = member_by asker holder way.0 in
      by_group row holder other (holder.group == asker.group) place
      (each held ((are holder.tx hold.0).1 (holder, there, refl, hold.1)) holder there refl) there stands found.2
    where
      one_of : (one own : Use) → Contains (one ∷ []) own → one ≡ own
      one_of one own there = elim (contains_cases one own [] there) [
        | inl same ↦ same
        | inr later ↦ absurd (contains_none own later)
      ]
