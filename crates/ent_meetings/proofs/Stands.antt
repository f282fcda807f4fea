-- How a search moves on.
use Rattle.std.proofs.Common.{◌≡◌, ◌≢◌, ◌<◌, ◌≤◌, ℕ, zero, suc, Bool, true, false, List, [], ◌∷◌, ◌++◌, length, take}
use Rattle.std.proofs.Common.{get_or}
use Rattle.std.proofs.Common.{Option, None, Some, refl, sym, ap, subst, ◌∙◌, ◌⊎◌, inl, inr, ⊎_elim, arith}
use Rattle.std.specs.Option.{option_map_or}
use Rattle.std.proofs.lemmas.Bool.{cases_lt, both_ways}
use Rattle.std.proofs.Math.Seq.{get_or-append_seam}
use Rattle.std.proofs.lemmas.List.{get_or_append_left, length_push, take-append-le, take_all}
use Rattle.ent_group.specs.declared.members.TheConstants.{MOST_MEMBERS}
use Rattle.ent_lists.specs.Elements.{In, contains_in, in_contains, all_first, all_joined, pairs_behind, pairs_first}
use Rattle.ent_meetings.specs.declared.pattern.Pattern.{Pattern}
use Rattle.ent_meetings.specs.Group.{first_unmet}
use Rattle.ent_meetings.specs.Next.{IsAfter, IsUpTo}
use Rattle.ent_meetings.specs.Stand.{IsPassed, Stand, gives}
use Rattle.ent_meetings.specs.Waiting.{Waiting, Waits, named, offers_at}
use Rattle.ent_meetings.specs.Meeting.{HasOneOf, IsWithin}
use Rattle.ent_meetings.proofs.Passed.{not_chosen, passed_all}
use Rattle.ent_meetings.proofs.Waiters.{giver_waits, within_by}

-- a list with one more behind it
module _ (xs : List ℕ) (x : ℕ) where
  taken : (place : ℕ) → place ≤ length xs → take place (xs ++ x ∷ []) ≡ take place xs
  taken place low = take-append-le place xs (x ∷ []) low

  taken_all : take (length xs) (xs ++ x ∷ []) ≡ xs
  taken_all = taken (length xs) (omega arith) ∙ take_all (length xs) xs (omega arith)

  here : (place : ℕ) → place < length xs → get_or (xs ++ x ∷ []) place 0 ≡ get_or xs place 0
  here place low = get_or_append_left xs (x ∷ []) 0 place low

  last : get_or (xs ++ x ∷ []) (length xs) 0 ≡ x
  last = get_or-append_seam xs x [] 0

after_or_up_to : (last : Option ℕ) (other : ℕ) → IsAfter last other ⊎ IsUpTo last other
after_or_up_to None other = inl tt
after_or_up_to (Some last) other = cases_lt last other

module _ (waiting : Waiting) (root : ℕ) (found : List (List ℕ)) (is_clear is_cut : Bool) where
  abbrev Passed : List ℕ → Type 0
  Passed chosen = IsPassed waiting root found is_clear is_cut chosen

  -- one more is chosen, the next who gives what the chosen lack
  pub chosen_more : (chosen : List ℕ) (after : Option ℕ) (demand : Pattern) (ticket : ℕ)
      → Stand waiting root found is_clear is_cut chosen after → first_unmet (named waiting chosen) ≡ Some demand
      → length chosen < MOST_MEMBERS → 0 < length chosen → offers_at waiting demand ticket ≡ true
      → ((other : ℕ) → IsAfter after other → other < ticket → offers_at waiting demand other ≡ false)
      → Stand waiting root found is_clear is_cut (chosen ++ ticket ∷ []) None
  chosen_more chosen after demand ticket stand unmet room some gives_it none = record {
    waits = all_joined (Waits waiting) chosen (ticket ∷ []) stand.waits
        (giver_waits waiting demand ticket gives_it, tt);
    distinct = pairs_behind (λ (one other : ℕ). one ≢ other) chosen ticket stand.distinct
        (λ y at same. not_chosen waiting root found is_clear is_cut chosen demand unmet ticket gives_it
        (subst (λ (n : ℕ). In n chosen) same at));
    bound = omega (arith, room, length_push chosen ticket);
    begins = λ more. here chosen ticket 0 some ∙ stand.begins some;
    before = λ place other low early giving.
        ⊎_elim (λ inside. old place other inside early giving)
        (λ outside. new place other (let long = length_push chosen ticket in omega arith) early giving)
        (cases_lt place (length chosen));
    behind = λ other none giving. absurd none;
    over = λ none. absurd (omega (arith, none, length_push chosen ticket));
  }
    where
      old : (place other : ℕ) → place < length chosen → other < get_or (chosen ++ ticket ∷ []) place 0
          → gives waiting (take place (chosen ++ ticket ∷ [])) other ≡ true
          → Passed (take place (chosen ++ ticket ∷ []) ++ other ∷ [])
      old place other low early giving =
          let same = taken chosen ticket place (omega (arith, low)) in
          subst (λ (front : List ℕ). Passed (front ++ other ∷ [])) (sym same)
          (stand.before place other low (let at = here chosen ticket place low in omega (arith, at, early))
          (subst (λ (front : List ℕ). gives waiting front other ≡ true) same giving))

      new : (place other : ℕ) → place ≡ length chosen → other < get_or (chosen ++ ticket ∷ []) place 0
          → gives waiting (take place (chosen ++ ticket ∷ [])) other ≡ true
          → Passed (take place (chosen ++ ticket ∷ []) ++ other ∷ [])
      new place other is early giving =
          let same : take place (chosen ++ ticket ∷ []) ≡ chosen =
          ap (λ (n : ℕ). take n (chosen ++ ticket ∷ [])) is ∙ taken_all chosen ticket in
          let low : other < ticket =
          subst (λ (n : ℕ). other < n) (ap (λ (n : ℕ). get_or (chosen ++ ticket ∷ []) n 0) is ∙ last chosen ticket)
          early in
          let given : gives waiting chosen other ≡ true =
          subst (λ (front : List ℕ). gives waiting front other ≡ true) same giving in
          let offered : offers_at waiting demand other ≡ true =
          sym (ap (λ (o : Option Pattern). option_map_or (λ d. offers_at waiting d other) o false) unmet) ∙ given in
          subst (λ (front : List ℕ). Passed (front ++ other ∷ [])) (sym same)
          (⊎_elim (λ later. absurd (both_ways (offers_at waiting demand other) (none other later low) offered))
          (λ earlier. stand.behind other earlier given) (after_or_up_to after other))

  -- back from those who are passed
  pub one_less : (chosen : List ℕ) (ticket : ℕ) (after : Option ℕ)
      → Stand waiting root found is_clear is_cut (chosen ++ ticket ∷ []) after
      → IsPassed waiting root found is_clear is_cut (chosen ++ ticket ∷ [])
      → Stand waiting root found is_clear is_cut chosen (Some ticket)
  one_less chosen ticket after stand passed = record {
    waits = all_first (Waits waiting) chosen (ticket ∷ []) stand.waits;
    distinct = pairs_first (λ (one other : ℕ). one ≢ other) chosen (ticket ∷ []) stand.distinct;
    bound = let bound = stand.bound in omega (arith, length_push chosen ticket);
    begins = λ some. sym (here chosen ticket 0 some) ∙ stand.begins (omega (arith, length_push chosen ticket));
    before = λ place other low early giving.
        let same = taken chosen ticket place (omega (arith, low)) in
        subst (λ (front : List ℕ). IsPassed waiting root found is_clear is_cut (front ++ other ∷ [])) same
        (stand.before place other (omega (arith, low, length_push chosen ticket))
        (let at = here chosen ticket place low in omega (arith, at, early))
        (subst (λ (front : List ℕ). gives waiting front other ≡ true) (sym same) giving));
    behind = λ other up_to giving.
        ⊎_elim (λ early.
        subst (λ (front : List ℕ). IsPassed waiting root found is_clear is_cut (front ++ other ∷ []))
        (taken_all chosen ticket)
        (stand.before (length chosen) other (omega (arith, length_push chosen ticket))
        (subst (λ (n : ℕ). other < n) (sym (last chosen ticket)) early)
        (subst (λ (front : List ℕ). gives waiting front other ≡ true) (sym (taken_all chosen ticket)) giving)))
        (λ late.
        let same : ticket ≡ other = omega arith in
        subst (λ (n : ℕ). IsPassed waiting root found is_clear is_cut (chosen ++ n ∷ [])) same passed)
        (cases_lt other ticket);
    over = λ none others sought all.
        let begins : get_or (chosen ++ ticket ∷ []) 0 0 ≡ root = stand.begins
        (omega (arith, length_push chosen ticket)) in
        let is : ticket ≡ root =
        sym (last chosen ticket) ∙ ap (λ (n : ℕ). get_or (chosen ++ ticket ∷ []) n 0) none ∙ begins in
        passed others sought (only chosen none others (subst (λ (n : ℕ). In n others) (sym is)
        (contains_in others root sought.stands.has_root)));
  }
    where
      only : (front : List ℕ) → length front ≡ 0 → (others : List ℕ) → In ticket others
          → IsWithin (front ++ ticket ∷ []) others
      only [] none others at =
          within_by (ticket ∷ []) others (λ t there.
          elim there [ inl same ↦ subst (λ (n : ℕ). In n others) (sym same) at | inr bad ↦ absurd bad ])
      only (x ∷ front) none others at = absurd (omega (arith, none))

  -- where nobody else gives what the chosen lack
  pub none_left : (chosen : List ℕ) (after : Option ℕ) (demand : Pattern)
      → Stand waiting root found is_clear is_cut chosen after → first_unmet (named waiting chosen) ≡ Some demand
      → ((other : ℕ) → IsAfter after other → offers_at waiting demand other ≡ false)
      → IsPassed waiting root found is_clear is_cut chosen
  none_left chosen after demand stand unmet none =
      passed_all waiting root found is_clear is_cut chosen demand unmet (λ ticket is.
      ⊎_elim (λ later. absurd (both_ways (offers_at waiting demand ticket) (none ticket later) is))
      (λ earlier. stand.behind ticket earlier
      (ap (λ (o : Option Pattern). option_map_or (λ d. offers_at waiting d ticket) o false) unmet ∙ is))
      (after_or_up_to after ticket))

  -- none up to a later one gives it
  pub further_on : (chosen : List ℕ) (after later : Option ℕ) (demand : Pattern)
      → Stand waiting root found is_clear is_cut chosen after → first_unmet (named waiting chosen) ≡ Some demand
      → ((other : ℕ) → IsAfter after other → IsUpTo later other → offers_at waiting demand other ≡ false)
      → Stand waiting root found is_clear is_cut chosen later
  further_on chosen after later demand stand unmet none = record {
    waits = stand.waits;
    distinct = stand.distinct;
    bound = stand.bound;
    begins = stand.begins;
    before = stand.before;
    over = stand.over;
    behind = λ ticket up_to giving.
        let offered : offers_at waiting demand ticket ≡ true =
        sym (ap (λ (o : Option Pattern). option_map_or (λ d. offers_at waiting d ticket) o false) unmet) ∙ giving in
        ⊎_elim (λ behind. absurd (both_ways (offers_at waiting demand ticket) (none ticket behind up_to) offered))
        (λ before. stand.behind ticket before giving) (after_or_up_to after ticket);
  }

-- what is passed stays so where more is found, or less is sought
module _ (waiting : Waiting) (root : ℕ) (found more : List (List ℕ)) (is_clear is_cut cut : Bool)
    (kept : (one : List ℕ) → In one found → In one more) (less : is_cut ≡ true → cut ≡ true) where
  pub still_passed : (chosen : List ℕ) → IsPassed waiting root found is_clear is_cut chosen
      → IsPassed waiting root more is_clear cut chosen
  still_passed chosen passed others sought all =
      any_kept (passed others (record {
        stands = sought.stands;
        clear = sought.clear;
        bound = λ is. sought.bound (less is);
      }) all)
    where
      any_kept : HasOneOf found others → HasOneOf more others
      any_kept one =
          let there = in_contains more one.1 (kept one.1 (contains_in found one.1 (one.0, one.2, one.3))) in
          (there.0, one.1, there.1, there.2, one.4)

  pub still : (chosen : List ℕ) (after : Option ℕ) → Stand waiting root found is_clear is_cut chosen after
      → Stand waiting root more is_clear cut chosen after
  still chosen after stand = record {
    waits = stand.waits;
    distinct = stand.distinct;
    bound = stand.bound;
    begins = stand.begins;
    before = λ place ticket low early giving.
        still_passed (take place chosen ++ ticket ∷ []) (stand.before place ticket low early giving);
    behind = λ ticket up_to giving. still_passed (chosen ++ ticket ∷ []) (stand.behind ticket up_to giving);
    over = λ none. still_passed [] (stand.over none);
  }

-- a pass begins
pub stand_begins : (waiting : Waiting) (root : ℕ) (found : List (List ℕ)) (is_clear is_cut : Bool) → Waits waiting root
    → Stand waiting root found is_clear is_cut (root ∷ []) None
stand_begins waiting root found is_clear is_cut waits = record {
  waits = (waits, tt);
  distinct = (tt, tt);
  bound = omega arith;
  begins = λ some. refl;
  before = λ place ticket low early giving. nobody place ticket low giving;
  behind = λ ticket none giving. absurd none;
  over = λ none. absurd (omega (arith, none));
}
  where
    nobody : (place ticket : ℕ) → place < 1 → gives waiting (take place (root ∷ [])) ticket ≡ true
        → IsPassed waiting root found is_clear is_cut (take place (root ∷ []) ++ ticket ∷ [])
    nobody zero ticket low is = cc
    nobody (suc place) ticket low is = absurd (omega (arith, low))
