-- The uses that a member holds, with those that are asked for.
use Rattle.std.proofs.Common.{◌≡◌, ◌⊎◌, inl, inr, ℕ, Bool, true, false, nat_lt, if◌then◌else◌, List, [], ◌∷◌}
use Rattle.std.proofs.Common.{refl, sym, subst, ◌∙◌}
use Rattle.std.specs.Prelude.{Contains}
use Rattle.std.specs.List.{list_any}
use Rattle.ent_members.proofs.UsesOf.{same_is}
use Rattle.ent_protocol.specs.Begin.{same_use, use_rank, with_uses}
use Rattle.ent_protocol.specs.State.{Use, inserted, by_number}
use Rattle.ent_run.proofs.Lists.{contains_none, contains_cases, contains_first, contains_later, some_of}

-- ---- one more in a list by number

module _ {A : Type 0} (number : A → ℕ) (x own : A) where
  into_if : (y : A) (ys : List A) (b : Bool) → ((x ≡ own) ⊎ Contains ys own → Contains (inserted number x ys) own)
      → (x ≡ own) ⊎ ((y ≡ own) ⊎ Contains ys own)
      → Contains (if b then x ∷ y ∷ ys else y ∷ inserted number x ys) own
  into_if y ys true rest (inl same) = subst (Contains (x ∷ y ∷ ys)) same (contains_first x (y ∷ ys))
  into_if y ys true rest (inr (inl same)) =
      contains_later x own (y ∷ ys) (subst (Contains (y ∷ ys)) same (contains_first y ys))
  into_if y ys true rest (inr (inr later)) = contains_later x own (y ∷ ys) (contains_later y own ys later)
  into_if y ys false rest (inl same) = contains_later y own (inserted number x ys) (rest (inl same))
  into_if y ys false rest (inr (inl same)) =
      subst (Contains (y ∷ inserted number x ys)) same (contains_first y (inserted number x ys))
  into_if y ys false rest (inr (inr later)) = contains_later y own (inserted number x ys) (rest (inr later))

  in_cases : (y : A) (ys : List A) → (x ≡ own) ⊎ Contains (y ∷ ys) own → (x ≡ own) ⊎ ((y ≡ own) ⊎ Contains ys own)
  in_cases y ys (inl same) = inl same
  in_cases y ys (inr there) = inr (contains_cases y own ys there)

  pub into_inserted : (ys : List A) → (x ≡ own) ⊎ Contains ys own → Contains (inserted number x ys) own
  into_inserted [] (inl same) = subst (Contains (x ∷ [])) same (contains_first x [])
  into_inserted [] (inr there) = absurd (contains_none own there)
  into_inserted (y ∷ ys) h =
      into_if y ys (nat_lt (number x) (number y)) (into_inserted ys) (in_cases y ys h)

  out_if : (y : A) (ys : List A) (b : Bool) → (Contains (inserted number x ys) own → (x ≡ own) ⊎ Contains ys own)
      → Contains (if b then x ∷ y ∷ ys else y ∷ inserted number x ys) own → (x ≡ own) ⊎ Contains (y ∷ ys) own
  out_if y ys true rest h = contains_cases x own (y ∷ ys) h
  out_if y ys false rest h = by_cases (contains_cases y own (inserted number x ys) h)
    where
      by_rest : (x ≡ own) ⊎ Contains ys own → (x ≡ own) ⊎ Contains (y ∷ ys) own
      by_rest (inl is) = inl is
      by_rest (inr there) = inr (contains_later y own ys there)

      by_cases : (y ≡ own) ⊎ Contains (inserted number x ys) own → (x ≡ own) ⊎ Contains (y ∷ ys) own
      by_cases (inl same) = inr (subst (Contains (y ∷ ys)) same (contains_first y ys))
      by_cases (inr later) = by_rest (rest later)

  pub out_of_inserted : (ys : List A) → Contains (inserted number x ys) own → (x ≡ own) ⊎ Contains ys own
  out_of_inserted [] h = contains_cases x own [] h
  out_of_inserted (y ∷ ys) h = out_if y ys (nat_lt (number x) (number y)) (out_of_inserted ys) h

-- ---- the uses with those that are asked for

either_asked : (a own : Use) (more held : List Use) → Contains held own ⊎ Contains (a ∷ more) own
    → (Contains held own ⊎ (a ≡ own)) ⊎ Contains more own
either_asked a own more held (inl there) = inl (inl there)
either_asked a own more held (inr asked) = by_cases (contains_cases a own more asked)
  where
    by_cases : (a ≡ own) ⊎ Contains more own → (Contains held own ⊎ (a ≡ own)) ⊎ Contains more own
    by_cases (inl same) = inl (inr same)
    by_cases (inr later) = inr later

into_one : (a own : Use) (held : List Use) → Contains held own ⊎ (a ≡ own)
    → Contains (if list_any (same_use a) held then held else inserted use_rank a held) own
into_one a own held h = by_test (list_any (same_use a) held) refl h
  where
    by_test : (b : Bool) → list_any (same_use a) held ≡ b → Contains held own ⊎ (a ≡ own)
        → Contains (if b then held else inserted use_rank a held) own
    by_test true is (inl there) = there
    by_test true is (inr same) =
        let other = some_of (same_use a) held is in
        subst (Contains held) (sym (same_is a other.0 other.2) ∙ same) other.1
    by_test false is (inl there) = into_inserted use_rank a own held (inr there)
    by_test false is (inr same) = into_inserted use_rank a own held (inl same)

out_of_one : (a own : Use) (held : List Use)
    → Contains (if list_any (same_use a) held then held else inserted use_rank a held) own
    → Contains held own ⊎ (a ≡ own)
out_of_one a own held h = by_test (list_any (same_use a) held) h
  where
    turned : (a ≡ own) ⊎ Contains held own → Contains held own ⊎ (a ≡ own)
    turned (inl same) = inr same
    turned (inr there) = inl there

    by_test : (b : Bool) → Contains (if b then held else inserted use_rank a held) own
        → Contains held own ⊎ (a ≡ own)
    by_test true there = inl there
    by_test false there = turned (out_of_inserted use_rank a own held there)

pub into_with_uses : (asked held : List Use) (own : Use) → Contains held own ⊎ Contains asked own
    → Contains (with_uses asked held) own
into_with_uses [] held own (inl there) = there
into_with_uses [] held own (inr there) = absurd (contains_none own there)
into_with_uses (a ∷ more) held own h =
    into_with_uses more (if list_any (same_use a) held then held else inserted use_rank a held) own
    (by_cases (either_asked a own more held h))
  where
    by_cases : (Contains held own ⊎ (a ≡ own)) ⊎ Contains more own
        → Contains (if list_any (same_use a) held then held else inserted use_rank a held) own ⊎ Contains more own
    by_cases (inl one) = inl (into_one a own held one)
    by_cases (inr later) = inr later

pub out_of_with_uses : (asked held : List Use) (own : Use) → Contains (with_uses asked held) own
    → Contains held own ⊎ Contains asked own
out_of_with_uses [] held own h = inl h
out_of_with_uses (a ∷ more) held own h =
    by_cases (out_of_with_uses more (if list_any (same_use a) held then held else inserted use_rank a held) own h)
  where
    by_one : Contains held own ⊎ (a ≡ own) → Contains held own ⊎ Contains (a ∷ more) own
    by_one (inl there) = inl there
    by_one (inr same) = inr (subst (Contains (a ∷ more)) same (contains_first a more))

    by_cases : Contains (if list_any (same_use a) held then held else inserted use_rank a held) own ⊎ Contains more own
        → Contains held own ⊎ Contains (a ∷ more) own
    by_cases (inl there) = by_one (out_of_one a own held there)
    by_cases (inr later) = inr (contains_later a own more later)

-- ---- those of a run that starts

pub out_of_by_number : {A : Type 0} (number : A → ℕ) (xs : List A) (own : A) → Contains (by_number number xs) own
    → Contains xs own
out_of_by_number number [] own h = h
out_of_by_number number (x ∷ xs) own h =
    by_cases (λ later. out_of_by_number number xs own later) (out_of_inserted number x own (by_number number xs) h)
  where
    by_cases : (Contains (by_number number xs) own → Contains xs own) → (x ≡ own) ⊎ Contains (by_number number xs) own
        → Contains (x ∷ xs) own
    by_cases rest (inl same) = subst (Contains (x ∷ xs)) same (contains_first x xs)
    by_cases rest (inr later) = contains_later x own xs (rest later)

pub into_by_number : {A : Type 0} (number : A → ℕ) (xs : List A) (own : A) → Contains xs own
    → Contains (by_number number xs) own
into_by_number number [] own h = h
into_by_number number (x ∷ xs) own h =
    into_inserted number x own (by_number number xs)
    (elim (contains_cases x own xs h) [ inl same ↦ inl same | inr later ↦ inr (into_by_number number xs own later) ])
