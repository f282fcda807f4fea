-- Which statements members of joint answers may be: their transactions are found by number.
use Rattle.std.proofs.Common.{◌≡◌, ℕ, zero, suc, ◌+◌, ◌<◌, ◌≤◌, Bool, true, false, ◌&&◌, ◌||◌, ◌==◌, List, [], ◌∷◌}
use Rattle.std.proofs.Common.{length, refl, sym, ap, subst, ◌∙◌, arith, is_some, slice_index_or, min}
use Rattle.std.specs.List.{list_any}
use Rattle.ent_lists.specs.Elements.{number_itself}
use Rattle.ent_lists.proofs.Numbers.{eq_above}
use Rattle.ent_tree.specs.declared.script.Script.{Script}
use Rattle.ent_semantics.specs.declared.book.Member.{Member}
use Rattle.ent_semantics.specs.Serial.{numbered}
use Rattle.ent_history.specs.declared.history.Told.{Told}
use Rattle.ent_history.specs.Account.{accounts_from, commit_number}
use Rattle.ent_history.specs.Joint.{is_entangled_one, is_statement_of}

below : (m n : ℕ) → m < n → (m == n) ≡ false
below m n less = grind (arith, less)

module _ (member : Member) where
  abbrev own : Script → Told → Bool
  own script told =
      is_some (commit_number told.fate) && is_entangled_one (numbered script.statements member.place)

  -- no later transaction has the member's number
  pub none_later : (tx : ℕ) (scripts : List Script) (told : List Told) → member.tx < tx
      → list_any (is_statement_of member) (accounts_from tx scripts told) ≡ false
  none_later tx [] told less = refl
  none_later tx (x ∷ xs) [] less = refl
  none_later tx (x ∷ xs) (y ∷ ys) less =
      ap (λ b. (b && own x y) || list_any (is_statement_of member) (accounts_from (suc tx) xs ys))
      (eq_above tx member.tx less)
      ∙ none_later (suc tx) xs ys (omega (arith, less))

  -- nor one of so few
  pub none_of_few : (tx : ℕ) (scripts : List Script) (told : List Told)
      → tx + min (length scripts) (length told) ≤ member.tx
      → list_any (is_statement_of member) (accounts_from tx scripts told) ≡ false
  none_of_few tx [] told many = refl
  none_of_few tx (x ∷ xs) [] many = refl
  none_of_few tx (x ∷ xs) (y ∷ ys) many =
      ap (λ b. (b && own x y) || list_any (is_statement_of member) (accounts_from (suc tx) xs ys))
      (below tx member.tx (omega (arith, many)))
      ∙ none_of_few (suc tx) xs ys (omega (arith, many))

  or_false : (a b : Bool) → b ≡ false → ((true && a) || b) ≡ a
  or_false true b is = refl
  or_false false b is = is

  -- the transaction of the member's number decides
  pub decided : (tx i : ℕ) (scripts : List Script) (told : List Told) (s : Script) (t : Told) → i < length scripts
      → i < length told → member.tx ≡ tx + i
      → list_any (is_statement_of member) (accounts_from tx scripts told)
      ≡ own (slice_index_or scripts i s) (slice_index_or told i t)
  decided tx i [] told s t low low_told is = absurd (omega (arith, low))
  decided tx i (x ∷ xs) [] s t low low_told is = absurd (omega (arith, low_told))
  decided tx zero (x ∷ xs) (y ∷ ys) s t low low_told is =
      let n : tx ≡ member.tx = omega (arith, is) in
      let first : (tx == member.tx) ≡ true = subst (λ k. (tx == k) ≡ true) n (number_itself tx) in
      ap (λ b. (b && own x y) || list_any (is_statement_of member) (accounts_from (suc tx) xs ys)) first
      ∙ or_false (own x y) (list_any (is_statement_of member) (accounts_from (suc tx) xs ys))
      (none_later (suc tx) xs ys (omega (arith, is)))
  decided tx (suc i) (x ∷ xs) (y ∷ ys) s t low low_told is =
      ap (λ b. (b && own x y) || list_any (is_statement_of member) (accounts_from (suc tx) xs ys))
      (below tx member.tx (omega (arith, is)))
      ∙ decided (suc tx) i xs ys s t (omega (arith, low)) (omega (arith, low_told)) (omega (arith, is))

  pub decided_here : (i : ℕ) (scripts : List Script) (told : List Told) (s : Script) (t : Told) → i < length scripts
      → i < length told → member.tx ≡ 1 + i → s ≡ slice_index_or scripts i s → t ≡ slice_index_or told i t
      → list_any (is_statement_of member) (accounts_from 1 scripts told)
      ≡ (is_some (commit_number t.fate) && is_entangled_one (numbered s.statements member.place))
  decided_here i scripts told s t low low_told is at_s at_t =
      decided 1 i scripts told s t low low_told is
      ∙ ap (λ x. own x (slice_index_or told i t)) (sym at_s)
      ∙ ap (λ x. own s x) (sym at_t)
