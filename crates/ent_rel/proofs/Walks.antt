-- Rows of a walk, taken one after another.
use Rattle.std.proofs.Common.{◌≡◌, Bool, true, false, cond, List, [], ◌∷◌, ◌++◌, refl, sym, ap, subst, ◌∙◌}
use Rattle.std.proofs.Common.{append_assoc, inl, inr}
use Rattle.std.specs.List.{filter, Contains, AllByRecursion}
use Rattle.std.proofs.lemmas.List.Elements.{recursion_from_All, All-contains_itself}
use Rattle.ent_value.specs.declared.value.Value.{Value}
use Rattle.ent_rel.specs.Part.{IsPart}

abbrev Rows : Type 0
Rows = List (List Value)

module _ (all old new found : Rows) (row : List Value) (is : old ≡ row ∷ new) where
  pub walk_kept : (passes : List Value → Bool) → passes row ≡ true → found ++ filter passes old ≡ filter passes all
      → (found ++ row ∷ []) ++ filter passes new ≡ filter passes all
  walk_kept passes so before =
      append_assoc found (row ∷ []) (filter passes new)
      ∙ ap (λ b. found ++ cond b (row ∷ filter passes new) (filter passes new)) (sym so)
      ∙ ap (λ rows. found ++ filter passes rows) (sym is) ∙ before

  pub walk_left : (passes : List Value → Bool) → passes row ≡ false → found ++ filter passes old ≡ filter passes all
      → found ++ filter passes new ≡ filter passes all
  walk_left passes so before =
      ap (λ b. found ++ cond b (row ∷ filter passes new) (filter passes new)) (sym so)
      ∙ ap (λ rows. found ++ filter passes rows) (sym is) ∙ before

  pub walk_part_kept : ((rest : Rows) → IsPart old rest → IsPart all (found ++ rest)) → (rest : Rows)
      → IsPart new rest → IsPart all ((found ++ row ∷ []) ++ rest)
  walk_part_kept before rest h =
      let P : Rows → Type 0 = λ rows. IsPart rows (row ∷ rest) in
      let Q : Rows → Type 0 = λ rows. IsPart all rows in
      let here : IsPart (row ∷ new) (row ∷ rest) = inr (rest, refl, h) in
      subst Q (sym (append_assoc found (row ∷ []) rest)) (before (row ∷ rest) (subst P (sym is) here))

  pub walk_part_left : ((rest : Rows) → IsPart old rest → IsPart all (found ++ rest)) → (rest : Rows)
      → IsPart new rest → IsPart all (found ++ rest)
  walk_part_left before rest h =
      let P : Rows → Type 0 = λ rows. IsPart rows rest in
      let here : IsPart (row ∷ new) rest = inl h in
      before rest (subst P (sym is) here)

  pub walk_next : AllByRecursion (Contains all) old → Contains all row × AllByRecursion (Contains all) new
  walk_next there = subst (AllByRecursion (Contains all)) is there

pub walk_starts : (all : Rows) → AllByRecursion (Contains all) all
walk_starts all = recursion_from_All (Contains all) all (All-contains_itself all)
