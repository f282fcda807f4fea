-- Pages and the keys that they hold.
use Rattle.std.proofs.Common.{◌≡◌, ℕ, zero, suc, ◌+◌, ◌-◌, ◌<◌, ◌≤◌, false, append-nil, List, [], ◌∷◌, ◌++◌, map}
use Rattle.std.proofs.Common.{length, take, drop, get_or, sym, refl, ap, subst, ◌∙◌, arith}
use Rattle.std.specs.Prelude.{Result, Ok, Err, IfOk, IfErr}
use Rattle.std.specs.Result.{is_ok}
use Rattle.std.specs.List.{AllByRecursion, flat_map, insert, remove}
use Rattle.std.specs.List.Sorted.{IsStrictlySortedBy}
use Rattle.std.specs.declared.cmp.Ordering.TheVariants.{Less, Greater}
use Rattle.std.proofs.lemmas.List.{append_assoc, append_cancel_left, length-append, map-append, take-append-drop}
use Rattle.std.proofs.lemmas.List.Concat.{flat_map-append}
use Rattle.std.specs.List.{dedup}
use Rattle.std.specs.List.Sorted.{IsSorted, IsPermutation}
use Rattle.std.specs.List.Retain.{IsFiltered, DiffersFromLast}
use Rattle.std.specs.Ordering.{eq_by_cmp}
use Rattle.std.proofs.lemmas.List.{take_at}
use Rattle.std.proofs.lemmas.List.Filters.{dedup_is}
use Rattle.std.proofs.lemmas.List.Kept.{IsStrictlySortedBy-dedup}
use Rattle.std.proofs.lemmas.Map.Keys.{IsDistinct-from_sorted}
use Rattle.ent_lists.specs.Sets as set
use Rattle.ent_lists.specs.Laws.{len-distinct, ascending-from_list, is_sorted_from, ascending-from_sorted}
use Rattle.ent_lists.specs.Laws.{from_list-ascending}
use Rattle.ent_page.specs.Key.{key_cmp}
use Rattle.ent_page.specs.Layout.{Ascends, AreBelow, AreAbove}
use Rattle.ent_page.specs.Paged.{IsSized, AllBelow, AllAbove}
use Rattle.ent_lists.specs.Elements.{all_at, all_joined}
use Rattle.ent_lists.proofs.Lists.{all_take}
use Rattle.ent_page.proofs.Sorted.{keys_total, keys_exact, all_drop, sorted_back}
use Rattle.ent_page.proofs.Sorted.{sorted_front, sorted_below, sorted_above, sorted_put, sorted_cut, below_more}
use Rattle.ent_page.proofs.Sorted.{above_more, flip, ascends, below_taken, above_left, inserted_at, removed_at}
use Rattle.ent_page.proofs.Sorted.{taken_out, set_put, set_cut, absent, present}

head_is : (page : List (List ℕ)) → 0 < length page → page ≡ get_or page 0 [] ∷ drop 1 page
head_is [] h = absurd (omega arith)
head_is (k ∷ ks) h = refl

pub nothing_there : {X : Type 0} (ps : List X) (at : ℕ) → (0 < length ps → at < length ps) → length ps ≤ at → ps ≡ []
nothing_there [] at range le = refl
nothing_there (p ∷ ps) at range le = absurd (let h : at < length (p ∷ ps) = range (omega arith) in omega arith)

module _ {X : Type 0} (f : X → List (List ℕ)) where
  abbrev pub Sized : List X → Type 0
  Sized ps = AllByRecursion (λ p. IsSized (f p)) ps

  flat_is : (ps : List X) → flat_map f ps ≡ flat_map (λ p. p) (map f ps)
  flat_is [] = refl
  flat_is (p ∷ ps) = ap (λ z. f p ++ z) (flat_is ps)

  to_sized : (ps : List X) → AllByRecursion IsSized (map f ps) → Sized ps
  to_sized [] h = tt
  to_sized (p ∷ ps) h = (h.0, to_sized ps h.1)

  from_sized : (ps : List X) → Sized ps → AllByRecursion IsSized (map f ps)
  from_sized [] h = tt
  from_sized (p ∷ ps) h = (h.0, from_sized ps h.1)

  -- pages that hold the same
  pub same_keys : (ps qs : List X) → map f ps ≡ map f qs → flat_map f ps ≡ flat_map f qs
  same_keys ps qs e = flat_is ps ∙ ap (flat_map (λ p. p)) e ∙ sym (flat_is qs)

  pub same_sizes : (ps qs : List X) → map f ps ≡ map f qs → Sized qs → Sized ps
  same_sizes ps qs e h =
      to_sized ps (subst (λ (zs : List (List (List ℕ))). AllByRecursion IsSized zs) (sym e) (from_sized qs h))

  pub copied : (new old ps given : List X) → old ≡ [] → given ≡ ps → map f new ≡ map f old ++ map f given
      → map f new ≡ map f ps
  copied new old ps given none same e = e ∙ (λ i. map f (none i) ++ map f (same i))

  joined_up : (a b c d e x y z : List X) → a ≡ [] → map f b ≡ map f a ++ map f x → map f c ≡ map f b ++ map f y
      → map f d ≡ map f c ++ map f z → map f d ≡ map f (x ++ (y ++ z))
  joined_up a b c d e x y z none p q r =
      r ∙ ap (λ m. m ++ map f z) (q ∙ ap (λ m. m ++ map f y) (p ∙ ap (λ m. map f m ++ map f x) none))
      ∙ append_assoc (map f x) (map f y) (map f z) ∙ ap (λ m. map f x ++ m) (sym (map-append f y z))
      ∙ sym (map-append f x (y ++ z))

  pub spliced_keys : (a b c d x y z others : List X) → a ≡ [] → y ≡ others → map f b ≡ map f a ++ map f x
      → map f c ≡ map f b ++ map f y → map f d ≡ map f c ++ map f z
      → flat_map f d ≡ flat_map f x ++ (flat_map f others ++ flat_map f z)
  spliced_keys a b c d x y z others none same p q r =
      same_keys d (x ++ (y ++ z)) (joined_up a b c d [] x y z none p q r) ∙ flat_map-append f x (y ++ z)
      ∙ ap (λ m. flat_map f x ++ m) (flat_map-append f y z)
      ∙ ap (λ m. flat_map f x ++ (flat_map f m ++ flat_map f z)) same

  pub spliced_sizes : (a b c d ps y others : List X) (from to : ℕ) → a ≡ [] → y ≡ others
      → map f b ≡ map f a ++ map f (take from ps) → map f c ≡ map f b ++ map f y
      → map f d ≡ map f c ++ map f (drop to ps) → Sized ps → Sized others → Sized d
  spliced_sizes a b c d ps y others from to none same p q r h k =
      let P = λ (x : X). IsSized (f x) in
      same_sizes d (take from ps ++ (y ++ drop to ps)) (joined_up a b c d [] (take from ps) y (drop to ps) none p q r)
      (all_joined P (take from ps) (y ++ drop to ps) (all_take P from ps h)
      (all_joined P y (drop to ps) (subst (λ (zs : List X). Sized zs) (sym same) k) (all_drop P to ps h)))

  pub flat_from : (ps : List X) (i : ℕ) (x : X) → i < length ps → x ≡ get_or ps i x
      → flat_map f (drop i ps) ≡ f x ++ flat_map f (drop (i + 1) ps)
  flat_from [] i x lt is = absurd (omega arith)
  flat_from (p ∷ ps) zero x lt is = ap (λ z. f z ++ flat_map f ps) (sym is)
  flat_from (p ∷ ps) (suc i) x lt is = flat_from ps i x (omega arith) is
      ∙ ap (λ n. f x ++ flat_map f (drop n (p ∷ ps))) (let e : suc (i + 1) ≡ suc i + 1 = omega arith in e)

  pub flat_parts : (ps : List X) (i : ℕ) → flat_map f ps ≡ flat_map f (take i ps) ++ flat_map f (drop i ps)
  flat_parts ps i = ap (flat_map f) (sym (take-append-drop i ps)) ∙ flat_map-append f (take i ps) (drop i ps)

  pub flat_at : (ps : List X) (i : ℕ) (x : X) → i < length ps → x ≡ get_or ps i x
      → flat_map f ps ≡ flat_map f (take i ps) ++ (f x ++ flat_map f (drop (i + 1) ps))
  flat_at ps i x lt is = flat_parts ps i ∙ ap (λ z. flat_map f (take i ps) ++ z) (flat_from ps i x lt is)

  pub count_within : (ps : List X) (i : ℕ) (x : X) → i < length ps → x ≡ get_or ps i x
      → length (flat_map f (take i ps)) + length (f x) ≤ length (flat_map f ps)
  count_within ps i x lt is =
      omega (
        arith,
        ap length (flat_at ps i x lt is),
        length-append (flat_map f (take i ps)) (f x ++ flat_map f (drop (i + 1) ps)),
        length-append (f x) (flat_map f (drop (i + 1) ps)),
      )

  pub two_at : (ps : List X) (i : ℕ) (y : X) (page : List (List ℕ)) → i + 1 < length ps → y ≡ get_or ps (i + 1) y
      → page ++ flat_map f (drop (i + 1) ps) ≡ (page ++ f y) ++ flat_map f (drop (i + 2) ps)
  two_at ps i y page lt is =
      ap (λ z. page ++ z) (flat_from ps (i + 1) y lt is
      ∙ ap (λ n. f y ++ flat_map f (drop n ps)) (let e : i + 1 + 1 ≡ i + 2 = omega arith in e))
      ∙ sym (append_assoc page (f y) (flat_map f (drop (i + 2) ps)))

  take_last : (ps : List X) (n : ℕ) (y : X) → n < length ps → y ≡ get_or ps n y → take (n + 1) ps ≡ take n ps ++ y ∷ []
  take_last [] n y lt is = absurd (omega arith)
  take_last (p ∷ ps) zero y lt is = ap (λ z. z ∷ []) (sym is)
  take_last (p ∷ ps) (suc n) y lt is =
      ap (λ m. take m (p ∷ ps)) (let e : suc n + 1 ≡ suc (n + 1) = omega arith in e)
      ∙ ap (λ z. p ∷ z) (take_last ps n y (omega arith) is)

  -- a page joined with the one before it
  pub before_at : (ps : List X) (at : ℕ) (y : X) (page others rest : List (List ℕ)) → 0 < at → at ≤ length ps
      → y ≡ get_or ps (at - 1) y → others ≡ f y ++ page
      → flat_map f (take (at - 1) ps) ++ (others ++ rest) ≡ flat_map f (take at ps) ++ (page ++ rest)
  before_at ps at y page others rest more le is e =
      let n : at - 1 + 1 ≡ at = omega arith in
      let all : flat_map f (take at ps) ≡ flat_map f (take (at - 1) ps) ++ f y =
      ap (λ m. flat_map f (take m ps)) (sym n)
      ∙ ap (flat_map f) (take_last ps (at - 1) y (omega arith) is) ∙ flat_map-append f (take (at - 1) ps) (y ∷ [])
      ∙ ap (λ z. flat_map f (take (at - 1) ps) ++ z) (append-nil (f y)) in
      ap (λ z. flat_map f (take (at - 1) ps) ++ (z ++ rest)) e
      ∙ ap (λ z. flat_map f (take (at - 1) ps) ++ z) (append_assoc (f y) page rest)
      ∙ sym (append_assoc (flat_map f (take (at - 1) ps)) (f y) (page ++ rest))
      ∙ ap (λ z. z ++ (page ++ rest)) (sym all)

  -- two lists of pages go on alike where they go on alike behind pages that hold the same
  pub same_step : (ps qs : List X) (i : ℕ) (x y : X) → i < length ps → i < length qs → x ≡ get_or ps i x
      → y ≡ get_or qs i y → f x ≡ f y → (whole : Type 0)
      → ((flat_map f (drop i ps) ≡ flat_map f (drop i qs) → whole) ×
      (whole → flat_map f (drop i ps) ≡ flat_map f (drop i qs)))
      → ((flat_map f (drop (i + 1) ps) ≡ flat_map f (drop (i + 1) qs) → whole) ×
      (whole → flat_map f (drop (i + 1) ps) ≡ flat_map f (drop (i + 1) qs)))
  same_step ps qs i x y lp lq xp yq e whole h = (
    λ r. h.0 (flat_from ps i x lp xp ∙ (λ j. e j ++ r j) ∙ sym (flat_from qs i y lq yq)),
    λ w. append_cancel_left (f x) (flat_map f (drop (i + 1) ps)) (flat_map f (drop (i + 1) qs)) (
        sym (flat_from ps i x lp xp) ∙ h.1 w ∙ flat_from qs i y lq yq
        ∙ ap (λ z. z ++ flat_map f (drop (i + 1) qs)) (sym e)),
  )

  -- ---- a page whose first key is compared with another

  module _ (ps : List X) (mid : ℕ) (x : X) (key : List ℕ) (lt : mid < length ps) (is : x ≡ get_or ps mid x)
      (sized : Sized ps) (sorted : IsStrictlySortedBy key_cmp (flat_map f ps)) where
    first : List ℕ
    first = get_or (f x) 0 []

    unfolds : flat_map f ps ≡ flat_map f (take mid ps) ++
        (get_or (f x) 0 [] ∷ (drop 1 (f x) ++ flat_map f (drop (mid + 1) ps)))
    unfolds = flat_at ps mid x lt is
        ∙ ap (λ z. flat_map f (take mid ps) ++ (z ++ flat_map f (drop (mid + 1) ps)))
        (head_is (f x) (all_at (λ p. IsSized (f p)) ps mid x sized lt is).0)

    in_order : IsStrictlySortedBy key_cmp
        (flat_map f (take mid ps) ++ (get_or (f x) 0 [] ∷ (drop 1 (f x) ++ flat_map f (drop (mid + 1) ps))))
    in_order = subst (IsStrictlySortedBy key_cmp) unfolds sorted

    pub below_step : (key_cmp (get_or (f x) 0 []) key ≡ Greater → ⊥) → AllBelow (flat_map f (take mid ps)) key
    below_step not_above =
        below_more (flat_map f (take mid ps)) (get_or (f x) 0 []) key
        (sorted_below (flat_map f (take mid ps)) (drop 1 (f x) ++ flat_map f (drop (mid + 1) ps))
        (get_or (f x) 0 []) in_order) not_above

    pub above_step : key_cmp (get_or (f x) 0 []) key ≡ Greater → AllAbove (flat_map f (drop mid ps)) key
    above_step more =
        let rest = drop 1 (f x) ++ flat_map f (drop (mid + 1) ps) in
        let less = flip (get_or (f x) 0 []) key more in
        let all : AllAbove (get_or (f x) 0 [] ∷ (drop 1 (f x) ++ flat_map f (drop (mid + 1) ps))) key = (
          less,
          above_more rest (get_or (f x) 0 []) key
              (sorted_above rest (get_or (f x) 0 [])
              (sorted_back (flat_map f (take mid ps)) (get_or (f x) 0 [] ∷ rest) in_order)) less,
        ) in
        subst (λ (zs : List (List ℕ)). AllAbove zs key)
        (sym (flat_from ps mid x lt is
        ∙ ap (λ z. z ++ flat_map f (drop (mid + 1) ps))
        (head_is (f x) (all_at (λ p. IsSized (f p)) ps mid x sized lt is).0))) all

  pub above_next : (ps : List X) (n : ℕ) (key : List ℕ) → AllAbove (flat_map f (drop n ps)) key
      → AllAbove (flat_map f (drop (n + 1) ps)) key
  above_next [] zero key h = tt
  above_next [] (suc n) key h =
      subst (λ (m : ℕ). AllAbove (flat_map f (drop m [])) key) (let e : suc (n + 1) ≡ suc n + 1 = omega arith in e) tt
  above_next (p ∷ ps) zero key h = all_rest (f p) (flat_map f ps) h
    where
      all_rest : (xs ys : List (List ℕ)) → AllAbove (xs ++ ys) key → AllAbove ys key
      all_rest [] ys h = h
      all_rest (x ∷ xs) ys h = all_rest xs ys h.1
  above_next (p ∷ ps) (suc n) key h =
      subst (λ (m : ℕ). AllAbove (flat_map f (drop m (p ∷ ps))) key)
      (let e : suc (n + 1) ≡ suc n + 1 = omega arith in e) (above_next ps n key h)

  -- ---- a key and the page where it stands, or would stand

  module _ (ps : List X) (at : ℕ) (x : X) (key : List ℕ) (lt : at < length ps) (is : x ≡ get_or ps at x)
      (sorted : IsStrictlySortedBy key_cmp (flat_map f ps)) where
    pub page_sorted : IsStrictlySortedBy key_cmp (f x)
    page_sorted =
        sorted_front (f x) (flat_map f (drop (at + 1) ps))
        (sorted_back (flat_map f (take at ps)) (f x ++ flat_map f (drop (at + 1) ps))
        (subst (IsStrictlySortedBy key_cmp) (flat_at ps at x lt is) sorted))

    pub found_at : (i : ℕ) → i < length (f x) → get_or (f x) i [] ≡ key
        → flat_map f ps ≡ (flat_map f (take at ps) ++ take i (f x)) ++ key ∷
        (drop (i + 1) (f x) ++ flat_map f (drop (at + 1) ps))
    found_at i within here =
        flat_at ps at x lt is
        ∙ ap (λ z. flat_map f (take at ps) ++ (z ++ flat_map f (drop (at + 1) ps)))
        (taken_out (f x) i key within here)
        ∙ ap (λ z. flat_map f (take at ps) ++ z)
        (append_assoc (take i (f x)) (key ∷ drop (i + 1) (f x)) (flat_map f (drop (at + 1) ps)))
        ∙ sym (append_assoc (flat_map f (take at ps)) (take i (f x))
        (key ∷ (drop (i + 1) (f x) ++ flat_map f (drop (at + 1) ps))))

    pub gap_at : (i : ℕ)
        → flat_map f ps ≡ (flat_map f (take at ps) ++ take i (f x)) ++ (drop i (f x) ++ flat_map f (drop (at + 1) ps))
    gap_at i =
        flat_at ps at x lt is
        ∙ ap (λ z. flat_map f (take at ps) ++ (z ++ flat_map f (drop (at + 1) ps))) (sym (take-append-drop i (f x)))
        ∙ ap (λ z. flat_map f (take at ps) ++ z)
        (append_assoc (take i (f x)) (drop i (f x)) (flat_map f (drop (at + 1) ps)))
        ∙ sym (append_assoc (flat_map f (take at ps)) (take i (f x)) (drop i (f x) ++ flat_map f (drop (at + 1) ps)))

    module _ (below : AllBelow (flat_map f (take at ps)) key) (above : AllAbove (flat_map f (drop (at + 1) ps)) key)
      where
        pub gap_below : (i : ℕ) → i ≤ length (f x) → AreBelow (f x) key i
            → AllBelow (flat_map f (take at ps) ++ take i (f x)) key
        gap_below i le h = all_joined (λ k. key_cmp k key ≡ Less) (flat_map f (take at ps)) (take i (f x)) below
            (below_taken (f x) key i le h)

        pub gap_above : (i : ℕ) → AreAbove (f x) key i → AllAbove (drop i (f x) ++ flat_map f (drop (at + 1) ps)) key
        gap_above i h = all_joined (λ k. key_cmp key k ≡ Less) (drop i (f x)) (flat_map f (drop (at + 1) ps))
            (above_left (f x) key i h) above

        pub absent_at : (i : ℕ) → i ≤ length (f x) → AreBelow (f x) key i → AreAbove (f x) key i
            → set.contains (set.from_list {R = key_cmp} (flat_map f ps)) key ≡ false
        absent_at i le h k =
            ap (λ ks. set.contains (set.from_list {R = key_cmp} ks) key) (gap_at i)
            ∙ absent (flat_map f (take at ps) ++ take i (f x)) (drop i (f x) ++ flat_map f (drop (at + 1) ps)) key
            (gap_below i le h) (gap_above i k)

        pub contains_is : (r : Result ℕ ℕ) → IfOk r (λ i. (i < length (f x)) × (get_or (f x) i [] ≡ key))
            → IfErr r (λ i. i ≤ length (f x)) → IfErr r (λ i. Ascends (f x) → AreBelow (f x) key i)
            → IfErr r (λ i. Ascends (f x) → AreAbove (f x) key i)
            → is_ok r ≡ set.contains (set.from_list {R = key_cmp} (flat_map f ps)) key
        contains_is (Ok i) found range b a =
            sym (ap (λ ks. set.contains (set.from_list {R = key_cmp} ks) key) (found_at i found.0 found.1)
            ∙ present (flat_map f (take at ps) ++ take i (f x)) (drop (i + 1) (f x) ++ flat_map f (drop (at + 1) ps))
            key)
        contains_is (Err i) found range b a =
            sym (absent_at i range (b (ascends (f x) page_sorted)) (a (ascends (f x) page_sorted)))

        -- pages with the key put in
        module _ (i : ℕ) (le : i ≤ length (f x)) (b : AreBelow (f x) key i) (a : AreAbove (f x) key i)
            (others : List (List ℕ)) (new : List X)
            (made : flat_map f new ≡ flat_map f (take at ps) ++ (others ++ flat_map f (drop (at + 1) ps)))
            (grown : others ≡ insert (f x) i key) where
          put_keys : flat_map f new ≡ (flat_map f (take at ps) ++ take i (f x)) ++ key ∷
              (drop i (f x) ++ flat_map f (drop (at + 1) ps))
          put_keys =
              made ∙ ap (λ z. flat_map f (take at ps) ++ (z ++ flat_map f (drop (at + 1) ps)))
              (grown ∙ inserted_at (f x) i key le)
              ∙ ap (λ z. flat_map f (take at ps) ++ z)
              (append_assoc (take i (f x)) (key ∷ drop i (f x)) (flat_map f (drop (at + 1) ps)))
              ∙ sym (append_assoc (flat_map f (take at ps)) (take i (f x))
              (key ∷ (drop i (f x) ++ flat_map f (drop (at + 1) ps))))

          pub put_sorted : IsStrictlySortedBy key_cmp (flat_map f new)
          put_sorted =
              let l = flat_map f (take at ps) ++ take i (f x) in
              let r = drop i (f x) ++ flat_map f (drop (at + 1) ps) in
              subst (IsStrictlySortedBy key_cmp) (sym put_keys)
              (sorted_put l r key (subst (IsStrictlySortedBy key_cmp) (gap_at i) sorted) (gap_below i le b)
              (gap_above i a))

          pub put_set : set.from_list {R = key_cmp} (flat_map f new) ≡ set.insert (set.from_list (flat_map f ps)) key
          put_set =
              let l = flat_map f (take at ps) ++ take i (f x) in
              let r = drop i (f x) ++ flat_map f (drop (at + 1) ps) in
              ap (λ ks. set.from_list {R = key_cmp} ks) put_keys ∙ set_put l r key
              ∙ ap (λ ks. set.insert (set.from_list {R = key_cmp} ks) key) (sym (gap_at i))

          pub put_length : length (flat_map f new) ≡ length (flat_map f ps) + 1
          put_length =
              let l = flat_map f (take at ps) ++ take i (f x) in
              let r = drop i (f x) ++ flat_map f (drop (at + 1) ps) in
              omega (arith, ap length put_keys, ap length (gap_at i), length-append l (key ∷ r), length-append l r)

    -- pages with the key taken out
    module _ (i : ℕ) (within : i < length (f x)) (here : get_or (f x) i [] ≡ key) (others : List (List ℕ))
        (new : List X) (made : flat_map f new ≡ flat_map f (take at ps) ++ (others ++ flat_map f (drop (at + 1) ps)))
        (less : others ≡ remove (f x) i) where
      cut_keys : flat_map f new ≡ (flat_map f (take at ps) ++ take i (f x)) ++
          (drop (i + 1) (f x) ++ flat_map f (drop (at + 1) ps))
      cut_keys =
          made ∙ ap (λ z. flat_map f (take at ps) ++ (z ++ flat_map f (drop (at + 1) ps)))
          (less ∙ removed_at (f x) i within)
          ∙ ap (λ z. flat_map f (take at ps) ++ z)
          (append_assoc (take i (f x)) (drop (i + 1) (f x)) (flat_map f (drop (at + 1) ps)))
          ∙ sym (append_assoc (flat_map f (take at ps)) (take i (f x))
          (drop (i + 1) (f x) ++ flat_map f (drop (at + 1) ps)))

      pub cut_sorted : IsStrictlySortedBy key_cmp (flat_map f new)
      cut_sorted =
          subst (IsStrictlySortedBy key_cmp) (sym cut_keys)
          (sorted_cut (flat_map f (take at ps) ++ take i (f x))
          (drop (i + 1) (f x) ++ flat_map f (drop (at + 1) ps)) key
          (subst (IsStrictlySortedBy key_cmp) (found_at i within here) sorted))

      pub cut_set : set.from_list {R = key_cmp} (flat_map f new) ≡ set.without_all (set.from_list (flat_map f ps))
          (key ∷ [])
      cut_set =
          ap (λ ks. set.from_list {R = key_cmp} ks) cut_keys
          ∙ set_cut (flat_map f (take at ps) ++ take i (f x)) (drop (i + 1) (f x) ++ flat_map f (drop (at + 1) ps)) key
          (subst (IsStrictlySortedBy key_cmp) (found_at i within here) sorted)
          ∙ ap (λ ks. set.without_all (set.from_list {R = key_cmp} ks) (key ∷ [])) (sym (found_at i within here))

      pub cut_length : length (flat_map f ps) ≡ length (flat_map f new) + 1
      cut_length =
          let l = flat_map f (take at ps) ++ take i (f x) in
          let r = drop (i + 1) (f x) ++ flat_map f (drop (at + 1) ps) in
          omega (
            arith,
            ap length cut_keys,
            ap length (found_at i within here),
            length-append l
                (key ∷ r),
            length-append l r,
          )

-- what search tells of one key, whatever it answers

pub count_set : (keys : List (List ℕ)) → IsStrictlySortedBy key_cmp keys
    → set.len (set.from_list {R = key_cmp} keys) ≡ length keys
count_set keys sorted = len-distinct keys_total keys_exact keys (IsDistinct-from_sorted key_cmp keys sorted)

pub ascending_is : (keys : List (List ℕ)) → IsStrictlySortedBy key_cmp keys
    → set.ascending (set.from_list {R = key_cmp} keys) ≡ keys
ascending_is keys sorted = ascending-from_list keys_total keys_exact keys (is_sorted_from key_cmp keys sorted)

-- ---- keys put in order

pub moved_from : (xs given ys : List (List ℕ)) → given ≡ xs → IsPermutation given ys → IsPermutation xs ys
moved_from xs given ys e moved =
    let P : List (List ℕ) → Type 0 = λ keys. IsPermutation keys ys in
    subst P e moved

pub deduped : (n : ℕ) (ys old zs : List (List ℕ)) → length ys ≡ n
    → IsFiltered (DiffersFromLast (eq_by_cmp key_cmp)) [] (take n (ys ++ drop (length ys) old)) zs
    → zs ≡ dedup (eq_by_cmp key_cmp) ys
deduped n ys old zs e left = dedup_is (eq_by_cmp key_cmp) _ zs left
    ∙ ap (dedup (eq_by_cmp key_cmp)) (take_at ys (drop (length ys) old) n e)

module _ (xs ys zs : List (List ℕ)) (moved : IsPermutation xs ys) (sorted : IsSorted key_cmp ys)
    (e : zs ≡ dedup (eq_by_cmp key_cmp) ys) where
  pub loaded_sorted : IsStrictlySortedBy key_cmp zs
  loaded_sorted = rw e (IsStrictlySortedBy-dedup keys_total (λ x y. refl) ys sorted)

  pub loaded_set : set.from_list {R = key_cmp} zs ≡ set.from_list xs
  loaded_set =
      ap (λ keys. set.from_list {R = key_cmp} keys) (e ∙ ascending-from_sorted keys_total keys_exact xs ys moved sorted)
      ∙ from_list-ascending keys_total keys_exact (set.from_list {R = key_cmp} xs)
