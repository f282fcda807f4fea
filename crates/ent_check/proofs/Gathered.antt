-- Offers are put to their joint answers.
use Rattle.std.proofs.Common.{◌≡◌, ℕ, Bool, true, false, cond, ◌==◌, List, [], ◌∷◌, ◌++◌, refl, sym, ap, ◌∙◌}
use Rattle.std.proofs.Common.{append-nil, arith, Some, None}
use Rattle.std.specs.BTreeMap.{BTreeMap, get}
use Rattle.std.specs.Cmp.{unsigned_tied}
use Rattle.std.specs.List.{filter}
use Rattle.std.specs.Ordering.{is_eq, nat_cmp}
use Rattle.ent_check.specs.Offers.{AreJoined, offers_of, offers_there}
use Rattle.ent_check.specs.declared.offer.StatementOffer.{StatementOffer}

filter_more : (b : StatementOffer → Bool) (offers : List StatementOffer) (offer : StatementOffer)
    → filter b (offers ++ offer ∷ []) ≡ filter b offers ++ cond (b offer) (offer ∷ []) []
filter_more b [] offer = by (b offer)
  where
    by : (t : Bool) → cond t (offer ∷ []) [] ≡ cond t (offer ∷ []) []
    by t = refl
filter_more b (x ∷ xs) offer = by (b x) (filter_more b xs offer)
  where
    by : (t : Bool) → filter b (xs ++ offer ∷ []) ≡ filter b xs ++ cond (b offer) (offer ∷ []) []
        → cond t (x ∷ filter b (xs ++ offer ∷ [])) (filter b (xs ++ offer ∷ []))
        ≡ cond t (x ∷ filter b xs) (filter b xs) ++ cond (b offer) (offer ∷ []) []
    by true rest = ap (λ ys. x ∷ ys) rest
    by false rest = rest

module _ (own : StatementOffer → ℕ) (offers : List StatementOffer) (offer : StatementOffer) (joint : ℕ)
    (is : own offer ≡ joint) (old left new : BTreeMap ℕ (List StatementOffer)) (are : AreJoined own offers old) where
  -- under the number of the joint answer stands one more, and under others what stood there
  there : (q : ℕ) (t : Bool) → (t ≡ true → joint ≡ q)
      → offers_there (cond t (Some (offers_there (get nat_cmp old joint) ++ offer ∷ []))
      (cond t None (get nat_cmp old q)))
      ≡ offers_of own q offers ++ cond t (offer ∷ []) []
  there q true same =
      ap (λ xs. xs ++ offer ∷ []) (are joint) ∙ ap (λ n. offers_of own n offers ++ offer ∷ []) (same refl)
  there q false same = are q ∙ sym (append-nil (offers_of own q offers))

  pub joined_more : ((q : ℕ) → get nat_cmp left q ≡ cond (is_eq (nat_cmp joint q)) None (get nat_cmp old q))
      → ((q : ℕ) → get nat_cmp new q
      ≡ cond (is_eq (nat_cmp joint q)) (Some (offers_there (get nat_cmp old joint) ++ offer ∷ [])) (get nat_cmp left q))
      → AreJoined own (offers ++ offer ∷ []) new
  joined_more removed inserted q =
      ap offers_there (inserted q
      ∙ ap (cond (is_eq (nat_cmp joint q)) (Some (offers_there (get nat_cmp old joint) ++ offer ∷ []))) (removed q))
      ∙ ap (λ t. offers_there (cond t (Some (offers_there (get nat_cmp old joint) ++ offer ∷ []))
      (cond t None (get nat_cmp old q)))) (unsigned_tied joint q)
      ∙ there q (joint == q) (λ so. grind (arith, so))
      ∙ ap (λ n. offers_of own q offers ++ cond (n == q) (offer ∷ []) []) (sym is)
      ∙ sym (filter_more (λ (other : StatementOffer). own other == q) offers offer)
