-- Where no run is on and nothing is dormant, each script has one fate.
use Rattle.std.proofs.Common.{◌≡◌, ◌<◌, ◌≤◌, ◌+◌, inl, inr, ℕ, zero, suc, List, [], ◌∷◌, ◌++◌, map, length, refl}
use Rattle.std.proofs.Common.{sym, ap, subst, ◌∙◌, arith}
use Rattle.std.proofs.lemmas.List.{length-map}
use Rattle.std.specs.List.{AllByRecursion, range_with_len}
use Rattle.ent_semantics.specs.Database.{Database}
use Rattle.ent_semantics.specs.declared.book.Book.{Book}
use Rattle.ent_semantics.specs.declared.book.Fated.{Fated}
use Rattle.ent_protocol.specs.Reached.{IsFinished, book_of}
use Rattle.ent_protocol.specs.Run.{Forms}
use Rattle.ent_protocol.specs.State.{State, Dormant, by_number, members}
use Rattle.ent_protocol.specs.Tidy.{IsTidy}
use Rattle.ent_protocol_laws.specs.Standing.{StandOnce, standing}
use Rattle.ent_protocol_laws.specs.Fates.{HasOneFate, HaveFates}
use Rattle.ent_lists.specs.Elements.{In, Pairs, of_all, index_pairs, of_map, to_map, contains_in, in_contains}
use Rattle.ent_protocol_laws.specs.Numbered.{Apart, keys_apart, one_passes, from_by_number, to_by_number}
use Rattle.ent_protocol_laws.specs.Numbered.{by_number_ascends}
use Rattle.ent_protocol_laws.specs.Numbered.{keys_ascend}
use Rattle.ent_protocol_laws.proofs.Left.{tx_of}

abbrev fated_tx : Fated → ℕ
fated_tx fated = fated.tx

abbrev Lower : ℕ → ℕ → Type 0
Lower one other = one < other

-- numbers that ascend, and are just those of a range, are that range
module _ where
  behind_first : (a x : ℕ) (xs : List ℕ) → In a (x ∷ xs) → AllByRecursion (Lower x) xs → a ≤ x → x ≡ a
  behind_first a x xs (inl same) low least = sym same
  behind_first a x xs (inr at) low least =
      let less = of_all (Lower x) xs a low at in absurd (omega (arith, less, least))

  not_first : (k x : ℕ) (xs : List ℕ) → In k (x ∷ xs) → x < k → In k xs
  not_first k x xs (inl same) low = absurd (omega (arith, same, low))
  not_first k x xs (inr at) low = at

  pub is_range : (xs : List ℕ) (a n : ℕ) → Pairs Lower xs → ((k : ℕ) → In k xs → (a ≤ k) × (k < a + n))
      → ((k : ℕ) → a ≤ k → k < a + n → In k xs) → xs ≡ range_with_len a n
  is_range [] a zero ascend from to = refl
  is_range (x ∷ xs) a zero ascend from to =
      let r = from x (inl refl) in let low = r.0 in let high = r.1 in absurd (omega (arith, low, high))
  is_range [] a (suc n) ascend from to = absurd (to a (omega arith) (omega arith))
  is_range (x ∷ xs) a (suc n) ascend from to =
      let least : a ≤ x = (from x (inl refl)).0 in
      let same : x ≡ a = behind_first a x xs (to a (omega arith) (omega arith)) ascend.0 least in
      let rest = is_range xs (a + 1) n ascend.1
      (λ k at.
      let r = from k (inr at) in
      let high = r.1 in
      let less = of_all (Lower x) xs k ascend.0 at in (omega (arith, less, same), omega (arith, high)))
      (λ k low high.
      not_first k x xs (to k (omega (arith, low)) (omega (arith, high))) (omega (arith, low, same))) in
      λ i. same i ∷ rest i

-- ---- the fates of a state

module _ (s : State) (once : StandOnce s) (no_members : members s ≡ []) (none_dormant : s.dormant ≡ []) where
  fates_alone : standing s ≡ map fated_tx s.fates
  fates_alone = λ i. map tx_of (no_members i) ++ (map (λ (dormant : Dormant). dormant.tx) (none_dormant i)
      ++ map fated_tx s.fates)

  apart : Pairs (Apart fated_tx) s.fates
  apart =
      keys_apart fated_tx s.fates
      (subst (Pairs (λ (one other : ℕ). one ≡ other → ⊥)) fates_alone
      (index_pairs (λ (one other : ℕ). one ≡ other → ⊥) (standing s) once.distinct))

  has_fate : (tx : ℕ) → 1 ≤ tx → tx ≤ length s.submitted → (fated : Fated) × In fated s.fates × (fated.tx ≡ tx)
  has_fate tx low high =
      let at = contains_in (standing s) tx ((once.submitted tx).1 (low, high)) in
      let r = of_map fated_tx s.fates tx (subst (In tx) fates_alone at) in
      (r.0, r.1, sym r.2)

  of_script : (fated : Fated) → In fated s.fates → (1 ≤ fated.tx) × (fated.tx ≤ length s.submitted)
  of_script fated at =
      (once.submitted fated.tx).0
      (in_contains (standing s) fated.tx (subst (In fated.tx) (sym fates_alone) (to_map fated_tx s.fates fated at)))

  pub one_fate : (tx : ℕ) → 1 ≤ tx → tx ≤ length s.submitted → HasOneFate s.fates tx
  one_fate tx low high =
      let r = has_fate tx low high in (
        r.0.fate,
        one_passes fated_tx s.fates r.0 tx apart r.1 r.2
            ∙ ap (λ n. record { tx = n; fate = r.0.fate } ∷ []) r.2,
      )

  pub are_range : map fated_tx (by_number fated_tx s.fates) ≡ range_with_len 1 (length s.submitted)
  are_range =
      is_range (map fated_tx (by_number fated_tx s.fates)) 1 (length s.submitted)
      (keys_ascend fated_tx (by_number fated_tx s.fates) (by_number_ascends fated_tx s.fates apart))
      (λ k at.
      let r = of_map fated_tx (by_number fated_tx s.fates) k at in
      let q = of_script r.0 (from_by_number fated_tx s.fates r.0 r.1) in
      let low = q.0 in
      let high = q.1 in
      let own : k ≡ r.0.tx = r.2 in (omega (arith, low, own), omega (arith, high, own)))
      (λ k low high.
      let r = has_fate k low (omega (arith, high)) in
      subst (λ n. In n (map fated_tx (by_number fated_tx s.fates))) r.2
      (to_map fated_tx (by_number fated_tx s.fates) r.0 (to_by_number fated_tx s.fates r.0 r.1)))

-- ---- finished states and books

module _ {F : Type 0} (forms : Forms F) where
  nobody : (s : State) → IsFinished forms s → IsTidy s → members s ≡ []
  nobody s finished tidy =
      λ i. tidy.no_prepared finished.no_run i ++ tidy.no_active finished.no_run i

  pub state_fate : (s : State) (tx : ℕ) → IsFinished forms s → StandOnce s → IsTidy s → 1 ≤ tx
      → tx ≤ length s.submitted → HasOneFate s.fates tx
  state_fate s tx finished once tidy low high =
      one_fate s once (nobody s finished tidy) finished.none_dormant tx low high

  pub book_fates : (s : State) → IsFinished forms s → StandOnce s → IsTidy s → HaveFates (book_of s)
  book_fates s finished once tidy =
      are_range s once (nobody s finished tidy) finished.none_dormant
      ∙ ap (range_with_len 1) (sym (length-map s.submitted (λ own. own.script)))

  pub finished_fates : (book : Book Database) (s : State) → book ≡ book_of s → HaveFates (book_of s) → HaveFates book
  finished_fates book s is h = subst HaveFates (sym is) h
