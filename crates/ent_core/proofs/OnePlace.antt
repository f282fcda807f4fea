-- A transaction stands in one place: who is a member isn't dormant and has no fate.
use Rattle.std.proofs.Common.{◌≡◌, ◌≤◌, ◌+◌, ◌==◌, ◌||◌, ◌∙◌, ℕ, Bool, true, false, cond, List, [], ◌∷◌, ◌++◌, map}
use Rattle.std.proofs.Common.{refl, ap, arith, Some}
use Rattle.std.proofs.lemmas.List.{map-append}
use Rattle.std.specs.List.{filter, list_any}
use Rattle.ent_semantics.specs.declared.book.Fated.{Fated}
use Rattle.ent_members.specs.Order.{tx_of}
use Rattle.ent_protocol.specs.Member.{is_tx}
use Rattle.ent_protocol.specs.State.{State, Dormant, Member, first_of, members}
use Rattle.ent_protocol_laws.specs.Standing.{StandOnce, standing}
use Rattle.ent_protocol_laws.proofs.Times.{one_if, times, times_joined}
use Rattle.ent_core.proofs.Sorted.{distinct_if_apart, once}

-- ---- how often a number stands among the numbers of a list

number_there : {A : Type 0} (number : A → ℕ) (tx : ℕ) (xs : List A) (x : A)
    → Some x ≡ first_of (filter (λ one. number one == tx) xs) → 1 ≤ times tx (map number xs)
number_there number tx [] x e = absurd cc
number_there {A} number tx (y ∷ ys) x e = by (number y == tx) e (number_there number tx ys x)
  where
    by : (b : Bool)
        → Some x ≡ first_of (cond b (y ∷ filter (λ one. number one == tx) ys) (filter (λ one. number one == tx) ys))
        → (Some x ≡ first_of (filter (λ one. number one == tx) ys) → 1 ≤ times tx (map number ys))
        → 1 ≤ one_if b (times tx (map number ys))
    by true e rest = omega arith
    by false e rest = rest e

any_there : (tx : ℕ) (ms : List Member) → list_any (is_tx tx) ms ≡ true → 1 ≤ times tx (map tx_of ms)
any_there tx [] e = absurd cc
any_there tx (m ∷ ms) e = by (is_tx tx m) e (any_there tx ms)
  where
    by : (b : Bool) → (b || list_any (is_tx tx) ms) ≡ true
        → (list_any (is_tx tx) ms ≡ true → 1 ≤ times tx (map tx_of ms)) → 1 ≤ one_if b (times tx (map tx_of ms))
    by true e rest = omega arith
    by false e rest = rest e

nobody_there : {A : Type 0} (number : A → ℕ) (tx : ℕ) (xs : List A) → times tx (map number xs) ≤ 0
    → filter (λ one. number one == tx) xs ≡ []
nobody_there number tx [] low = refl
nobody_there {A} number tx (x ∷ xs) low = by (number x == tx) low (nobody_there number tx xs)
  where
    by : (b : Bool) → one_if b (times tx (map number xs)) ≤ 0
        → (times tx (map number xs) ≤ 0 → filter (λ one. number one == tx) xs ≡ [])
        → cond b (x ∷ filter (λ one. number one == tx) xs) (filter (λ one. number one == tx) xs) ≡ []
    by true low rest = absurd (omega (arith, low))
    by false low rest = rest low

none_there : (tx : ℕ) (ms : List Member) → times tx (map tx_of ms) ≤ 0 → list_any (is_tx tx) ms ≡ false
none_there tx [] low = refl
none_there tx (m ∷ ms) low = by (is_tx tx m) low (none_there tx ms)
  where
    by : (b : Bool) → one_if b (times tx (map tx_of ms)) ≤ 0
        → (times tx (map tx_of ms) ≤ 0 → list_any (is_tx tx) ms ≡ false) → (b || list_any (is_tx tx) ms) ≡ false
    by true low rest = absurd (omega (arith, low))
    by false low rest = rest low

module _ (s : State) (tx : ℕ) (stand : StandOnce s) where
  abbrev of_dormant : Dormant → ℕ
  of_dormant own = own.tx

  abbrev of_fated : Fated → ℕ
  of_fated one = one.tx

  counted : times tx (map tx_of s.prepared) + times tx (map tx_of s.active)
      + (times tx (map of_dormant s.dormant) + times tx (map of_fated s.fates)) ≤ 1
  counted =
      let all = once (standing s) (distinct_if_apart (standing s) stand.distinct) tx in
      let joined = times_joined tx (map tx_of (members s)) (map of_dormant s.dormant ++ map of_fated s.fates) in
      let behind = times_joined tx (map of_dormant s.dormant) (map of_fated s.fates) in
      let own = ap (times tx) (map-append tx_of s.prepared s.active)
      ∙ times_joined tx (map tx_of s.prepared) (map tx_of s.active) in
      omega (arith, all, joined, behind, own)

  pub fated_not_dormant : (own : Dormant) → Some own ≡ first_of (filter (λ one. one.tx == tx) s.dormant)
      → filter (λ (one : Fated). one.tx == tx) s.fates ≡ []
  fated_not_dormant own there =
      let here = number_there of_dormant tx s.dormant own there in
      let all = counted in
      nobody_there of_fated tx s.fates (omega (arith, here, all))

  pub prepared_has_no_fate : list_any (is_tx tx) s.prepared ≡ true
      → filter (λ (one : Fated). one.tx == tx) s.fates ≡ []
  prepared_has_no_fate prepared =
      let here = any_there tx s.prepared prepared in
      let all = counted in
      nobody_there of_fated tx s.fates (omega (arith, here, all))

  pub prepared_is_not_dormant : list_any (is_tx tx) s.prepared ≡ true
      → filter (λ (own : Dormant). own.tx == tx) s.dormant ≡ []
  prepared_is_not_dormant prepared =
      let here = any_there tx s.prepared prepared in
      let all = counted in
      nobody_there of_dormant tx s.dormant (omega (arith, here, all))

  pub active_has_no_fate : (member : Member) → Some member ≡ first_of (filter (is_tx tx) s.active)
      → filter (λ (one : Fated). one.tx == tx) s.fates ≡ []
  active_has_no_fate member there =
      let here = number_there tx_of tx s.active member there in
      let all = counted in
      nobody_there of_fated tx s.fates (omega (arith, here, all))

  pub active_is_not_dormant : (member : Member) → Some member ≡ first_of (filter (is_tx tx) s.active)
      → filter (λ (own : Dormant). own.tx == tx) s.dormant ≡ []
  active_is_not_dormant member there =
      let here = number_there tx_of tx s.active member there in
      let all = counted in
      nobody_there of_dormant tx s.dormant (omega (arith, here, all))

  pub active_is_not_prepared : (member : Member) → Some member ≡ first_of (filter (is_tx tx) s.active)
      → list_any (is_tx tx) s.prepared ≡ false
  active_is_not_prepared member there =
      let here = number_there tx_of tx s.active member there in
      let all = counted in
      none_there tx s.prepared (omega (arith, here, all))
