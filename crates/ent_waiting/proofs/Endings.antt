-- Those who ended, of whom the last are kept.
use Rattle.std.proofs.Common.{◌≡◌, ◌∙◌, ◌≤◌, ◌-◌, ◌==◌, ℕ, zero, suc, Bool, true, false, cond, List, [], ◌∷◌, ◌++◌}
use Rattle.std.proofs.Common.{refl}
use Rattle.std.proofs.Common.{sym, ap, subst, Option, Some, None, map, length, nat_eq, drop, arith, inl, inr, ⊎_elim}
use Rattle.std.proofs.Common.{◌⊎◌}
use Rattle.std.proofs.Common.{length-drop}
use Rattle.std.specs.Option.{option_or}
use Rattle.std.specs.List.{AllByRecursion, IsDistinct}
use Rattle.std.proofs.lemmas.Bool.{cases_Bool, eqb-true, eq-eqb}
use Rattle.std.proofs.lemmas.List.Folds.{find-append}
use Rattle.ent_waiting.specs.Ended.{ended_of, last_of}
use Rattle.ent_waiting.specs.declared.ended.Ended.{Ended}

abbrev pub ticket_of : Ended → ℕ
ticket_of one = one.ticket

-- no ticket twice
abbrev pub EndOnce : List Ended → Type 0
EndOnce ended = IsDistinct nat_eq (map ticket_of ended)

-- ---- what is found

-- what is found of a list whose first is another's stands behind the first
found_behind : (here : Bool) (first : Ended) (rest : Option Ended) (x : Ended) → cond here (Some first) rest ≡ Some x
    → ((here ≡ true) × (first ≡ x)) ⊎ (rest ≡ Some x)
found_behind true first rest x e = inl (refl, cc)
found_behind false first rest x e = inr e

pub found_ticket : (t : ℕ) (ended : List Ended) (x : Ended) → ended_of t ended ≡ Some x → x.ticket ≡ t
found_ticket t [] x e = absurd cc
found_ticket t (one ∷ more) x e =
    ⊎_elim
    (λ here. subst (λ (y : Ended). y.ticket ≡ t) here.1 (eqb-true one.ticket t here.0))
    (λ there. found_ticket t more x there)
    (found_behind (one.ticket == t) one (ended_of t more) x e)

-- none of them has this ticket
none_found : (t : ℕ) (ended : List Ended) → AllByRecursion (λ other. nat_eq t other ≡ false) (map ticket_of ended)
    → ended_of t ended ≡ None
none_found t [] all = refl
none_found t (one ∷ more) all =
    ⊎_elim
    (λ yes. absurd (let e = eq-eqb t one.ticket (sym (eqb-true one.ticket t yes)) in let no = all.0 in cc))
    (λ no. ap (λ (b : Bool). cond b (Some one) (ended_of t more)) no ∙ none_found t more all.1)
    (cases_Bool (one.ticket == t))

some_found : (t : ℕ) (ended : List Ended) → ended_of t ended ≡ None
    → AllByRecursion (λ other. nat_eq other t ≡ false) (map ticket_of ended)
some_found t [] none = tt
some_found t (one ∷ more) none =
    ⊎_elim
    (λ yes. absurd (let e = ap (λ (b : Bool). cond b (Some one) (ended_of t more)) yes in cc))
    (λ no. (no, some_found t more (sym (ap (λ (b : Bool). cond b (Some one) (ended_of t more)) no) ∙ none)))
    (cases_Bool (one.ticket == t))

-- ---- the last of them

-- behind the first so many stands no other of the same ticket
pub dropped : (t k : ℕ) (ended : List Ended) → EndOnce ended
    → (ended_of t (drop k ended) ≡ ended_of t ended) ⊎ (ended_of t (drop k ended) ≡ None)
unfolding IsDistinct
dropped t zero ended once = inl refl
dropped t (suc k) [] once = inl refl
dropped t (suc k) (one ∷ more) once =
    ⊎_elim
    (λ yes.
    let none = none_found t more (subst (λ (n : ℕ). AllByRecursion (λ other. nat_eq n other ≡ false)
    (map ticket_of more))
    (eqb-true one.ticket t yes) once.0) in
    inr (⊎_elim (λ same. same ∙ none) (λ gone. gone) (dropped t k more once.1)))
    (λ no.
    let skip = ap (λ (b : Bool). cond b (Some one) (ended_of t more)) no in
    ⊎_elim (λ same. inl (same ∙ sym skip)) (λ gone. inr gone) (dropped t k more once.1))
    (cases_Bool (one.ticket == t))

pub once_dropped : (k : ℕ) (ended : List Ended) → EndOnce ended → EndOnce (drop k ended)
unfolding IsDistinct
once_dropped zero ended once = once
once_dropped (suc k) [] once = once
once_dropped (suc k) (one ∷ more) once = once_dropped k more once.1

-- ---- one more

one_more : (t : ℕ) (own : Option Ended) → option_or own None ≡ own
one_more t (Some x) = refl
one_more t None = refl

-- the ending of another ticket makes no difference to what is found
pub found_beside : (t : ℕ) (ended : List Ended) (one : Ended) → (one.ticket == t) ≡ false
    → ended_of t (ended ++ one ∷ []) ≡ ended_of t ended
found_beside t ended one other =
    find-append (λ (x : Ended). x.ticket == t) ended (one ∷ [])
    ∙ ap (λ (b : Bool). option_or (ended_of t ended) (cond b (Some one) None)) other ∙ one_more t (ended_of t ended)

also_more : (y : ℕ) (ended : List Ended) (one : Ended)
    → AllByRecursion (λ other. nat_eq y other ≡ false) (map ticket_of ended) → nat_eq y one.ticket ≡ false
    → AllByRecursion (λ other. nat_eq y other ≡ false) (map ticket_of (ended ++ one ∷ []))
also_more y [] one all apart = (apart, tt)
also_more y (first ∷ more) one all apart = (all.0, also_more y more one all.1 apart)

pub once_more : (ended : List Ended) (one : Ended) → EndOnce ended
    → AllByRecursion (λ other. nat_eq other one.ticket ≡ false) (map ticket_of ended) → EndOnce (ended ++ one ∷ [])
unfolding IsDistinct
once_more [] one once all = (tt, tt)
once_more (first ∷ more) one once all =
    (also_more first.ticket more one once.0 all.0, once_more more one once.1 all.1)

-- ---- one that ends

module _ (most : ℕ) (ended : List Ended) (one : Ended) (once : EndOnce ended)
    (none : ended_of one.ticket ended ≡ None) where
  abbrev now : List Ended
  now = last_of most (ended ++ one ∷ [])

  once_all : EndOnce (ended ++ one ∷ [])
  once_all = once_more ended one once (some_found one.ticket ended none)

  pub ends_once : EndOnce now
  ends_once = once_dropped (length (ended ++ one ∷ []) - most) (ended ++ one ∷ []) once_all

  -- who ended before has its ending, or none
  pub told_beside : (t : ℕ) → (one.ticket == t) ≡ false
      → (ended_of t now ≡ ended_of t ended) ⊎ (ended_of t now ≡ None)
  told_beside t other =
      ⊎_elim (λ same. inl (same ∙ found_beside t ended one other)) (λ gone. inr gone)
      (dropped t (length (ended ++ one ∷ []) - most) (ended ++ one ∷ []) once_all)

  pub few_kept : length now ≤ most
  few_kept = omega (arith, length-drop (length (ended ++ one ∷ []) - most) (ended ++ one ∷ []))
