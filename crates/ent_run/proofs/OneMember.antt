-- One member of a list is changed, or goes.
use Rattle.std.proofs.Common.{◌≡◌, ℕ, zero, suc, ◌<◌, Bool, true, false, not, nat_eq, ◌==◌, if◌then◌else◌, List, []}
use Rattle.std.proofs.Common.{◌∷◌, length, map, get_or, set, refl, sym, ap, subst, ◌∙◌, arith}
use Rattle.std.specs.Prelude.{Some, Result, Ok, Err, OnOk, OnErr, filter}
use Rattle.std.specs.List.{IsDistinct, AllByRecursion, remove}
use Rattle.std.proofs.lemmas.Bool.Decides.{nat_tests}
use Rattle.std.proofs.lemmas.List.{length-map}
use Rattle.std.proofs.Math.Seq.{map-set_same}
use Rattle.std.proofs.lemmas.Option.{same_Some}
use Rattle.std.proofs.lemmas.Bool.{eq-eqb}
use Rattle.ent_protocol.specs.Begin.{replaced}
use Rattle.ent_protocol.specs.Member.{is_tx}
use Rattle.ent_protocol.specs.State.{Member, first_of}
use Rattle.ent_run.specs.Places.{IsAt, Changes, found}
use Rattle.ent_members.specs.Order.{IsAscending, tx_of}
use Rattle.ent_run.specs.Run.{IsRun}

-- ---- the member at an index, and the others

pub eq_turned : (a b : ℕ) → (a == b) ≡ (b == a)
eq_turned a b = grind (arith, nat_tests)

pub all_at : (P : ℕ → Type 0) (xs : List Member) (i : ℕ) (d : Member) → i < length xs
    → AllByRecursion P (map tx_of xs) → P (get_or xs i d).tx
all_at P [] i d lt all = absurd (omega (arith, lt))
all_at P (x ∷ xs) zero d lt all = all.0
all_at P (x ∷ xs) (suc i) d lt all = all_at P xs i d (omega (arith, lt)) all.1

untouched : (new : Member) (xs : List Member) → AllByRecursion (λ n. nat_eq new.tx n ≡ false) (map tx_of xs)
    → map (replaced new) xs ≡ xs
untouched new [] all = refl
untouched new (x ∷ xs) all =
    ap (λ b. (if b then new else x) ∷ map (replaced new) xs) (eq_turned x.tx new.tx ∙ all.0)
    ∙ ap (λ ms. x ∷ ms) (untouched new xs all.1)

replaced_at : (xs : List Member) (i : ℕ) (new d : Member) → IsDistinct nat_eq (map tx_of xs) → i < length xs
    → (get_or xs i d).tx ≡ new.tx → set xs i new ≡ map (replaced new) xs
unfolding IsDistinct
replaced_at [] i new d distinct lt is = absurd (omega (arith, lt))
replaced_at (x ∷ xs) zero new d distinct lt is =
    ap (λ ms. new ∷ ms) (sym (untouched new xs
    (subst (λ n. AllByRecursion (λ m. nat_eq n m ≡ false) (map tx_of xs)) is distinct.0)))
    ∙ ap (λ b. (if b then new else x) ∷ map (replaced new) xs) (sym (eq-eqb x.tx new.tx is))
replaced_at (x ∷ xs) (suc i) new d distinct lt is =
    let apart : (x.tx == new.tx) ≡ false =
    subst (λ n. (x.tx == n) ≡ false) is
    (all_at (λ n. nat_eq x.tx n ≡ false) xs i d (omega (arith, lt)) distinct.0) in
    ap (λ ms. x ∷ ms) (replaced_at xs i new d distinct.1 (omega (arith, lt)) is)
    ∙ ap (λ b. (if b then new else x) ∷ map (replaced new) xs) (sym apart)

kept_if : (x : Member) (xs : List Member) (tx : ℕ) → AllByRecursion (λ n. nat_eq tx n ≡ false) (map tx_of xs)
    → filter (λ other. not (is_tx tx other)) xs ≡ xs
kept_if x [] tx all = refl
kept_if x (y ∷ ys) tx all =
    ap (λ b. if not b then y ∷ filter (λ other. not (is_tx tx other)) ys else filter (λ other. not (is_tx tx other)) ys)
    (eq_turned y.tx tx ∙ all.0)
    ∙ ap (λ ms. y ∷ ms) (kept_if x ys tx all.1)

pub removed_at : (xs : List Member) (i : ℕ) (d : Member) → IsDistinct nat_eq (map tx_of xs) → i < length xs
    → remove xs i ≡ filter (λ other. not (is_tx (get_or xs i d).tx other)) xs
unfolding IsDistinct
removed_at [] i d distinct lt = absurd (omega (arith, lt))
removed_at (x ∷ xs) zero d distinct lt =
    sym (ap (λ b. if not b then x ∷ filter (λ other. not (is_tx x.tx other)) xs
    else filter (λ other. not (is_tx x.tx other)) xs) (eq-eqb x.tx x.tx refl)
    ∙ kept_if x xs x.tx distinct.0)
removed_at (x ∷ xs) (suc i) d distinct lt =
    let tx = (get_or xs i d).tx in
    let apart : (x.tx == tx) ≡ false = all_at (λ n. nat_eq x.tx n ≡ false) xs i d (omega (arith, lt)) distinct.0 in
    ap (λ ms. x ∷ ms) (removed_at xs i d distinct.1 (omega (arith, lt)))
    ∙ sym (ap (λ b. if not b then x ∷ filter (λ other. not (is_tx tx other)) xs
    else filter (λ other. not (is_tx tx other)) xs) apart)

-- ---- what is found

found_if : (x : Member) (xs : List Member) (tx : ℕ) (member : Member) (b : Bool) → (x.tx == tx) ≡ b
    → (found xs tx ≡ Some member → member.tx ≡ tx)
    → first_of (if b then x ∷ filter (is_tx tx) xs else filter (is_tx tx) xs) ≡ Some member → member.tx ≡ tx
found_if x xs tx member true is rest first = grind (arith, nat_tests)
found_if x xs tx member false is rest first = rest first

pub found_tx : (xs : List Member) (tx : ℕ) (member : Member) → found xs tx ≡ Some member → member.tx ≡ tx
found_tx [] tx member is = grind arith
found_tx (x ∷ xs) tx member is = found_if x xs tx member (x.tx == tx) refl (found_tx xs tx member) is

pub found_at : (xs : List Member) (tx i : ℕ) (d member : Member) → IsAt xs tx i → found xs tx ≡ Some member
    → get_or xs i d ≡ member
found_at xs tx i d member at is = same_Some (get_or xs i d) member (sym (at.first d) ∙ is)

-- ---- a change

pub on_ok_then : {T E : Type 0} (r : Result T E) (P Q : Type 0) → (P → Q) → OnOk r P → OnOk r Q
on_ok_then (Ok x) P Q f h = f h
on_ok_then (Err e) P Q f h = tt

pub on_err_then : {T E : Type 0} (r : Result T E) (P Q : Type 0) → (P → Q) → OnErr r P → OnErr r Q
on_err_then (Ok x) P Q f h = tt
on_err_then (Err e) P Q f h = f h

pub either_way : {T E : Type 0} (r : Result T E) (P Q R : Type 0) → (P → R) → (Q → R) → OnOk r P → OnErr r Q → R
either_way (Ok x) P Q R f g ok err = f ok
either_way (Err e) P Q R f g ok err = g err

pub changes : {T E : Type 0} (r : Result T E) (change : Member → Member) (xs : List Member) (tx i : ℕ)
    (d new : Member) → ((member : Member) → (change member).tx ≡ member.tx) → IsDistinct nat_eq (map tx_of xs)
    → IsAt xs tx i → OnOk r (new ≡ change (get_or xs i d)) → OnOk r (Changes change tx xs (set xs i new))
changes r change xs tx i d new same distinct at is =
    on_ok_then r (new ≡ change (get_or xs i d)) (Changes change tx xs (set xs i new))
    (λ changed member there.
    ap (set xs i) (changed ∙ ap change (found_at xs tx i d member at there))
    ∙ replaced_at xs i (change member) d distinct at.in_range
    (ap tx_of (found_at xs tx i d member at there) ∙ sym (same member))) is

same_tx : {T E : Type 0} (r : Result T E) (change : Member → Member) (old new : Member)
    → ((member : Member) → (change member).tx ≡ member.tx) → OnOk r (new ≡ change old) → OnErr r (new ≡ old)
    → new.tx ≡ old.tx
same_tx (Ok x) change old new same ok err = ap tx_of ok ∙ same old
same_tx (Err e) change old new same ok err = ap tx_of err

pub same_numbers : {T E : Type 0} (r : Result T E) (change : Member → Member) (xs : List Member) (i : ℕ)
    (d new : Member) → ((member : Member) → (change member).tx ≡ member.tx)
    → OnOk r (new ≡ change (get_or xs i d)) → OnErr r (new ≡ get_or xs i d) → map tx_of (set xs i new) ≡ map tx_of xs
same_numbers r change xs i d new same ok err =
    map-set_same tx_of xs i new d (same_tx r change (get_or xs i d) new same ok err)

pub run_kept : (prepared old new : List Member) → map tx_of new ≡ map tx_of old → IsRun prepared old
    → IsRun prepared new
run_kept prepared old new same run =
    record {
      bound = omega (arith, run.bound, length-map new tx_of, length-map old tx_of, ap length same);
      ascending = subst IsAscending (sym same) run.ascending;
      distinct = subst (IsDistinct nat_eq) (sym same) run.distinct;
    }
