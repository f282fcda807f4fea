-- What is found of the core among the sessions, one after the other.
use Rattle.std.proofs.Common.{◌≡◌, inl, inr, ℕ, zero, suc, ◌+◌, ◌<◌, ◌≤◌, List, [], ◌∷◌, ◌++◌, length, drop, get_or}
use Rattle.std.proofs.Common.{map, ap}
use Rattle.std.proofs.Common.{sym, subst, ◌∙◌, arith, drop-cons, drop_of_length-le, Some}
use Rattle.std.proofs.Common.{slice_get}
use Rattle.std.specs.Prelude.{Contains}
use Rattle.std.specs.List.{AllByRecursion, flat_map}
use Rattle.ent_lists.proofs.Lists.{drop_at}
use Rattle.ent_tree.specs.declared.script.Script.{Script}
use Rattle.ent_semantics.specs.Serial.{numbered}
use Rattle.ent_semantics.specs.declared.book.Entry.{Entry}
use Rattle.ent_protocol.specs.State.{State}
use Rattle.ent_desk.specs.declared.ticket.Receipt.{Receipt}
use Rattle.ent_desk.specs.declared.ticket.Ticket.{Ticket}
use Rattle.ent_desk.specs.Accounted.{HasReceipt, HaveReceipts}
use Rattle.ent_desk.specs.Opened.{tickets_from}
use Rattle.ent_desk.specs.Seen.{ticket}
use Rattle.ent_desk.proofs.Exactness.{In, contains_in, in_contains}

-- ---- among sessions

in_front : {X : Type 0} (x : X) (front back : List X) → In x front → In x (front ++ back)
in_front x [] back h = absurd h
in_front x (y ∷ front) back (inl e) = inl e
in_front x (y ∷ front) back (inr h) = inr (in_front x front back h)

in_back : {X : Type 0} (x : X) (front back : List X) → In x back → In x (front ++ back)
in_back x [] back h = h
in_back x (y ∷ front) back h = inr (in_back x front back h)

in_flat : {X Y : Type 0} (f : Y → List X) (x : X) (ys : List Y) (i : ℕ) (d : Y) → i < length ys
    → In x (f (get_or ys i d)) → In x (flat_map f ys)
in_flat f x [] i d low h = absurd (omega (arith, low))
in_flat f x (y ∷ ys) zero d low h = in_front x (f y) (flat_map f ys) h
in_flat f x (y ∷ ys) (suc i) d low h = in_back x (f y) (flat_map f ys) (in_flat f x ys i d (omega (arith, low)) h)

-- what one of them has, all have
pub contains_flat : {X Y : Type 0} (f : Y → List X) (x : X) (ys : List Y) (i : ℕ) (d : Y) → i < length ys
    → Contains (f (get_or ys i d)) x → Contains (flat_map f ys) x
contains_flat f x ys i d low h =
    contains_in x (flat_map f ys) (in_flat f x ys i d low (in_contains x (f (get_or ys i d)) h))

pub contains_map : {X Y : Type 0} (f : Y → X) (x : X) (ys : List Y) (i : ℕ) (d : Y) → i < length ys
    → f (get_or ys i d) ≡ x → Contains (map f ys) x
contains_map f x [] i d low is = absurd (omega (arith, low))
contains_map f x (y ∷ ys) zero d low is = (0, omega arith, is)
contains_map f x (y ∷ ys) (suc i) d low is =
    let c = contains_map f x ys i d (omega (arith, low)) is in
    let under = c.1 in
    (suc c.0, omega (arith, under), c.2)

-- ---- one more that is found

pub tickets_more : (all : List Ticket) (scripts : List Script) (i tx : ℕ) (script : Script) (Goal : Type 0)
    → tx ≡ i + 1 → Some script ≡ numbered scripts tx → Contains all (ticket tx script)
    → (AllByRecursion (Contains all) (tickets_from (i + 1) (drop i scripts)) → Goal)
    → AllByRecursion (Contains all) (tickets_from (i + 1 + 1) (drop (i + 1) scripts)) → Goal
tickets_more all scripts i tx script Goal at is found before rest =
    let number : tx ≡ suc i = omega (arith, at) in
    let here : slice_get scripts i ≡ Some script = sym (is ∙ ap (numbered scripts) number) in
    let next : i + 1 + 1 ≡ suc (suc i) = omega arith in
    let one : i + 1 ≡ suc i = omega arith in
    let found_here : Contains all (ticket (suc i) script) =
    subst (λ (n : ℕ). Contains all (ticket n script)) number found in
    let later : AllByRecursion (Contains all) (tickets_from (suc (suc i)) (drop (suc i) scripts)) =
    subst (λ (n : ℕ). AllByRecursion (Contains all) (tickets_from n (drop (suc i) scripts))) next
    (subst (λ (n : ℕ). AllByRecursion (Contains all) (tickets_from (i + 1 + 1) (drop n scripts))) one rest) in
    let both : AllByRecursion (Contains all) (tickets_from (suc i) (script ∷ drop (suc i) scripts)) =
    (found_here, later) in
    before
    (subst (λ (n : ℕ). AllByRecursion (Contains all) (tickets_from n (drop i scripts))) (sym one)
    (subst (λ (l : List Script). AllByRecursion (Contains all) (tickets_from (suc i) l))
    (sym (drop_at scripts i script here)) both))

pub tickets_end : (all : List Ticket) (scripts : List Script) (i : ℕ) → length scripts ≤ i
    → AllByRecursion (Contains all) (tickets_from (i + 1) (drop i scripts))
tickets_end all scripts i past =
    subst (λ (l : List Script). AllByRecursion (Contains all) (tickets_from (i + 1) l))
    (sym (drop_of_length-le scripts past)) tt

pub receipts_more : (core : State) (all : List Receipt) (journal : List Entry) (i number : ℕ) (d : Entry)
    (Goal : Type 0)
    → i < length journal → number ≡ i + 1 → HasReceipt core all number (get_or journal i d)
    → (HaveReceipts core all (i + 1) (drop i journal) → Goal)
    → HaveReceipts core all (i + 1 + 1) (drop (i + 1) journal) → Goal
receipts_more core all journal i number d Goal low at found before rest =
    let own : number ≡ suc i = omega (arith, at) in
    let next : i + 1 + 1 ≡ suc (suc i) = omega arith in
    let one : i + 1 ≡ suc i = omega arith in
    let here : HasReceipt core all (suc i) (get_or journal i d) =
    subst (λ (n : ℕ). HasReceipt core all n (get_or journal i d)) own found in
    let later : HaveReceipts core all (suc (suc i)) (drop (suc i) journal) =
    subst (λ (n : ℕ). HaveReceipts core all n (drop (suc i) journal)) next
    (subst (λ (n : ℕ). HaveReceipts core all (i + 1 + 1) (drop n journal)) one rest) in
    let both : HaveReceipts core all (suc i) (get_or journal i d ∷ drop (suc i) journal) = (here, later) in
    before
    (subst (λ (n : ℕ). HaveReceipts core all n (drop i journal)) (sym one)
    (subst (λ (l : List Entry). HaveReceipts core all (suc i) l) (sym (drop-cons journal i d low)) both))

pub receipts_end : (core : State) (all : List Receipt) (journal : List Entry) (i : ℕ) → length journal ≤ i
    → HaveReceipts core all (i + 1) (drop i journal)
receipts_end core all journal i past =
    subst (λ (l : List Entry). HaveReceipts core all (i + 1) l) (sym (drop_of_length-le journal past)) tt
