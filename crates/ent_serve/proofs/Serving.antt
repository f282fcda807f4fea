-- What a whole run gives, of sessions that hold the tickets that they were given.
use Rattle.std.proofs.Common.{◌≡◌, inl, inr, ℕ, zero, suc, ◌+◌, ◌<◌, List, [], ◌∷◌, ◌++◌, length, map, replicate}
use Rattle.std.proofs.Common.{get_or, slice_get, refl, ap, sym, subst, ◌∙◌, arith, Option, Some, None, Result, Ok, Err}
use Rattle.std.proofs.Common.{IfOk, append_assoc}
use Rattle.std.specs.Prelude.{Contains, IsPermutation}
use Rattle.std.specs.List.{flat_map}
use Rattle.std.proofs.lemmas.List.{length-map}
use Rattle.std.proofs.lemmas.List.Sorted.{Contains-permutation, IsPermutation-sym}
use Rattle.ent_tree.specs.declared.declaration.Opening.{Opening}
use Rattle.ent_tree.specs.declared.script.Input.{Input}
use Rattle.ent_tree.specs.declared.script.Script.{Script}
use Rattle.ent_semantics.specs.Database.{Database}
use Rattle.ent_semantics.specs.declared.book.Book.{Book}
use Rattle.ent_semantics.specs.declared.book.Fate.{Fate}
use Rattle.ent_protocol.specs.Reached.{IsGatheredAt}
use Rattle.ent_protocol.specs.State.{State, Submitted}
use Rattle.ent_desk.specs.Passed.{IsBookOf, resolved_forms}
use Rattle.ent_desk.specs.declared.ticket.First.{First}
use Rattle.ent_desk.specs.declared.ticket.Receipt.{Receipt}
use Rattle.ent_desk.specs.declared.ticket.Ticket.{Ticket}
use Rattle.ent_desk.specs.Closed.{IsClosedBook, all_tickets}
use Rattle.ent_desk.specs.Opened.{first_over, first_session, other_session, tickets_from}
use Rattle.ent_desk.specs.Seen.{GetsReceipts, SessionState, ticket}
use Rattle.ent_desk.proofs.Exactness.{In, contains_in, in_contains}
use Rattle.ent_serve.specs.Fates.{TellsFate}
use Rattle.ent_serve.specs.Seats.{KeepsSeats, SameSeats}

append_nil : {X : Type 0} (xs : List X) → xs ++ [] ≡ xs
append_nil [] = refl
append_nil (x ∷ xs) = ap (λ l. x ∷ l) (append_nil xs)

-- ---- seats

pub keeps_none : (one : SessionState) → KeepsSeats one one
keeps_none one = record { tickets = refl; first = refl }

pub keeps_on : (one two three : SessionState) → KeepsSeats one two → KeepsSeats two three → KeepsSeats one three
keeps_on one two three h k = record { tickets = k.tickets ∙ h.tickets; first = k.first ∙ h.first }

pub keeps_got : (one two : SessionState) → GetsReceipts one two → KeepsSeats one two
keeps_got one two h = record { tickets = h.tickets; first = h.first }

pub gets_on : (one two three : SessionState) → GetsReceipts one two → GetsReceipts two three → GetsReceipts one three
gets_on one two three h k =
    record {
      tickets = k.tickets ∙ h.tickets;
      first = k.first ∙ h.first;
      receipts = (
        h.receipts.0 ++ k.receipts.0,
        k.receipts.1 ∙ ap (λ (l : List Receipt). l ++ k.receipts.0) h.receipts.1
            ∙ append_assoc one.receipts h.receipts.0 k.receipts.0,
      );
    }

pub gets_same : (one : SessionState) → GetsReceipts one one
gets_same one = record { tickets = refl; first = refl; receipts = ([], sym (append_nil one.receipts)) }

-- what is told of a fate is told of it
pub agrees : (receipts : List Receipt) (tx : ℕ) (told : Option Fate) (fate : Fate) → told ≡ Some fate
    → TellsFate receipts tx told → TellsFate receipts tx (Some fate)
agrees receipts tx told fate is h = subst (λ (o : Option Fate). TellsFate receipts tx o) is h

pub same_none : (s : List SessionState) → SameSeats s s
same_none s = record { tickets = refl; first = refl }

pub same_on : (one two three : List SessionState) → SameSeats one two → SameSeats two three → SameSeats one three
same_on one two three h k = record { tickets = k.tickets ∙ h.tickets; first = k.first ∙ h.first }

-- place by place
map_same : {X : Type 0} (f : SessionState → X) (xs ys : List SessionState) → length ys ≡ length xs
    → ((i : ℕ) (d : SessionState) → i < length xs → f (get_or ys i d) ≡ f (get_or xs i d)) → map f ys ≡ map f xs
map_same f [] [] len at = refl
map_same f [] (b ∷ ys) len at = absurd (omega (arith, len))
map_same f (a ∷ xs) [] len at = absurd (omega (arith, len))
map_same f (a ∷ xs) (b ∷ ys) len at =
    let head = at 0 a (omega arith) in
    let tail = map_same f xs ys (omega (arith, len)) (λ i d low. at (suc i) d (omega (arith, low))) in
    λ i. head i ∷ tail i

pub same_by_place : (xs ys : List SessionState) → length ys ≡ length xs
    → ((i : ℕ) (d : SessionState) → i < length xs → KeepsSeats (get_or xs i d) (get_or ys i d)) → SameSeats xs ys
same_by_place xs ys len each =
    record {
      tickets = map_same (λ s. s.tickets) xs ys len (λ i d low. (each i d low).tickets);
      first = map_same (λ s. s.first) xs ys len (λ i d low. (each i d low).first);
    }

-- ---- the tickets of all

abbrev joined : {X : Type 0} → List (List X) → List X
joined [] = []
joined (xs ∷ xss) = xs ++ joined xss

flat_joined : {X Y : Type 0} (f : Y → List X) (ys : List Y) → flat_map f ys ≡ joined (map f ys)
flat_joined f [] = refl
flat_joined f (y ∷ ys) = ap (λ l. f y ++ l) (flat_joined f ys)

no_tickets : (k : ℕ) → all_tickets (replicate k other_session) ≡ []
no_tickets zero = refl
no_tickets (suc k) = no_tickets k

-- the ticket of a place is there
ticket_at : (n m i : ℕ) (script : Script) (scripts : List Script) → m ≡ n + i → slice_get scripts i ≡ Some script
    → In (ticket m script) (tickets_from n scripts)
ticket_at n m i script [] at h = absurd cc
ticket_at n m zero script (first ∷ more) at h =
    let here : script ≡ first = cc in
    let number : m ≡ n = omega (arith, at) in
    inl (λ j. ticket (number j) (here j))
ticket_at n m (suc i) script (first ∷ more) at h = inr (ticket_at (suc n) m i script more (omega (arith, at)) h)

-- a ticket before the first number isn't there
none_below : (m n : ℕ) (script : Script) (scripts : List Script) → m < n → In (ticket m script) (tickets_from n scripts)
    → ⊥
none_below m n script [] low h = h
none_below m n script (first ∷ more) low (inl e) =
    let number = ap (λ (t : Ticket). t.tx) e in absurd (omega (arith, number, low))
none_below m n script (first ∷ more) low (inr h) = none_below m (suc n) script more (omega (arith, low)) h

-- and what is there stands at its place
at_ticket : (n m i : ℕ) (script : Script) (scripts : List Script) → m ≡ n + i
    → In (ticket m script) (tickets_from n scripts) → slice_get scripts i ≡ Some script
at_ticket n m i script [] at h = absurd h
at_ticket n m zero script (first ∷ more) at (inl e) = ap Some (sym (ap (λ (t : Ticket). t.script) e))
at_ticket n m zero script (first ∷ more) at (inr h) =
    absurd (none_below m (suc n) script more (omega (arith, at)) h)
at_ticket n m (suc i) script (first ∷ more) at (inl e) =
    let number = ap (λ (t : Ticket). t.tx) e in absurd (omega (arith, number, at))
at_ticket n m (suc i) script (first ∷ more) at (inr h) = at_ticket (suc n) m i script more (omega (arith, at)) h

same_places : {X : Type 0} (xs ys : List X) → ((i : ℕ) (x : X) → slice_get xs i ≡ Some x → slice_get ys i ≡ Some x)
    → ((i : ℕ) (x : X) → slice_get ys i ≡ Some x → slice_get xs i ≡ Some x) → xs ≡ ys
same_places [] [] to from = refl
same_places [] (y ∷ ys) to from = (let e = from 0 y refl in absurd cc)
same_places (x ∷ xs) [] to from = (let e = to 0 x refl in absurd cc)
same_places (x ∷ xs) (y ∷ ys) to from =
    let e = to 0 x refl in
    let head : x ≡ y = cc in
    let tail = same_places xs ys (λ i z h. to (suc i) z h) (λ i z h. from (suc i) z h) in
    λ i. head i ∷ tail i

moved : (x : Ticket) (xs ys : List Ticket) → IsPermutation xs ys → In x xs → In x ys
moved x xs ys p h = in_contains x ys (Contains-permutation xs ys x p (contains_in x xs h))

-- scripts whose tickets are the same but for their order are the same, in order
same_scripts : (xs ys : List Script) → IsPermutation (tickets_from 1 xs) (tickets_from 1 ys) → xs ≡ ys
same_scripts xs ys p =
    same_places xs ys
    (λ i x h. at_ticket 1 (1 + i) i x ys refl
    (moved (ticket (1 + i) x) (tickets_from 1 xs) (tickets_from 1 ys) p (ticket_at 1 (1 + i) i x xs refl h)))
    (λ i x h. at_ticket 1 (1 + i) i x xs refl
    (moved (ticket (1 + i) x) (tickets_from 1 ys) (tickets_from 1 xs)
    (IsPermutation-sym (tickets_from 1 xs) (tickets_from 1 ys) p) (ticket_at 1 (1 + i) i x ys refl h)))

-- ---- the first

no_first : (first : First) (k : ℕ) → In (Some first) (map (λ (s : SessionState). s.first) (replicate k other_session))
    → ⊥
no_first first zero h = h
no_first first (suc k) (inl e) = cc
no_first first (suc k) (inr h) = no_first first k h

only_first : (first : First) (opening : Opening) (scripts : List Script) (k : ℕ)
    → In (Some first) (map (λ (s : SessionState). s.first) (first_session opening scripts ∷ replicate k other_session))
    → first ≡ first_over opening (length scripts)
only_first first opening scripts k (inl e) = cc
only_first first opening scripts k (inr h) = absurd (no_first first k h)

-- a closed book of sessions that hold what they held at the start
served : (input : Input) (k : ℕ) (book : Book Database) (seen : List SessionState) → IsClosedBook book seen
    → SameSeats (first_session input.opening input.scripts ∷ replicate k other_session) seen → IsBookOf input book
served input k book seen closed same =
    let opening = input.opening in
    let scripts = input.scripts in
    let start = first_session opening scripts ∷ replicate k other_session in
    let tickets : all_tickets seen ≡ tickets_from 1 scripts =
    flat_joined (λ (s : SessionState). s.tickets) seen ∙ ap joined same.tickets
    ∙ sym (flat_joined (λ (s : SessionState). s.tickets) start)
    ∙ ap (λ l. tickets_from 1 scripts ++ l) (no_tickets k) ∙ append_nil (tickets_from 1 scripts) in
    let scripts_are : book.scripts ≡ scripts =
    same_scripts book.scripts scripts
    (subst (λ (l : List Ticket). IsPermutation (tickets_from 1 book.scripts) l) tickets closed.tickets) in
    let wanted = first_over book.opening closed.count in
    let first : wanted ≡ first_over opening (length scripts) =
    only_first wanted opening scripts k
    (subst (λ (l : List (Option First)). In (Some wanted) l) same.first
    (in_contains (Some wanted) (map (λ (s : SessionState). s.first) seen) closed.first)) in
    let f = closed.finished in
    let last = f.last in
    let count : closed.count ≡ length last.submitted =
    ap (λ (x : First). x.count) first ∙ sym (ap length scripts_are) ∙ sym (ap length f.of_scripts)
    ∙ length-map last.submitted (λ (own : Submitted). own.script) in
    record {
      finished = record {
        last = last;
        finished = f.finished;
        of_opening = f.of_opening ∙ ap (λ (x : First). x.opening) first;
        of_scripts = f.of_scripts ∙ scripts_are;
        is = f.is;
      };
      gathered = subst (λ (n : ℕ). IsGatheredAt resolved_forms n last) count closed.gathered;
      fates = closed.fates;
      legal = closed.legal;
    }

pub served_by : {E X : Type 0} (view : X → Book Database) (input : Input) (k : ℕ) (held worked : List SessionState)
    (r : Result X E) → held ≡ first_session input.opening input.scripts ∷ replicate k other_session
    → SameSeats held worked
    → IfOk r (λ book. (closed : List SessionState) × SameSeats worked closed × IsClosedBook (view book) closed)
    → IfOk r (λ book. IsBookOf input (view book))
served_by view input k held worked (Ok book) is same h =
    served input k (view book) h.0 h.2
    (subst (λ (l : List SessionState). SameSeats l h.0) is (same_on held worked h.0 same h.1))
served_by view input k held worked (Err fault) is same h = tt
