-- The fate that a transaction stands with is one of its book's.
use Rattle.std.proofs.Common.{◌≡◌, inl, inr, ◌==◌, ℕ, Bool, true, false, List, [], ◌∷◌, ◌++◌, map, refl, ap, sym}
use Rattle.std.proofs.Common.{◌∙◌, subst, append_assoc, if◌then◌else◌, Some, None, nat_lt, cond}
use Rattle.std.specs.List.{filter}
use Rattle.std.proofs.lemmas.Bool.{eqb-true}
use Rattle.ent_semantics.specs.declared.book.Fate.{Fate}
use Rattle.ent_semantics.specs.declared.book.Fated.{Fated}
use Rattle.ent_protocol.specs.Lookup.{Standing, Dormant, Finished, Ready, Out, Posted, Prepared, active_standing}
use Rattle.ent_protocol.specs.Lookup.{standing}
use Rattle.ent_protocol.specs.Lookup.{turn_of}
use Rattle.ent_protocol.specs.Member.{is_lent, is_tx, next_of}
use Rattle.ent_protocol.specs.State.{State, Member, by_number, first_of, inserted}
use Rattle.ent_protocol.specs.State as states
use Rattle.ent_desk.specs.Told.{fate_in}
use Rattle.ent_desk.proofs.Exactness.{In}

abbrev fated : ℕ → Fate → Fated
fated tx fate = record { tx = tx; fate = fate }

-- ---- no fate but among the fates

no_fate_active : (s : State) (members : List Member) → fate_in (first_of (map (active_standing s) members)) ≡ None
no_fate_active s [] = refl
no_fate_active s (member ∷ more) = by member.posted (is_lent s member.tx)
  where
    by : (posted lent : Bool)
        → fate_in (Some (if posted then Posted else (if lent then Out else Ready (turn_of (next_of s member))))) ≡ None
    by true lent = refl
    by false true = refl
    by false false = refl

no_fate_prepared : (s : State) (prepared active : List Member)
    → fate_in (first_of (map (λ (member : Member). Prepared) prepared ++ map (active_standing s) active)) ≡ None
no_fate_prepared s [] active = no_fate_active s active
no_fate_prepared s (member ∷ more) active = refl

no_fate : (s : State) (dormant : List states.Dormant) (prepared active : List Member)
    → fate_in (first_of (map (λ (own : states.Dormant). Dormant own.runs) dormant
    ++ (map (λ (member : Member). Prepared) prepared ++ map (active_standing s) active))) ≡ None
no_fate s [] prepared active = no_fate_prepared s prepared active
no_fate s (own ∷ more) prepared active = refl

among : (fates : List Fated) (tx : ℕ) (fate : Fate) (rest : List Standing) → fate_in (first_of rest) ≡ None
    → fate_in (first_of (map (λ (own : Fated). Finished own.fate) (filter (λ own. own.tx == tx) fates) ++ rest)) ≡ Some
    fate
    → In (fated tx fate) fates
among [] tx fate rest none told = let wrong : Some fate ≡ None = sym told ∙ none in cc
among (own ∷ more) tx fate rest none told = by (own.tx == tx) refl told (among more tx fate rest none)
  where
    by : (is : Bool) → (own.tx == tx) ≡ is
        → fate_in (first_of (map (λ (other : Fated). Finished other.fate)
        (cond is (own ∷ filter (λ other. other.tx == tx) more) (filter (λ other. other.tx == tx) more)) ++ rest))
        ≡ Some fate
        → (fate_in (first_of (map (λ (other : Fated). Finished other.fate)
        (filter (λ other. other.tx == tx) more) ++ rest)) ≡ Some fate → In (fated tx fate) more)
        → In (fated tx fate) (own ∷ more)
    by true is told later =
        let number = eqb-true own.tx tx is in
        let its : own.fate ≡ fate = cc in
        inl (λ i. fated (sym number i) (sym its i))
    by false is told later = inr (later told)

-- ---- by number

in_inserted_here : (own : Fated) (fates : List Fated) → In own (inserted (λ (other : Fated). other.tx) own fates)
in_inserted_here own [] = inl refl
in_inserted_here own (first ∷ more) = by (nat_lt own.tx first.tx) (in_inserted_here own more)
  where
    by : (is : Bool) → In own (inserted (λ (other : Fated). other.tx) own more)
        → In own (cond is (own ∷ first ∷ more) (first ∷ inserted (λ (other : Fated). other.tx) own more))
    by true later = inl refl
    by false later = inr later

in_inserted : (x own : Fated) (fates : List Fated) → In x fates
    → In x (inserted (λ (other : Fated). other.tx) own fates)
in_inserted x own [] h = absurd h
in_inserted x own (first ∷ more) h = by (nat_lt own.tx first.tx) h (in_inserted x own more)
  where
    by : (is : Bool) → In x (first ∷ more)
        → (In x more → In x (inserted (λ (other : Fated). other.tx) own more))
        → In x (cond is (own ∷ first ∷ more) (first ∷ inserted (λ (other : Fated). other.tx) own more))
    by true h later = inr h
    by false (inl e) later = inl e
    by false (inr h) later = inr (later h)

in_by_number : (x : Fated) (fates : List Fated) → In x fates → In x (by_number (λ other. other.tx) fates)
in_by_number x [] h = absurd h
in_by_number x (first ∷ more) (inl e) =
    let P : Fated → Type 0 = λ y. In y (inserted (λ other. other.tx) first (by_number (λ other. other.tx) more)) in
    subst P (sym e) (in_inserted_here first (by_number (λ other. other.tx) more))
in_by_number x (first ∷ more) (inr h) =
    in_inserted x first (by_number (λ other. other.tx) more) (in_by_number x more h)

-- a transaction that stands finished has this fate in the book
pub in_book : (s : State) (tx : ℕ) (fate : Fate) → fate_in (standing s tx) ≡ Some fate
    → In (fated tx fate) (by_number (λ own. own.tx) s.fates)
in_book s tx fate told =
    let mine = map (λ (own : Fated). Finished own.fate) (filter (λ own. own.tx == tx) s.fates) in
    let dormant = filter (λ (own : states.Dormant). own.tx == tx) s.dormant in
    let waiting = map (λ (own : states.Dormant). Dormant own.runs) dormant in
    let prepared = filter (is_tx tx) s.prepared in
    let ready = map (λ (member : Member). Prepared) prepared in
    let active = filter (is_tx tx) s.active in
    let others = map (active_standing s) active in
    let one = append_assoc (mine ++ waiting) ready others ∙ append_assoc mine waiting (ready ++ others) in
    in_by_number (fated tx fate) s.fates
    (among s.fates tx fate (waiting ++ (ready ++ others)) (no_fate s dormant prepared active)
    (ap (λ (all : List Standing). fate_in (first_of all)) (sym one) ∙ told))
