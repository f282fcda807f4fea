-- What a closure computes on the rows of a set.
use Rattle.std.specs.Prelude.{◌≡◌, ◌⊎◌, Bool, List, Result, Ok, Err, IsTrue, IfOk}
use Rattle.std.specs.Fn.{FnReturnsAt}
use denote.Param.Members.{Shared}
use denote.Ref.{Bor}
use Rattle.ent_lists.specs.Sets as set
use Rattle.ent_value.specs.Refusal.{Gives}
use Rattle.ent_value.specs.declared.refusal.Refusal.{Refusal}
use Rattle.ent_value.specs.declared.refusal.Refusal.TheVariants.{Memory, Fault}
use Rattle.ent_value.specs.Value.{kinds_of}
use Rattle.ent_value.specs.declared.value.Value.{Value}
use Rattle.ent_value.specs.declared.value.Kind.{Kind}
use Rattle.ent_rel.specs.Relation.{RowSet}

-- on each row of the set the closure answers this test
abbrev pub Computes : {F : Type 0} → Shared F (Bor (List Value) × Unit {0}) Bool → F → RowSet → (List Value → Bool)
    → Type 0
Computes calls closure rows test =
    (row : List Value) (answer : Bool) → IsTrue (set.contains rows row) → FnReturnsAt calls closure row answer
    → answer ≡ test row

-- on each row of the set the closure gives its image or its fault, unless memory runs out
abbrev pub Changes : {F E : Type 0} → Shared F (Bor (List Value) × Unit {0}) (Result (List Value) (Refusal E)) → F
    → RowSet → (List Value → Result (List Value) E) → Type 0
Changes {F} {E} calls closure rows image =
    (row : List Value) (answer : Result (List Value) (Refusal E)) → IsTrue (set.contains rows row)
    → FnReturnsAt calls closure row answer
    → Gives (λ new. new) answer (image row)

-- an error is what is meant, unless it is excused, as one may be that tells of memory
abbrev pub Tells : {Y E : Type 0} → (E → Bool) → E → Result Y E → Type 0
Tells excused error meant = IsTrue (excused error) ⊎ (meant ≡ Err error)

abbrev pub IsImage : {Y E : Type 0} → (E → Bool) → Result Y E → Result Y E → Type 0
IsImage excused (Ok new) meant = meant ≡ Ok new
IsImage excused (Err error) meant = Tells excused error meant

-- on each row of the set the closure gives its image, or the error that is meant in its place, unless it is excused
abbrev pub Answers : {F E : Type 0} → Shared F (Bor (List Value) × Unit {0}) (Result (List Value) E) → F → RowSet
    → (E → Bool) → (List Value → Result (List Value) E) → Type 0
Answers {F} {E} calls closure rows excused image =
    (row : List Value) (answer : Result (List Value) E) → IsTrue (set.contains rows row)
    → FnReturnsAt calls closure row answer
    → IsImage excused answer (image row)

-- a refusal tells of memory, or of an error of a closure
abbrev pub RefusesUnless : {Y E : Type 0} → (E → Bool) → Refusal E → Result Y E → Type 0
RefusesUnless excused Memory meant = Unit {0}
RefusesUnless excused (Fault error) meant = Tells excused error meant

-- what was answered, seen by view, is what is meant, unless memory ran out or the closure's error is excused
abbrev pub GivesUnless : {X Y E : Type 0} → (E → Bool) → (X → Y) → Result X (Refusal E) → Result Y E → Type 0
GivesUnless excused view (Ok x) meant = meant ≡ Ok (view x)
GivesUnless excused view (Err refusal) meant = RefusesUnless excused refusal meant

-- what the closure gives for a row of the set has these kinds
abbrev pub KeepsKinds : {F E : Type 0} → Shared F (Bor (List Value) × Unit {0}) (Result (List Value) E) → F → RowSet
    → List Kind → Type 0
KeepsKinds {F} {E} calls closure rows kinds =
    (row : List Value) (answer : Result (List Value) E) → IsTrue (set.contains rows row)
    → FnReturnsAt calls closure row answer
    → IfOk answer (λ new. kinds_of new ≡ kinds)

-- a refusal of a refusal as one of both
abbrev pub flat_refusal : {E : Type 0} → Refusal (Refusal E) → Refusal E
flat_refusal Memory = Memory
flat_refusal (Fault refusal) = refusal

abbrev pub flat : {X E : Type 0} → Result X (Refusal (Refusal E)) → Result X (Refusal E)
flat (Ok x) = Ok x
flat (Err refusal) = Err (flat_refusal refusal)
