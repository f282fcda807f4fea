-- A closure that may run out of memory, whose refusals are errors of which those of memory are excused.
use Rattle.std.proofs.Common.{◌≡◌, Bool, true, false, inl, inr, List, [], ◌∷◌, refl, ap, ◌∙◌}
use Rattle.std.proofs.lemmas.Bool.{false≢true}
use Rattle.std.specs.Prelude.{Result, Ok, Err}
use denote.Param.Members.{Shared}
use denote.Ref.{Bor}
use Rattle.ent_value.specs.Refusal.{◌>>=◌, Gives}
use Rattle.ent_value.specs.declared.refusal.Refusal.{Refusal}
use Rattle.ent_value.specs.declared.refusal.Refusal.TheVariants.{Memory, Fault}
use Rattle.ent_value.specs.declared.value.Value.{Value}
use Rattle.ent_rel.specs.Relation.{RowSet}
use Rattle.ent_rel.specs.Change.{images_of}
use Rattle.ent_rel.specs.Closure.{Answers, Changes, GivesUnless, IsImage, flat}

-- a fault, as the refusal that tells of it
abbrev pub faulted : {Y E : Type 0} → Result Y E → Result Y (Refusal E)
faulted (Ok y) = Ok y
faulted (Err fault) = Err (Fault fault)

abbrev pub is_of_memory : {E : Type 0} → Refusal E → Bool
is_of_memory Memory = true
is_of_memory (Fault fault) = false

pub images_faulted : {E : Type 0} (image : List Value → Result (List Value) E) (rows : List (List Value))
    → images_of (λ row. faulted (image row)) rows ≡ faulted (images_of image rows)
images_faulted image [] = refl
images_faulted {E} image (row ∷ rows) =
    ap (λ others. faulted (image row) >>= λ new. others >>= λ ys. Ok (new ∷ ys)) (images_faulted image rows)
    ∙ by (image row) (images_of image rows)
  where
    by : (first : Result (List Value) E) (others : Result (List (List Value)) E)
        → (faulted first >>= λ new. faulted others >>= λ ys. Ok (new ∷ ys))
        ≡ faulted (first >>= λ new. others >>= λ ys. Ok (new ∷ ys))
    by (Ok new) (Ok ys) = refl
    by (Ok new) (Err fault) = refl
    by (Err fault) others = refl

pub changes_answer : {F E : Type 0}
    (calls : Shared F (Bor (List Value) × Unit {0}) (Result (List Value) (Refusal E))) (closure : F) (rows : RowSet)
    (image : List Value → Result (List Value) E) → Changes calls closure rows image
    → Answers calls closure rows is_of_memory (λ row. faulted (image row))
changes_answer {F} {E} calls closure rows image changes row answer here says =
    of answer (image row) (changes row answer here says)
  where
    of : (answer : Result (List Value) (Refusal E)) (meant : Result (List Value) E) → Gives (λ new. new) answer meant
        → IsImage is_of_memory answer (faulted meant)
    of (Ok new) meant h = ap faulted h
    of (Err Memory) meant h = inl refl
    of (Err (Fault fault)) meant h = inr (ap faulted h)

pub gives_flat : {X Y E : Type 0} (view : X → Y) (result : Result X (Refusal (Refusal E))) (meant : Result Y E)
    → GivesUnless is_of_memory view result (faulted meant) → Gives view (flat result) meant
gives_flat view (Ok x) (Ok y) h = let is : y ≡ view x = cc in ap (λ z. Ok z) is
gives_flat view (Ok x) (Err fault) h = absurd cc
gives_flat view (Err Memory) meant h = tt
gives_flat view (Err (Fault Memory)) meant h = tt
gives_flat view (Err (Fault (Fault fault))) meant (inl bad) = absurd (false≢true bad)
gives_flat view (Err (Fault (Fault fault))) (Ok y) (inr h) = absurd cc
gives_flat view (Err (Fault (Fault fault))) (Err other) (inr h) =
    let is : other ≡ fault = cc in ap (λ f. Err f) is

pub flat_ok : {X E : Type 0} (result : Result X (Refusal (Refusal E))) (x : X) → flat result ≡ Ok x → result ≡ Ok x
flat_ok (Ok y) x h = let is : y ≡ x = cc in ap (λ z. Ok z) is
flat_ok (Err refusal) x h = absurd cc
