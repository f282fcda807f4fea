-- Notes behind a push, behind a change of one of them, and behind those of several.
use Rattle.std.proofs.Common.{◌≡◌, ◌<◌, ◌==◌, ℕ, zero, suc, ◌+◌, Bool, true, false, if◌then◌else◌, List, [], ◌∷◌, ◌++◌}
use Rattle.std.proofs.Common.{length, get_or, set, drop, refl, sym, ap, subst, ◌∙◌, arith}
use Rattle.std.proofs.lemmas.Bool.{eqb-true, eqb-false}
use Rattle.std.proofs.lemmas.List.{drop_more, get_or_default, get_or-set_same, get_or-set_other}
use Rattle.ent_reasons.specs.declared.note.Change.{Change}
use Rattle.ent_reasons.specs.declared.note.Note.{Note}
use Rattle.ent_reasons.specs.Noted.{changed, each, no_run, note_of}

note_past : (notes : List Note) (tx : ℕ) → note_of (notes ++ no_run ∷ []) tx ≡ note_of notes tx
note_past [] zero = refl
note_past [] (suc tx) = refl
note_past (note ∷ notes) zero = refl
note_past (note ∷ notes) (suc tx) = note_past notes tx

pub pushed : (notes more : List Note) (note : Note) (tx : ℕ) → note ≡ no_run → more ≡ notes ++ note ∷ []
    → note_of more tx ≡ note_of notes tx
pushed notes more note tx new is =
    ap (λ (list : List Note). note_of list tx) (is ∙ ap (λ (one : Note). notes ++ one ∷ []) new) ∙ note_past notes tx

-- a note in the place of another
pub put : (notes : List Note) (place tx : ℕ) (note : Note) → place < length notes
    → note_of (set notes place note) tx ≡ (if place == tx then note else note_of notes tx)
put notes place tx note within =
    elim (place == tx) as (λ b. (place == tx) ≡ b
    → note_of (set notes place note) tx ≡ (if b then note else note_of notes tx)) [
      | true ↦ λ same.
          subst (λ (at : ℕ). note_of (set notes place note) at ≡ note) (eqb-true place tx same)
          (get_or-set_same notes place note no_run within)
      | false ↦ λ other. get_or-set_other notes place tx note no_run (λ same. eqb-false place tx other (sym same))
    ] refl

-- a note changed where it stands
pub put_changed : (before notes more : List Note) (place tx : ℕ) (old new : Note) (change : Change)
    → place < length notes → ((at : ℕ) → note_of notes at ≡ note_of before at)
    → old ≡ get_or notes place old → new ≡ changed change old → more ≡ set notes place new
    → note_of more tx ≡ each (place ∷ []) change tx (note_of before tx)
put_changed before notes more place tx old new change within same here is made =
    ap (λ (list : List Note). note_of list tx) made ∙ put notes place tx new within ∙ chosen (place == tx) refl
  where
    stood : old ≡ note_of before place
    stood = here ∙ get_or_default notes place old no_run within ∙ same place

    chosen : (b : Bool) → (place == tx) ≡ b
        → (if b then new else note_of notes tx)
        ≡ (if b then changed change (note_of before tx) else note_of before tx)
    chosen true at =
        is ∙ ap (λ (note : Note). changed change note) (stood ∙ ap (note_of before) (eqb-true place tx at))
    chosen false at = same tx

pub each_on : (members : List ℕ) (i tx : ℕ) (change : Change) (note new : Note) → i < length members
    → new ≡ each (get_or members i 0 ∷ []) change tx note
    → each (drop (i + 1) members) change tx new ≡ each (drop i members) change tx note
each_on members i tx change note new within is =
    ap (λ (one : Note). each (drop (i + 1) members) change tx one) is
    ∙ ap (λ (ms : List ℕ). each ms change tx note) (sym (drop_more members i 0 within))
