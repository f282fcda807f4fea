-- What was told, one event after the other, makes the notes.
use Rattle.std.proofs.Common.{◌≡◌, true, List, [], ◌∷◌, ◌++◌, sym, ap, ◌∙◌, append_assoc, append-nil}
use Rattle.ent_sched.specs.Watching.{Heard, HearsAll}
use Rattle.ent_epoch.specs.Notes.{Hears, Note, Notes, all_noted, noted}

pub told_noted : (told : List Heard) (old new : Notes) → HearsAll Hears old told new → new.is_whole ≡ true
    → (old.is_whole ≡ true) × (new.notes ≡ old.notes ++ all_noted told)
told_noted [] old new same whole = (
  ap (λ (n : Notes). n.is_whole) (sym same) ∙ whole,
  ap (λ (n : Notes). n.notes) same ∙ sym (append-nil old.notes),
)
told_noted (heard ∷ more) old new hears whole =
    let next = hears.0 in
    let behind = told_noted more next new hears.2 whole in
    let here = hears.1 behind.0 in (
      here.0,
      behind.1 ∙ ap (λ (notes : List Note). notes ++ all_noted more) here.1
          ∙ append_assoc old.notes (noted heard) (all_noted more),
    )

pub told_noted_from_nothing : (told : List Heard) (old new : Notes) → HearsAll Hears old told new → old.notes ≡ []
    → new.is_whole ≡ true → new.notes ≡ all_noted told
told_noted_from_nothing told old new hears none whole =
    (told_noted told old new hears whole).1 ∙ ap (λ (notes : List Note). notes ++ all_noted told) none
