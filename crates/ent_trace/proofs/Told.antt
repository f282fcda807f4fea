-- What was told, one after the other, makes the notes.
use Rattle.std.proofs.Common.{◌≡◌, ℕ, true, List, [], ◌∷◌, refl, sym, ap, ◌∙◌, arith}
use Rattle.ent_reasons.specs.declared.note.Note.{Note}
use Rattle.std.proofs.lemmas.List.{get_or_past}
use Rattle.ent_reasons.specs.News.{noted, noted_from}
use Rattle.ent_reasons.specs.Noted.{no_run, note_of}
use Rattle.ent_sched.specs.Watching.{Heard, HearsAll, exchanged}
use Rattle.ent_trace.specs.Hearing.{Hears}
use Rattle.ent_trace.specs.declared.note_taker.NoteTaker.{NoteTaker}

pub all_noted : (told : List Heard) (old new : NoteTaker) → HearsAll Hears old told new
    → new.notes.is_whole ≡ true
    → (old.notes.is_whole ≡ true)
    × ((tx : ℕ) → note_of new.notes.notes tx ≡ noted_from (note_of old.notes.notes tx) tx (exchanged told))
all_noted [] old new same whole = (
  ap (λ (n : NoteTaker). n.notes.is_whole) (sym same) ∙ whole,
  λ tx. ap (λ (n : NoteTaker). note_of n.notes.notes tx)
      same,
)
all_noted (first ∷ more) old new heard whole =
    let next = heard.0 in
    let behind = all_noted more next new heard.2 whole in
    let here = heard.1 behind.0 in
    (here.0, λ tx. behind.1 tx ∙ ap (λ (n : Note). noted_from n tx (exchanged more)) (here.1 tx))

pub all_noted_from_nothing : (told : List Heard) (old new : NoteTaker) → HearsAll Hears old told new
    → old.notes.notes ≡ [] → new.notes.is_whole ≡ true
    → (tx : ℕ) → note_of new.notes.notes tx ≡ noted tx (exchanged told)
all_noted_from_nothing told old new heard none whole tx =
    (all_noted told old new heard whole).1 tx
    ∙ ap (λ (notes : List Note). noted_from (note_of notes tx) tx (exchanged told)) none
    ∙ ap (λ (n : Note). noted_from n tx (exchanged told)) (get_or_past [] tx no_run (omega arith))
