-- A telling keeps up with a core.
use Rattle.std.proofs.Common.{◌≡◌, true, false, List, [], ◌∷◌, ◌++◌, refl, sym, ap, subst, ◌∙◌}
use Rattle.std.proofs.Common.{append_assoc, append-nil}
use Rattle.ent_form.specs.declared.fault.FormFault.{FormFault}
use Rattle.ent_sched.specs.Passed.{resolved_forms}
use Rattle.ent_semantics.specs.Form.{Tables}
use Rattle.ent_protocol.specs.Event.{Committed, Event, Reply}
use Rattle.ent_protocol.specs.Reached.{IsReached, settled}
use Rattle.ent_protocol.specs.Run.{Forms}
use Rattle.ent_protocol.specs.State.{State}
use Rattle.ent_protocol.specs.Step.{Step}
use Rattle.ent_protocol_laws.specs.Commits.{is_commit}
use Rattle.ent_sched.specs.Watching.{Heard, HearsAll, PlaysThrough, heard_of}
use Rattle.ent_epoch.specs.Notes.{Note, all_noted, noted, noted_of}
use Rattle.ent_epoch.specs.Telling.{HearsOn, KeepsUp, Telling, telling_at}

-- ---- what was told, in two parts

through_both : (forms : Forms FormFault) (told more : List Heard) (s middle last : State)
    → PlaysThrough forms s told middle → PlaysThrough forms middle more last → PlaysThrough forms s (told ++ more) last
through_both forms [] more s middle last same through =
    subst (λ (t : State). PlaysThrough forms t more last) same through
through_both forms (heard ∷ told) more s middle last first second =
    (first.0, through_both forms told more heard.after middle last first.1 second)

noted_both : (told more : List Heard) → all_noted (told ++ more) ≡ all_noted told ++ all_noted more
noted_both [] more = refl
noted_both (heard ∷ told) more =
    ap (λ (notes : List Note). noted heard ++ notes) (noted_both told more)
    ∙ sym (append_assoc (noted heard) (all_noted told) (all_noted more))

nothing_noted : (reply : Reply FormFault) (tables : Tables) → is_commit reply ≡ false → noted_of reply tables ≡ []
nothing_noted (Committed entries) tables none = absurd cc
nothing_noted other tables none = refl

-- ---- a telling that begins, and goes on

pub keeps_up_at : (s : State) → IsReached resolved_forms s → KeepsUp (telling_at s) s
keeps_up_at s reached =
    record {
      first = s;
      reached = reached;
      told_to = record { entries = refl; tables = refl };
      told = [];
      through = refl;
      noted = λ whole. refl;
    }

pub unheard : (telling : Telling) (s : State) (event : Event) (reply : Reply FormFault) (new : State)
    → KeepsUp telling s → Step resolved_forms s event reply new → is_commit reply ≡ false → KeepsUp telling new
unheard telling s event reply new keeps step none =
    let one = heard_of event reply new in
    let nothing : all_noted (one ∷ []) ≡ [] =
    append-nil (noted one) ∙ nothing_noted reply (settled new) none in
    record {
      first = keeps.first;
      reached = keeps.reached;
      told_to = keeps.told_to;
      told = keeps.told ++ one ∷ [];
      through =
          through_both resolved_forms keeps.told (one ∷ []) keeps.first s new keeps.through (step, refl);
      noted = λ whole.
          keeps.noted whole
          ∙ sym (noted_both keeps.told (one ∷ [])
          ∙ ap (λ (notes : List Note). all_noted keeps.told ++ notes) nothing
          ∙ append-nil (all_noted keeps.told));
    }

-- what it hears, one after the other
record Heeds (old : Telling) (told : List Heard) (new : Telling) : Type 0 where
  entries : new.entries ≡ old.entries
  tables : new.tables ≡ old.tables
  whole : new.notes.is_whole ≡ true → old.notes.is_whole ≡ true
  noted : new.notes.is_whole ≡ true → new.notes.notes ≡ old.notes.notes ++ all_noted told

heeds : (told : List Heard) (old new : Telling) → HearsAll HearsOn old told new → Heeds old told new
heeds [] old new same =
    record {
      entries = ap (λ (t : Telling). t.entries) same;
      tables = ap (λ (t : Telling). t.tables) same;
      whole = λ whole. ap (λ (t : Telling). t.notes.is_whole) (sym same) ∙ whole;
      noted = λ whole. ap (λ (t : Telling). t.notes.notes) same ∙ sym (append-nil old.notes.notes);
    }
heeds (heard ∷ more) old new hears =
    let next = hears.0 in
    let here = hears.1 in
    let behind = heeds more next new hears.2 in
    record {
      entries = behind.entries ∙ here.entries;
      tables = behind.tables ∙ here.tables;
      whole = λ whole. (here.notes (behind.whole whole)).0;
      noted = λ whole.
          behind.noted whole
          ∙ ap (λ (notes : List Note). notes ++ all_noted more) (here.notes (behind.whole whole)).1
          ∙ append_assoc old.notes.notes (noted heard) (all_noted more);
    }

pub only_notes : (old : Telling) (told : List Heard) (new : Telling) → HearsAll HearsOn old told new
    → new ≡ record old { notes = new.notes }
only_notes old told new hears =
    let behind = heeds told old new hears in
    λ i. record new { entries = behind.entries i; tables = behind.tables i }

pub heard : (old : Telling) (s : State) (told : List Heard) (new : Telling) (last : State) → KeepsUp old s
    → PlaysThrough resolved_forms s told last → HearsAll HearsOn old told new → KeepsUp new last
heard old s told new last keeps through hears =
    let behind = heeds told old new hears in
    record {
      first = keeps.first;
      reached = keeps.reached;
      told_to = record {
        entries = behind.entries ∙ keeps.told_to.entries;
        tables = behind.tables ∙ keeps.told_to.tables;
      };
      told = keeps.told ++ told;
      through = through_both resolved_forms keeps.told told keeps.first s last keeps.through through;
      noted = λ whole.
          behind.noted whole
          ∙ ap (λ (notes : List Note). notes ++ all_noted told) (keeps.noted (behind.whole whole))
          ∙ sym (noted_both keeps.told told);
    }
