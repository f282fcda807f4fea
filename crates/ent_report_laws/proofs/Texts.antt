-- The text of a report is that of what it tells.
use Rattle.std.proofs.Common.{◌≡◌, ℕ, List, [], ◌∷◌, ◌++◌, refl, sym, subst, ◌∙◌}
use Rattle.std.proofs.lemmas.List.{append-nil, append_assoc}
use Rattle.ent_history.specs.declared.history.History.{History}
use Rattle.ent_history.specs.Text.{history_text}
use Rattle.ent_history.specs.Draft.{Draft, Ended, blank}
use Rattle.ent_history.specs.Stands.{Stands, Heading, Opening, OpeningRow, Script, Tx, Answer, AnswerRow, Joint}
use Rattle.ent_history.specs.Stands.{Member, Table, TableRow, End, AllStand, whole, Tells}
use Rattle.ent_report_laws.proofs.Kept.{IsSound, sound_kept, blank_sound}
use Rattle.ent_report_laws.proofs.Opened.{IsOpened}
use Rattle.ent_report_laws.proofs.Steps.{IsTextOf, heading_text, opening_text_more, opening_row_text_more}
use Rattle.ent_report_laws.proofs.Steps.{script_text_more, tx_text_more, answer_text_more, answer_row_text_more}
use Rattle.ent_report_laws.proofs.Steps.{joint_text_more, member_text_more, table_text_more, table_row_text_more}
use Rattle.ent_report_laws.proofs.Steps.{end_text_more}

more_text : (draft : Draft) (text piece : List ℕ) (next : Draft) → IsOpened draft.told.opening → IsTextOf draft text
    → Stands draft piece next → IsTextOf next (text ++ piece)
more_text draft text piece next opened so (Heading s) = heading_text draft text piece next so s
more_text draft text piece next opened so (Opening s) = opening_text_more draft text piece next so opened s
more_text draft text piece next opened so (OpeningRow s) = opening_row_text_more draft text piece next so opened s
more_text draft text piece next opened so (Script s) = script_text_more draft text piece next so s
more_text draft text piece next opened so (Tx s) = tx_text_more draft text piece next so s
more_text draft text piece next opened so (Answer s) = answer_text_more draft text piece next so s
more_text draft text piece next opened so (AnswerRow s) = answer_row_text_more draft text piece next so s
more_text draft text piece next opened so (Joint s) = joint_text_more draft text piece next so s
more_text draft text piece next opened so (Member s) = member_text_more draft text piece next so s
more_text draft text piece next opened so (Table s) = table_text_more draft text piece next so s
more_text draft text piece next opened so (TableRow s) = table_row_text_more draft text piece next so s
more_text draft text piece next opened so (End s) = end_text_more draft text piece next so s

all_text : (pieces : List (List ℕ)) (draft : Draft) (text : List ℕ) (next : Draft) → IsSound draft
    → IsTextOf draft text → AllStand draft pieces next → IsTextOf next (text ++ whole pieces)
all_text [] draft text next sound so e =
    subst (λ (d : Draft). IsTextOf d (text ++ [])) e (subst (IsTextOf draft) (sym (append-nil text)) so)
all_text (piece ∷ pieces) draft text next sound so stand =
    subst (IsTextOf next) (append_assoc text piece (whole pieces))
    (all_text pieces stand.0 (text ++ piece) next (sound_kept draft piece stand.0 sound stand.1)
    (more_text draft text piece stand.0 sound.opened so stand.1) stand.2)

pub told_text_is : (text : List ℕ) (history : History) → Tells text history → text ≡ history_text history
told_text_is text history tells =
    tells.1 ∙ all_text tells.0 blank [] (record { told = history; due = Ended }) blank_sound (refl, refl) tells.2
