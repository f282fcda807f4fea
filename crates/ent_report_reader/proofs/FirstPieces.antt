-- The first piece of a text, or none.
use Rattle.std.proofs.Common.{◌≡◌, ℕ, ◌+◌, List, [], ◌∷◌, ◌++◌, length, Option, Some, None, Result, Ok, Err, refl, ap}
use Rattle.std.proofs.Common.{sym, ◌∙◌, subst, inl, inr, arith, append_assoc, length-append}
use Rattle.std.proofs.lemmas.List.{append-nil}
use Rattle.std.specs.Prelude.{IfOk, codes}
use Rattle.std.specs.Fmt.{decimal}
use Rattle.std.specs.Option.{option_copied}
use denote.Ref.{Bor}
use Rattle.ent_print.specs.Printing.{script_text}
use Rattle.ent_book.specs.Report.{line}
use Rattle.ent_book.specs.Report2.{line_count}
use Rattle.ent_history.specs.ScriptLines as sections
use Rattle.ent_history.specs.Draft.{Draft}
use Rattle.ent_history.specs.Scripts.{ScriptStands}
use Rattle.ent_history.specs.Stands.{Stands}
use Rattle.ent_history.specs.Stands as stands
use Rattle.ent_history.specs.Fault.{NothingStands}
use Rattle.ent_history.proofs.BreaksOff.{is_numbered, no_more, same_line}
use Rattle.ent_report_reader.specs.Taking.{NoLine}
use Rattle.ent_report_reader.specs.Lines.{IsFirstLine}
use Rattle.ent_report_reader.specs.Steps.{NoScript, Steps, StepsScript, TakesPiece}
use Rattle.ent_report_reader.proofs.OneLine.{IsOneLine, NextTableIsWord, answer_line, answer_row_line, end_line}
use Rattle.ent_report_reader.proofs.OneLine.{heading_line, joint_line, one_line_or_script, opening_line}
use Rattle.ent_report_reader.proofs.OneLine.{opening_row_line, table_row_line, tx_line}

-- ---- a text that ends no line

-- it begins with a line
abbrev HasLine : List ℕ → Type 0
HasLine text = (front : List ℕ) × (more : List ℕ) × (text ≡ line front ++ more)

of_line : (text front : List ℕ) → text ≡ line front → HasLine text
of_line text front is = (front, [], is ∙ sym (append-nil (line front)))

of_one : (text : List ℕ) → IsOneLine text → HasLine text
of_one text own = of_line text own.0 own.2

has_line : (draft : Draft) (text : List ℕ) (next : Draft) → Stands draft text next → HasLine text
has_line draft text next (stands.Heading s) = of_one text (heading_line draft text next s)
has_line draft text next (stands.Opening s) = of_one text (opening_line draft text next s)
has_line draft text next (stands.OpeningRow s) = of_one text (opening_row_line draft text next s)
has_line draft text next (stands.Script s) =
    let number = length draft.told.scripts + 1 in (
      sections.script_text number (line_count (script_text s.script)),
      script_text s.script,
      s.text_is ∙ is_numbered number s.script,
    )
has_line draft text next (stands.Tx s) = of_one text (tx_line draft text next s)
has_line draft text next (stands.Answer s) = of_one text (answer_line draft text next s)
has_line draft text next (stands.AnswerRow s) = of_one text (answer_row_line draft text next s)
has_line draft text next (stands.Joint s) = of_one text (joint_line draft text next s)
has_line draft text next (stands.Member s) = of_line text _ s.text_is
has_line draft text next (stands.Table s) =
    of_line text (codes "table " ++ (s.create.name.name ++ (codes " " ++ decimal s.count))) s.text_is
has_line draft text next (stands.TableRow s) = of_one text (table_row_line draft text next s)
has_line draft text next (stands.End s) = of_one text (end_line draft text next s)

pub nothing_in_line : (draft : Draft) (rest : List ℕ) → line_count rest ≡ 0 → NothingStands draft rest
nothing_in_line draft rest none text more next parts s =
    let own = has_line draft text next s in
    no_more own.0 rest (own.1 ++ more) none
    (parts ∙ ap (λ t. t ++ more) own.2 ∙ append_assoc (line own.0) own.1 more)

-- ---- a line

pub takes_line : (old new : Draft) (text first behind : List ℕ) → IsFirstLine text first behind
    → Stands old (line first) new → TakesPiece old new text behind
takes_line old new text first behind is s =
    let whole = ap length is.parts in
    let parts = length-append (line first) behind in
    let some = length-append first (10 ∷ []) in
    record { piece = line first; parts = is.parts; stands = s; shorter = omega (arith, whole, parts, some) }

pub nothing_in_front : (draft : Draft) (text first behind : List ℕ) → IsFirstLine text first behind
    → NextTableIsWord draft → NoLine draft (line first) → NoScript draft (line first ++ behind)
    → NothingStands draft text
nothing_in_front draft text first behind is word none no_script piece more next parts s =
    let whole : line first ++ behind ≡ piece ++ more = sym is.parts ∙ parts in
    elim (one_line_or_script draft piece next word none.words s) [
      | inl own ↦
          let both = same_line first own.0 behind more is.in_line own.1 (whole ∙ ap (λ t. t ++ more) own.2) in
          let here : piece ≡ line first = own.2 ∙ ap line (sym both.0) in
          no_script (line first) behind next refl (none.nothing next (subst (λ t. Stands draft t next) here s))
      | inr script ↦ no_script piece more next whole script
    ]

pub takes_in_text : (old new : Draft) (text first behind rest : List ℕ) → IsFirstLine text first behind
    → TakesPiece old new (line first ++ behind) rest → TakesPiece old new text rest
takes_in_text old new text first behind rest is takes =
    subst (λ t. TakesPiece old new t rest) (sym is.parts) takes

first_by : (old new : Draft) (text first behind : List ℕ) (rest : Option (List ℕ)) → IsFirstLine text first behind
    → NextTableIsWord old → NoLine old (line first) → StepsScript old new (line first ++ behind) rest
    → Steps old new text rest
first_by old new text first behind None is word none steps =
    (nothing_in_front old text first behind is word none steps.0, steps.1)
first_by old new text first behind (Some rest) is word none steps =
    takes_in_text old new text first behind rest is steps

pub steps_by : {E : Type 0} (old between new : Draft) (text first behind : List ℕ)
    (result : Result (Option (Bor (List ℕ))) E) → IsFirstLine text first behind → NextTableIsWord old
    → NoLine old (line first) × (between ≡ old)
    → IfOk result (λ rest. StepsScript between new (line first ++ behind) (option_copied rest))
    → IfOk result (λ rest. Steps old new text (option_copied rest))
steps_by old between new text first behind (Ok rest) is word none steps =
    first_by old new text first behind (option_copied rest) is word none.0
    (subst (λ d. StepsScript d new (line first ++ behind) (option_copied rest)) none.1 steps)
steps_by old between new text first behind (Err fault) is word none steps = tt
