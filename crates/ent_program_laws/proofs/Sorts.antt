-- Which sort of piece stands: what is due tells, and where nothing of what stands above is due, the first bytes.
use Rattle.std.proofs.Common.{◌≡◌, ◌≤◌, ◌+◌, ℕ, zero, suc, Bool, true, false, cond, eqb, leb, List, [], ◌∷◌, ◌++◌}
use Rattle.std.proofs.Common.{length, refl, ap, sym, ◌∙◌, subst, arith, append_assoc, if◌then◌else◌}
use Rattle.std.specs.Prelude.{codes, slice_index, ◌/◌, ◌%◌, ◌==◌}
use Rattle.std.specs.Fmt.{decimal, digit_glyph, digits, digits_onto}
use Rattle.std.specs.List.{flat_map}
use Rattle.std.proofs.lemmas.Bool.{le-leb, lt-ltb}
use Rattle.std.proofs.lemmas.Nat.{mod_below}
use Rattle.ent_print.specs.Printing.{script_text}
use Rattle.ent_book.specs.Report.{line}
use Rattle.ent_book.specs.Report2.{line_count, opening_line}
use Rattle.ent_history.specs.Text.{tx_text}
use Rattle.ent_history.specs.Draft.{Draft, Due, Heading, Free, OpeningRows, AnswerRows, Members, TableRows, Ended}
use Rattle.ent_history.specs.Opening.{HeadingStands, OpeningRowStands, OpeningStands}
use Rattle.ent_history.specs.Scripts.{ScriptStands}
use Rattle.ent_history.specs.Answers.{AnswerRowStands, AnswerStands, TxStands, answers_so_far}
use Rattle.ent_history.specs.Joints.{JointStands, MemberStands, place_text}
use Rattle.ent_history.specs.Tables.{EndStands, TableRowStands, TableStands, table_line_text}
use Rattle.ent_history.specs.Stands.{Stands}
use Rattle.ent_history.specs.Stands as stands
use Rattle.ent_history.proofs.BreaksOff.{head, is_numbered}
use Rattle.ent_program_laws.proofs.AnswerTexts.{begins_with_place}

pub data Sort : Type 0 where
  TheHeading : Sort
  AnOpening : Sort
  AnOpeningRow : Sort
  AScript : Sort
  ATx : Sort
  AnAnswer : Sort
  AnAnswerRow : Sort
  AJoint : Sort
  AMember : Sort
  ATable : Sort
  ATableRow : Sort
  TheEnd : Sort

-- a piece of this sort stands
abbrev pub StandsAs : Sort → Draft → List ℕ → Draft → Type 0
StandsAs TheHeading draft text next = HeadingStands draft text next
StandsAs AnOpening draft text next = OpeningStands draft text next
StandsAs AnOpeningRow draft text next = OpeningRowStands draft text next
StandsAs AScript draft text next = ScriptStands draft text next
StandsAs ATx draft text next = TxStands draft text next
StandsAs AnAnswer draft text next = AnswerStands draft text next
StandsAs AnAnswerRow draft text next = AnswerRowStands draft text next
StandsAs AJoint draft text next = JointStands draft text next
StandsAs AMember draft text next = MemberStands draft text next
StandsAs ATable draft text next = TableStands draft text next
StandsAs ATableRow draft text next = TableRowStands draft text next
StandsAs TheEnd draft text next = EndStands draft text next

-- ---- what the first bytes tell

-- by the first letter; of a table and of a transaction it is the same one
abbrev lettered : ℕ → ℕ → Sort
lettered first second =
    cond (eqb first 111) AnOpening
    (cond (eqb first 115) AScript
    (cond (eqb first 106) AJoint
    (cond (eqb first 101) TheEnd
    (cond (eqb second 97) ATable ATx))))

-- no letter stands before `9`
abbrev free_sort : ℕ → ℕ → Sort
free_sort first second = cond (leb first 57) AnAnswer (lettered first second)

abbrev pub sort_at : Due → List ℕ → Sort
sort_at Heading text = TheHeading
sort_at Free text = free_sort (slice_index text 0) (slice_index text 1)
sort_at (OpeningRows more) text = AnOpeningRow
sort_at (AnswerRows more) text = AnAnswerRow
sort_at (Members tx place more) text = AMember
sort_at (TableRows more) text = ATableRow
sort_at Ended text = TheEnd

-- ---- numbers begin with a digit

record Low (text : List ℕ) : Type 0 where
  first : ℕ
  more : List ℕ
  is : text ≡ first ∷ more
  low : first ≤ 57

glyph_is_low : (n : ℕ) → digit_glyph false (n % 10) ≤ 57
glyph_is_low n =
    let below = mod_below n 10 (omega arith) in
    subst (λ (t : Bool). (if t then 48 + n % 10 else 87 + n % 10) ≤ 57) (sym (lt-ltb (n % 10) 10 below))
    (omega (arith, below))

either : (test : Bool) (one other : List ℕ) → Low one → Low other → Low (if test then one else other)
either true one other h k = h
either false one other h k = k

onto_is_low : (k n : ℕ) (behind : List ℕ) → (k ≡ 0 → Low behind) → Low (digits_onto k 10 false n behind)
onto_is_low zero n behind h = h refl
onto_is_low (suc k) n behind h =
    let glyph = digit_glyph false (n % 10) in
    let one : Low (glyph ∷ behind) = record { first = glyph; more = behind; is = refl; low = glyph_is_low n } in
    either (n / 10 == 0) (glyph ∷ behind) (digits_onto k 10 false (n / 10) (glyph ∷ behind)) one
    (onto_is_low k (n / 10) (glyph ∷ behind) (λ none. one))

number_is_low : (n : ℕ) → Low (decimal n)
unfolding digits
number_is_low n = onto_is_low 64 n [] (λ none. absurd (omega (arith, none)))

number_is_an_answer : (n : ℕ) (rest : List ℕ) → sort_at Free (decimal n ++ rest) ≡ AnAnswer
number_is_an_answer n rest =
    let number = number_is_low n in
    ap (λ (t : List ℕ). sort_at Free (t ++ rest)) number.is
    ∙ ap
    (λ (t : Bool). cond t AnAnswer (lettered number.first (slice_index (number.first ∷ (number.more ++ rest)) 1)))
    (le-leb number.first 57 number.low)

-- ---- each sort

as_sort : (sort : Sort) (draft : Draft) (text more : List ℕ) (next : Draft) → sort_at draft.due (text ++ more) ≡ sort
    → StandsAs sort draft text next → StandsAs (sort_at draft.due (text ++ more)) draft text next
as_sort sort draft text more next e s = subst (λ (k : Sort). StandsAs k draft text next) (sym e) s

at_due : (draft : Draft) (due : Due) (text : List ℕ) → draft.due ≡ due → sort_at draft.due text ≡ sort_at due text
at_due draft due text is = ap (λ (d : Due). sort_at d text) is

at_text : (draft : Draft) (text whole more : List ℕ) → draft.due ≡ Free → text ≡ whole
    → sort_at draft.due (text ++ more) ≡ sort_at Free (whole ++ more)
at_text draft text whole more free is =
    at_due draft Free (text ++ more) free ∙ ap (λ (t : List ℕ). sort_at Free (t ++ more)) is

answer_sort : (draft : Draft) (text more : List ℕ) (next : Draft) → AnswerStands draft text next
    → sort_at draft.due (text ++ more) ≡ AnAnswer
answer_sort draft text more next s =
    let number = answers_so_far draft.told.transactions + 1 in
    let own = begins_with_place number s.answer s.count in
    at_text draft text (decimal number ++ own.0) more s.free (s.text_is ∙ own.1)
    ∙ ap (sort_at Free) (append_assoc (decimal number) own.0 more)
    ∙ number_is_an_answer number (own.0 ++ more)

-- What stands in front of a text is of the sort that what is due and the text tell.
pub sorted : (draft : Draft) (text more : List ℕ) (next : Draft) → Stands draft text next
    → StandsAs (sort_at draft.due (text ++ more)) draft text next
sorted draft text more next (stands.Heading s) =
    as_sort TheHeading draft text more next (at_due draft Heading (text ++ more) s.due) s
sorted draft text more next (stands.Opening s) =
    as_sort AnOpening draft text more next
    (at_text draft text (opening_line s.create.name.name s.create.columns s.count) more s.free s.text_is) s
sorted draft text more next (stands.OpeningRow s) =
    as_sort AnOpeningRow draft text more next (at_due draft (OpeningRows s.more) (text ++ more) s.due) s
sorted draft text more next (stands.Script s) =
    let number = length draft.told.scripts + 1 in
    as_sort AScript draft text more next
    (at_text draft text (line (head number (line_count (script_text s.script))) ++ script_text s.script) more
    s.is_next.free (s.text_is ∙ is_numbered number s.script)) s
sorted draft text more next (stands.Tx s) =
    as_sort ATx draft text more next
    (at_text draft text (tx_text (length draft.told.transactions + 1) (record { fate = s.fate; answers = [] })) more
    s.free s.text_is) s
sorted draft text more next (stands.Answer s) =
    as_sort AnAnswer draft text more next (answer_sort draft text more next s) s
sorted draft text more next (stands.AnswerRow s) =
    as_sort AnAnswerRow draft text more next (at_due draft (AnswerRows s.more) (text ++ more) s.due) s
sorted draft text more next (stands.Joint s) =
    as_sort AJoint draft text more next
    (at_text draft text
    (line (codes "joint " ++ (decimal (length draft.told.joint_answers + 1) ++ flat_map place_text s.places))) more
    s.free s.text_is) s
sorted draft text more next (stands.Member s) =
    as_sort AMember draft text more next (at_due draft (Members s.tx s.place s.more) (text ++ more) s.due) s
sorted draft text more next (stands.Table s) =
    as_sort ATable draft text more next
    (at_text draft text (table_line_text s.create.name.name s.count) more s.free s.text_is) s
sorted draft text more next (stands.TableRow s) =
    as_sort ATableRow draft text more next (at_due draft (TableRows s.more) (text ++ more) s.due) s
sorted draft text more next (stands.End s) =
    as_sort TheEnd draft text more next (at_text draft text (line (codes "end")) more s.free s.text_is) s
