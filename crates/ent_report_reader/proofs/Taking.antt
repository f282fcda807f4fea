-- A line of any sort: which sort it can be where nothing of what stands above is due, and where something is.
use Rattle.std.proofs.Common.{◌≡◌, ℕ, Bool, true, false, List, Result, Ok, Err, sym, ◌∙◌, subst}
use Rattle.std.specs.Prelude.{IfOk}
use Rattle.ent_book.specs.Report.{line}
use Rattle.ent_history.specs.Draft.{AnswerRows, Draft, Ended, Free, Heading, Members, OpeningRows, TableRows}
use Rattle.ent_history.specs.Opening.{HeadingStands, OpeningRowStands, OpeningStands}
use Rattle.ent_history.specs.Answers.{AnswerRowStands, AnswerStands, TxStands}
use Rattle.ent_history.specs.Joints.{JointStands, MemberStands}
use Rattle.ent_history.specs.Scripts.{ScriptStands}
use Rattle.ent_history.specs.Tables.{EndStands, TableRowStands, TableStands}
use Rattle.ent_history.specs.Stands.{Stands}
use Rattle.ent_history.specs.Stands as stands
use Rattle.ent_value.specs.declared.refusal.Refusal.{Refusal}
use Rattle.ent_value.specs.declared.refusal.Refusal.TheVariants.{Memory, Fault}
use Rattle.ent_text.specs.declared.line_fault.LineFault.{LineFault}
use Rattle.ent_report_reader.specs.Judging.{Cannot, Judges, TellsWhether, Unless}
use Rattle.ent_report_reader.specs.Members.{MemberHasWords}
use Rattle.ent_report_reader.specs.Taking.{NoLine, NothingAbove, NothingBelow, TakesAbove, TakesBelow, TakesFree}
use Rattle.ent_report_reader.specs.Taking.{TakesLine}
use Rattle.ent_report_reader.proofs.Which.{answer_row_only, heading_only, member_only, nothing_more, opening_row_only}
use Rattle.ent_report_reader.proofs.Which.{table_row_only, wants}

-- no member is due
no_words : (draft : Draft) → ((tx place : ℕ) (more : List (ℕ × ℕ)) → draft.due ≡ Members tx place more → ⊥)
    → MemberHasWords draft
no_words draft other tx place more is = absurd (other tx place more is)

pub no_heading : (draft : Draft) (text : List ℕ) → draft.due ≡ Heading → Cannot (HeadingStands draft text)
    → NoLine draft text
no_heading draft text is none = record {
  nothing = λ next s. absurd (none next (heading_only draft text next is (wants draft text next s)));
  words = no_words draft (λ tx place more due. let e = sym is ∙ due in cc);
}

pub no_opening_row : (draft : Draft) (text : List ℕ) (more : ℕ) → draft.due ≡ OpeningRows more
    → Cannot (OpeningRowStands draft text) → NoLine draft text
no_opening_row draft text more is none = record {
  nothing = λ next s. absurd (none next (opening_row_only draft text next more is (wants draft text next s)));
  words = no_words draft (λ tx place members due. let e = sym is ∙ due in cc);
}

pub no_answer_row : (draft : Draft) (text : List ℕ) (more : ℕ) → draft.due ≡ AnswerRows more
    → Cannot (AnswerRowStands draft text) → NoLine draft text
no_answer_row draft text more is none = record {
  nothing = λ next s. absurd (none next (answer_row_only draft text next more is (wants draft text next s)));
  words = no_words draft (λ tx place members due. let e = sym is ∙ due in cc);
}

pub no_table_row : (draft : Draft) (text : List ℕ) (more : ℕ) → draft.due ≡ TableRows more
    → Cannot (TableRowStands draft text) → NoLine draft text
no_table_row draft text more is none = record {
  nothing = λ next s. absurd (none next (table_row_only draft text next more is (wants draft text next s)));
  words = no_words draft (λ tx place members due. let e = sym is ∙ due in cc);
}

pub no_member : (draft : Draft) (text : List ℕ) (tx place : ℕ) (more : List (ℕ × ℕ)) → draft.due ≡ Members tx place more
    → MemberHasWords draft → Cannot (MemberStands draft text) → NoLine draft text
no_member draft text tx place more is words none = record {
  nothing = λ next s. absurd (none next (member_only draft text next tx place more is (wants draft text next s)));
  words = words;
}

pub no_end : (draft : Draft) (text : List ℕ) → draft.due ≡ Ended → NoLine draft text
no_end draft text is = record {
  nothing = λ next s. absurd (nothing_more draft text next is (wants draft text next s));
  words = no_words draft (λ tx place members due. let e = sym is ∙ due in cc);
}

pub no_free : (draft : Draft) (text : List ℕ) → draft.due ≡ Free → NothingAbove draft text → NothingBelow draft text
    → NoLine draft text
no_free draft text is above below = record {
  nothing = by;
  words = no_words draft (λ tx place members due. let e = sym is ∙ due in cc);
}
  where
    by : (next : Draft) → Stands draft text next → ScriptStands draft text next
    by next (stands.Heading s) = let e = sym is ∙ s.due in cc
    by next (stands.Opening s) = absurd (above.no_opening next s)
    by next (stands.OpeningRow s) = let e = sym is ∙ s.due in cc
    by next (stands.Script s) = s
    by next (stands.Tx s) = absurd (above.no_tx next s)
    by next (stands.Answer s) = absurd (above.no_answer next s)
    by next (stands.AnswerRow s) = let e = sym is ∙ s.due in cc
    by next (stands.Joint s) = absurd (below.no_joint next s)
    by next (stands.Member s) = let e = sym is ∙ s.due in cc
    by next (stands.Table s) = absurd (below.no_table next s)
    by next (stands.TableRow s) = let e = sym is ∙ s.due in cc
    by next (stands.End s) = absurd (below.no_end next s)

-- ---- one step after the other

-- nothing of the sort can stand, and the draft is as before
abbrev pub Passed : (Draft → Type 0) → Draft → Draft → Type 0
Passed able old new = Cannot able × (new ≡ old)

-- what a step says, in a truth value
abbrev pub Judged : {E : Type 0} → (Draft → Type 0) → Draft → Result Bool E → Draft → Type 0
Judged able old (Ok true) new = able new
Judged able old (Ok false) new = Cannot able × (new ≡ old)
Judged able old (Err fault) new = Unit {0}

pub judged_so : {A E : Type 0} (able : Draft → Type 0) (old new : Draft) (judged : Result A (Refusal LineFault))
    → (read : Result Bool E) → IfOk read (TellsWhether judged) → Judges able old judged new
    → Judged able old read new
judged_so able old new (Ok done) (Ok true) tells judges = judges
judged_so able old new (Ok done) (Ok false) tells judges = cc
judged_so able old new (Err Memory) (Ok true) tells judges = absurd tells
judged_so able old new (Err Memory) (Ok false) tells judges = absurd tells
judged_so able old new (Err (Fault fault)) (Ok true) tells judges = cc
judged_so able old new (Err (Fault fault)) (Ok false) tells judges = judges
judged_so able old new judged (Err fault) tells judges = tt

pub known_so : {A E : Type 0} (fact : Type 0) (judged : Result A (Refusal LineFault)) (read : Result Bool E)
    → IfOk read (TellsWhether judged) → Unless fact judged → IfOk read (λ stands. fact)
known_so fact (Ok done) (Ok stands) tells unless = unless
known_so fact (Err Memory) (Ok stands) tells unless = absurd tells
known_so fact (Err (Fault problem)) (Ok stands) tells unless = unless
known_so fact judged (Err problem) tells unless = tt

pub judged_true : {A : Type 0} (able : Draft → Type 0) (old new : Draft) (judged : Result A (Refusal LineFault))
    → (taken : Bool) → taken ≡ true → TellsWhether judged taken → Judges able old judged new → able new
judged_true able old new (Ok done) taken is tells judges = judges
judged_true able old new (Err Memory) taken is tells judges = absurd tells
judged_true able old new (Err (Fault fault)) taken is tells judges = let both = sym is ∙ tells in cc

pub judged_false : {A : Type 0} (able : Draft → Type 0) (old new : Draft) (judged : Result A (Refusal LineFault))
    → (taken : Bool) → taken ≡ false → TellsWhether judged taken → Judges able old judged new → Passed able old new
judged_false able old new (Ok done) taken is tells judges = let both = sym is ∙ tells in cc
judged_false able old new (Err Memory) taken is tells judges = absurd tells
judged_false able old new (Err (Fault fault)) taken is tells judges = judges

pub above_last : {E : Type 0} (old one two new : Draft) (text : List ℕ) (read : Result Bool E)
    → Passed (OpeningStands old (line text)) old one → Passed (TxStands one (line text)) one two
    → Judged (AnswerStands two (line text)) two read new
    → IfOk read (λ taken. TakesAbove old text taken new)
above_last old one two new text (Err fault) opening tx answer = tt
above_last old one two new text (Ok true) opening tx answer =
    stands.Answer (subst (λ d. AnswerStands d (line text) new) (tx.1 ∙ opening.1) answer)
above_last old one two new text (Ok false) opening tx answer = (
  record {
    no_opening = opening.0;
    no_tx = subst (λ d. Cannot (TxStands d (line text))) opening.1 tx.0;
    no_answer = subst (λ d. Cannot (AnswerStands d (line text))) (tx.1 ∙ opening.1) answer.0;
  },
  answer.1 ∙ tx.1 ∙ opening.1,
)

pub above_second : (old one new : Draft) (text : List ℕ) → Passed (OpeningStands old (line text)) old one
    → TxStands one (line text) new → Stands old (line text) new
above_second old one new text opening tx = stands.Tx (subst (λ d. TxStands d (line text) new) opening.1 tx)

pub below_last : {E : Type 0} (old one two new : Draft) (text : List ℕ) (read : Result Bool E)
    → Passed (JointStands old (line text)) old one → Passed (TableStands one (line text)) one two
    → Judged (EndStands two (line text)) two read new
    → IfOk read (λ taken. TakesBelow old text taken new)
below_last old one two new text (Err fault) joint table end = tt
below_last old one two new text (Ok true) joint table end =
    stands.End (subst (λ d. EndStands d (line text) new) (table.1 ∙ joint.1) end)
below_last old one two new text (Ok false) joint table end = (
  record {
    no_joint = joint.0;
    no_table = subst (λ d. Cannot (TableStands d (line text))) joint.1 table.0;
    no_end = subst (λ d. Cannot (EndStands d (line text))) (table.1 ∙ joint.1) end.0;
  },
  end.1 ∙ table.1 ∙ joint.1,
)

pub below_second : (old one new : Draft) (text : List ℕ) → Passed (JointStands old (line text)) old one
    → TableStands one (line text) new → Stands old (line text) new
below_second old one new text joint table =
    stands.Table (subst (λ d. TableStands d (line text) new) joint.1 table)

pub free_first : (old new : Draft) (text : List ℕ) (taken : Bool) → taken ≡ true → TakesAbove old text taken new
    → Stands old (line text) new
free_first old new text true is takes = takes
free_first old new text false is takes = cc

pub free_last : {E : Type 0} (old one new : Draft) (text : List ℕ) (taken : Bool) (read : Result Bool E)
    → taken ≡ false → TakesAbove old text taken one → IfOk read (λ taken. TakesBelow one text taken new)
    → IfOk read (λ taken. TakesFree old text taken new)
free_last old one new text true read is above below = cc
free_last old one new text false (Err fault) is above below = tt
free_last old one new text false (Ok true) is above below =
    subst (λ d. Stands d (line text) new) above.1 below
free_last old one new text false (Ok false) is above below =
    (above.0, subst (λ d. NothingBelow d (line text)) above.1 below.0, below.1 ∙ above.1)

-- ---- where something is due

-- the one step that can take the line
pub only_step : {E : Type 0} (able : Draft → Type 0) (old new : Draft) (text : List ℕ) (read : Result Bool E)
    → (able new → Stands old (line text) new) → (Cannot able → NoLine old (line text))
    → Judged able old read new → IfOk read (λ taken. TakesLine old text taken new)
only_step able old new text (Err fault) does cannot judged = tt
only_step able old new text (Ok true) does cannot judged = does judged
only_step able old new text (Ok false) does cannot judged = (cannot judged.0, judged.1)

-- that of a member
pub member_step : {E : Type 0} (old new : Draft) (text : List ℕ) (tx place : ℕ) (more : List (ℕ × ℕ))
    → (read : Result Bool E) → old.due ≡ Members tx place more → IfOk read (λ stands. MemberHasWords old)
    → Judged (MemberStands old (line text)) old read new → IfOk read (λ taken. TakesLine old text taken new)
member_step old new text tx place more (Err fault) is words judged = tt
member_step old new text tx place more (Ok true) is words judged = stands.Member judged
member_step old new text tx place more (Ok false) is words judged =
    (no_member old (line text) tx place more is words judged.0, judged.1)

pub free_step : {E : Type 0} (old new : Draft) (text : List ℕ) (read : Result Bool E) → old.due ≡ Free
    → IfOk read (λ taken. TakesFree old text taken new) → IfOk read (λ taken. TakesLine old text taken new)
free_step old new text (Err fault) is takes = tt
free_step old new text (Ok true) is takes = takes
free_step old new text (Ok false) is takes = (no_free old (line text) is takes.0 takes.1, takes.2)
