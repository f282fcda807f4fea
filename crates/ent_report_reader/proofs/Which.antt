-- Which sort of line can stand, by what is due.
use Rattle.std.proofs.Common.{◌≡◌, ℕ, List, sym, ◌∙◌}
use Rattle.ent_history.specs.Draft.{Draft, Heading, Free, OpeningRows, AnswerRows, Members, TableRows, Ended}
use Rattle.ent_history.specs.Opening.{HeadingStands, OpeningRowStands}
use Rattle.ent_history.specs.Answers.{AnswerRowStands}
use Rattle.ent_history.specs.Joints.{MemberStands}
use Rattle.ent_history.specs.Tables.{TableRowStands}
use Rattle.ent_history.specs.Stands.{Stands}
use Rattle.ent_history.specs.Stands as stands

-- what is due of a line of each sort
pub data Wants (draft : Draft) (text : List ℕ) (next : Draft) : Type 0 where
  TheHeading : draft.due ≡ Heading → HeadingStands draft text next → Wants draft text next
  AnOpeningRow : (more : ℕ) → draft.due ≡ OpeningRows more → OpeningRowStands draft text next → Wants draft text next
  AnAnswerRow : (more : ℕ) → draft.due ≡ AnswerRows more → AnswerRowStands draft text next → Wants draft text next
  AMember : (tx place : ℕ) (more : List (ℕ × ℕ)) → draft.due ≡ Members tx place more → MemberStands draft text next
      → Wants draft text next
  ATableRow : (more : ℕ) → draft.due ≡ TableRows more → TableRowStands draft text next → Wants draft text next
  Another : draft.due ≡ Free → Wants draft text next

pub wants : (draft : Draft) (text : List ℕ) (next : Draft) → Stands draft text next → Wants draft text next
wants draft text next (stands.Heading s) = TheHeading s.due s
wants draft text next (stands.Opening s) = Another s.free
wants draft text next (stands.OpeningRow s) = AnOpeningRow s.more s.due s
wants draft text next (stands.Script s) = Another s.is_next.free
wants draft text next (stands.Tx s) = Another s.free
wants draft text next (stands.Answer s) = Another s.free
wants draft text next (stands.AnswerRow s) = AnAnswerRow s.more s.due s
wants draft text next (stands.Joint s) = Another s.free
wants draft text next (stands.Member s) = AMember s.tx s.place s.more s.due s
wants draft text next (stands.Table s) = Another s.free
wants draft text next (stands.TableRow s) = ATableRow s.more s.due s
wants draft text next (stands.End s) = Another s.free

pub heading_only : (draft : Draft) (text : List ℕ) (next : Draft) → draft.due ≡ Heading → Wants draft text next
    → HeadingStands draft text next
heading_only draft text next h (TheHeading due s) = s
heading_only draft text next h (AnOpeningRow more due s) = let e = sym h ∙ due in cc
heading_only draft text next h (AnAnswerRow more due s) = let e = sym h ∙ due in cc
heading_only draft text next h (AMember tx place more due s) = let e = sym h ∙ due in cc
heading_only draft text next h (ATableRow more due s) = let e = sym h ∙ due in cc
heading_only draft text next h (Another due) = let e = sym h ∙ due in cc

pub opening_row_only : (draft : Draft) (text : List ℕ) (next : Draft) (n : ℕ) → draft.due ≡ OpeningRows n
    → Wants draft text next → OpeningRowStands draft text next
opening_row_only draft text next n h (AnOpeningRow more due s) = s
opening_row_only draft text next n h (TheHeading due s) = let e = sym h ∙ due in cc
opening_row_only draft text next n h (AnAnswerRow more due s) = let e = sym h ∙ due in cc
opening_row_only draft text next n h (AMember tx place more due s) = let e = sym h ∙ due in cc
opening_row_only draft text next n h (ATableRow more due s) = let e = sym h ∙ due in cc
opening_row_only draft text next n h (Another due) = let e = sym h ∙ due in cc

pub answer_row_only : (draft : Draft) (text : List ℕ) (next : Draft) (n : ℕ) → draft.due ≡ AnswerRows n
    → Wants draft text next → AnswerRowStands draft text next
answer_row_only draft text next n h (AnAnswerRow more due s) = s
answer_row_only draft text next n h (TheHeading due s) = let e = sym h ∙ due in cc
answer_row_only draft text next n h (AnOpeningRow more due s) = let e = sym h ∙ due in cc
answer_row_only draft text next n h (AMember tx place more due s) = let e = sym h ∙ due in cc
answer_row_only draft text next n h (ATableRow more due s) = let e = sym h ∙ due in cc
answer_row_only draft text next n h (Another due) = let e = sym h ∙ due in cc

pub table_row_only : (draft : Draft) (text : List ℕ) (next : Draft) (n : ℕ) → draft.due ≡ TableRows n
    → Wants draft text next → TableRowStands draft text next
table_row_only draft text next n h (ATableRow more due s) = s
table_row_only draft text next n h (TheHeading due s) = let e = sym h ∙ due in cc
table_row_only draft text next n h (AnOpeningRow more due s) = let e = sym h ∙ due in cc
table_row_only draft text next n h (AnAnswerRow more due s) = let e = sym h ∙ due in cc
table_row_only draft text next n h (AMember tx place more due s) = let e = sym h ∙ due in cc
table_row_only draft text next n h (Another due) = let e = sym h ∙ due in cc

pub member_only : (draft : Draft) (text : List ℕ) (next : Draft) (n m : ℕ) (rest : List (ℕ × ℕ))
    → draft.due ≡ Members n m rest → Wants draft text next → MemberStands draft text next
member_only draft text next n m rest h (AMember tx place more due s) = s
member_only draft text next n m rest h (TheHeading due s) = let e = sym h ∙ due in cc
member_only draft text next n m rest h (AnOpeningRow more due s) = let e = sym h ∙ due in cc
member_only draft text next n m rest h (AnAnswerRow more due s) = let e = sym h ∙ due in cc
member_only draft text next n m rest h (ATableRow more due s) = let e = sym h ∙ due in cc
member_only draft text next n m rest h (Another due) = let e = sym h ∙ due in cc

pub nothing_more : (draft : Draft) (text : List ℕ) (next : Draft) → draft.due ≡ Ended → Wants draft text next → ⊥
nothing_more draft text next h (TheHeading due s) = let e = sym h ∙ due in cc
nothing_more draft text next h (AnOpeningRow more due s) = let e = sym h ∙ due in cc
nothing_more draft text next h (AnAnswerRow more due s) = let e = sym h ∙ due in cc
nothing_more draft text next h (AMember tx place more due s) = let e = sym h ∙ due in cc
nothing_more draft text next h (ATableRow more due s) = let e = sym h ∙ due in cc
nothing_more draft text next h (Another due) = let e = sym h ∙ due in cc
