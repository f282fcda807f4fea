-- What is read of a line, without its end.
use Rattle.std.specs.Prelude.{[], ◌≢◌, ◌≡◌, ◌==◌, ℕ, List, length, Result, Ok, Err, if◌then◌else◌}
use Rattle.std.specs.List.{AllByRecursion}
use Rattle.ent_value.specs.Print.{row_text}
use Rattle.ent_value.specs.Refusal.{◌>>=◌}
use Rattle.ent_value.specs.declared.refusal.Refusal.{Refusal}
use Rattle.ent_value.specs.declared.refusal.Refusal.TheVariants.{Memory, Fault}
use Rattle.ent_value.specs.declared.value.Value.{Value}
use Rattle.ent_tree.specs.declared.declaration.Create.{Create}
use Rattle.ent_tree.specs.declared.script.Statement.{Statement}
use Rattle.ent_semantics.specs.declared.answer.Answer.{Answer}
use Rattle.ent_semantics.specs.declared.answer.Fact.{Fact}
use Rattle.ent_semantics.specs.declared.book.Fate.{Fate}
use Rattle.ent_semantics.specs.Database.{Name}
use Rattle.ent_book.specs.Report.{line}
use Rattle.ent_text.specs.declared.line_fault.LineFault.{LineFault}
use Rattle.ent_text.specs.declared.line_fault.LineFault.TheVariants.{Misfit}
use Rattle.ent_text.specs.Pieces.{row_at}
use Rattle.ent_history.specs.Counts.{placed_line, set_line, table_line}
use Rattle.ent_history.specs.Fates.{transaction_text}
use Rattle.ent_history.specs.Heads.{heads_line}
use Rattle.ent_history.specs.JointLines.{joint_text}
use Rattle.ent_history.specs.Openings.{opening_text}
use Rattle.ent_history.specs.Opening.{IsDeclaration}
use Rattle.ent_history.specs.Joints.{PlacesRise}
use Rattle.ent_history.specs.Parts.{IsNumber, IsRow, IsValue}
use Rattle.ent_history.specs.Answers.{HasSoMany, IsAnswer, IsFact, IsFate, IsOfSort, answer_line_text}

-- What was read is in the line, and nothing else of its sort; or nothing of the sort is; or memory ran out.
abbrev pub Reads : {A : Type 0} → (A → Type 0) → Result A (Refusal LineFault) → Type 0
Reads {A = A} is (Ok x) = is x × ((y : A) → is y → y ≡ x)
Reads is (Err Memory) = Unit {0}
Reads {A = A} is (Err (Fault fault)) = (x : A) → is x → ⊥

-- a table of the opening, and how many rows it has
abbrev pub IsOpeningLine : List ℕ → Create × ℕ → Type 0
IsOpeningLine text x = (text ≡ opening_text x.0 x.1) × IsDeclaration x.0 × IsNumber x.1

-- a joint answer's number, and the places of its members
abbrev pub IsJointLine : List ℕ → ℕ × List (ℕ × ℕ) → Type 0
IsJointLine text x = (text ≡ joint_text x.0 x.1) × IsNumber x.0 × (x.1 ≢ []) × PlacesRise x.1

-- a transaction's number and its fate
abbrev pub IsTxLine : List ℕ → ℕ × Fate → Type 0
IsTxLine text x = (text ≡ transaction_text x.0 x.1) × IsNumber x.0 × IsFate x.1

-- how many rows this table has
abbrev pub IsTableLine : Name → List ℕ → ℕ → Type 0
IsTableLine name text count = (text ≡ table_line name count) × IsNumber count

-- a place, and a number behind a word
abbrev pub IsPlacedLine : List ℕ → List ℕ → ℕ × ℕ → Type 0
IsPlacedLine word text x = (text ≡ placed_line word x.0 x.1) × IsNumber x.0 × IsNumber x.1

-- a place, and the value of a SET
abbrev pub IsSetLine : List ℕ → ℕ × Value → Type 0
IsSetLine text x = (text ≡ set_line x.0 x.1) × IsNumber x.0 × IsValue x.1

-- a place, and the heads of an entangled statement's answer
abbrev pub IsHeadsLine : List ℕ → ℕ × List Fact → Type 0
IsHeadsLine text x = (text ≡ heads_line x.0 x.1) × IsNumber x.0 × (x.1 ≢ []) × AllByRecursion IsFact x.1

abbrev pub IsRowLine : List ℕ → List Value → Type 0
IsRowLine text row = (text ≡ row_text row) × IsRow row

-- a row up to the end of the line
unfoldable pub whole_row_at : List ℕ → Result (List Value) LineFault
whole_row_at text = row_at text >>= λ found. if length found.1 == 0 then Ok found.0 else Err Misfit

-- an answer of this statement's sort: its place, what it says, and how many rows follow
pub record IsAnswerLine (statement : Statement) (text : List ℕ) (x : ℕ × Answer × ℕ) : Type 0 where
  pub text_is : line text ≡ answer_line_text x.0 x.1 x.2
  pub place : IsNumber x.0
  pub sort : IsOfSort statement x.1
  pub shape : IsAnswer x.1
  pub so_many : HasSoMany x.1 x.2
