-- What stands in front of a text is told apart from what stands behind it.
use Rattle.std.proofs.Common.{◌≡◌, ℕ, List, [], ◌∷◌, ◌++◌, Result, Ok, ap, sym, ◌∙◌, arith, append_assoc, refl}
use Rattle.std.specs.Fmt.{decimal}
use Rattle.ent_value.specs.Print.{row_text, value_text}
use Rattle.ent_value.specs.declared.value.Value.{Value}
use Rattle.ent_semantics.specs.Database.{Name}
use Rattle.ent_book.specs.Report.{line}
use Rattle.ent_text.specs.declared.line_fault.LineFault.{LineFault}
use Rattle.ent_text.specs.Pieces.{number_at, row_at, value_at}
use Rattle.ent_text.specs.Written.{IsOver}
use Rattle.ent_text.proofs.Numbers.{read_of, is_first, is_rest, number_again}
use Rattle.ent_text.proofs.Rows.{row_again}
use Rattle.ent_text.proofs.Values.{value_again}
use Rattle.ent_history.proofs.Steps.{same_ok}
use Rattle.ent_history.specs.Names.{name_at}
use Rattle.ent_history.proofs.Names.{name_again}
use Rattle.ent_history.specs.Parts.{IsName, IsNumber, IsRow, IsValue}
use Rattle.ent_history.proofs.BreaksOff.{same_behind, same_line}
use Rattle.ent_history.proofs.InLine.{IsInLine}

-- ---- what is read

-- what is read of the same bytes is the same
pub once : {A : Type 0} (read : List ℕ → Result A LineFault) (one other : List ℕ) (x y : A) → read one ≡ Ok x
    → read other ≡ Ok y → one ≡ other → x ≡ y
once read one other x y h k e = same_ok x y (sym h ∙ ap read e ∙ k)

-- behind two fronts that are the same
pub behind_both : (one other x y : List ℕ) → one ++ (other ++ x) ≡ one ++ (other ++ y) → x ≡ y
behind_both one other x y e = same_behind other x y (same_behind one (other ++ x) (other ++ y) e)

-- ---- lines

-- the same text, whatever it is said to be
pub said : (one other x y mine theirs : List ℕ) → one ≡ mine → other ≡ theirs → one ++ x ≡ other ++ y
    → mine ++ x ≡ theirs ++ y
said one other x y mine theirs h k e = sym (ap (λ t. t ++ x) h) ∙ e ∙ ap (λ t. t ++ y) k

-- texts that begin with a line begin with the same one where they are the same
pub line_once : (one other x y mine theirs : List ℕ) → one ≡ line mine → other ≡ line theirs → IsInLine mine
    → IsInLine theirs → one ++ x ≡ other ++ y → mine ≡ theirs
line_once one other x y mine theirs h k flat even e =
    (same_line mine theirs x y flat even (said one other x y (line mine) (line theirs) h k e)).0

pub line_is : (one other mine theirs : List ℕ) → one ≡ line mine → other ≡ line theirs → mine ≡ theirs → one ≡ other
line_is one other mine theirs h k e = h ∙ ap line e ∙ sym k

-- a line's end belongs to what stands behind
pub unlined : (one other x y : List ℕ) → line one ++ x ≡ line other ++ y → one ++ (10 ∷ x) ≡ other ++ (10 ∷ y)
unlined one other x y e = sym (append_assoc one (10 ∷ []) x) ∙ e ∙ append_assoc other (10 ∷ []) y

-- ---- numbers, values, rows, names

number_read : (n : ℕ) (behind : List ℕ) → IsNumber n → number_at (decimal n ++ (10 ∷ behind)) ≡ Ok (n, 10 ∷ behind)
number_read n behind small = number_again 9223372036854775807 n (10 ∷ behind) (omega arith) small refl

-- a number at the end of a line
pub number_once : (one other : ℕ) (x y : List ℕ) → IsNumber one → IsNumber other
    → decimal one ++ (10 ∷ x) ≡ decimal other ++ (10 ∷ y) → one ≡ other
number_once one other x y small little e =
    is_first one other (10 ∷ x) (10 ∷ y) (sym (number_read one x small) ∙ ap number_at e ∙ number_read other y little)

-- a value that nothing goes on
pub record ValueOnce (one other : Value) (x y : List ℕ) : Type 0 where
  pub value : one ≡ other
  pub behind : x ≡ y

pub value_once : (one other : Value) (x y : List ℕ) → IsValue one → IsValue other → IsOver x → IsOver y
    → value_text one ++ x ≡ value_text other ++ y → ValueOnce one other x y
value_once one other x y h k over ends e =
    let same : read_of one x ≡ read_of other y =
    sym (value_again one x h over) ∙ ap value_at e ∙ value_again other y k ends in
    record { value = is_first one other x y same; behind = is_rest one other x y same }

pub row_once : (one other : List Value) (x y : List ℕ) → IsRow one → IsRow other
    → row_text one ++ x ≡ row_text other ++ y → one ≡ other
row_once one other x y h k e =
    is_first one other x y (sym (row_again one x h) ∙ ap row_at e ∙ row_again other y k)

name_read : (name : Name) (behind : List ℕ) → IsName name → name_at (name ++ (61 ∷ behind)) ≡ Ok (name, 61 ∷ behind)
name_read name behind is = name_again name (61 ∷ behind) is refl

-- a name before `=`
pub name_once : (one other : Name) (x y : List ℕ) → IsName one → IsName other
    → one ++ (61 ∷ x) ≡ other ++ (61 ∷ y) → one ≡ other
name_once one other x y h k e =
    is_first one other (61 ∷ x) (61 ∷ y) (sym (name_read one x h) ∙ ap name_at e ∙ name_read other y k)
