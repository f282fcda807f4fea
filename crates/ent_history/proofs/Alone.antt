-- The one script whose printed text a text can be.
use Rattle.std.proofs.Common.{◌≡◌, ℕ, ◌≤◌, List, [], ◌∷◌, map, length, get_or, Some, Ok, ap, sym, subst, ◌∙◌, arith}
use Rattle.std.specs.List.{All}
use Rattle.ent_tree.specs.declared.script.Input.{Input}
use Rattle.ent_tree.specs.declared.script.Script.{Script}
use Rattle.ent_tree.specs.Places.{unplaced_script}
use Rattle.ent_sql.specs.Reading.{reading}
use Rattle.ent_print.specs.Lexeme.{Lexeme}
use Rattle.ent_print.specs.Spelling.{script_spelling}
use Rattle.ent_print.specs.Printing.{script_text}
use Rattle.ent_print.specs.Reading.{CanBeRead, IsReadable}
use Rattle.ent_sql_laws.specs.Fits.{ScriptFits}
use Rattle.ent_sql_laws.specs.Itself.{IsAlone}
use Rattle.ent_history.specs.Only.{IsPrintable, IsOnlyOne}
use Rattle.ent_history.proofs.Twice.{script_once}
use Rattle.ent_history.proofs.Kept.{script_kept}

-- a printed script is read as itself
abbrev pub IsReadAgain : Type 0
IsReadAgain = (script : Script) → ScriptFits script → IsReadable script
    → (input : Input) × (reading (script_text script) ≡ Ok input) × IsAlone script input

-- what is read from the printed text of a script is that script alone
pub read_alone : IsReadAgain → (text : List ℕ) (input : Input) (script : Script) → reading text ≡ Ok input
    → IsPrintable script → text ≡ script_text script → map unplaced_script input.scripts ≡ script ∷ []
read_alone again text input script read printable is =
    let found = again script printable.fits printable.readable in
    let e : input ≡ found.0 = cc in
    let alone : map unplaced_script found.0.scripts ≡ unplaced_script script ∷ [] = found.2.1 in
    let bare = printable.unplaced in
    cc

-- a list of one element
pub alone : (xs : List Script) (x : Script) → 1 ≤ length xs → length xs ≤ 1 → x ≡ get_or xs 0 x → xs ≡ x ∷ []
alone [] x some few is = absurd (omega arith)
alone (y ∷ []) x some few is = let e : x ≡ y = is in ap (λ (z : Script). z ∷ []) (sym e)
alone (y ∷ z ∷ xs) x some few is = absurd (omega arith)

-- the script that is read, without its places, is the only one
pub one : IsReadAgain → ((s : Script) → script_spelling (unplaced_script s) ≡ script_spelling s)
    → (text : List ℕ) (input : Input) (read : Script) → reading text ≡ Ok input → input.scripts ≡ read ∷ []
    → ScriptFits read → IsReadable read → IsOnlyOne text (Some (unplaced_script read))
one again hides text input read is alone fits readable = (
  record {
    unplaced = script_once read;
    fits = script_kept read fits;
    readable = subst (λ (l : List Lexeme). All CanBeRead l) (sym (hides read)) readable;
  },
  λ script printable said.
      let found = read_alone again text input script is printable said in
      let bare : map unplaced_script (read ∷ []) ≡ script ∷ [] = ap (map unplaced_script) (sym alone) ∙ found in
      cc,
)
