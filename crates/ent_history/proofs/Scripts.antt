-- The line above a script is read as it is written.
use Rattle.std.proofs.Common.{◌≡◌, ℕ, List, ◌++◌, Ok, ap, ◌∙◌, refl}
use Rattle.std.specs.Prelude.{codes}
use Rattle.std.specs.Fmt.{decimal}
use Rattle.std.specs.Char.{is_ascii_digit}
use Rattle.ent_history.specs.Parts.{IsNumber}
use Rattle.ent_text.specs.Pieces.{behind}
use Rattle.ent_text.specs.Lexing.{Stops}
use Rattle.ent_text.proofs.Values.{bind_ok}
use Rattle.ent_text.proofs.Rows.{behind_found, behind_again}
use Rattle.ent_history.specs.Counts.{placed_at, placed_line}
use Rattle.ent_history.proofs.Steps.{bind_with}
use Rattle.ent_history.specs.ScriptLines.{script_at, script_text}

module _
    (placed_found : (word line : List ℕ) (place count : ℕ) → placed_at word line ≡ Ok (place, count)
    → (line ≡ placed_line word place count) × IsNumber place × IsNumber count)
    (placed_again : (word : List ℕ) (place count : ℕ) → Stops is_ascii_digit (word ++ decimal count)
    → IsNumber place → IsNumber count → placed_at word (placed_line word place count) ≡ Ok (place, count)) where
  pub script_found : (line : List ℕ) (number lines : ℕ) → script_at line ≡ Ok (number, lines)
      → (line ≡ script_text number lines) × IsNumber number × IsNumber lines
  unfolding script_at
  script_found line number lines h =
      let rest = bind_ok (behind (codes "script ") line) (λ rest. placed_at (codes " ") rest) (number, lines) h in
      let is = placed_found (codes " ") rest.0 number lines rest.2 in
      (behind_found (codes "script ") line rest.0 rest.1 ∙ ap (λ r. codes "script " ++ r) is.0, is.1, is.2)

  pub script_again : (number lines : ℕ) → IsNumber number → IsNumber lines
      → script_at (script_text number lines) ≡ Ok (number, lines)
  unfolding script_at
  script_again number lines small few =
      let rest = placed_line (codes " ") number lines in
      bind_with (behind (codes "script ") (codes "script " ++ rest)) rest (λ rest. placed_at (codes " ") rest)
      (behind_again (codes "script ") rest)
      ∙ placed_again (codes " ") number lines refl small few
