-- Scripts that are printed alike are one script, places aside.
use Rattle.std.proofs.Common.{◌≡◌, ℕ, List, [], ◌∷◌, map, length, Result, Ok, Err, ap, sym, ◌∙◌, subst}
use Rattle.std.specs.Prelude.{Contains}
use Rattle.std.specs.List.{range_with_len}
use Rattle.std.specs.List.Sorted.{IsPermutation}
use Rattle.std.proofs.lemmas.List.{length-map}
use Rattle.std.proofs.lemmas.List.Sorted.{IsPermutation-map}
use Rattle.std.proofs.lemmas.Simd.{map-map}
use Rattle.ent_lists.specs.Elements.{In, to_all, in_contains}
use Rattle.ent_lists.proofs.Lists.{map_same}
use Rattle.ent_tree.specs.declared.script.End.TheVariants.{Commit}
use Rattle.ent_tree.specs.declared.script.Input.{Input}
use Rattle.ent_tree.specs.declared.script.Script.{Script}
use Rattle.ent_tree.specs.Places.{unplaced_script}
use Rattle.ent_sql.specs.Reading.{reading}
use Rattle.ent_sql.specs.declared.fault.SqlFault.{SqlFault}
use Rattle.ent_print.specs.Printing.{script_text}
use Rattle.ent_sql_laws.specs.Itself.{IsAlone}
use Rattle.ent_arrange.specs.Arranged.{ArePicked, IsArranged, WasRead}
use Rattle.ent_arrange.proofs.Picked.{picked_permutes}

abbrev nothing : Script
nothing = record { within = 0; statements = []; end = Commit }

-- ---- the first script that a text says

abbrev first : List Script → Script
first [] = nothing
first (script ∷ more) = script

abbrev said : Result Input SqlFault → Script
said (Ok input) = first (map unplaced_script input.scripts)
said (Err fault) = nothing

abbrev first_of : List ℕ → Script
first_of text = said (reading text)

-- a printed script is read as that script
abbrev Rereads : Type 0
Rereads = (text : List ℕ) (input : Input) (script : Script) → reading text ≡ Ok input → Contains input.scripts script
    → (again : Input) × (reading (script_text script) ≡ Ok again) × IsAlone script again

module _ (law : Rereads) where
  itself : (input : Input) → WasRead input → (script : Script) → In script input.scripts
      → first_of (script_text script) ≡ unplaced_script script
  itself input read script there =
      let again = law read.0 input script read.1 (in_contains input.scripts script there) in
      ap said again.1 ∙ ap first again.2.1

  all_themselves : (input : Input) → WasRead input
      → map first_of (map script_text input.scripts) ≡ map unplaced_script input.scripts
  all_themselves input read =
      map-map first_of script_text input.scripts
      ∙ map_same (λ (s : Script). first_of (script_text s)) unplaced_script input.scripts
      (to_all (λ (s : Script). first_of (script_text s) ≡ unplaced_script s) input.scripts (itself input read))

  -- scripts that are printed as those of an input, each once, are these in another order
  pub arranged : (input again : Input) → WasRead input → WasRead again → (order : List ℕ)
      → IsPermutation (range_with_len 0 (length input.scripts)) order
      → again.opening ≡ input.opening
      → ArePicked (map script_text input.scripts) order (map script_text again.scripts)
      → IsArranged input again
  arranged input again read read_again order once same picked = record { opening = same; scripts = moved }
    where
      texts : IsPermutation (map script_text input.scripts) (map script_text again.scripts)
      texts =
          picked_permutes [] (map script_text input.scripts) order (map script_text again.scripts)
          (subst (λ (n : ℕ). IsPermutation (range_with_len 0 n) order)
          (sym (length-map input.scripts script_text)) once)
          picked

      moved : IsPermutation (map unplaced_script input.scripts) (map unplaced_script again.scripts)
      moved =
          subst (λ (xs : List Script). IsPermutation xs (map unplaced_script again.scripts)) (all_themselves input read)
          (subst (λ (xs : List Script). IsPermutation (map first_of (map script_text input.scripts)) xs)
          (all_themselves again read_again)
          (IsPermutation-map first_of (map script_text input.scripts) (map script_text again.scripts) texts))
