-- Which text is written.
use Rattle.std.proofs.Common.{ℕ, List, map, refl}
use Rattle.std.proofs.lemmas.List.Sorted.{IsPermutation-refl}
use Rattle.ent_tree.specs.declared.script.Input.{Input}
use Rattle.ent_tree.specs.Places.{unplaced_script}
use Rattle.ent_input.specs.Reading.{IsInput, IsRead}
use Rattle.ent_arrange.specs.Arranged.{IsArranged}
use Rattle.ent_arrange.specs.Written.{Arranges}
use Rattle.ent_arrange.proofs.Formed.{FirstIsFirst, PlacesMakeNoFault, still_formed}

-- the input as it was given has its scripts in an order too
pub given_order : (bytes : List ℕ) (input : Input) → IsInput bytes input → Arranges bytes bytes
given_order bytes input formed = record {
  input = input;
  again = input;
  of_input = formed;
  is_input = formed;
  arranged = record { opening = refl; scripts = IsPermutation-refl (map unplaced_script input.scripts) };
}

pub new_order : FirstIsFirst → PlacesMakeNoFault → (bytes text : List ℕ) (input : Input) → IsInput bytes input
    → (again : Input) × IsRead text again × IsArranged input again → Arranges bytes text
new_order first unplaced bytes text input formed again = record {
  input = input;
  again = again.0;
  of_input = formed;
  is_input = record { read = again.1; formed = still_formed first unplaced input again.0 again.2 formed.formed };
  arranged = again.2;
}
