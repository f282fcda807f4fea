-- Scripts that are kept under their texts.
use Rattle.std.specs.Prelude.{ℕ, List, Contains, vec_items}
use Rattle.std.specs.declared.vec.Vec.{Vec}
use Rattle.ent_tree.specs.declared.script.Script.{Script}
use Rattle.ent_input.specs.Reading.{IsScript}

-- each text reads as its script
pub record AreRead {Z : Type 0} (entries : List (Vec ℕ Z × Script)) : Type 0 where
  pub each : (text : Vec ℕ Z) (script : Script) → Contains entries (text, script) → IsScript (vec_items text) script
