-- What is written of an arranged input.
use Rattle.std.specs.Prelude.{ℕ, List, Option}
use Rattle.std.specs.Io.KnownBytes.{Appends}
use Rattle.ent_tree.specs.declared.script.Input.{Input}
use Rattle.ent_print.specs.Write.{AppendsBeginning}
use Rattle.ent_input.specs.Reading.{IsInput}
use Rattle.ent_engine.specs.declared.fault.RunFault.{RunFault}
use Rattle.ent_engine.specs.declared.fault.RunFault.TheVariants.{Input as OfInput, Check, Differs, ReadFault, WriteFault}
use Rattle.ent_engine.specs.declared.fault.RunFault.TheVariants.{Memory}
use Rattle.ent_arrange.specs.Arranged.{IsArranged}

-- the text is an input without a fault, with the scripts of the input that the bytes are in another order
pub record Arranges (bytes text : List ℕ) : Type 0 where
  pub input : Input
  pub again : Input
  pub of_input : IsInput bytes input
  pub is_input : IsInput text again
  pub arranged : IsArranged input again

-- such a text was written
abbrev pub WritesArranged : List ℕ → Option (List ℕ) → Option (List ℕ) → Type 0
WritesArranged bytes old new = (text : List ℕ) × Arranges bytes text × Appends old new text

-- where the writer failed, what it took is a beginning of such a text
abbrev pub WritesBeginning : List ℕ → Option (List ℕ) → Option (List ℕ) → RunFault → Type 0
WritesBeginning bytes old new WriteFault = (text : List ℕ) × Arranges bytes text × AppendsBeginning old new text
WritesBeginning bytes old new ReadFault = Unit {0}
WritesBeginning bytes old new (OfInput fault) = Unit {0}
WritesBeginning bytes old new (Check fault) = Unit {0}
WritesBeginning bytes old new Differs = Unit {0}
WritesBeginning bytes old new Memory = Unit {0}
