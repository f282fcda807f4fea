-- What is said of a script that a driver refuses.
use Rattle.std.specs.Prelude.{◌≡◌, ◌⊎◌, ℕ, ℤ, pos, List, length}
use Rattle.ent_tree.specs.declared.declaration.Opening.{Opening}
use Rattle.ent_engine.specs.Fault.{status as fault_status}
use Rattle.ent_engine.specs.declared.fault.RunFault.{RunFault}
use Rattle.ent_engine.specs.declared.fault.RunFault.TheVariants.{Input}
use Rattle.ent_input.specs.declared.fault.InputFault.{InputFault}
use Rattle.ent_driver.specs.Drives.{HasOpening, OfOpen}
use Rattle.ent_driver.specs.Scripts.{HasForm, IsFaultOver}
use Rattle.ent_driver.specs.declared.driver.Driver.{Driver}
use Rattle.ent_driver.specs.declared.fault.DriverFault.{DriverFault}
use Rattle.ent_driver.specs.declared.fault.DriverFault.TheVariants.{Memory}
use Rattle.ent_c.specs.Calls.{Declines}
use Rattle.ent_c.specs.Text.{laid_over, IsSaidOf}
use Rattle.ent_c.specs.Told.{told_of_text, TellsFault}
use Rattle.ent_c.specs.declared.told.CallTold.{CallTold}

-- a core is open, and these bytes are one script without a fault over its tables
abbrev pub IsScriptOf : Driver → List ℕ → Type 0
IsScriptOf driver bytes = (opening : Opening) × HasOpening driver opening × HasForm opening bytes

-- a core is open, and this is the first fault of these bytes over its tables
abbrev pub IsFaultOf : Driver → List ℕ → InputFault → Type 0
IsFaultOf driver bytes fault = (opening : Opening) × HasOpening driver opening × IsFaultOver opening bytes fault

-- no text is handed out, and no fault is told
abbrev pub HandsNothing : List ℕ → List ℕ → CallTold → ℤ → Type 0
HandsNothing old new told status = (status ≡ pos 0) × (new ≡ old) × (told ≡ told_of_text 0)

-- a fault of these bytes is told, by its status too, and a text is handed out that says something of it
abbrev pub HandsSaid : RunFault → List ℕ → List ℕ → List ℕ → List ℕ → CallTold → ℤ → Type 0
HandsSaid fault text bytes old new told status =
    (status ≡ pos (fault_status fault)) × (new ≡ laid_over old text) × TellsFault fault bytes (length text) told

-- the script has no fault, and nothing is handed out; or what is said of its first fault is; or memory ran out for
-- that, or nothing is open
abbrev pub ExplainsScript : List ℕ → Driver → List ℕ → List ℕ → CallTold → ℤ → Type 0
ExplainsScript bytes driver old new told status =
    (IsScriptOf driver bytes × HandsNothing old new told status)
    ⊎ (((fault : InputFault) × (text : List ℕ) × IsFaultOf driver bytes fault × IsSaidOf (Input fault) text
    × HandsSaid (Input fault) text bytes old new told status)
    ⊎ ((fault : DriverFault) × OfOpen driver fault (λ s. fault ≡ Memory)
    × Declines fault bytes old new told status))
