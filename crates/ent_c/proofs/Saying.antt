-- What is said of a script over an opening is said of it over the driver that has the opening.
use Rattle.std.proofs.Common.{Err, IfOk, List, MatchOption, None, Ok, Option, Result, Some, ℕ}
use Rattle.ent_driver.specs.Drives.{HasOpening}
use Rattle.ent_driver.specs.Scripts.{HasForm, IsFaultOver}
use Rattle.ent_driver.specs.declared.driver.Driver.{Driver}
use Rattle.ent_driver.specs.declared.fault.DriverFault.{DriverFault}
use Rattle.ent_input.specs.declared.fault.InputFault.{InputFault}
use Rattle.ent_tree.specs.declared.declaration.Opening.{Opening}
use Rattle.ent_c.specs.Explaining.{IsFaultOf, IsScriptOf}

pub of_driver : {A : Type 0} (answer : Result (Option A) DriverFault) (fault_of : A → InputFault) (driver : Driver)
    (opening : Opening) (bytes : List ℕ) → HasOpening driver opening →
    IfOk answer (λ said. MatchOption said (HasForm opening bytes) (λ said. IsFaultOver opening bytes (fault_of said))) →
    IfOk answer (λ said. MatchOption said (IsScriptOf driver bytes) (λ said. IsFaultOf driver bytes (fault_of said)))
of_driver (Ok None) fault_of driver opening bytes has fact = (opening, has, fact)
of_driver (Ok (Some said)) fault_of driver opening bytes has fact = (opening, has, fact)
of_driver (Err fault) fault_of driver opening bytes has fact = fact
