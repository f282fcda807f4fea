-- What C's calls do with a driver. `old` and `new` are what the caller's handle holds before and after the call, and
-- `status` is what the call answers.
use Rattle.std.specs.Prelude.{◌≡◌, ◌⊎◌, ℕ, ℤ, pos, List}
use Rattle.std.specs.declared.option.Option.{Option}
use Rattle.std.specs.declared.option.Option.TheVariants.{None, Some}
use Rattle.ent_driver.specs.Passed.{Standing, standing_seen}
use Rattle.ent_engine.specs.Fault.{status as fault_status}
use Rattle.ent_engine.specs.Reading.{IsRefused}
use Rattle.ent_engine.specs.declared.fault.RunFault.{RunFault}
use Rattle.ent_driver.specs.Drives.{Closes, IsNotClosed, IsNotSubmitted, Opens, Runs, Stands, StandsNowhere}
use Rattle.ent_driver.specs.Drives.{StopsRun, Submits}
use Rattle.ent_driver.specs.Renewal.{IsNotRenewed, Renews}
use Rattle.ent_driver.specs.Fault.{status as refusal_status}
use Rattle.ent_driver.specs.declared.driver.Driver.{Driver}
use Rattle.ent_driver.specs.declared.driver.Driver.TheVariants.{Vacant}
use Rattle.ent_driver.specs.declared.fault.DriverFault.{DriverFault}
use Rattle.ent_driver.specs.declared.fault.DriverFault.TheVariants as faults
use Rattle.ent_c.specs.Calls.{HandsOut, Declines}
use Rattle.ent_c.specs.Position.{position_of}
use Rattle.ent_c.specs.Told.{told_of_text, TellsFault, TellsRefusal}
use Rattle.ent_c.specs.declared.position.Position.{Position}
use Rattle.ent_c.specs.declared.told.CallTold.{CallTold}

-- what a handle holds: nothing where it is null
abbrev pub Held : Type 0
Held = Option Driver

-- the driver behind a handle: a null one is as one that has come to nothing
abbrev pub behind : Held → Driver
behind None = Vacant
behind (Some driver) = driver

-- a handle that was null has a driver over the input, or the fault is told for which there is none; one that wasn't
-- null is misused, and as it was
abbrev pub OpensDriver : List ℕ → Held → Held → CallTold → ℤ → Type 0
OpensDriver bytes None new told status =
    ((driver : Driver) × Opens bytes driver × (new ≡ Some driver) × (told ≡ told_of_text 0) × (status ≡ pos 0))
    ⊎ ((fault : RunFault) × IsRefused bytes fault × (new ≡ None) × TellsFault fault bytes 0 told
    × (status ≡ pos (fault_status fault)))
OpensDriver bytes (Some driver) new told status =
    (new ≡ Some driver) × (told ≡ told_of_text 0) × (status ≡ pos 2)

-- the script is taken, and its number is told; or nothing changes, and the fault is told for which it isn't
abbrev pub SubmitsTo : List ℕ → Held → Held → ℕ → ℕ → CallTold → ℤ → Type 0
SubmitsTo bytes old new tx number told status =
    (Submits bytes (behind old) number (behind new) × (told ≡ told_of_text 0) × (status ≡ pos 0))
    ⊎ ((fault : DriverFault) × IsNotSubmitted bytes (behind old) fault × (new ≡ old) × (number ≡ tx)
    × TellsRefusal fault bytes told × (status ≡ pos (refusal_status fault)))

-- one run is made; or it stopped for want of memory; or nothing is open, and that stays so
abbrev pub RunsDriver : Held → Held → ℤ → Type 0
RunsDriver old new status =
    (Runs (behind old) (behind new) × (status ≡ pos 0))
    ⊎ ((fault : DriverFault) × StopsRun (behind old) (behind new) fault
    × (fault ≡ faults.Vacant → behind new ≡ behind old) × (status ≡ pos (refusal_status fault)))

-- where a transaction stands is told; or nothing, where it stands nowhere, or nothing is open
abbrev pub StandsIn : Held → ℕ → Position → Position → ℤ → Type 0
StandsIn held tx old new status =
    ((standing : Standing) × Stands (behind held) tx standing × (new ≡ position_of (standing_seen standing))
    × (status ≡ pos 0))
    ⊎ ((fault : DriverFault) × StandsNowhere (behind held) tx fault × (new ≡ old)
    × (status ≡ pos (refusal_status fault)))

-- a text with this property is handed out; or nothing, for a fault with that one, of the bytes that were handed in
abbrev pub HandsOutOr : (List ℕ → Type 0) → (DriverFault → Type 0) → List ℕ → List ℕ → List ℕ → CallTold → ℤ → Type 0
HandsOutOr IsText IsFault bytes old new told status =
    ((text : List ℕ) × IsText text × HandsOut text old new told × (status ≡ pos 0))
    ⊎ ((fault : DriverFault) × IsFault fault × Declines fault bytes old new told status)

-- the driver is closed and its book is left; or nothing changes
abbrev pub ClosesDriver : Held → Held → ℤ → Type 0
ClosesDriver old new status =
    (Closes (behind old) (behind new) × (status ≡ pos 0))
    ⊎ ((fault : DriverFault) × IsNotClosed (behind old) fault × (new ≡ old) × (status ≡ pos (refusal_status fault)))

-- the book that was left goes on in the driver; or nothing changes
abbrev pub RenewsDriver : Held → Held → ℤ → Type 0
RenewsDriver old new status =
    (Renews (behind old) (behind new) × (status ≡ pos 0))
    ⊎ ((fault : DriverFault) × IsNotRenewed (behind old) fault × (new ≡ old) × (status ≡ pos (refusal_status fault)))
