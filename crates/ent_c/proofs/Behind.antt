-- What holds of a driver holds of what is behind the handle that holds it.
use Rattle.std.proofs.Common.{◌≡◌, None, Some, ap, subst, sym}
use Rattle.ent_driver.specs.declared.driver.Driver.{Driver}
use Rattle.ent_driver.specs.declared.driver.Driver.TheVariants.{Vacant}
use Rattle.ent_c.specs.Drivers.{Held, behind}

-- P holds behind a handle that holds this driver
pub behind_some : (P : Driver → Type 0) {held : Held} {driver : Driver} →
    held ≡ Some driver → P driver → P (behind held)
behind_some P holds fact = subst P (sym (ap behind holds)) fact

-- P holds behind a handle that is null
pub behind_none : (P : Driver → Type 0) {held : Held} → held ≡ None → P Vacant → P (behind held)
behind_none P null fact = subst P (sym (ap behind null)) fact

-- R relates what is behind two handles that hold these drivers
pub behind_both : (R : Driver → Driver → Type 0) {old new : Held} {before after : Driver} →
    old ≡ Some before → new ≡ Some after → R before after → R (behind old) (behind new)
behind_both R {old} {new} {before} {after} was is fact =
    behind_some (λ driver. R driver (behind new)) was (behind_some (R before) is fact)
