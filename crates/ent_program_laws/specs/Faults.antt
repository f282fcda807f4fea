-- Faults of form with their places left aside.
use Rattle.ent_form.specs.declared.fault.FormFault.{FormFault}
use Rattle.ent_form.specs.declared.fault.FormFault.TheVariants.{NoTable, NoColumn, Arity, WrongKind, Unbound}
use Rattle.ent_form.specs.declared.fault.FormFault.TheVariants.{NoHostVariable, Ambiguous, Repeated}

abbrev pub unplaced_fault : FormFault → FormFault
unplaced_fault (NoTable place) = NoTable 0
unplaced_fault (NoColumn place) = NoColumn 0
unplaced_fault (Arity place) = Arity 0
unplaced_fault (WrongKind place) = WrongKind 0
unplaced_fault (Unbound place) = Unbound 0
unplaced_fault (NoHostVariable place) = NoHostVariable 0
unplaced_fault (Ambiguous place) = Ambiguous 0
unplaced_fault (Repeated place) = Repeated 0
