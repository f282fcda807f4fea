-- A postcondition that code holds, as it is written.
use Rattle.ent_warnings.specs.Offered.{Written}
use Rattle.ent_warnings.specs.declared.postcondition.Postcondition.{Postcondition}

abbrev pub written : Postcondition → Written
written held = (held.tuple.now, held.relation.now)
