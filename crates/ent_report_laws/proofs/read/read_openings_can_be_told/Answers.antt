use Rattle.ent_report_laws.proofs.Tellable.{opening_is_told}
use Rattle.ent_report_laws.proofs.read.read_openings_can_be_told.Goals as goal

pub returns : goal.returns
returns c opening read unplaced faultless =
    opening_is_told opening read unplaced faultless (c.opening_tables_are_kinded.ensures.kinds opening faultless)
