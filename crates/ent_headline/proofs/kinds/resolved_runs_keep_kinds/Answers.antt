use Rattle.ent_form.proofs.Opened.{declared_once}
use Rattle.ent_headline.proofs.Places.{Opens, kinded_state}
use Rattle.ent_headline.proofs.Replayed.{Laws}
use Rattle.ent_headline.proofs.kinds.resolved_runs_keep_kinds.Goals as goal

pub returns : goal.returns
returns c s e reached =
    let laws : Laws =
    record {
      forms = record {
        means = c.resolved_means_the_same.ensures;
        variables = c.variables_are_the_written_ones.ensures.kinds;
        grounds = c.resolved_grounds_the_same.ensures;
        wide = c.kinded_tables_are_wide.ensures;
      };
      closing = c.closing_keeps_the_meaning.ensures.grounds;
      groundings = c.groundings_are_of_their_kinds.ensures;
      fits = c.resolved_statements_fit.ensures.fits;
      tables = c.effects_keep_kinds.ensures.tables;
      bound = c.effects_keep_kinds.ensures.bound;
    } in
    let opens : Opens s =
    record {
      apart = c.declared_columns_are_distinct.ensures s.opening.tables (declared_once s.opening e);
      kinded = c.opening_tables_are_kinded.ensures.kinds s.opening e;
      is = c.opening_tables_are_kinded.ensures.database s.opening e;
    } in
    kinded_state laws s opens reached (c.resolved_runs_are_serial.ensures s e reached)
