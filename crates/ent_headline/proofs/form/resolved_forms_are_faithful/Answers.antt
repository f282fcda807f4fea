use Rattle.ent_headline.proofs.Faithful.{Laws, resolved_faithful}
use Rattle.ent_headline.proofs.form.resolved_forms_are_faithful.Goals as goal

pub returns : goal.returns
returns c opening =
    let laws : Laws =
    record {
      forms = record {
        means = c.resolved_means_the_same.ensures;
        variables = c.variables_are_the_written_ones.ensures.kinds;
        grounds = c.resolved_grounds_the_same.ensures;
        wide = c.kinded_tables_are_wide.ensures;
      };
      offers = c.resolved_offers_and_demands_the_same.ensures.heads;
      demands = c.resolved_offers_and_demands_the_same.ensures.posts;
      columns = c.declared_columns_are_distinct.ensures;
      kinds = c.opening_tables_are_kinded.ensures.kinds;
      database = c.opening_tables_are_kinded.ensures.database;
    } in
    resolved_faithful laws opening
