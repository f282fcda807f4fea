use Rattle.ent_meetings.proofs.Resting.{nobody_else}
use Rattle.ent_meetings.proofs.search.Search.rest.Goals as goal

pub returns-else-is_empty : goal.returns-else-is_empty
returns-else-is_empty c waiting right over all = nobody_else waiting c.args.self.now right over all
