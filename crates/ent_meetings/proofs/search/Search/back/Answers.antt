use Rattle.ent_meetings.proofs.Moving.{goes_back}
use Rattle.ent_meetings.proofs.search.Search.back.Goals as goal

pub returns-in-Some : goal.returns-in-Some
returns-in-Some c waiting right past =
    goes_back waiting c.args.self.now right c.pop.new.self c.in-Some.ticket c.in-Some.ensures.items past
