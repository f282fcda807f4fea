use Rattle.ent_meetings.proofs.Moving.{cuts}
use Rattle.ent_meetings.proofs.search.Search.cut.Goals as goal

pub returns : goal.returns
returns c waiting right demand unmet full =
    let cut = cuts waiting c.args.self.now right demand unmet full in
    let moves = c.back.ensures waiting cut.0 cut.1 in
    record { stand = moves.stand; root = moves.root; found = moves.found; further = moves.further }
