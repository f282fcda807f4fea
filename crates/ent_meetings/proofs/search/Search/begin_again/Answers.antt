use Rattle.std.proofs.Common.{◌++◌, ◌∷◌, [], List, ℕ, ap, ◌∙◌}
use Rattle.std.proofs.lemmas.List.{nil_from_length}
use Rattle.ent_meetings.proofs.Moving.{begins_again}
use Rattle.ent_meetings.proofs.search.Search.begin_again.Goals as goal

pub returns-clause-ok : goal.returns-clause-ok
returns-clause-ok c waiting right =
    let empty = nil_from_length c.args.self.now.chosen.items c.requires.over in
    begins_again waiting c.args.self.now right c.push.new.self
    (c.in_ok-push.ensures.items ∙ ap (λ (xs : List ℕ). xs ++ c.args.self.now.root ∷ []) empty) c.requires.over
    c.requires.clear
