use Rattle.ent_join.proofs.Steps.{ends_first, none_of_all, searched_none, ticks_found, ticks_none}
use Rattle.ent_join.proofs.search.least.Goals as goal

pub returns-then-branch-clause-ticks : goal.returns-then-branch-clause-ticks
returns-then-branch-clause-ticks g c = λ ends bound.
    ticks_found c.args.count c.args.ticks.now c.search.new.ticks c.in_ok-search.field-0 c.if-branch.true
    (c.in_ok-search.ensures.ticks (ends_first (g.G.Guide.candidates c.args.guide.now)
    (g.G.Guide.passes c.args.guide.now)
    c.args.count c.new-values.result.items c.new-values.ensures.items ends)) bound

pub returns-else-branch-clause-ticks : goal.returns-else-branch-clause-ticks
returns-else-branch-clause-ticks g c = λ ends.
    ticks_none c.args.count c.args.ticks.now c.search.new.ticks c.in_ok-search.field-0 c.if-branch.false
    (c.in_ok-search.ensures.ticks (ends_first (g.G.Guide.candidates c.args.guide.now)
    (g.G.Guide.passes c.args.guide.now)
    c.args.count c.new-values.result.items c.new-values.ensures.items ends))

pub returns-else-branch-clause-least : goal.returns-else-branch-clause-least
returns-else-branch-clause-least g c =
    let passes = g.G.Guide.passes c.args.guide.now in
    let none = searched_none passes c.args.count c.new-values.result.items c.search.new.values.items c.search.new.reason
    c.in_ok-search.field-0 c.if-branch.false c.in_ok-search.ensures.found in
    none_of_all passes c.args.count c.new-values.result.items c.search.new.reason c.new-values.ensures.items none.1
