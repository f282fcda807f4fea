use Rattle.std.proofs.Common.{◌≡◌, ◌++◌, map, take}
use Rattle.std.specs.Arc.{arc_value}
use Rattle.ent_page.proofs.pages.push_shared.Given as goal

abbrev pub invariant-loop-page : goal.invariant-loop-page
invariant-loop-page l = map arc_value l.new.items ≡ map arc_value l.fn.new.items ++ map arc_value
    (take l.page-index l.pages)
