use Rattle.std.proofs.Common.{◌≡◌, length}
use Rattle.std.specs.Arc.{arc_value}
use Rattle.ent_page.specs.Paged.{keys_left}
use Rattle.ent_page.proofs.page_cursor.PageCursor.next_key.Given as goal

abbrev pub invariant-loop-self : goal.invariant-loop-self
invariant-loop-self l = keys_left arc_value l.self-inside.pages.now l.self-inside.index ≡ l.fn.self

abbrev pub decreases-loop-self : goal.decreases-loop-self
decreases-loop-self l = length l.self-inside.pages.now
