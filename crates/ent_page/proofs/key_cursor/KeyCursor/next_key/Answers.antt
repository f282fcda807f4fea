use Rattle.std.proofs.Common.{ap, sym, ◌∙◌}
use Rattle.ent_page.specs.Front.{beginning_so}
use Rattle.ent_page.proofs.Beginnings.{goes_on}
use Rattle.ent_page.proofs.key_cursor.KeyCursor.next_key.Goals as goal

pub returns-then-has_front : goal.returns-then-has_front
returns-then-has_front c =
    sym c.self.view_is ∙ ap (beginning_so c.self.inside.front) c.in_ok-key.ensures
    ∙ goes_on c.self.inside.front c.in_ok-key.key.now c.next_key.new.self (sym c.has_front.ensures
    ∙ c.if-has_front.true)
