use Rattle.std.proofs.Common.{◌≡◌, ◌++◌, ap, subst, ◌∙◌, arith, drop, ◌+◌}
use Rattle.std.specs.Prelude.{IfOk}
use Rattle.std.specs.Arc.{arc_value}
use Rattle.std.specs.List.{flat_map}
use Rattle.ent_page.proofs.Paging.{before_at}
use Rattle.ent_page.proofs.pages.shrunk.Goals as goal

pub returns-then-len-room-2-clause-keys : goal.returns-then-len-room-2-clause-keys
returns-then-len-room-2-clause-keys c =
    subst (λ z. IfOk c.spliced-then-len-room-2.result (λ s. flat_map arc_value s.items ≡ z))
    (before_at arc_value c.args.pages.now c.args.at c.index-pages-at-then-len-room-2.result c.args.page
    (flat_map arc_value c.in_ok-single-2.field-0.items) (flat_map arc_value (drop (c.args.at + 1) c.args.pages.now))
    (omega arith) (omega (arith, c.requires.within)) c.index-pages-at-then-len-room-2.is
    (c.in_ok-single-2.ensures.keys ∙ c.in_ok-joined-2.ensures
    ∙ ap (λ z. z ++ c.args.page) c.deref-then-len-room-2.ensures))
    c.spliced-then-len-room-2.ensures.keys
