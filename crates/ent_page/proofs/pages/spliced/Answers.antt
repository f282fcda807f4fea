use Rattle.std.proofs.Common.{◌≡◌, ◌-◌, length, take, drop, arith}
use Rattle.std.proofs.lemmas.List.{take_all, length-drop}
use Rattle.std.specs.Arc.{arc_value}
use Rattle.ent_page.proofs.Paging.{spliced_keys, spliced_sizes}
use Rattle.ent_page.proofs.pages.spliced.Goals as goal

pub returns-clause-keys : goal.returns-clause-keys
returns-clause-keys c =
    let end : take (length c.args.pages.now - c.args.to)
    (drop c.args.to c.args.pages.now) ≡ drop c.args.to c.args.pages.now =
    take_all (length c.args.pages.now - c.args.to) (drop c.args.to c.args.pages.now)
    (omega (arith, length-drop c.args.to c.args.pages.now)) in
    spliced_keys arc_value c.in_ok-spliced.spliced.items c.push_shared.new.new.items c.push_shared-2.new.new.items
    c.push_shared-3.new.new.items (take c.args.from c.args.pages.now) c.as_slice.result.now
    (drop c.args.to c.args.pages.now) c.args.others.items
    c.in_ok-spliced.ensures.items c.as_slice.ensures.value c.in_ok-push_shared.ensures c.in_ok-push_shared-2.ensures
    (rw end at c.in_ok-push_shared-3.ensures)

pub returns-clause-sized : goal.returns-clause-sized
returns-clause-sized c =
    let end : take (length c.args.pages.now - c.args.to)
    (drop c.args.to c.args.pages.now) ≡ drop c.args.to c.args.pages.now =
    take_all (length c.args.pages.now - c.args.to) (drop c.args.to c.args.pages.now)
    (omega (arith, length-drop c.args.to c.args.pages.now)) in
    spliced_sizes arc_value c.in_ok-spliced.spliced.items c.push_shared.new.new.items c.push_shared-2.new.new.items
    c.push_shared-3.new.new.items c.args.pages.now c.as_slice.result.now c.args.others.items c.args.from c.args.to
    c.in_ok-spliced.ensures.items c.as_slice.ensures.value c.in_ok-push_shared.ensures c.in_ok-push_shared-2.ensures
    (rw end at c.in_ok-push_shared-3.ensures) c.requires.sized c.requires.others
