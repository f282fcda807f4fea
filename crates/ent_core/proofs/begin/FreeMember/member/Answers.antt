use Rattle.std.proofs.Common.{◌<◌, ap, length, subst, sym}
use Rattle.ent_protocol.specs.State.{State}
use Rattle.ent_core.proofs.Begun.{number_found, stands_at}
use Rattle.ent_core.proofs.begin.FreeMember.member.Goals as goal

pub at-requires : goal.at-requires
at-requires c =
    subst (λ (x : State). c.args.self.place < length x.active) (sym c.store.view_is) c.requires.at.in_range

pub returns-clause-there : goal.returns-clause-there
returns-clause-there c =
    stands_at c.args.store.now c.store.inside.run.active c.args.self.tx c.args.self.place c.at.result
    (ap (λ (x : State). x.active) c.store.view_is) c.requires.at c.at.ensures

pub returns-clause-number : goal.returns-clause-number
returns-clause-number c =
    number_found c.args.self.tx c.args.store.now.active c.at.result
    (stands_at c.args.store.now c.store.inside.run.active c.args.self.tx c.args.self.place c.at.result
    (ap (λ (x : State). x.active) c.store.view_is) c.requires.at c.at.ensures)

pub returns-clause-free : goal.returns-clause-free
returns-clause-free c =
    c.requires.free c.at.result
    (stands_at c.args.store.now c.store.inside.run.active c.args.self.tx c.args.self.place c.at.result
    (ap (λ (x : State). x.active) c.store.view_is) c.requires.at c.at.ensures)
