use Rattle.ent_desk.specs.Seen.{GetsReceipts}
use Rattle.ent_serve.proofs.manager.Manager.wait_for.Given as goal

abbrev pub invariant-loop : goal.invariant-loop
invariant-loop g l = GetsReceipts l.fn.session l.session
