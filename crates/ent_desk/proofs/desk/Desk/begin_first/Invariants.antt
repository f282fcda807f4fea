use Rattle.std.proofs.Common.{◌≡◌, take}
use Rattle.std.specs.List.{AllByRecursion}
use Rattle.ent_protocol.specs.Quiet.{CanMove}
use Rattle.ent_desk.proofs.desk.Desk.begin_first.Given as goal

-- nobody so far can move, and nothing has changed
abbrev pub invariant-loop-tx : goal.invariant-loop-tx
invariant-loop-tx g l =
    record {
      desk : l.self ≡ l.fn.self;
      session : l.session ≡ l.fn.session;
      nobody_moves : AllByRecursion (λ other. ¬ CanMove l.fn.self.core other) (take l.tx-index l.tx-items);
    }
