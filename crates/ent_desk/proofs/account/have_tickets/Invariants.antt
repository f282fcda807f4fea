use Rattle.std.proofs.Common.{◌+◌, drop}
use Rattle.std.specs.Prelude.{Contains}
use Rattle.std.specs.List.{AllByRecursion}
use Rattle.ent_protocol.specs.Reached.{scripts_of}
use Rattle.ent_desk.specs.Closed.{all_tickets}
use Rattle.ent_desk.specs.Opened.{tickets_from}
use Rattle.ent_desk.proofs.account.have_tickets.Given as goal

-- where the tickets of the scripts that are left are there, so are all
abbrev pub invariant-loop-index : goal.invariant-loop-index
invariant-loop-index g l =
    AllByRecursion (Contains (all_tickets l.sessions)) (tickets_from (l.index + 1) (drop l.index (scripts_of l.core)))
    → AllByRecursion (Contains (all_tickets l.sessions)) (tickets_from 1 (scripts_of l.core))
