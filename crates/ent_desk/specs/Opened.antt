-- The sessions of a manager that was opened.
use Rattle.std.specs.Prelude.{ℕ, suc, List, [], ◌∷◌, Some, None, length}
use Rattle.ent_tree.specs.declared.declaration.Opening.{Opening}
use Rattle.ent_tree.specs.declared.script.Script.{Script}
use Rattle.ent_desk.specs.declared.ticket.First.{First}
use Rattle.ent_desk.specs.declared.ticket.Ticket.{Ticket}
use Rattle.ent_desk.specs.Seen.{SessionState, ticket}

-- scripts under their numbers, from this one on
abbrev pub tickets_from : ℕ → List Script → List Ticket
tickets_from next [] = []
tickets_from next (script ∷ more) = ticket next script ∷ tickets_from (suc next) more

-- what a manager over these was opened over
abbrev pub first_over : Opening → ℕ → First
first_over opening count = record { opening = opening; count = count }

-- the first session, which has the tickets of the input's scripts, and each other one
abbrev pub first_session : Opening → List Script → SessionState
first_session opening scripts =
    record {
      tickets = tickets_from 1 scripts;
      receipts = [];
      first = Some (first_over opening (length scripts));
    }

abbrev pub other_session : SessionState
other_session = record { tickets = []; receipts = []; first = None }
