use Rattle.std.proofs.Common.{◌∙◌, ap, sym, subst}
use Rattle.ent_semantics.specs.declared.book.Book.{Book}
use Rattle.ent_semantics.specs.Database.{Database}
use Rattle.ent_semantics.specs.Book.{IsLegal}
use Rattle.ent_protocol.specs.Reached.{CanClose, book_of}
use Rattle.ent_book.specs.Tables.{book_seen}
use Rattle.ent_headline.specs.Resolved.{resolved_forms}
use Rattle.ent_protocol.specs.State.{State}
use Rattle.ent_core.specs.Kept.{IsKeptState}
use Rattle.ent_core.proofs.Booked.{book_settled}
use Rattle.ent_core.proofs.reached.Core.close.Goals as goal

pub returns-in-Ok-clause-book : goal.returns-in-Ok-clause-book
returns-in-Ok-clause-book c =
    let s : State = c.self.inside.store in
    let can = c.can_close.ensures.0 c.if-can_close.true in
    let reached = c.self.invariant.reached in
    c.book.ensures ∙ book_settled s (c.reached_states_are_tidy.ensures.tidy resolved_forms s reached)
    (c.reached_states_are_tidy.ensures.settled resolved_forms s reached can.0) can.0 ∙ ap book_of c.self.view_is

pub returns-in-Ok-clause-finished : goal.returns-in-Ok-clause-finished
returns-in-Ok-clause-finished c =
    let can = c.can_close.ensures.0 c.if-can_close.true in
    let kept : IsKeptState c.args.self = subst IsKeptState c.self.view_is c.self.invariant in
    let closes = (c.closing_gives_the_book.ensures.exact c.args.self (book_seen c.book.result)).1
    (subst CanClose c.self.view_is can, returns-in-Ok-clause-book c) in
    c.closing_gives_the_book.ensures.finished resolved_forms c.args.self (book_seen c.book.result) kept.reached closes

pub returns-in-Ok-clause-legal : goal.returns-in-Ok-clause-legal
returns-in-Ok-clause-legal c =
    let kept : IsKeptState c.args.self = subst IsKeptState c.self.view_is c.self.invariant in
    let P : Book Database → Type 0 = IsLegal in
    subst P (sym (returns-in-Ok-clause-book c)) (c.resolved_runs_are_legal.ensures c.args.self kept.formed kept.reached)
