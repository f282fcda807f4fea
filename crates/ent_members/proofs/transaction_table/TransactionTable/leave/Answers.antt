use Rattle.std.proofs.Common.{◌++◌, ◌∙◌, List, ap}
use Rattle.std.specs.List.{filter_map}
use Rattle.ent_semantics.specs.declared.book.Fated.{Fated}
use Rattle.ent_members.specs.declared.run_attempts.RunAttempt.{RunAttempt}
use Rattle.ent_protocol.specs.Rollback.{dormant_by, fated_by}
use Rattle.ent_protocol.specs.State.{Dormant}
use Rattle.ent_members.specs.Cause.{cause_seen}
use Rattle.ent_members.specs.Leaving.{as_member}
use Rattle.ent_members.specs.TransactionTable.{TransactionTable}
use Rattle.ent_members.proofs.Gone.{dormant_of_gone, fates_of_gone}
use Rattle.ent_members.proofs.transaction_table.TransactionTable.leave.Goals as goal

pub returns-clause-dormant : goal.returns-clause-dormant
returns-clause-dormant c = λ gone is.
    let cause = cause_seen c.args.cause in
    ap (λ (table : TransactionTable). table.dormant) c.let_go.ensures ∙ c.leave.ensures.dormant
    ∙ ap (λ (run_attempts : List RunAttempt). c.args.self.now.dormant
    ++ filter_map (λ run_attempt. dormant_by c.args.submitted.now cause (as_member run_attempt)) run_attempts) is
    ∙ ap (λ (more : List Dormant). c.args.self.now.dormant ++ more) (dormant_of_gone c.args.submitted.now cause gone)

pub returns-clause-fates : goal.returns-clause-fates
returns-clause-fates c = λ gone is.
    let cause = cause_seen c.args.cause in
    ap (λ (table : TransactionTable). table.fates) c.let_go.ensures ∙ c.leave.ensures.fates
    ∙ ap (λ (run_attempts : List RunAttempt). c.args.self.now.fates
    ++ filter_map (λ run_attempt. fated_by c.args.submitted.now cause (as_member run_attempt)) run_attempts) is
    ∙ ap (λ (more : List Fated). c.args.self.now.fates ++ more) (fates_of_gone c.args.submitted.now cause gone)
