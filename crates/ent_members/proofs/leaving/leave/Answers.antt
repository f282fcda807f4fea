use Rattle.std.proofs.Common.{◌≡◌, ◌∙◌, ◌++◌, ◌-◌, ℕ, List, ap, arith, length, length-append, reverse}
use Rattle.std.specs.List.{filter_map}
use Rattle.std.proofs.lemmas.List.{reverse-reverse}
use Rattle.ent_members.specs.declared.run_attempts.RunAttempt.{RunAttempt}
use Rattle.ent_protocol.specs.Rollback.{dormant_by}
use Rattle.ent_protocol.specs.State.{Dormant}
use Rattle.ent_members.specs.Cause.{cause_seen}
use Rattle.ent_members.specs.Leaving.{as_member}
use Rattle.ent_members.specs.TransactionOrder.{first_behind}
use Rattle.ent_members.specs.TransactionTable.{TransactionTable}
use Rattle.ent_members.proofs.Behind.{behind_parts}
use Rattle.ent_members.proofs.leaving.leave.Goals as goal

pub overflow_sub-back : goal.overflow_sub-back
overflow_sub-back c =
    let before = c.args.table.now.dormant in
    let f = λ (own : RunAttempt). dormant_by c.args.submitted.now (cause_seen c.args.cause) (as_member own) in
    let back = reverse (filter_map f c.args.run_attempts.now) in
    omega (
      arith,
      c.dormant_len-others.ensures,
      c.dormant_len.ensures,
      ap (λ (dormant : List Dormant). length dormant) c.leave_each.ensures.dormant,
      length-append back before,
    )

pub put_behind-requires : goal.put_behind-requires
put_behind-requires c = omega (arith, c.dormant_len.ensures)

pub returns-clause-dormant : goal.returns-clause-dormant
returns-clause-dormant c =
    let before = c.args.table.now.dormant in
    let f = λ (own : RunAttempt). dormant_by c.args.submitted.now (cause_seen c.args.cause) (as_member own) in
    let gone = filter_map f c.args.run_attempts.now in
    let count : ℕ = c.dormant_len.result - c.dormant_len-others.result in
    let many : count ≡ length (reverse gone) =
    omega (
      arith,
      c.dormant_len-others.ensures,
      c.dormant_len.ensures,
      ap (λ (dormant : List Dormant). length dormant) c.leave_each.ensures.dormant,
      length-append (reverse gone) before,
    ) in
    ap (λ (table : TransactionTable). table.dormant) c.put_behind.ensures
    ∙ ap (first_behind count) c.leave_each.ensures.dormant
    ∙ behind_parts (reverse gone) before count many
    ∙ ap (λ (more : List Dormant). before ++ more) (reverse-reverse gone)
