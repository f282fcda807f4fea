use Rattle.std.proofs.Common.{◌≡◌, ◌<◌, ◌≤◌, length, sym, ap, ◌∙◌, arith, rules, min, false, is_some, ◌+◌}
use Rattle.ent_history.specs.Journal.{number_finding}
use Rattle.ent_history.specs.Account.{commit_number}
use Rattle.ent_history.specs.Verdict.{first_of}
use Rattle.ent_check.proofs.Accounts.{account_of}
use Rattle.ent_check.proofs.Numbers.{journal_more, journal_whole}
use Rattle.ent_check.proofs.journal.journal_finding.Goals as goal

pub loop-index-preserved : goal.loop-index-preserved
loop-index-preserved c =
    let scripts = c.args.scripts.now in
    let told = c.args.transactions.now in
    let i = c.loop-index.index in
    let s = c.index-scripts-index.result in
    let t = c.index-transactions-index.result in
    let count = c.commit_count-count.result in
    let low : i < length scripts = grind (arith, rules) in
    let low_told : i < length told = grind (arith, rules) in
    let found = c.number_finding-finding.ensures
    ∙ ap (λ xs. first_of (number_finding count xs (account_of (i + 1) s t) (commit_number t.fate)))
    c.as_slice.ensures.value in
    let none : is_some c.number_finding-finding.result ≡ false = sym c.is_some.ensures ∙ c.if-is_some.false in
    record {
      counted = c.loop-index.invariant.counted;
      behind = journal_more scripts told i count c.loop-index.above.items c.push_number.new.above.items s t
          c.number_finding-finding.result low low_told c.index-scripts-index.is c.index-transactions-index.is found none
          c.in_ok-push_number.ensures c.loop-index.invariant.behind;
    }

pub returns : goal.returns
returns c =
    let scripts = c.args.scripts.now in
    let told = c.args.transactions.now in
    let over : min (length scripts) (length told) ≤ c.loop-index.index = grind (arith, rules) in
    sym (journal_whole scripts told c.loop-index.index c.commit_count-count.result
    c.loop-index.above.items over c.loop-index.invariant.counted c.loop-index.invariant.behind)
