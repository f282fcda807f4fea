use Rattle.std.proofs.Common.{◌≡◌, ◌+◌, ◌-◌, ◌<◌, ◌≤◌, length, sym, ◌∙◌, arith, rules, min}
use Rattle.ent_check.proofs.Members.{decided_here, none_later, none_of_few}
use Rattle.ent_check.proofs.member.is_entangled_statement.Goals as goal
use Rattle.ent_check.proofs.member.is_entangled_statement.Goals.{then-member-eq0-via-then-member-eq0}
use Rattle.ent_check.proofs.member.is_entangled_statement.Goals.{then-member-eq0-via-else-member-eq0+then-member-all}

pub returns-then-member-eq0 : goal.returns-then-member-eq0
returns-then-member-eq0 c =
    let scripts = c.args.scripts.now in
    let told = c.args.transactions.now in
    let member = c.args.member.now in
    elim c.then-member-eq0.branch [
      | then-member-eq0-via-then-member-eq0 w ↦
          let less : member.tx < 1 = grind (arith, rules) in sym (none_later member 1 scripts told less)
      | then-member-eq0-via-else-member-eq0+then-member-all w ↦
          let many : 1 + min (length scripts) (length told) ≤ member.tx = grind (arith, rules) in
          sym (none_of_few member 1 scripts told many)
    ]

pub returns : goal.returns
returns c =
    let scripts = c.args.scripts.now in
    let told = c.args.transactions.now in
    let member = c.args.member.now in
    let i = member.tx - 1 in
    let low : i < length scripts = grind (arith, rules) in
    let low_told : i < length told = grind (arith, rules) in
    let is : member.tx ≡ 1 + i = grind (arith, rules) in
    let s = c.index-scripts-index.result in
    let t = c.index-transactions-index.result in
    c.has_entangled.ensures
    ∙ sym (decided_here member i scripts told s t low low_told is c.index-scripts-index.is
    c.index-transactions-index.is)
