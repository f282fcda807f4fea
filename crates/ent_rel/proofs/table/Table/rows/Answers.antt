use Rattle.std.proofs.Common.{◌≡◌, ◌++◌, ap, sym, ◌∙◌, append-nil, length, arith}
use Rattle.ent_lists.specs.Sets as set
use Rattle.ent_rel.proofs.Found.{ascending_len}
use Rattle.ent_rel.proofs.table.Table.rows.Goals as goal

pub returns-clause-limit : goal.returns-clause-limit
returns-clause-limit c =
    let found = c.loop-row.rows.items in
    let all : found ≡ set.ascending c.args.self.now.rows =
    sym (append-nil found) ∙ ap (λ rest. found ++ rest) (sym c.in_default.ensures.0) ∙ c.loop-row.invariant in
    omega (arith, ap length all, ascending_len c.args.self.now.rows, c.len.ensures.len, c.len.ensures.limit)
