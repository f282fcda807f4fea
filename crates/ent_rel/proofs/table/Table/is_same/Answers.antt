use Rattle.std.proofs.Common.{◌∙◌, sym}
use Rattle.ent_rel.proofs.Kept.{same_key_sets, same_tables}
use Rattle.ent_rel.proofs.table.Table.is_same.Goals as goal

pub returns-then-are_same_kinds : goal.returns-then-are_same_kinds
returns-then-are_same_kinds c =
    let mine = c.self.inside in
    let others = c.other.inside in
    let kinds = sym c.deref.ensures.value ∙ c.are_same_kinds.ensures.0 c.if-are_same_kinds.true
    ∙ c.deref-2.ensures.value in (
      λ same. same_tables mine.kinds.items others.kinds.items mine.keys others.keys c.args.self.now c.args.other.now
          c.self.view_is c.other.view_is c.self.invariant c.other.invariant kinds (c.is_same.ensures.0 same),
      λ e. c.is_same.ensures.1 (same_key_sets mine.kinds.items others.kinds.items mine.keys others.keys
          c.args.self.now c.args.other.now c.self.view_is c.other.view_is c.self.invariant c.other.invariant e),
    )
