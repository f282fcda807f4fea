use Rattle.std.proofs.Common.{◌≡◌, ◌+◌, ◌-◌, ◌++◌, length}
use Rattle.ent_text.specs.Class.{is, among, class_of}
use Rattle.ent_text.specs.Grammar.{give, chain, more, firsts, reads}
use Rattle.ent_sql.proofs.Loops.{More}
use Rattle.ent_sql.proofs.list.appended.Given as goal

-- what was read and what is read on are all
abbrev pub invariant-things : goal.invariant-things
invariant-things g l = let t = g.T.Item.grammar in record {
  room : l.left + length l.items ≡ g.row.LIMIT;
  whole : More (is (class_of l.divider)) (among (firsts t)) (reads t) l.end l.items l.left l.tokens
      (reads (chain (more (g.row.LIMIT - length l.fn.before) l.divider t) (λ xs. give (l.fn.before ++ xs))) l.end
      l.fn.tokens);
}

abbrev pub decreases-things : goal.decreases-things
decreases-things g l = l.left
