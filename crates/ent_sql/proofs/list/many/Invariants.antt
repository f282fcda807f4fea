use Rattle.std.proofs.Common.{◌≡◌, ◌+◌, length}
use Rattle.ent_text.specs.Class.{among}
use Rattle.ent_text.specs.Grammar.{firsts, reads, many}
use Rattle.ent_sql.proofs.Loops.{Many}
use Rattle.ent_sql.proofs.list.many.Given as goal

-- what was read and what is read on are all
abbrev pub invariant-things : goal.invariant-things
invariant-things g l = let t = g.T.Item.grammar in record {
  room : l.left + length l.items ≡ g.row.LIMIT;
  whole : Many (among (firsts t)) (reads t) l.end l.items l.left l.tokens
      (reads (many g.row.LIMIT t) l.end l.fn.tokens);
}

abbrev pub decreases-things : goal.decreases-things
decreases-things g l = l.left
