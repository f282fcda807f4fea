use Rattle.std.proofs.Common.{◌≡◌, ◌&&◌, take, drop}
use Rattle.std.specs.List.{list_any}
use Rattle.ent_lock.specs.Use.{Use}
use Rattle.ent_lock.specs.Layout.{keys_of, is_use_of_none}
use Rattle.ent_lock.proofs.Held.{has_in}
use Rattle.ent_lock.proofs.table_uses.drop_members.Given as goal

abbrev pub invariant-loop-uses : goal.invariant-loop-uses
invariant-loop-uses g l = record {
  so_far : (q : Use) → list_any (has_in g.T.TableKey.key q)
      (take l.uses-index l.tables) ≡ (is_use_of_none l.members q && list_any (has_in g.T.TableKey.key q)
      (take l.uses-index l.fn.tables));
  rest : drop l.uses-index l.tables ≡ drop l.uses-index l.fn.tables;
  names : keys_of g.T.TableKey.key l.tables ≡ keys_of g.T.TableKey.key l.fn.tables;
}
