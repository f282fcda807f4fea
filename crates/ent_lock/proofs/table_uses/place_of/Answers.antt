use Rattle.std.proofs.Common.{rules}
use Rattle.std.specs.Ordering.{nat_cmp}
use Rattle.std.specs.Cmp.Lexicographic.{slice_cmp}
use Rattle.std.proofs.lemmas.Fn.{always_returns_same}
use Rattle.ent_lock.proofs.Held.{placed}
use Rattle.ent_lock.proofs.table_uses.place_of.Goals as goal

pub returns-clause-found : goal.returns-clause-found
returns-clause-found g c =
    let by_name = c.binary_search_by.ensures.position
    (λ uses. slice_cmp nat_cmp (g.T.TableKey.key uses.table) (g.T.TableKey.key c.args.table.now))
    (always_returns_same _ _ _ (λ a r f called. search rules)) in
    (placed g.T.TableKey.key c.args.tables.now (g.T.TableKey.key c.args.table.now) c.requires _
    c.binary_search_by.ensures.bound by_name).found

pub returns-clause-missing : goal.returns-clause-missing
returns-clause-missing g c =
    let by_name = c.binary_search_by.ensures.position
    (λ uses. slice_cmp nat_cmp (g.T.TableKey.key uses.table) (g.T.TableKey.key c.args.table.now))
    (always_returns_same _ _ _ (λ a r f called. search rules)) in
    (placed g.T.TableKey.key c.args.tables.now (g.T.TableKey.key c.args.table.now) c.requires _
    c.binary_search_by.ensures.bound by_name).missing
