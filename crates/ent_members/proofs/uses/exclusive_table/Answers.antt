use Rattle.std.proofs.Common.{◌≡◌, ℕ, [], ◌∷◌, Option, Some, None, IfSome, ap, map, sym}
use Rattle.std.specs.Prelude.{option_to_list}
use Rattle.ent_semantics.specs.FormKinds.{changed_tables}
use Rattle.ent_semantics.specs.declared.statement.Statement.{Statement}
use Rattle.ent_semantics.specs.declared.statement.Statement.TheVariants as statements
use Rattle.ent_protocol.specs.Uses.{exclusive, statement_uses}
use Rattle.ent_members.proofs.uses.exclusive_table.Goals as goal

one_use : {K : Type 0} (statement : Statement K) (found : Option ℕ) → option_to_list found ≡ changed_tables statement
    → IfSome found (λ table. statement_uses statement ≡ exclusive table ∷ [])
one_use statement None is = tt
one_use (statements.Select select) (Some table) is = absurd cc
one_use (statements.Entangled entangled) (Some table) is = absurd cc
one_use (statements.Insert own values) (Some table) is = ap (map exclusive) (sym is)
one_use (statements.Delete own tests) (Some table) is = ap (map exclusive) (sym is)
one_use (statements.Update own image tests) (Some table) is = ap (map exclusive) (sym is)
one_use (statements.Set variable expression) (Some table) is = absurd cc

pub returns-clause-uses : goal.returns-clause-uses
returns-clause-uses g c = one_use c.args.statement.now c.changed_table.result c.changed_table.ensures
