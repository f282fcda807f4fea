-- The items that operands are read as.
use Rattle.std.proofs.Common.{◌≡◌, List, [], ◌∷◌, ◌++◌, map, Option, refl, sym, ap, ◌∙◌}
use Rattle.ent_tree.specs.declared.operand.Identifier.{Identifier}
use Rattle.ent_tree.specs.declared.operand.Operand.{Operand}
use Rattle.ent_tree.specs.declared.entangled.Term.{Term}
use Rattle.ent_tree.specs.declared.entangled.EntangledItem.{EntangledItem}
use Rattle.ent_sql.specs.Entangling.{term_of, unbound, items_of}

-- the last operand alone may bind a host variable
pub last_binds : (xs : List Operand) (x : Operand) (binds : Option Identifier)
    → items_of (xs ++ x ∷ []) binds ≡ map unbound xs ++ record { term = term_of x; binds = binds } ∷ []
last_binds [] x binds = refl
last_binds (y ∷ []) x binds = refl
last_binds (y ∷ z ∷ xs) x binds = ap (λ (items : List EntangledItem). unbound y ∷ items) (last_binds (z ∷ xs) x binds)

-- the items of all but the last operand, and then the last one's
pub built : (operands whole others : List Operand) (last : Operand) (binds : Option Identifier)
    (items new : List EntangledItem) (t : Term) → whole ≡ operands → whole ≡ others ++ last ∷ []
    → items ≡ map unbound others → t ≡ term_of last
    → new ≡ items ++ record { term = t; binds = binds } ∷ [] → items_of operands binds ≡ new
built operands whole others last binds items new t is parted mapped read pushed =
    let so : operands ≡ others ++ last ∷ [] = sym is ∙ parted in
    let end : items ++ record { term = t; binds = binds } ∷ [] ≡ map unbound others
    ++ record { term = term_of last; binds = binds } ∷ [] = rw (mapped, read) refl in
    ap (λ (xs : List Operand). items_of xs binds) so ∙ last_binds others last binds ∙ sym end ∙ sym pushed
