-- The friends' statements as they are posted, and a third one.
use Rattle.std.specs.Prelude.{ℕ, List, [], ◌∷◌, codes}
use Rattle.ent_value.specs.declared.value.Kind.TheVariants as kinds
use Rattle.ent_value.specs.declared.value.Value.{Value}
use Rattle.ent_tree.specs.declared.operand.Comparison.TheVariants.{Equal}
use Rattle.ent_semantics.specs.declared.entangled.Atom.{Atom}
use Rattle.ent_semantics.specs.declared.entangled.Entangled.{Entangled}
use Rattle.ent_semantics.specs.declared.entangled.Term.TheVariants.{Known, Variable}
use Rattle.ent_semantics.specs.declared.operand.Operand.TheVariants as operands
use Rattle.ent_semantics.specs.Pool.{Posted}
use Rattle.ent_examples.specs.Partners.{LA, Mickey, Minnie}

-- R(name, fno), fno being the only variable
abbrev pub flies_as : Value → Atom Value
flies_as name = record { relation = codes "R"; terms = Known name ∷ Variable 0 ∷ [] }

-- the statement of a friend who flies with a partner
abbrev pub wants : Value → Value → Entangled Value
wants own partner =
    record {
      variables = kinds.Int ∷ [];
      posts = flies_as partner ∷ [];
      heads = flies_as own ∷ [];
      atoms = record {
        terms = Variable 0 ∷ [];
        select = record {
          sources = 0 ∷ [];
          items = operands.Column 0 ∷ [];
          tests = record { left = operands.Column 1; comparison = Equal; right = operands.Known LA } ∷ [];
        };
      } ∷ [];
      tests = [];
      binds = [];
    }

abbrev pub friend : ℕ → Value → Value → Posted
friend tx own partner = record { tx = tx; attempt = 1; place = 1; statement = wants own partner }

abbrev pub two_friends : List Posted
two_friends = friend 1 Mickey Minnie ∷ friend 2 Minnie Mickey ∷ []

-- a third transaction offers what the second does
abbrev pub with_third : List Posted
with_third = friend 1 Mickey Minnie ∷ friend 2 Minnie Mickey ∷ friend 3 Minnie Mickey ∷ []
