-- Signatures of atoms: marks that atoms have in common where they unify.
use Rattle.std.specs.Prelude.{◌≡◌, ◌↔◌, ◌⊎◌, ◌<◌, ◌%◌, ℕ, List, [], ◌∷◌, ◌++◌, length, Contains, IsTrue}
use Rattle.std.specs.Prelude.{Option, Some, None, fold}
use Rattle.std.specs.Hash as fed
use Rattle.std.specs.Hash.FoldHasher as folding
use Rattle.ent_group.specs.Marks.{has_mark}
use Rattle.ent_value.specs.declared.value.Value.{Value}
use Rattle.ent_value.specs.declared.value.Value.TheVariants.{Int, Text}
use Rattle.ent_semantics.specs.Database.{Name}
use Rattle.ent_semantics.specs.declared.entangled.Atom.{Atom}
use Rattle.ent_semantics.specs.declared.entangled.Entangled.{Entangled}
use Rattle.ent_semantics.specs.declared.entangled.Term.{Term}
use Rattle.ent_semantics.specs.declared.entangled.Term.TheVariants.{Known, Variable}

-- the bytes that are hashed for a value
abbrev pub hashed_value : Value → List (List ℕ)
hashed_value (Int number) = fed.i64 number
hashed_value (Text bytes) = bytes ∷ []

-- the place of the mark of atoms of a relation and a length that begin with a value; that it is a hash of these matters
-- for speed alone
unfoldable pub mark_place : Name → ℕ → Value → ℕ
mark_place relation count first = folding.finish
    (fold folding.write folding.initial (relation ∷ (fed.usize count ++ hashed_value first))) % 64

-- the one place of the mark of atoms of a relation with these terms; none where they begin with a variable, which
-- stands for any value, or where there is no term
abbrev pub mark_by : Name → List (Term Value) → Option ℕ
mark_by relation [] = None
mark_by relation (Known first ∷ more) = Some (mark_place relation (length (Known first ∷ more)) first)
mark_by relation (Variable index ∷ more) = None

abbrev pub mark_of : Atom Value → Option ℕ
mark_of atom = mark_by atom.relation atom.terms

-- an atom has its mark at a place, or a mark at each
abbrev pub IsMarkedAt : Atom Value → ℕ → Type 0
IsMarkedAt atom place = (mark_of atom ≡ None) ⊎ (mark_of atom ≡ Some place)

-- a row gets the marks of an atom too
abbrev pub MarksToo : Atom Value → ℕ → ℕ → Type 0
MarksToo atom old new =
    (place : ℕ) → place < 64 → IsTrue (has_mark new place) ↔ (IsTrue (has_mark old place) ⊎ IsMarkedAt atom place)

-- a row of 64 marks has those of some atoms
abbrev pub IsSignature : List (Atom Value) → ℕ → Type 0
IsSignature atoms row =
    (place : ℕ) → place < 64 → IsTrue (has_mark row place)
    ↔ ((atom : Atom Value) × Contains atoms atom × IsMarkedAt atom place)

-- the signatures of a statement's posts and heads
pub record AreSignatures (statement : Entangled Value) (posts heads : ℕ) : Type 0 where
  pub of_posts : IsSignature statement.posts posts
  pub of_heads : IsSignature statement.heads heads
