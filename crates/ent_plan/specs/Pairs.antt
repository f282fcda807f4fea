-- The posts and heads of statements by their places, and the pairs of them that unify.
use Rattle.std.specs.Prelude.{◌≡◌, ◌⊎◌, ℕ, suc, Bool, List, [], ◌∷◌, ◌++◌, map, Contains, MatchBool}
use Rattle.ent_value.specs.declared.value.Kind.{Kind}
use Rattle.ent_value.specs.declared.value.Value.{Value}
use Rattle.ent_semantics.specs.declared.entangled.Atom.{Atom}
use Rattle.ent_semantics.specs.Pool.{Posted, Unify}
use Rattle.ent_unify.specs.Unifier.{AreApart}
use Rattle.ent_unify.specs.declared.unifier.MemberAtom.{MemberAtom}
use Rattle.ent_plan.specs.declared.pair.PlacedAtom.{PlacedAtom}

-- an atom of the statement at a place, with the kinds of that statement's variables
pub record Placed : Type 0 where
  pub place : ℕ
  pub kinds : List Kind
  pub atom : Atom Value

abbrev pub seen : PlacedAtom → Placed
seen placed = record { place = placed.member; kinds = placed.kinds.now; atom = placed.atom.now }

abbrev pub placed_at : ℕ → List Kind → Atom Value → Placed
placed_at place kinds atom = record { place = place; kinds = kinds; atom = atom }

-- some atoms of each statement, the first statement being at a place
abbrev pub placed_from : (Posted → List (Atom Value)) → ℕ → List Posted → List Placed
placed_from atoms place [] = []
placed_from atoms place (member ∷ members) =
    map (placed_at place member.statement.variables) (atoms member) ++ placed_from atoms (suc place) members

abbrev pub placed_posts : List Posted → List Placed
placed_posts = placed_from (λ member. member.statement.posts) 0

abbrev pub placed_heads : List Posted → List Placed
placed_heads = placed_from (λ member. member.statement.heads) 0

-- ---- pairs of a post and a head

-- an atom with its place
abbrev pub AtPlace : Type 0
AtPlace = ℕ × Atom Value

abbrev pub seen_atom : MemberAtom → AtPlace
seen_atom atom = (atom.member, atom.atom.now)

abbrev pub seen_pair : MemberAtom × MemberAtom → AtPlace × AtPlace
seen_pair (post, head) = (seen_atom post, seen_atom head)

abbrev pub pair_of : Placed → Placed → AtPlace × AtPlace
pair_of post head = ((post.place, post.atom), (head.place, head.atom))

abbrev pub DoUnify : Placed → Placed → Type 0
DoUnify post head = Unify post.kinds post.atom head.kinds head.atom

abbrev pub StandApart : Placed → Placed → Type 0
StandApart post head = AreApart post.kinds post.atom head.kinds head.atom

-- a post is apart from all heads
abbrev pub IsAlone : List Placed → Placed → Type 0
IsAlone heads post = (head : Placed) → Contains heads head → StandApart post head

-- a head is in a pair with a post
abbrev pub IsMetIn : List (AtPlace × AtPlace) → List Placed → Placed → Type 0
IsMetIn pairs heads post = (head : Placed) × Contains heads head × Contains pairs (pair_of post head)

-- a post's pairs with heads are put down
pub record PutsPairs (post : Placed) (heads : List Placed) (old new : List (AtPlace × AtPlace)) (is_met : Bool) :
    Type 0 where
  pub kept : (pair : AtPlace × AtPlace) → Contains old pair → Contains new pair
  pub sound : (pair : AtPlace × AtPlace) → Contains new pair
      → Contains old pair ⊎ ((head : Placed) × Contains heads head × (pair_of post head ≡ pair) × DoUnify post head)
  pub told : (head : Placed) → Contains heads head → StandApart post head ⊎ DoUnify post head
  pub met : MatchBool is_met (IsMetIn new heads post) (IsAlone heads post)

-- the pairs of a post and a head that unify, each post being in one
pub record ArePairs (posts heads : List Placed) (pairs : List (AtPlace × AtPlace)) : Type 0 where
  pub sound : (pair : AtPlace × AtPlace) → Contains pairs pair
      → (post head : Placed) × Contains posts post × Contains heads head × (pair_of post head ≡ pair)
      × DoUnify post head
  pub told : (post head : Placed) → Contains posts post → Contains heads head
      → StandApart post head ⊎ DoUnify post head
  pub met : (post : Placed) → Contains posts post → IsMetIn pairs heads post

-- some post is apart from all heads
abbrev pub HasLonePost : List Placed → List Placed → Type 0
HasLonePost posts heads = (post : Placed) × Contains posts post × IsAlone heads post
