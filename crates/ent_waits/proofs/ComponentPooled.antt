-- The pool with one statement more.
use Rattle.std.proofs.Common.{◌≡◌, ◌⊎◌, inl, inr, List, [], ◌∷◌, ◌++◌, subst}
use Rattle.std.specs.Prelude.{Contains}
use Rattle.std.proofs.lemmas.List.Elements.{Contains-append_left, Contains-push, Contains-push_cases}
use Rattle.ent_lists.proofs.Contained.{contains_cases, contains_first, contains_later}
use Rattle.ent_semantics.specs.Pool.{Posted}
use Rattle.ent_match.specs.Posting.{Adds}
use Rattle.ent_match.specs.Same.{SameStatements}

push_of : (pool : List Posted) (member other : Posted) → Contains pool other ⊎ (member ≡ other)
    → Contains (pool ++ member ∷ []) other
push_of pool member other (inl there) = Contains-append_left pool (member ∷ []) other there
push_of pool member other (inr is) = subst (Contains (pool ++ member ∷ [])) is (Contains-push pool member)

cons_of : (pool : List Posted) (member other : Posted) → Contains pool other ⊎ (member ≡ other)
    → Contains (member ∷ pool) other
cons_of pool member other (inl there) = contains_later member pool other there
cons_of pool member other (inr is) = contains_first member pool other is

turned : {A B : Type 0} → A ⊎ B → B ⊎ A
turned (inl a) = inr a
turned (inr b) = inl b

-- in whatever place
pub added : (old new : List Posted) (member : Posted) → Adds old new member → SameStatements new (old ++ member ∷ [])
added old new member adds other = (
  λ there. push_of old member other ((adds other).0 there),
  λ there. (adds other).1 (Contains-push_cases old member other there),
)

-- in the first place
pub put_before : (old : List Posted) (member : Posted) → SameStatements (member ∷ old) (old ++ member ∷ [])
put_before old member other = (
  λ there. push_of old member other (turned (contains_cases member old other there)),
  λ there. cons_of old member other (Contains-push_cases old member other there),
)
