-- Posted statements, and which posts and heads of them unify.
use Rattle.std.specs.Prelude.{◌≡◌, ◌≢◌, ℕ, ◌<◌, List, [], ◌∷◌, AllPairs, Contains, Some, slice_get}
use Rattle.std.specs.Ordering.{nat_cmp, on, then_cmp}
use Rattle.std.specs.declared.cmp.Ordering.{Ordering}
use Rattle.std.specs.declared.cmp.Ordering.TheVariants.{Less}
use Rattle.ent_value.specs.declared.value.Kind.{Kind}
use Rattle.ent_value.specs.declared.value.Value.{Value}
use Rattle.ent_semantics.specs.declared.answer.Fact.{Fact}
use Rattle.ent_semantics.specs.Entangled.{Valuation}
use Rattle.ent_semantics.specs.Kinds.{IsOfKind}
use Rattle.ent_semantics.specs.Form.{atom_fact}
use Rattle.ent_semantics.specs.declared.entangled.Atom.{Atom}
use Rattle.ent_semantics.specs.declared.entangled.Entangled.{Entangled}

-- A transaction's statement that was posted, of this attempt and at this place, its host variables replaced by their
-- values. What pools and choices are doesn't read the attempt and the place.
pub record Posted : Type 0 where
  pub tx : ℕ
  pub attempt : ℕ
  pub place : ℕ
  pub statement : Entangled Value

-- the transaction of a list's first statement
abbrev pub first_tx : List Posted → ℕ
first_tx [] = 0
first_tx (query ∷ more) = query.tx

-- at most one statement of each transaction
abbrev pub IsPool : List Posted → Type 0
IsPool pool = AllPairs (λ (first second : Posted). first.tx ≢ second.tx) pool

-- one value for each variable, of its kind
abbrev pub AreOfKinds : List Kind → Valuation → Type 0
AreOfKinds [] [] = Unit {0}
AreOfKinds [] (value ∷ values) = ⊥
AreOfKinds (kind ∷ kinds) [] = ⊥
AreOfKinds (kind ∷ kinds) (value ∷ values) = IsOfKind kind value × AreOfKinds kinds values

-- the fact that an atom of a closed statement is under a valuation
abbrev pub fact_under : Valuation → Atom Value → Fact
fact_under = atom_fact (λ value. value)

-- Two atoms unify where some values of their variables, each of its variable's kind, make them one fact. The variables
-- of the two are different ones, also where the two are of one statement.
pub record Unify (kinds : List Kind) (atom : Atom Value) (others : List Kind) (other : Atom Value) : Type 0 where
  pub values : Valuation
  pub of_kinds : AreOfKinds kinds values
  pub other_values : Valuation
  pub of_other_kinds : AreOfKinds others other_values
  pub one_fact : fact_under values atom ≡ fact_under other_values other

-- a statement's post of this index unifies with a head of a statement, which meets it under some values
pub record CanMeet (asker : Posted) (index : ℕ) (owner : Posted) : Type 0 where
  pub post : Atom Value
  pub is_post : slice_get asker.statement.posts index ≡ Some post
  pub head : Atom Value
  pub is_head : Contains owner.statement.heads head
  pub unify : Unify asker.statement.variables post owner.statement.variables head

-- Each post unifies with one head at most. A statement's heads are of distinct relations, so that a post unifies with
-- one of them at most.
abbrev pub IsSafe : List Posted → Type 0
IsSafe pool =
    (asker first second : Posted) (index : ℕ) → Contains pool asker → Contains pool first → Contains pool second
    → CanMeet asker index first → CanMeet asker index second → first.tx ≡ second.tx

-- why a pool isn't safe: a post, and two statements that have a head for it
pub record Unsafe : Type 0 where
  pub asker : ℕ
  pub index : ℕ
  pub first : ℕ
  pub second : ℕ

-- a statement of the pool has a head for the post of this transaction and index
pub record HasHeadFor (pool : List Posted) (tx index owner : ℕ) : Type 0 where
  pub asker : Posted
  pub asks : Contains pool asker
  pub asker_is : asker.tx ≡ tx
  pub partner : Posted
  pub offers : Contains pool partner
  pub partner_is : partner.tx ≡ owner
  pub meets : CanMeet asker index partner

-- two statements have a head for a post, the lesser transaction first
abbrev pub IsUnsafeAt : List Posted → Unsafe → Type 0
IsUnsafeAt pool fault =
    (fault.first < fault.second) × HasHeadFor pool fault.asker fault.index fault.first
    × HasHeadFor pool fault.asker fault.index fault.second

-- of all such, the one with the least post, by transaction and index, and its two least heads
abbrev pub unsafe_cmp : Unsafe → Unsafe → Ordering
unsafe_cmp =
    then_cmp (on (λ fault. fault.asker) nat_cmp)
    (then_cmp (on (λ fault. fault.index) nat_cmp)
    (then_cmp (on (λ fault. fault.first) nat_cmp) (on (λ fault. fault.second) nat_cmp)))

abbrev pub IsFirstUnsafe : List Posted → Unsafe → Type 0
IsFirstUnsafe pool fault =
    IsUnsafeAt pool fault × ((other : Unsafe) → IsUnsafeAt pool other → unsafe_cmp other fault ≢ Less)
