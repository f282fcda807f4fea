-- The plan of the coordinating choices of posted statements: what each of their written variables is.
use Rattle.std.specs.Prelude.{◌≡◌, ◌≢◌, ◌<◌, ◌⊎◌, ◌↔◌, ◌==◌, ℕ, suc, Bool, List, [], ◌∷◌, length, map}
use Rattle.std.specs.Prelude.{AllPairs, Contains, slice_index_or}
use Rattle.std.specs.List.{filter, flat_map, list_any}
use Rattle.ent_value.specs.Value.{kind_of, kinds_of}
use Rattle.ent_value.specs.declared.value.Kind.{Kind}
use Rattle.ent_value.specs.declared.value.Kind.TheVariants as kinds
use Rattle.ent_value.specs.declared.value.Value.{Value}
use Rattle.ent_semantics.specs.declared.answer.Fact.{Fact}
use Rattle.ent_semantics.specs.Entangled.{Valuation}
use Rattle.ent_semantics.specs.Term.{no_value}
use Rattle.ent_semantics.specs.Form.{Tables}
use Rattle.ent_semantics.specs.declared.entangled.Atom.{Atom}
use Rattle.ent_semantics.specs.Choice.{AreGroundings, all_heads, all_posts}
use Rattle.ent_semantics.specs.Pool.{Posted}
use Rattle.ent_plan.specs.declared.slot.Slot.{Slot}
use Rattle.ent_plan.specs.declared.slot.Slot.TheVariants.{Fixed, Class}

-- the statements, for each of them a slot for each of its written variables, and the kinds of the classes by number
pub record Plan : Type 0 where
  pub members : List Posted
  pub slots : List (List Slot)
  pub kinds : List Kind

-- ---- the valuations of a plan

-- what a slot is worth under a value for each class
abbrev pub slot_value : List Value → Slot → Value
slot_value values (Fixed value) = value
slot_value values (Class number) = slice_index_or values number no_value

abbrev pub spread : Plan → List Value → List Valuation
spread plan values = map (map (slot_value values)) plan.slots

-- groundings are those of the plan under some values, one for each class and of its kind
abbrev pub IsSpread : Plan → List Valuation → Type 0
IsSpread plan groundings = (values : List Value) × (kinds_of values ≡ plan.kinds) × (groundings ≡ spread plan values)

-- ---- what makes a plan

-- a valuation for each statement, each value being of its variable's kind
abbrev pub AreKindedFor : List Posted → List Valuation → Type 0
AreKindedFor members groundings =
    map kinds_of groundings ≡ map (λ (member : Posted). member.statement.variables) members

-- each post is equal to a head
abbrev pub AreMet : List Posted → List Valuation → Type 0
AreMet members groundings =
    (post : Fact) → Contains (all_posts members groundings) post → Contains (all_heads members groundings) post

abbrev pub slot_kind : List Kind → Slot → Kind
slot_kind class_kinds (Fixed value) = kind_of value
slot_kind class_kinds (Class number) = slice_index_or class_kinds number kinds.Int

-- Slots read in order name classes from one number up to another: a class that wasn't named before has the next number.
abbrev pub AreNumbered : ℕ → List Slot → ℕ → Type 0
AreNumbered next [] end = next ≡ end
AreNumbered next (Fixed value ∷ slots) end = AreNumbered next slots end
AreNumbered next (Class number ∷ slots) end =
    ((number < next) × AreNumbered next slots end) ⊎ ((number ≡ next) × AreNumbered (suc next) slots end)

abbrev pub all_slots : Plan → List Slot
all_slots plan = flat_map (λ slots. slots) plan.slots

-- Each variable's slot is of its kind, classes are numbered by first appearance, and valuations of the variables' kinds
-- make each post equal to a head exactly where they are those of the plan under some values of the classes' kinds.
pub record IsPlan (plan : Plan) : Type 0 where
  pub kinded : map (map (slot_kind plan.kinds)) plan.slots
      ≡ map (λ (member : Posted). member.statement.variables) plan.members
  pub numbered : AreNumbered 0 (all_slots plan) (length plan.kinds)
  pub exact : (groundings : List Valuation) → AreKindedFor plan.members groundings
      → AreMet plan.members groundings ↔ IsSpread plan groundings

-- no valuations of the variables' kinds make each post equal to a head, whatever rows there are
abbrev pub HaveNoPlan : List Posted → Type 0
HaveNoPlan members = (groundings : List Valuation) → AreKindedFor members groundings → AreMet members groundings → ⊥

-- ---- of which statements there are plans

-- a statement is of one of some transactions
abbrev pub is_named : List ℕ → Posted → Bool
is_named txs member = list_any (λ tx. tx == member.tx) txs

-- the statements of some transactions
abbrev pub named : List Posted → List ℕ → List Posted
named pool txs = filter (is_named txs) pool

-- a statement's heads are of distinct relations
abbrev pub HasDistinctHeads : Posted → Type 0
HasDistinctHeads member = AllPairs (λ (one other : Atom Value). one.relation ≢ other.relation) member.statement.heads

abbrev pub HaveDistinctHeads : List Posted → Type 0
HaveDistinctHeads members = (member : Posted) → Contains members member → HasDistinctHeads member

-- ---- the coordinating choices of a plan

-- groundings of the statements over the tables that are those of the plan under some values of the classes' kinds
abbrev pub IsGroundedSpread : Tables → Plan → List Valuation → Type 0
IsGroundedSpread tables plan groundings =
    (values : List Value) × (kinds_of values ≡ plan.kinds) × (groundings ≡ spread plan values)
    × AreGroundings tables plan.members (spread plan values)
