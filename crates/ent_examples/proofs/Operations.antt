-- Statements with the oracle's answers to the entangled ones, told without a recursion.
use Rattle.std.proofs.Common.{◌≡◌, inl, inr, Bool, true, false, cond, List, [], ◌∷◌, map, refl}
use Rattle.std.proofs.Common.{sym, ap, subst, ◌∙◌, Option, Some, None, filter, option_map}
use Rattle.ent_tree.specs.declared.script.Statement.{Statement}
use Rattle.ent_semantics.specs.Entangled.{Valuation}
use Rattle.ent_semantics.specs.Serial.{Operation, operation_first, operations_of, is_entangled, with_answer}
use Rattle.ent_lists.specs.Elements.{In, contains_in, in_contains}
use Rattle.ent_examples.specs.SerialTrace.{AreOperations}

abbrev statement_of : Operation → Statement
statement_of operation = operation.statement

abbrev valuation_of : Operation → Valuation
valuation_of operation = operation.valuation

abbrev asks : Operation → Bool
asks operation = is_entangled operation.statement

abbrev HasNoValue : List Operation → Type 0
HasNoValue all = (operation : Operation) → In operation all → asks operation ≡ false → operation.valuation ≡ []

-- the facts of operations, over plain lists
abbrev Facts : List Statement → List Valuation → List Operation → Type 0
Facts asked oracle operations =
    (map statement_of operations ≡ asked) × (map valuation_of (filter asks operations) ≡ oracle) × HasNoValue operations

-- ---- from the recursion

some_value : (operation : Operation) (more : Option (List Operation)) (all : List Operation)
    → option_map (λ others. operation ∷ others) more ≡ Some all
    → (others : List Operation) × (more ≡ Some others) × (all ≡ operation ∷ others)
some_value operation (Some others) all is = (others, refl, one all is)
  where
    one : (all : List Operation) → Some (operation ∷ others) ≡ Some all → all ≡ operation ∷ others
    one all e = cc
some_value operation None all is = absurd (none is)
  where
    none : None ≡ Some all → ⊥
    none e = cc

one_more : (statement : Statement) (valuation : Valuation) (asked : List Statement) (oracle : List Valuation)
    (others : List Operation) (kind : Bool) → is_entangled statement ≡ kind → (kind ≡ false → valuation ≡ [])
    → Facts asked oracle others
    → Facts (statement ∷ asked) (cond kind (valuation ∷ oracle) oracle)
    (record { statement = statement; valuation = valuation } ∷ others)
one_more statement valuation asked oracle others kind is plain h = (
  ap (λ more. statement ∷ more) h.0,
  ap (λ b. map valuation_of (cond b (record { statement = statement; valuation = valuation } ∷ filter asks others)
      (filter asks others))) is
      ∙ by kind,
  values,
)
  where
    by : (kind : Bool)
        → map valuation_of (cond kind (record { statement = statement; valuation = valuation } ∷ filter asks others)
        (filter asks others))
        ≡ cond kind (valuation ∷ oracle) oracle
    by true = ap (λ more. valuation ∷ more) h.1
    by false = h.1

    values : HasNoValue (record { statement = statement; valuation = valuation } ∷ others)
    values operation (inl same) unasked =
        ap valuation_of same ∙ plain (sym is ∙ ap asks (sym same) ∙ unasked)
    values operation (inr at) unasked = h.2 operation at unasked

one_by : (statement : Statement) (more : List Statement) (all : List Operation)
    → ((oracle : List Valuation) (others : List Operation) → operations_of more oracle ≡ Some others
    → Facts more oracle others)
    → (kind : Bool) → is_entangled statement ≡ kind → (oracle : List Valuation)
    → with_answer statement kind oracle (λ others. operations_of more others) ≡ Some all
    → Facts (statement ∷ more) oracle all
one_by statement more all facts false plain oracle h =
    let r = some_value (record { statement = statement; valuation = [] }) (operations_of more oracle) all h in
    subst (Facts (statement ∷ more) oracle) (sym r.2)
    (one_more statement [] more oracle r.0 false plain (λ e. refl) (facts oracle r.0 r.1))
one_by statement more all facts true entangled [] h = absurd (none h)
  where
    none : None ≡ Some all → ⊥
    none e = cc
one_by statement more all facts true entangled (valuation ∷ oracle) h =
    let r = some_value (record { statement = statement; valuation = valuation }) (operations_of more oracle) all h in
    subst (Facts (statement ∷ more) (valuation ∷ oracle)) (sym r.2)
    (one_more statement valuation more oracle r.0 true entangled (λ e. absurd (never e)) (facts oracle r.0 r.1))
  where
    never : true ≡ false → ⊥
    never e = cc

from_operations : (asked : List Statement) (oracle : List Valuation) (all : List Operation)
    → operations_of asked oracle ≡ Some all → Facts asked oracle all
from_operations [] [] all is =
    subst (Facts [] []) (one all is) (refl, refl, λ operation at unasked. absurd at)
  where
    one : (all : List Operation) → Some [] ≡ Some all → [] ≡ all
    one all e = cc
from_operations [] (valuation ∷ oracle) all is = absurd (none is)
  where
    none : None ≡ Some all → ⊥
    none e = cc
from_operations (statement ∷ more) oracle all is =
    one_by statement more all (λ others those h. from_operations more others those h) (is_entangled statement) refl
    oracle is

-- ---- to the recursion

-- the recursion over the statements and the answers of some operations, whatever is said of the first one
abbrev again : Operation → List Operation → Bool → Option (List Operation)
again operation more kind =
    with_answer operation.statement kind
    (map valuation_of (cond kind (operation ∷ filter asks more) (filter asks more)))
    (λ others. operations_of (map statement_of more) others)

again_by : (operation : Operation) (more : List Operation) (kind : Bool) → is_entangled operation.statement ≡ kind
    → (is_entangled operation.statement ≡ false → operation.valuation ≡ [])
    → operations_of (map statement_of more) (map valuation_of (filter asks more)) ≡ Some more
    → again operation more (is_entangled operation.statement) ≡ Some (operation ∷ more)
again_by operation more true is plain rest =
    ap (again operation more) is ∙ ap (operation_first operation.statement operation.valuation) rest
again_by operation more false is plain rest =
    ap (again operation more) is
    ∙ ap (operation_first operation.statement []) rest
    ∙ ap (λ (values : Valuation). Some (record { statement = operation.statement; valuation = values } ∷ more))
    (sym (plain is))

-- the statements and the answers of operations give these operations
to_operations : (all : List Operation) → HasNoValue all
    → operations_of (map statement_of all) (map valuation_of (filter asks all)) ≡ Some all
to_operations [] h = refl
to_operations (operation ∷ more) h =
    again_by operation more (is_entangled operation.statement) refl (λ unasked. h operation (inl refl) unasked)
    (to_operations more (λ other at unasked. h other (inr at) unasked))

pub are_operations : (asked : List Statement) (oracle : List Valuation) (operations : List Operation)
    → operations_of asked oracle ≡ Some operations → AreOperations asked oracle operations
are_operations asked oracle operations is =
    let h = from_operations asked oracle operations is in
    record {
      of_statements = h.0;
      of_oracle = h.1;
      others = λ operation there unasked. h.2 operation (contains_in operations operation there) unasked;
    }

pub operations_are : (asked : List Statement) (oracle : List Valuation) (operations : List Operation)
    → AreOperations asked oracle operations → operations_of asked oracle ≡ Some operations
operations_are asked oracle operations h =
    sym (ap (λ (those : List Statement). operations_of those oracle) h.of_statements)
    ∙ sym (ap (operations_of (map statement_of operations)) h.of_oracle)
    ∙ to_operations operations (λ operation at unasked.
    h.others operation (in_contains operations operation at) unasked)
