-- A script's statements, the answers of the oracle to them, and what is there behind each.
use Rattle.std.proofs.Common.{◌≡◌, ℕ, suc, ◌+◌, Bool, true, false, List, [], ◌∷◌, map, refl, sym, ap}
use Rattle.std.proofs.Common.{subst, ◌∙◌, arith, Option, Some, None, Ok, slice_get}
use Rattle.std.proofs.lemmas.Option.{same_Some}
use Rattle.std.specs.List.{AllByRecursion}
use Rattle.ent_tree.specs.declared.entangled.Entangled.{Entangled as TreeEntangled}
use Rattle.ent_tree.specs.declared.script.Script.{Script}
use Rattle.ent_tree.specs.declared.script.Statement.{Statement as TreeStatement}
use Rattle.ent_tree.specs.declared.script.Statement.TheVariants as trees
use Rattle.ent_semantics.specs.Entangled.{Valuation}
use Rattle.ent_semantics.specs.Serial.{Operation, ReadView, operation_first, operations_of, is_entangled}
use Rattle.ent_semantics.specs.Serial.{numbered, with_answer}
use Rattle.ent_semantics.specs.declared.entangled.Entangled.{Entangled}
use Rattle.ent_semantics.specs.declared.operand.Known.{Known}
use Rattle.ent_semantics.specs.declared.statement.Statement.{Statement}
use Rattle.ent_semantics.specs.declared.statement.Statement.TheVariants as forms
use Rattle.ent_form.specs.Entangled.{entangled_in}
use Rattle.ent_form.specs.Form.{statement_in}
use Rattle.ent_form.specs.Kinds.{Bound}
use Rattle.ent_form.specs.declared.catalogue.TableSchema.{TableSchema}
use Rattle.ent_form.specs.declared.fault.FormFault.{FormFault}
use Rattle.ent_form.specs.declared.script.Plain.{Plain}
use Rattle.ent_form.proofs.Heads.{found_of}
use Rattle.ent_form.proofs.ResolvedSteps.{one_answer}
use Rattle.ent_lists.specs.Elements.{clash}
use Rattle.ent_program_laws.proofs.Grounding.{IsAnswered}

-- ---- statements and the oracle's answers

abbrev pub trees_of : List Operation → List TreeStatement
trees_of operations = map (λ (operation : Operation). operation.statement) operations

-- what isn't entangled takes no value
abbrev pub TakesNone : Operation → Type 0
TakesNone operation = is_entangled operation.statement ≡ false → operation.valuation ≡ []

abbrev AreOperationsOf : List TreeStatement → List Operation → Type 0
AreOperationsOf statements operations = (trees_of operations ≡ statements) × AllByRecursion TakesNone operations

operation_put : (statement : TreeStatement) (valuation : Valuation) (statements : List TreeStatement)
    (rest : Option (List Operation)) (operations : List Operation)
    → ((others : List Operation) → rest ≡ Some others → AreOperationsOf statements others)
    → (is_entangled statement ≡ false → valuation ≡ []) → operation_first statement valuation rest ≡ Some operations
    → AreOperationsOf (statement ∷ statements) operations
operation_put statement valuation statements (Some others) operations so none e =
    let behind = so others refl in
    subst (λ (all : List Operation). AreOperationsOf (statement ∷ statements) all)
    (same_Some (record { statement = statement; valuation = valuation } ∷ others) operations e)
    (ap (λ (all : List TreeStatement). statement ∷ all) behind.0, (none, behind.1))
operation_put statement valuation statements None operations so none e = cc (e)

pub operations_so : (statements : List TreeStatement) (oracle : List Valuation) (operations : List Operation)
    → operations_of statements oracle ≡ Some operations → AreOperationsOf statements operations
operations_so [] [] operations e = subst (λ (all : List Operation). AreOperationsOf [] all) (same_Some [] operations e)
    (refl, tt)
operations_so [] (valuation ∷ oracle) operations e = cc (e)
operations_so (statement ∷ more) oracle operations e =
    by (is_entangled statement) refl oracle e (λ oracle others there. operations_so more oracle others there)
  where
    by : (b : Bool) → is_entangled statement ≡ b → (oracle : List Valuation)
        → with_answer statement b oracle (λ others. operations_of more others) ≡ Some operations
        → ((oracle : List Valuation) (others : List Operation) → operations_of more oracle ≡ Some others
        → AreOperationsOf more others)
        → AreOperationsOf (statement ∷ more) operations
    by false is oracle e rest =
        operation_put statement [] more (operations_of more oracle) operations (rest oracle) (λ plain. refl) e
    by true is [] e rest = cc (e)
    by true is (valuation ∷ oracle) e rest =
        operation_put statement valuation more (operations_of more oracle) operations (rest oracle)
        (λ plain. clash (is_entangled statement) is plain) e

-- ---- a part of a list, behind so many

abbrev pub Behind : {A : Type 0} → ℕ → List A → List A → Type 0
Behind n rest whole = (k : ℕ) → slice_get rest k ≡ slice_get whole (n + k)

pub all_behind : {A : Type 0} (whole : List A) → Behind 0 whole whole
all_behind whole k = let same : k ≡ 0 + k = omega arith in ap (λ (n : ℕ). slice_get whole n) same

pub next_behind : {A : Type 0} (n : ℕ) (x : A) (rest whole : List A) → Behind n (x ∷ rest) whole
    → Behind (suc n) rest whole
next_behind n x rest whole behind k =
    let same : n + suc k ≡ suc n + k = omega arith in behind (suc k) ∙ ap (λ (m : ℕ). slice_get whole m) same

pub first_behind : {A : Type 0} (n : ℕ) (x : A) (rest whole : List A) → Behind n (x ∷ rest) whole
    → slice_get whole n ≡ Some x
first_behind n x rest whole behind =
    let same : n ≡ n + 0 = omega arith in ap (λ (m : ℕ). slice_get whole m) same ∙ sym (behind 0)

-- ---- what can be told of read views

-- the form of an entangled statement
pub entangled_form : (schemas : List TableSchema) (bound after : Bound) (entangled : TreeEntangled)
    (form : Statement Known) → statement_in schemas bound (trees.Entangled entangled) ≡ Ok (form, after)
    → (own : Entangled Known) × (form ≡ forms.Entangled own) × (entangled_in schemas bound entangled ≡ Ok (own, after))
unfolding statement_in
entangled_form schemas bound after entangled form e =
    let w = found_of (entangled_in schemas bound entangled) _ (form, after) e in
    let same = one_answer {E = FormFault} (forms.Entangled w.0.0, w.0.1) (form, after) w.2 in (
      w.0.0,
      sym (ap (λ (f : Statement Known × Bound). f.0) same),
      w.1 ∙ ap (λ (f : Statement Known × Bound). Ok (w.0.0, f.1)) same,
    )

-- a read view of a script's entangled statement, and the form of that, that can be told
pub record IsReadViewTold (tx : ℕ) (script : Script) (plain : Plain) (read_view : ReadView) : Type 0 where
  pub of_script : read_view.tx ≡ tx
  pub statement : numbered script.statements read_view.place ≡ Some (trees.Entangled read_view.entangled)
  pub form : Entangled Known
  pub resolved : numbered plain.statements read_view.place ≡ Some (forms.Entangled form)
  pub answered : IsAnswered read_view.entangled form read_view.valuation
