-- Tables that are shown, and tables that no script changes.
use Rattle.std.proofs.Common.{◌≡◌, ℕ, suc, Bool, true, false, cond, ◌||◌, List, [], ◌∷◌, refl, sym, ap, subst, ◌∙◌}
use Rattle.std.proofs.Common.{inl, inr, Some, Result, Ok}
use Rattle.ent_lists.specs.Laws.{from_list-ascending}
use Rattle.ent_lists.specs.Sets as set
use Rattle.ent_value.specs.Order.{rows_total, exact_rows}
use Rattle.ent_value.specs.Value.{row_cmp}
use Rattle.ent_tree.specs.declared.declaration.Create.{Create}
use Rattle.ent_tree.specs.declared.script.Statement.{Statement}
use Rattle.ent_semantics.specs.declared.answer.Failure.{Failure}
use Rattle.ent_semantics.specs.Database.{Name, Database, Environment, nothing_bound, same_name}
use Rattle.ent_semantics.specs.Effect.{Effect}
use Rattle.ent_semantics.specs.Entangled.{Valuation}
use Rattle.ent_semantics.specs.Names.{equal_names, name_itself}
use Rattle.ent_semantics.specs.Serial.{Operation, Run, run}
use Rattle.ent_semantics.specs.Statement.{statement_meaning}
use Rattle.ent_semantics.specs.Uses.{changes, KeepsOthers}
use Rattle.ent_history.specs.declared.history.Shown.{Shown}
use Rattle.ent_history.specs.Told.{shown_database}
use Rattle.ent_history.specs.Account.{Account}
use Rattle.ent_history.specs.Alike.{same_rows}
use Rattle.ent_history.specs.Formed.{is_shown}
use Rattle.ent_history.specs.Journal.{unless}
use Rattle.ent_history.specs.Placed.{Placed, told_operations}
use Rattle.ent_history.specs.Replay.{account_run, told_end}
use Rattle.ent_history.specs.Table.{tables_findings}
use Rattle.ent_history.specs.declared.finding.Rule.TheVariants as rule
use Rattle.ent_history.specs.declared.finding.Thing.TheVariants as thing
use Rattle.ent_history.proofs.Alike.{equal_lists, list_itself}
use Rattle.ent_history.proofs.Operations.{goes_on, then_some}
use Rattle.ent_history.proofs.Found.{unless_holds, holds_unless}
use Rattle.ent_lists.specs.Elements.{In, Pairs, of_all}
use Rattle.ent_history.proofs.RuleLists.{both_none, none_first, none_second}

-- ---- tables that are shown

module _ (left : Database) where
  pub shown_left : (number : ℕ) (tables : List Shown) → tables_findings number left tables ≡ [] → (shown : Shown)
      → In shown tables → shown.rows ≡ set.ascending (left shown.name)
  shown_left number [] none shown at = absurd at
  shown_left number (x ∷ xs) none shown (inl same) =
      subst (λ (y : Shown). y.rows ≡ set.ascending (left y.name)) (sym same)
      (equal_lists x.rows (set.ascending (left x.name))
      (unless_holds (same_rows x.rows (set.ascending (left x.name))) rule.Table (thing.Table number)
      (none_first (unless (same_rows x.rows (set.ascending (left x.name))) rule.Table (thing.Table number))
      (tables_findings (suc number) left xs) none)))
  shown_left number (x ∷ xs) none shown (inr at) =
      shown_left (suc number) xs
      (none_second (unless (same_rows x.rows (set.ascending (left x.name))) rule.Table (thing.Table number))
      (tables_findings (suc number) left xs) none) shown at

  pub none_shown : (number : ℕ) (tables : List Shown)
      → ((shown : Shown) → In shown tables → shown.rows ≡ set.ascending (left shown.name))
      → tables_findings number left tables ≡ []
  none_shown number [] each = refl
  none_shown number (x ∷ xs) each =
      both_none (unless (same_rows x.rows (set.ascending (left x.name))) rule.Table (thing.Table number))
      (tables_findings (suc number) left xs)
      (holds_unless (same_rows x.rows (set.ascending (left x.name))) rule.Table (thing.Table number)
      (ap (same_rows x.rows) (sym (each x (inl refl))) ∙ list_itself x.rows))
      (none_shown (suc number) xs (λ y at. each y (inr at)))

  -- a table that is shown as it is left is that table of the book
  pub shown_is : (tables : List Shown) (name : Name)
      → ((shown : Shown) → In shown tables → shown.rows ≡ set.ascending (left shown.name))
      → is_shown tables name ≡ true → left name ≡ shown_database tables name
  shown_is [] name each is = cc (is)
  shown_is (x ∷ xs) name each is =
      by (same_name x.name name) refl is (shown_is xs name (λ y at. each y (inr at)))
    where
      by : (b : Bool) → same_name x.name name ≡ b → (b || is_shown xs name) ≡ true
          → (is_shown xs name ≡ true → left name ≡ shown_database xs name)
          → left name ≡ cond b (set.from_list {R = row_cmp} x.rows) (shown_database xs name)
      by true e is more =
          ap left (sym (equal_names x.name name e))
          ∙ sym (from_list-ascending rows_total exact_rows (left x.name))
          ∙ ap (set.from_list {R = row_cmp}) (sym (each x (inl refl)))
      by false e is more = more is

pub not_shown : (tables : List Shown) (name : Name) → is_shown tables name ≡ false
    → shown_database tables name ≡ set.empty
not_shown [] name is = refl
not_shown (x ∷ xs) name is = by (same_name x.name name) is (not_shown xs name)
  where
    by : (b : Bool) → (b || is_shown xs name) ≡ false → (is_shown xs name ≡ false → shown_database xs name ≡ set.empty)
        → cond b (set.from_list {R = row_cmp} x.rows) (shown_database xs name) ≡ set.empty
    by true is more = cc (is)
    by false is more = more is

-- a table that is shown once is shown so in the book
pub shown_own : (tables : List Shown) → Pairs (λ (first second : Shown). first.name ≡ second.name → ⊥) tables
    → (shown : Shown) → In shown tables → shown_database tables shown.name ≡ set.from_list {R = row_cmp} shown.rows
shown_own [] once shown at = absurd at
shown_own (x ∷ xs) once shown (inl same) =
    ap (λ b. cond b (set.from_list {R = row_cmp} x.rows) (shown_database xs shown.name))
    (ap (λ (y : Shown). same_name x.name y.name) same ∙ name_itself x.name)
    ∙ ap (λ (y : Shown). set.from_list {R = row_cmp} y.rows) (sym same)
shown_own (x ∷ xs) once shown (inr at) =
    by (same_name x.name shown.name) refl (shown_own xs once.1 shown at)
  where
    by : (b : Bool) → same_name x.name shown.name ≡ b
        → shown_database xs shown.name ≡ set.from_list {R = row_cmp} shown.rows
        → cond b (set.from_list {R = row_cmp} x.rows) (shown_database xs shown.name)
        ≡ set.from_list {R = row_cmp} shown.rows
    by true e more =
        absurd (of_all (λ (other : Shown). x.name ≡ other.name → ⊥) xs shown once.0 at
        (equal_names x.name shown.name e))
    by false e more = more

-- ---- tables that stay

abbrev pub Keeps : Type 0
Keeps =
    (declared : List Create) (statement : Statement) (valuation : Valuation) (environment : Environment)
    (database : Database)
    → KeepsOthers statement database (statement_meaning declared statement valuation database environment)

module _ (keeps : Keeps) (declared : List Create) (name : Name) where
  kept_effect : (st : Statement) (d : Database) (m : Result (Effect Database) Failure) → KeepsOthers st d m
      → changes st name ≡ false → (effect : Effect Database) → m ≡ Ok effect → effect.database name ≡ d name
  kept_effect st d m kept none effect is = subst (KeepsOthers st d) is kept name none

  kept_run : (operations : List Operation) (d : Database) (v : Environment) (r : Run)
      → run declared operations d v ≡ Some r
      → ((operation : Operation) → In operation operations → changes operation.statement name ≡ false)
      → r.database name ≡ d name
  kept_run [] d v r runs none = ap (λ (x : Run). x.database name) (sym (one runs))
    where
      one : Some (record { database = d; environment = v; answers = [] }) ≡ Some r
          → record { database = d; environment = v; answers = [] } ≡ r
      one e = cc
  kept_run (operation ∷ more) d v r runs none =
      let on = goes_on (statement_meaning declared operation.statement operation.valuation d v) (run declared more) r
      runs in
      ap (λ (x : Run). x.database name) on.whole
      ∙ kept_run more on.effect.database on.effect.environment on.rest on.rests (λ x at. none x (inr at))
      ∙ kept_effect operation.statement d (statement_meaning declared operation.statement operation.valuation d v)
      (keeps declared operation.statement operation.valuation v d) (none operation (inl refl)) on.effect on.is

  told_statement : (members : List Placed) (tx place : ℕ) (sts : List Statement) (operation : Operation)
      → In operation (told_operations members tx place sts) → In operation.statement sts
  told_statement members tx place [] operation at = absurd at
  told_statement members tx place (st ∷ sts) operation (inl same) = inl (ap (λ (x : Operation). x.statement) same)
  told_statement members tx place (st ∷ sts) operation (inr at) =
      inr (told_statement members tx (suc place) sts operation at)

  -- a table that no statement changes is left as it was
  pub kept_end : (members : List Placed) (xs : List Account) (d left : Database)
      → told_end declared members xs d ≡ Some left
      → ((a : Account) → In a xs → (st : Statement) → In st a.script.statements → changes st name ≡ false)
      → left name ≡ d name
  kept_end members [] d left ends none = ap (λ (x : Database). x name) (sym (one d left ends))
    where
      one : (d left : Database) → Some d ≡ Some left → d ≡ left
      one d left e = cc
  kept_end members (a ∷ xs) d left ends none =
      let first = then_some (λ (r : Run). told_end declared members xs r.database)
      (account_run declared members a d) left ends in
      kept_end members xs first.0.database left first.2 (λ b bt. none b (inr bt))
      ∙ kept_run (told_operations members a.tx 1 a.script.statements) d nothing_bound first.0 first.1 (λ operation at.
      none a (inl refl) operation.statement (told_statement members a.tx 1 a.script.statements operation at))
