-- Changes of one table, from what the table answers, and what they mean in a database.
use Rattle.std.proofs.Common.{◌≡◌, ℕ, Bool, true, false, cond, List, [], ◌∷◌, Option, Some, None, Result}
use Rattle.std.proofs.Common.{Ok, Err, refl, ap, ◌∙◌, sym, subst}
use Rattle.std.specs.Prelude.{IsOk, IfOk, nat_le, is_some, slice_index_or, slice_set, ◌&&◌}
use Rattle.std.specs.List.{list_all, filter_map, cons_option}
use Rattle.std.specs.Result.{is_ok}
use Rattle.ent_lists.specs.Sets as set
use Rattle.ent_value.specs.declared.limits.TheConstants.{MOST_ROWS}
use Rattle.ent_value.specs.declared.value.Value.{Value}
use Rattle.ent_value.specs.Refusal.{◌>>=◌, Gives, Refuses}
use Rattle.ent_value.specs.declared.refusal.Refusal.{Refusal}
use Rattle.ent_rel.specs.Relation.{Relation, RowSet, full, bounded}
use Rattle.ent_rel.specs.Change.{changed_rows, deletion, replacement, images_of}
use Rattle.ent_tree.specs.declared.operand.Expression.{Expression}
use Rattle.ent_tree.specs.declared.operand.Test.{Test}
use Rattle.ent_semantics.specs.Change.{matched, unmatched}
use Rattle.ent_semantics.specs.Database.{Environment}
use Rattle.ent_semantics.specs.Effect.{Effect, or_overflow}
use Rattle.ent_semantics.specs.Entangled.{Valuation}
use Rattle.ent_semantics.specs.Selection.{meets}
use Rattle.ent_semantics.specs.declared.answer.Answer.TheVariants as answers
use Rattle.ent_semantics.specs.declared.answer.Failure.{Failure}
use Rattle.ent_semantics.specs.declared.answer.Failure.TheVariants.{Overflow, TableFull}
use Rattle.ent_semantics.specs.Form.{Tables, closed_worth, form_meaning}
use Rattle.ent_semantics.specs.FormKinds.{tables_named}
use Rattle.ent_semantics.specs.declared.operand.Operand.{Operand}
use Rattle.ent_semantics.specs.declared.statement.Statement.{Statement}
use Rattle.ent_semantics.specs.declared.statement.Statement.TheVariants as statements
use Rattle.ent_ordinary.specs.Tables.{rows_in}
use Rattle.ent_ordinary.specs.Worth.{worth_over}
use Rattle.ent_ordinary.specs.Change.{or_full, image_or_overflow, replacement_of, Changes, IsFault}
use Rattle.ent_ordinary.specs.Meant.{rows_under, changed_number, effect_of, IsMeant, CanBeApplied}
use Rattle.ent_ordinary.specs.ExpressionWorth.{image_of, there_or_overflow}
use Rattle.ent_ordinary.specs.declared.outcome.Outcome.{Outcome}
use Rattle.ent_ordinary.specs.declared.outcome.Outcome.TheVariants as outcomes

-- rows that are not too many
within : {X Y : Type 0} (rows : RowSet) (x : X) (y : Y) → IsOk (bounded rows x) → or_full (bounded rows y) ≡ Ok y
within {X} {Y} rows x y fits = on (nat_le (set.len rows) MOST_ROWS) fits
  where
    on : (b : Bool) → is_ok (cond b (Ok x) (Err full)) ≡ true → or_full (cond b (Ok y) (Err full)) ≡ Ok y
    on true p = refl
    on false p = absurd cc

-- a replacement that the table answered
pub replaced : (meant : Result (ℕ × RowSet) Failure) (made : ℕ × RowSet) → meant ≡ Ok made
    → IsOk (bounded made.1 made.1) → (meant >>= λ change. or_full (bounded change.1 change)) ≡ Ok made
replaced meant made is fits =
    ap (λ m. m >>= λ change. or_full (bounded change.1 change)) is ∙ within made.1 made.1 made fits

-- what a refused replacement comes to
pub refused_so : {X : Type 0} (view : X → ℕ × RowSet) (answer : Result X (Refusal Failure))
    (meant : Result (ℕ × RowSet) Failure) (refusal : Refusal Failure) (table : Relation) (outcome : Outcome)
    → Gives view answer meant → answer ≡ Err refusal → IsFault refusal outcome
    → Changes table (meant >>= λ change. or_full (bounded change.1 change)) outcome
refused_so view answer meant refusal table (outcomes.Fault failure) gives is so =
    let fails : meant ≡ Err failure = subst (λ r. Refuses r meant) so (subst (λ a. Gives view a meant) is gives) in
    ap (λ r. r >>= λ change. or_full (bounded change.1 change)) fails
refused_so view answer meant refusal table (outcomes.Changed count delta) gives is so = absurd so
refused_so view answer meant refusal table (outcomes.Rows rows) gives is so = absurd so
refused_so view answer meant refusal table (outcomes.Value value) gives is so = absurd so

-- the images of rows, where a row without one overflows
in_cond : {A B : Type 0} (f : A → B) (x : A) (b : Bool)
    → (◌>>=◌ {A = A} {B = B} {F = Failure} (cond b (Ok x) (Err Overflow)) (λ y. Ok (f y)))
    ≡ cond b (Ok (f x)) (Err Overflow)
in_cond f x true = refl
in_cond f x false = refl

images_overflow : (image : List Value → Option (List Value)) (rows : List (List Value))
    → images_of (image_or_overflow image) rows
    ≡ cond (list_all (λ row. is_some (image row)) rows) (Ok (filter_map image rows)) (Err Overflow)
images_overflow image [] = refl
images_overflow image (row ∷ rows) =
    elim (image row) as (λ r. (there_or_overflow r >>= λ new. images_of (image_or_overflow image) rows
    >>= λ others. Ok (new ∷ others)) ≡ cond (is_some r && list_all (λ row. is_some (image row)) rows)
    (Ok (cons_option r (filter_map image rows))) (Err Overflow)) [
      | None ↦ refl
      | Some new ↦ ap (λ r. r >>= λ others. Ok (new ∷ others)) (images_overflow image rows)
          ∙ in_cond (λ others. new ∷ others) (filter_map image rows) (list_all (λ row. is_some (image row)) rows)
    ]

-- a table gets other rows
abbrev with_change : Tables → Environment → ℕ → Result (ℕ × RowSet) Failure → Result (Effect Tables) Failure
with_change tables environment number (Ok change) =
    Ok (record {
      database = slice_set tables number change.1;
      environment = environment;
      answer = answers.Count change.0;
    })
with_change tables environment number (Err failure) = Err failure

-- an outcome that is a change of the table of a number
changed_so : (statement : Statement Value) (tables : Tables) (environment : Environment) (table : Relation)
    (meant : Result (ℕ × RowSet) Failure) (outcome : Outcome)
    → slice_index_or tables (changed_number statement) set.empty ≡ table.rows → Changes table meant outcome
    → with_change tables environment (changed_number statement) meant ≡ effect_of statement outcome tables environment
changed_so statement tables environment table meant (outcomes.Changed count delta) here changes =
    ap (with_change tables environment (changed_number statement)) changes.0
    ∙ ap (λ rows. Ok (record {
      database = slice_set tables (changed_number statement)
          (changed_rows rows delta.removed delta.added);
      environment = environment;
      answer = answers.Count count;
    }))
    (sym here)
changed_so statement tables environment table meant (outcomes.Fault failure) here changes =
    ap (with_change tables environment (changed_number statement)) changes
changed_so statement tables environment table meant (outcomes.Rows rows) here changes = absurd changes
changed_so statement tables environment table meant (outcomes.Value value) here changes = absurd changes

module _ (tables : Tables) (environment : Environment) (valuation : Valuation) (number : ℕ) (table : Relation)
    (here : slice_index_or tables number set.empty ≡ table.rows) where
  on_limit : (after : RowSet) (count : ℕ) (b : Bool)
      → cond b (Ok (record {
        database = slice_set tables number after;
        environment = environment;
        answer = answers.Count count;
      })) (Err TableFull)
      ≡ with_change tables environment number (or_full (cond b (Ok (count, after)) (Err full)))
  on_limit after count true = refl
  on_limit after count false = refl

  on_overflow : (after : RowSet) (count : ℕ) (b : Bool)
      → or_overflow (cond b (Some after) None) (λ rows database environment. cond (nat_le (set.len rows) MOST_ROWS)
      (Ok (record {
        database = slice_set database number rows;
        environment = environment;
        answer = answers.Count count;
      })) (Err TableFull)) tables environment
      ≡ with_change tables environment number (cond b (Ok (count, after)) (Err Overflow)
      >>= λ change. or_full (bounded change.1 change))
  on_overflow after count true = on_limit after count (nat_le (set.len after) MOST_ROWS)
  on_overflow after count false = refl

  pub delete_meaning : (tests : List (Test (Operand Value)))
      → form_meaning closed_worth (statements.Delete number tests) valuation tables environment
      ≡ with_change tables environment number (Ok (deletion table.rows (meets worth_over tests)))
  delete_meaning tests = rw here refl

  pub update_meaning : (image : List (Expression (Operand Value))) (tests : List (Test (Operand Value)))
      → form_meaning closed_worth (statements.Update number image tests) valuation tables environment
      ≡ with_change tables environment number (replacement_of table.rows (meets worth_over tests) (image_of image))
  update_meaning image tests =
      let passes : List Value → Bool = meets worth_over tests in
      let image_in : List Value → Option (List Value) = image_of image in
      let old = set.ascending (matched passes table.rows) in
      let kept = unmatched passes table.rows in
      let count = set.len (matched passes table.rows) in
      let after = set.insert_all kept (filter_map image_in old) in
      let made : replacement table.rows passes (image_or_overflow image_in)
      ≡ cond (list_all (λ row. is_some (image_in row)) old) (Ok (count, after)) (Err Overflow) =
      ap (λ r. ◌>>=◌ {B = ℕ × RowSet} r (λ images. Ok (count, set.insert_all kept images)))
      (images_overflow image_in old)
      ∙ in_cond {A = List (List Value)} {B = ℕ × RowSet} (λ images. (count, set.insert_all kept images))
      (filter_map image_in old) (list_all (λ row. is_some (image_in row)) old) in
      rw here (on_overflow after count (list_all (λ row. is_some (image_in row)) old)
      ∙ ap (λ r. with_change tables environment number (r >>= λ change. or_full (bounded change.1 change))) (sym made))

-- the one table of a list, and its rows under its number
first_is : {A : Type 0} (x y : A) (xs : List A) → x ∷ [] ≡ xs → xs ≡ y ∷ [] → x ≡ y
first_is x y xs e f = let h : x ∷ [] ≡ y ∷ [] = e ∙ f in cc

pub deleted_so : (statement : Statement Value) (tests : List (Test (Operand Value))) (number : ℕ)
    (relations : List Relation)
    (table : Relation) (outcome : Outcome)
    → statement ≡ statements.Delete number tests → relations ≡ table ∷ []
    → Changes table (Ok (deletion table.rows (meets worth_over tests))) outcome
    → IsMeant statement (rows_in relations) outcome
deleted_so statement tests number relations table outcome is one changes tables environment valuation named =
    let here : slice_index_or tables number set.empty
    ≡ table.rows = first_is _ _ _ (sym (ap (λ s. rows_under tables (tables_named s)) is) ∙ named) (ap rows_in one) in
    ap (λ s. form_meaning closed_worth s valuation tables environment) is
    ∙ delete_meaning tables environment valuation number table here tests
    ∙ changed_so (statements.Delete number tests) tables environment table _ outcome here changes
    ∙ ap (λ s. effect_of s outcome tables environment) (sym is)

pub updated_so : (statement : Statement Value) (image : List (Expression (Operand Value)))
    (tests : List (Test (Operand Value)))
    (number : ℕ) (relations : List Relation) (table : Relation) (outcome : Outcome)
    → statement ≡ statements.Update number image tests → relations ≡ table ∷ []
    → Changes table (replacement_of table.rows (meets worth_over tests) (image_of image)) outcome
    → IsMeant statement (rows_in relations) outcome
updated_so statement image tests number relations table outcome is one changes tables environment valuation named =
    let here : slice_index_or tables number set.empty
    ≡ table.rows = first_is _ _ _ (sym (ap (λ s. rows_under tables (tables_named s)) is) ∙ named) (ap rows_in one) in
    ap (λ s. form_meaning closed_worth s valuation tables environment) is
    ∙ update_meaning tables environment valuation number table here image tests
    ∙ changed_so (statements.Update number image tests) tables environment table _ outcome here changes
    ∙ ap (λ s. effect_of s outcome tables environment) (sym is)

pub applied_so : (relations : List Relation) (table : Relation) (meant : Result (ℕ × RowSet) Failure)
    (outcome : Outcome)
    → relations ≡ table ∷ [] → Changes table meant outcome → CanBeApplied relations outcome
applied_so relations table meant (outcomes.Changed count delta) one changes = (table, one, changes.1)
applied_so relations table meant (outcomes.Fault failure) one changes = tt
applied_so relations table meant (outcomes.Rows rows) one changes = tt
applied_so relations table meant (outcomes.Value value) one changes = tt

-- what follows for what is answered
pub if_ok : {X E : Type 0} {P Q : X → Type 0} → ((x : X) → P x → Q x) → (answer : Result X E) → IfOk answer P
    → IfOk answer Q
if_ok each (Ok x) p = each x p
if_ok each (Err e) p = tt
