-- The forms that `resolve` gives are faithful.
use Rattle.std.proofs.Common.{◌≡◌, true, List, [], ◌∷◌, ◌++◌, length, map, Ok, None, sym, ap, subst, ◌∙◌}
use Rattle.std.proofs.lemmas.List.{append-nil, append_assoc}
use Rattle.std.proofs.lemmas.Result.{IfOk-at_ok}
use Rattle.std.proofs.lemmas.Simd.{map-map}
use Rattle.ent_tree.specs.declared.declaration.Create.{Create}
use Rattle.ent_tree.specs.declared.declaration.Opening.{Opening}
use Rattle.ent_tree.specs.declared.entangled.Entangled.{Entangled as TreeEntangled}
use Rattle.ent_tree.specs.declared.script.Statement.{Statement as TreeStatement}
use Rattle.ent_semantics.specs.Closing.{closed}
use Rattle.ent_semantics.specs.Form.{Tables, known_worth, form_meaning, form_heads, form_posts, is_form_grounding}
use Rattle.ent_semantics.specs.declared.entangled.Entangled.{Entangled}
use Rattle.ent_semantics.specs.declared.operand.Known.{Known}
use Rattle.ent_semantics.specs.declared.statement.Statement.{Statement}
use Rattle.ent_semantics.specs.Database.{Environment, opening_database}
use Rattle.ent_semantics.specs.Entangled.{Valuation, written_variables, is_grounding, heads, posts}
use Rattle.ent_semantics.specs.Statement.{statement_meaning}
use Rattle.ent_semantics.specs.Uses.{shared_tables, exclusive_tables}
use Rattle.ent_form.specs.declared.catalogue.TableSchema.{TableSchema}
use Rattle.ent_form.specs.declared.script.Plain.{Plain}
use Rattle.ent_form.specs.Catalogue.{schemas_of}
use Rattle.ent_form.specs.Entangled.{entangled_in}
use Rattle.ent_form.specs.Form.{statement_in, statements_from, script_in}
use Rattle.ent_form.specs.Kinds.{Bound, none_bound}
use Rattle.ent_form.specs.OpeningFault.{declarations_fault, opening_fault}
use Rattle.ent_form.proofs.Heads.{found_of}
use Rattle.ent_form.specs.TableKinds.{AreKinded}
use Rattle.ent_form.specs.Opened.{opening_tables}
use Rattle.ent_form.specs.Tables.{database_of, AreWide, HaveDistinctColumns, effect_of, Answers}
use Rattle.ent_form.proofs.Opened.{declared_once}
use Rattle.ent_form.proofs.ResolvedSteps.{one_answer}
use Rattle.ent_protocol.specs.Reached.{table_names}
use Rattle.ent_protocol.specs.Uses.{shared, exclusive, statement_uses}
use Rattle.ent_protocol_laws.specs.Faithful.{table_number, is_used, is_owned}
use Rattle.ent_protocol_laws.specs.Faithful.{IsFaithfulEntangled, IsFaithful, InTurn}
use Rattle.ent_protocol_laws.specs.Faithful.{AreFaithful}
use Rattle.ent_headline.specs.Resolved.{resolved_forms}
use Rattle.ent_headline.proofs.FormLaws.{FormLaws}
use Rattle.ent_headline.proofs.Named.{IsRight, statement_right}
use Rattle.ent_headline.proofs.Used.{UsesOf, uses_are, used_there, owned_there, all_declared}
use Rattle.ent_headline.proofs.Widths.{widths_kept}

-- what lower crates say of forms, declarations and openings
pub record Laws : Type 0 where
  pub forms : FormLaws
  pub offers : (tables : List TableSchema) (bound after : Bound) (entangled : TreeEntangled)
      → (form : Entangled Known) (environment : Environment) (valuation : Valuation)
      → entangled_in tables bound entangled ≡ Ok (form, after)
      → length valuation ≡ length (written_variables entangled)
      → heads environment entangled valuation ≡ form_heads (known_worth environment) form valuation
  pub demands : (tables : List TableSchema) (bound after : Bound) (entangled : TreeEntangled)
      → (form : Entangled Known) (environment : Environment) (valuation : Valuation)
      → entangled_in tables bound entangled ≡ Ok (form, after)
      → length valuation ≡ length (written_variables entangled)
      → posts environment entangled valuation ≡ form_posts (known_worth environment) form valuation
  pub columns : (creates : List Create) → declarations_fault [] creates ≡ None → HaveDistinctColumns creates
  pub kinds : (opening : Opening) → opening_fault opening ≡ None
      → AreKinded (schemas_of opening.tables) (opening_tables opening)
  pub database : (opening : Opening) → opening_fault opening ≡ None
      → database_of opening.tables (opening_tables opening) ≡ opening_database opening

module _ (laws : Laws) (creates : List Create) (apart : HaveDistinctColumns creates) (bound : Bound) where
  -- ---- entangled statements

  faithful_entangled : (entangled : TreeEntangled) (form : Entangled Known) (after : Bound)
      → entangled_in (schemas_of creates) bound entangled ≡ Ok (form, after)
      → IsFaithfulEntangled creates entangled form
  faithful_entangled entangled form after e =
      record {
        variables = laws.forms.variables (schemas_of creates) bound after entangled form e;
        grounds = λ tables environment valuation wide.
            laws.forms.grounds creates tables environment bound after entangled form valuation wide e;
        offers = λ environment valuation long.
            laws.offers (schemas_of creates) bound after entangled form environment valuation e long;
        demands = λ environment valuation long.
            laws.demands (schemas_of creates) bound after entangled form environment valuation e long;
      }

  -- ---- statements

  right : (statement : TreeStatement) (form : Statement Known) (after : Bound)
      → statement_in (schemas_of creates) bound statement ≡ Ok (form, after) → IsRight creates statement form
  right statement form after e = statement_right creates bound faithful_entangled statement form after e

  -- the uses of the closed form, by the names that the statement uses
  uses_named : (statement : TreeStatement) (form : Statement Known) → IsRight creates statement form
      → (environment : Environment)
      → UsesOf creates (shared_tables statement) (exclusive_tables statement)
      ≡ statement_uses (closed environment form)
  uses_named statement form right environment =
      (λ i. map shared (sym right.reads.numbers i) ++ map exclusive (sym right.changes.numbers i))
      ∙ sym (uses_are environment form)

  faithful_statement : (statement : TreeStatement) (form : Statement Known) (after : Bound)
      → statement_in (schemas_of creates) bound statement ≡ Ok (form, after) → IsFaithful creates statement form
  faithful_statement statement form after e =
      let right : IsRight creates statement form = right statement form after e in
      let reads = shared_tables statement in
      let changes = exclusive_tables statement in
      record {
        means = λ tables environment valuation wide answers.
            laws.forms.means creates tables environment valuation bound after statement form wide apart e answers;
        keeps_width = λ tables environment valuation effect wide is.
            IfOk-at_ok (λ effect. AreWide creates effect.database) is
            (widths_kept creates tables environment wide form valuation right.fits);
        reads = λ environment name there.
            subst (λ all. is_used all (table_number creates name) ≡ true) (uses_named statement form right environment)
            (used_there creates reads changes name there);
        writes = λ environment name there.
            subst (λ all. is_owned all (table_number creates name) ≡ true)
            (uses_named statement form right environment)
            (owned_there creates reads changes name there);
        declared = λ environment table there.
            all_declared creates reads changes right.reads.declared right.changes.declared table
            (subst (λ all. is_used all table ≡ true) (sym (uses_named statement form right environment)) there);
        alike = right.alike;
      }

-- ---- scripts

module _ (laws : Laws) (creates : List Create) (apart : HaveDistinctColumns creates) where
  -- the forms that are made behind those before
  record Made (statements : List TreeStatement) (made out : List (Statement Known)) : Type 0 where
    pub rest : List (Statement Known)
    pub behind : out ≡ made ++ rest
    pub each : InTurn (IsFaithful creates) statements rest

  statements_made : (statements : List TreeStatement) (bound : Bound) (made out : List (Statement Known))
      → statements_from (schemas_of creates) bound made statements ≡ Ok out → Made statements made out
  statements_made [] bound made out e =
      record { rest = []; behind = sym (one_answer made out e) ∙ sym (append-nil made); each = tt }
  statements_made (statement ∷ more) bound made out e =
      let w = found_of (statement_in (schemas_of creates) bound statement) _ out e in
      let later = statements_made more w.0.1 (made ++ w.0.0 ∷ []) out w.2 in
      record {
        rest = w.0.0 ∷ later.rest;
        behind = later.behind ∙ append_assoc made (w.0.0 ∷ []) later.rest;
        each = (faithful_statement laws creates apart bound statement w.0.0 w.0.1 w.1, later.each);
      }

-- ---- an opening without a fault

pub resolved_faithful : (laws : Laws) (opening : Opening) → opening_fault opening ≡ None
    → AreFaithful resolved_forms opening
resolved_faithful laws opening e =
    let creates = opening.tables in
    let apart : HaveDistinctColumns opening.tables =
    laws.columns creates (declared_once opening e) in
    let same : opening_tables opening ≡ map (opening_database opening) (table_names opening) =
    sym (map-map (opening_database opening) (λ (create : Create). create.name.name) creates) in
    record {
      wide = subst (AreWide creates) same (laws.forms.wide creates (opening_tables opening) (laws.kinds opening e));
      opens = ap (database_of creates) (sym same) ∙ laws.database opening e;
      each = λ script form is.
          let plain = found_of (script_in (schemas_of creates) script) _ form is in
          let out = found_of (statements_from (schemas_of creates) none_bound [] script.statements) _ plain.0
          plain.1 in
          let made = statements_made laws creates apart script.statements none_bound [] out.0 out.1 in
          subst (InTurn (IsFaithful creates) script.statements)
          (sym made.behind ∙ ap (λ (p : Plain). p.statements) (one_answer _ plain.0 out.2)
          ∙ one_answer plain.0.statements form plain.2) made.each;
    }
