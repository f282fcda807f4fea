-- The next statement of a member fits the tables that are lent with it.
use Rattle.std.proofs.Common.{◌≡◌, ℕ, zero, suc, false, List, [], ◌∷◌, ◌++◌, map, Some, None, Result, Ok}
use Rattle.std.proofs.Common.{Option, refl, sym, ap, subst, ◌∙◌}
use Rattle.std.specs.Prelude.{slice_get, slice_index_or}
use Rattle.std.proofs.lemmas.List.{append-nil, append_assoc}
use Rattle.std.proofs.lemmas.Option.{same_Some}
use Rattle.ent_value.specs.Refusal.{◌>>=◌}
use Rattle.ent_value.specs.declared.value.Kind.{Kind}
use Rattle.ent_value.specs.declared.value.Value.{Value}
use Rattle.ent_tree.specs.declared.declaration.Column.{Column}
use Rattle.ent_tree.specs.declared.declaration.Create.{Create}
use Rattle.ent_tree.specs.declared.script.End.{End}
use Rattle.ent_tree.specs.declared.script.End.TheVariants.{Commit, Rollback}
use Rattle.ent_tree.specs.declared.script.Statement.{Statement as TreeStatement}
use Rattle.ent_tree.specs.declared.script.Statement.TheVariants as trees
use Rattle.ent_semantics.specs.Database.{Environment}
use Rattle.ent_semantics.specs.Serial.{is_entangled, numbered}
use Rattle.ent_semantics.specs.Closing.{closed}
use Rattle.ent_semantics.specs.declared.operand.Known.{Known}
use Rattle.ent_semantics.specs.declared.statement.Statement.{Statement}
use Rattle.ent_semantics.specs.declared.statement.Statement.TheVariants as statements
use Rattle.ent_semantics.specs.Form.{Tables}
use Rattle.ent_semantics.specs.FormKinds.{Fits, tables_named}
use Rattle.ent_form.specs.Catalogue.{schemas_of}
use Rattle.ent_form.specs.Entangled.{entangled_in}
use Rattle.ent_form.specs.Form.{statements_from, statement_in}
use Rattle.ent_form.specs.Kinds.{Bound, none_bound}
use Rattle.ent_form.specs.declared.catalogue.TableSchema.{TableSchema}
use Rattle.ent_form.specs.declared.fault.FormFault.{FormFault}
use Rattle.ent_form.proofs.Heads.{found_of}
use Rattle.ent_form.specs.TableKinds.{column_kinds, kinds_numbered}
use Rattle.ent_form.proofs.ResolvedSteps.{one_answer}
use Rattle.ent_form.proofs.NamesApart.{schema_kinds}
use Rattle.ent_protocol.specs.Job.{Numbered}
use Rattle.ent_protocol.specs.Member.{Ordinary, next_in, next_of, statement_next, end_next, environment_of}
use Rattle.ent_protocol.specs.Member.{declared_kinds, seen_now}
use Rattle.ent_protocol.specs.Reached.{IsReached}
use Rattle.ent_protocol.specs.State.{State, Submitted, Member}
use Rattle.ent_protocol.specs.Uses.{shared, statement_uses}
use Rattle.ent_headline.specs.Resolved.{resolved_forms}
use Rattle.ent_headline.specs.Kinds.{bound_behind, HasKindsThere}
use Rattle.ent_headline.proofs.Lists.{numbered_in}
use Rattle.ent_headline.proofs.Places.{statements_given}
use Rattle.ent_headline.proofs.Replayed.{FitsLaw}

-- ---- the statement of a form at a place

-- each form is that of a statement that is resolved with what those before it bind
record Rest (schemas : List TableSchema) (all : List TreeStatement) (bound : Bound)
    (made out : List (Statement Known)) : Type 0 where
  rest : List (Statement Known)
  behind : out ≡ made ++ rest
  at : (n : ℕ) (left : Bound) (form : Statement Known) → bound_behind schemas bound all n ≡ Ok left
      → slice_get rest n ≡ Some form
      → (tree : TreeStatement) × (after : Bound) × (statement_in schemas left tree ≡ Ok (form, after))

rest_of : (schemas : List TableSchema) (all : List TreeStatement) (bound : Bound) (made out : List (Statement Known))
    → statements_from schemas bound made all ≡ Ok out → Rest schemas all bound made out
rest_of schemas [] bound made out e =
    record {
      rest = [];
      behind = sym (one_answer {E = FormFault} made out e) ∙ sym (append-nil made);
      at = λ n left form known there. cc;
    }
rest_of schemas (statement ∷ all) bound made out e =
    let w = found_of (statement_in schemas bound statement) _ out e in
    let later = rest_of schemas all w.0.1 (made ++ w.0.0 ∷ []) out w.2 in
    record {
      rest = w.0.0 ∷ later.rest;
      behind = later.behind ∙ append_assoc made (w.0.0 ∷ []) later.rest;
      at = by w.0 w.1 later.rest later.at;
    }
  where
    by : (w : Statement Known × Bound) → statement_in schemas bound statement ≡ Ok w
        → (rest : List (Statement Known))
        → ((n : ℕ) (left : Bound) (form : Statement Known) → bound_behind schemas w.1 all n ≡ Ok left
        → slice_get rest n ≡ Some form
        → (tree : TreeStatement) × (after : Bound) × (statement_in schemas left tree ≡ Ok (form, after)))
        → (n : ℕ) (left : Bound) (form : Statement Known)
        → bound_behind schemas bound (statement ∷ all) n ≡ Ok left → slice_get (w.0 ∷ rest) n ≡ Some form
        → (tree : TreeStatement) × (after : Bound) × (statement_in schemas left tree ≡ Ok (form, after))
    by w is rest later zero left form known there = (
      statement,
      w.1,
      subst (λ (b : Bound). statement_in schemas b statement ≡ Ok (form, w.1))
          (one_answer {E = FormFault} bound left known)
          (subst (λ (f : Statement Known). statement_in schemas bound statement ≡ Ok (f, w.1))
          (same_Some w.0 form there) is),
    )
    by w is rest later (suc n) left form known there =
        later n left form
        (sym (ap (λ (form : Result (Statement Known × Bound) FormFault).
        form >>= λ (form : Statement Known × Bound). bound_behind schemas form.1 all n) is) ∙ known) there

-- ---- ordinary statements

one_ordinary : (x y : Statement Value) → Ordinary x ≡ Ordinary y → x ≡ y
one_ordinary x y e = cc

closed_next : (environment : Environment) (form : Statement Known) (statement : Statement Value)
    → statement_next (closed environment form) ≡ Ordinary statement → statement ≡ closed environment form
closed_next environment (statements.Entangled entangled) statement e = cc
closed_next environment (statements.Select select) statement e = sym (one_ordinary _ statement e)
closed_next environment (statements.Insert table values) statement e = sym (one_ordinary _ statement e)
closed_next environment (statements.Delete table tests) statement e = sym (one_ordinary _ statement e)
closed_next environment (statements.Update table image tests) statement e = sym (one_ordinary _ statement e)
closed_next environment (statements.Set variable expression) statement e = sym (one_ordinary _ statement e)

not_ordinary : {A : Type 0} (environment : Environment) (found : _) (form : Statement Known)
    (statement : Statement Value) → statements.Entangled found ≡ form
    → statement_next (closed environment form) ≡ Ordinary statement → A
not_ordinary environment found form statement same e =
    let wrong : statement_next (closed environment (statements.Entangled found)) ≡ Ordinary statement =
    ap (λ (f : Statement Known). statement_next (closed environment f)) same ∙ e in
    cc

ordinary_tree : (schemas : List TableSchema) (bound after : Bound) (tree : TreeStatement) (form : Statement Known)
    (environment : Environment) (statement : Statement Value)
    → statement_in schemas bound tree ≡ Ok (form, after)
    → statement_next (closed environment form) ≡ Ordinary statement → is_entangled tree ≡ false
unfolding statement_in
ordinary_tree schemas bound after (trees.Entangled tree) form environment statement e next =
    let found = found_of (entangled_in schemas bound tree) _ (form, after) e in
    not_ordinary environment found.0.0 form statement
    (ap (λ (f : Statement Known × Bound). f.0)
    (one_answer {E = FormFault} (statements.Entangled found.0.0, found.0.1) (form, after) found.2)) next
ordinary_tree schemas bound after (trees.Select select) form environment statement e next = refl
ordinary_tree schemas bound after (trees.Insert insert) form environment statement e next = refl
ordinary_tree schemas bound after (trees.Delete delete) form environment statement e next = refl
ordinary_tree schemas bound after (trees.Update update) form environment statement e next = refl
ordinary_tree schemas bound after (trees.Set setting) form environment statement e next = refl

-- ---- what comes next

end_ordinary : (end : End) (statement : Statement Value) → end_next end ≡ Ordinary statement → ⊥
end_ordinary Commit statement e = cc
end_ordinary Rollback statement e = cc

-- the form of a member's next statement
next_form : (own : Submitted) (m : Member) (statement : Statement Value)
    → next_in (Some own) m ≡ Ordinary statement
    → (form : Statement Known) × (numbered own.form m.place ≡ Some form)
    × (statement_next (closed (environment_of m) form) ≡ Ordinary statement)
next_form own m statement e = by (numbered own.form m.place) refl
  where
    by : (found : Option (Statement Known)) → numbered own.form m.place ≡ found
        → (form : Statement Known) × (numbered own.form m.place ≡ Some form)
        × (statement_next (closed (environment_of m) form) ≡ Ordinary statement)
    by None none = absurd (end_ordinary own.script.end statement (rw none at e))
    by (Some form) is =
        let next : statement_next (closed (environment_of m) form) ≡ Ordinary statement = rw is at e in
        (form, is, next)

pub next_fits : FitsLaw → (s : State) → IsReached resolved_forms s → (member : Member)
    → HasKindsThere s member → (statement : Statement Value) → next_of s member ≡ Ordinary statement
    → Fits (map (kinds_numbered (schemas_of s.opening.tables)) (tables_named statement)) statement
next_fits law s reached member there statement next =
    let schemas = schemas_of s.opening.tables in
    let own = there.own in
    let in_own : next_in (Some own) member ≡ Ordinary statement =
    ap (λ (found : Option Submitted). next_in found member) (sym there.submitted) ∙ next in
    let form = next_form own member statement in_own in
    let given = statements_given s reached own (numbered_in s.submitted member.tx own there.submitted) in
    let rest = rest_of schemas own.script.statements none_bound [] own.form given in
    let at : slice_get rest.rest there.passed ≡ Some form.0 =
    ap (λ (all : List (Statement Known)). slice_get all there.passed) (sym rest.behind)
    ∙ ap (numbered own.form) (sym there.place) ∙ form.1 in
    let tree = rest.at there.passed there.bound form.0 there.known at in
    let ordinary = ordinary_tree schemas there.bound tree.1 tree.0 form.0 (environment_of member) statement tree.2
    form.2 in
    subst (λ (c : Statement Value). Fits (map (kinds_numbered schemas) (tables_named c)) c)
    (sym (closed_next (environment_of member) form.0 statement form.2))
    (law schemas there.bound tree.1 tree.0 form.0 (environment_of member) tree.2 ordinary there.kinds)

-- ---- the tables of its job

tables_kinds : (creates : List Create) → map column_kinds (schemas_of creates)
    ≡ map (λ (create : Create). map (λ (column : Column). column.kind) create.columns) creates
tables_kinds [] = refl
tables_kinds (create ∷ creates) =
    λ i. schema_kinds create.columns i ∷ tables_kinds creates i

same_kinds : (creates : List Create) (table : ℕ)
    → kinds_numbered (schemas_of creates) table ≡ declared_kinds creates table
same_kinds creates table = ap (λ (all : List (List Kind)). slice_index_or all table []) (tables_kinds creates)

sources_kinds : (creates : List Create) (tables : Tables) (sources : List ℕ)
    → map (kinds_numbered (schemas_of creates)) sources
    ≡ map (λ (seen : Numbered). seen.kinds) (seen_now creates tables (map shared sources))
sources_kinds creates tables [] = refl
sources_kinds creates tables (source ∷ sources) =
    λ i. same_kinds creates source i ∷ sources_kinds creates tables sources i

pub job_fits : (creates : List Create) (tables : Tables) (statement : Statement Value)
    → Fits (map (kinds_numbered (schemas_of creates)) (tables_named statement)) statement
    → Fits (map (λ (seen : Numbered). seen.kinds) (seen_now creates tables (statement_uses statement))) statement
job_fits creates tables (statements.Entangled entangled) fits = absurd fits
job_fits creates tables (statements.Select select) fits =
    subst (λ (kinds : List (List Kind)). Fits kinds (statements.Select select))
    (sources_kinds creates tables select.sources) fits
job_fits creates tables (statements.Insert table values) fits =
    subst (λ (kinds : List Kind). Fits (kinds ∷ []) (statements.Insert table values)) (same_kinds creates table) fits
job_fits creates tables (statements.Delete table tests) fits =
    subst (λ (kinds : List Kind). Fits (kinds ∷ []) (statements.Delete table tests)) (same_kinds creates table) fits
job_fits creates tables (statements.Update table image tests) fits =
    subst (λ (kinds : List Kind). Fits (kinds ∷ []) (statements.Update table image tests)) (same_kinds creates table)
    fits
job_fits creates tables (statements.Set variable expression) fits = fits
