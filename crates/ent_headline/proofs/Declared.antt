-- The tables that statements use are declared.
use Rattle.std.proofs.Common.{◌≡◌, ◌⊎◌, ◌<◌, ℕ, List, [], ◌∷◌, ◌++◌, length, map}
use Rattle.std.proofs.Common.{refl, sym, subst, inl, inr, All, Contains, Option, Some, None, Ok}
use Rattle.std.proofs.lemmas.List.{length-map}
use Rattle.std.specs.List.{AllByRecursion, flat_map}
use Rattle.ent_value.specs.declared.value.Value.{Value}
use Rattle.ent_tree.specs.declared.declaration.Create.{Create}
use Rattle.ent_tree.specs.declared.script.End.{End}
use Rattle.ent_tree.specs.declared.script.End.TheVariants.{Commit, Rollback}
use Rattle.ent_tree.specs.declared.script.Statement.{Statement as TreeStatement}
use Rattle.ent_semantics.specs.Database.{Environment}
use Rattle.ent_semantics.specs.Serial.{numbered}
use Rattle.ent_semantics.specs.Closing.{closed}
use Rattle.ent_semantics.specs.FormKinds.{tables_named, changed_tables}
use Rattle.ent_semantics.specs.declared.entangled.Membership.{Membership}
use Rattle.ent_semantics.specs.declared.operand.Known.{Known}
use Rattle.ent_semantics.specs.declared.statement.Statement.{Statement}
use Rattle.ent_semantics.specs.declared.statement.Statement.TheVariants as statements
use Rattle.ent_form.specs.Catalogue.{schemas_of}
use Rattle.ent_form.specs.Form.{statement_in, statements_from}
use Rattle.ent_form.specs.Kinds.{Bound, none_bound}
use Rattle.ent_form.specs.declared.catalogue.TableSchema.{TableSchema}
use Rattle.ent_form.specs.declared.fault.FormFault.{FormFault}
use Rattle.ent_form.proofs.Heads.{found_of}
use Rattle.ent_form.specs.TableKinds.{AreDeclared}
use Rattle.ent_form.proofs.ResolvedSteps.{one_answer}
use Rattle.ent_semantics.specs.Pool.{Posted}
use Rattle.ent_protocol.specs.Member.{Ordinary, posted_by, end_next, environment_of, next_in, next_of, pool}
use Rattle.ent_protocol.specs.Member.{statement_next}
use Rattle.ent_protocol.specs.PoolEvents.{IsPresentComponent, joint_uses}
use Rattle.ent_protocol.specs.Reached.{IsReached}
use Rattle.ent_protocol.specs.PostedBy.{in_pool, is_present}
use Rattle.ent_protocol.specs.State.{State, Submitted, Member, Use}
use Rattle.ent_protocol.specs.Uses.{entangled_uses, shared, statement_uses}
use Rattle.ent_protocol.specs.Waits.{next_uses}
use Rattle.ent_headline.specs.Resolved.{resolved_forms}
use Rattle.ent_lists.specs.Elements.{In, contains_in, in_either, in_flat, of_all, all_joined}
use Rattle.ent_lists.specs.Elements.{all_first, all_second}
use Rattle.ent_lists.proofs.Lists.{index_all}
use Rattle.ent_protocol_laws.proofs.Locks.{uses_from}
use Rattle.ent_headline.proofs.Lists.{numbered_in}
use Rattle.ent_headline.proofs.Places.{statements_given}

-- ---- statements

abbrev pub BelowIn : List Create → Use → Type 0
BelowIn creates own = own.table < length creates

abbrev Below : ℕ → Use → Type 0
Below n own = own.table < n

shared_below : (n : ℕ) (sources : List ℕ) → AllByRecursion (λ number. number < n) sources
    → AllByRecursion (Below n) (map shared sources)
shared_below n [] all = tt
shared_below n (source ∷ sources) all = (all.0, shared_below n sources all.1)

atoms_below : (n : ℕ) (atoms : List (Membership Value))
    → AllByRecursion (λ number. number < n) (flat_map (λ atom. atom.select.sources) atoms)
    → AllByRecursion (Below n)
    (flat_map (λ (membership : Membership Value). map shared membership.select.sources) atoms)
atoms_below n [] all = tt
atoms_below n (atom ∷ atoms) all =
    let rest = flat_map (λ (a : Membership Value). a.select.sources) atoms in
    all_joined (Below n) (map shared atom.select.sources) _
    (shared_below n atom.select.sources (all_first (λ (number : ℕ). number < n) atom.select.sources rest all))
    (atoms_below n atoms (all_second (λ (number : ℕ). number < n) atom.select.sources rest all))

uses_below : (n : ℕ) (statement : Statement Value)
    → AllByRecursion (λ number. number < n) (tables_named statement)
    → AllByRecursion (Below n) (statement_uses statement)
uses_below n (statements.Select select) all = shared_below n select.sources all
uses_below n (statements.Entangled entangled) all = atoms_below n entangled.atoms all
uses_below n (statements.Insert table values) all = all
uses_below n (statements.Delete table tests) all = all
uses_below n (statements.Update table image tests) all = all
uses_below n (statements.Set variable expression) all = tt

next_below : (n : ℕ) (statement : Statement Value) → AllByRecursion (Below n) (statement_uses statement)
    → AllByRecursion (Below n) (next_uses (statement_next statement))
next_below n (statements.Select select) all = all
next_below n (statements.Entangled entangled) all = all
next_below n (statements.Insert table values) all = all
next_below n (statements.Delete table tests) all = all
next_below n (statements.Update table image tests) all = all
next_below n (statements.Set variable expression) all = all

changed_below : (n : ℕ) (statement : Statement Value) → AllByRecursion (Below n) (statement_uses statement)
    → (table : ℕ) → In table (changed_tables statement) → table < n
changed_below n (statements.Select select) all table at = absurd at
changed_below n (statements.Entangled entangled) all table at = absurd at
changed_below n (statements.Insert own values) all table (inl same) = subst (λ k. k < n) (sym same) all.0
changed_below n (statements.Insert own values) all table (inr bad) = absurd bad
changed_below n (statements.Delete own tests) all table (inl same) = subst (λ k. k < n) (sym same) all.0
changed_below n (statements.Delete own tests) all table (inr bad) = absurd bad
changed_below n (statements.Update own image tests) all table (inl same) = subst (λ k. k < n) (sym same) all.0
changed_below n (statements.Update own image tests) all table (inr bad) = absurd bad
changed_below n (statements.Set variable expression) all table at = absurd at

-- ---- forms

-- a form that is made is one of a statement
record IsMade (schemas : List TableSchema) (form : Statement Known) : Type 0 where
  bound : Bound
  tree : TreeStatement
  after : Bound
  resolved : statement_in schemas bound tree ≡ Ok (form, after)

each_made : (schemas : List TableSchema) (all : List TreeStatement) (bound : Bound)
    (made out : List (Statement Known)) → statements_from schemas bound made all ≡ Ok out
    → (form : Statement Known) → In form out → In form made ⊎ IsMade schemas form
each_made schemas [] bound made out e form at =
    inl (subst (In form) (sym (one_answer {E = FormFault} made out e)) at)
each_made schemas (statement ∷ all) bound made out e form at =
    let w = found_of (statement_in schemas bound statement) _ out e in
    elim (each_made schemas all w.0.1 (made ++ w.0.0 ∷ []) out w.2 form at) [
      | inl a ↦ elim (in_either made (w.0.0 ∷ []) form a) [
        | inl before ↦ inl before
        | inr here ↦ elim here [
          | inl same ↦
              inr (subst (IsMade schemas) (sym same)
              (record { bound = bound; tree = statement; after = w.0.1; resolved = w.1 }))
          | inr bad ↦ absurd bad
        ]
      ]
      | inr b ↦ inr b
    ]

-- what resolving promises
pub record DeclaredLaws : Type 0 where
  pub declared : (schemas : List TableSchema) (bound after : Bound) (statement : TreeStatement)
      (form : Statement Known) → statement_in schemas bound statement ≡ Ok (form, after)
      → AreDeclared schemas (tables_named form)
  pub closes : (form : Statement Known) (environment : Environment)
      → tables_named (closed environment form) ≡ tables_named form

form_below : DeclaredLaws → (s : State) → IsReached resolved_forms s → (own : Submitted) → In own s.submitted
    → (form : Statement Known) → In form own.form → (environment : Environment)
    → AllByRecursion (Below (length s.opening.tables)) (statement_uses (closed environment form))
form_below laws s reached own there form at environment =
    let creates = s.opening.tables in
    let schemas = schemas_of creates in
    elim (each_made schemas own.script.statements none_bound [] own.form (statements_given s reached own there) form
    at) [
      | inl bad ↦ absurd bad
      | inr made ↦
          let declared = laws.declared schemas made.bound made.after made.tree form made.resolved in
          uses_below (length creates) (closed environment form)
          (subst (λ (n : ℕ). AllByRecursion (λ number. number < n) (tables_named (closed environment form)))
          (length-map creates _)
          (subst (AllByRecursion (λ number. number < length schemas)) (sym (laws.closes form environment)) declared))
    ]

-- ---- next statements

end_uses : (end : End) → next_uses (end_next end) ≡ []
end_uses Commit = refl
end_uses Rollback = refl

next_used : DeclaredLaws → (s : State) → IsReached resolved_forms s → (m : Member)
    → AllByRecursion (Below (length s.opening.tables)) (next_uses (next_of s m))
next_used laws s reached m = by (numbered s.submitted m.tx) refl
  where
    n : ℕ
    n = length s.opening.tables

    by : (found : Option Submitted) → numbered s.submitted m.tx ≡ found
        → AllByRecursion (Below n) (next_uses (next_in found m))
    by None none = tt
    by (Some own) there = at (numbered own.form m.place) refl
      where
        at : (statement : Option (Statement Known)) → numbered own.form m.place ≡ statement
            → AllByRecursion (Below n) (next_uses (next_in (Some own) m))
        at None none = rw (none, end_uses own.script.end) tt
        at (Some form) is =
            rw is (next_below n (closed (environment_of m) form)
            (form_below laws s reached own (numbered_in s.submitted m.tx own there) form
            (numbered_in own.form m.place form is) (environment_of m)))

pub next_declared : DeclaredLaws → (s : State) → IsReached resolved_forms s → (m : Member)
    → All (BelowIn s.opening.tables) (next_uses (next_of s m))
next_declared laws s reached m =
    index_all (BelowIn s.opening.tables) (next_uses (next_of s m)) (λ own at.
    of_all (Below (length s.opening.tables)) (next_uses (next_of s m)) own (next_used laws s reached m) at)

pub changed_declared : DeclaredLaws → (s : State) → IsReached resolved_forms s → (m : Member)
    → (statement : Statement Value) → next_of s m ≡ Ordinary statement
    → All (λ table. table < length s.opening.tables) (changed_tables statement)
changed_declared laws s reached m statement next =
    let n = length s.opening.tables in
    index_all (λ (table : ℕ). table < n) (changed_tables statement)
    (changed_below n statement
    (subst (λ next. AllByRecursion (Below n) (next_uses next)) next (next_used laws s reached m)))

pub joint_declared : DeclaredLaws → (s : State) → IsReached resolved_forms s → (asked : List Posted)
    → IsPresentComponent s asked → All (BelowIn s.opening.tables) (joint_uses asked)
joint_declared laws s reached asked present =
    let n = length s.opening.tables in
    let each = λ (query : Posted). entangled_uses query.statement in
    index_all (BelowIn s.opening.tables) (joint_uses asked) (λ own at.
    elim (uses_from (flat_map each asked) [] own at) [
      | inl there ↦
          let a = in_flat each asked own there in
          let m = in_pool s a.0 (is_present (pool s) asked present a.0 a.1) in
          of_all (Below n) (entangled_uses a.0.statement) own
          (subst (λ next. AllByRecursion (Below n) (next_uses next)) m.by.next (next_used laws s reached m.member)) a.2
      | inr bad ↦ absurd bad
    ])
