-- The uses of a closed form, by the names that its statement uses.
use Rattle.std.proofs.Common.{◌≡◌, ℕ, ◌<◌, Bool, true, ◌&&◌, List, [], ◌∷◌, ◌++◌, length, map, refl, sym}
use Rattle.std.proofs.Common.{ap, subst, ◌∙◌, inl, inr}
use Rattle.std.specs.Prelude.{◌==◌}
use Rattle.std.specs.List.{AllByRecursion, flat_map, list_any}
use Rattle.std.proofs.lemmas.Bool.{eqb-true, or_right}
use Rattle.std.proofs.lemmas.List.{append-nil, map-append}
use Rattle.std.proofs.lemmas.List.Folds.{list_any-append}
use Rattle.ent_value.specs.declared.value.Value.{Value}
use Rattle.ent_lock.specs.Mode.{mode_rank}
use Rattle.ent_tree.specs.declared.declaration.Create.{Create}
use Rattle.ent_semantics.specs.Database.{Name, Environment, same_name, is_among}
use Rattle.ent_semantics.specs.Closing.{closed, membership_over}
use Rattle.ent_semantics.specs.Form.{known_worth}
use Rattle.ent_semantics.specs.declared.entangled.Membership.{Membership}
use Rattle.ent_semantics.specs.declared.operand.Known.{Known}
use Rattle.ent_semantics.specs.declared.statement.Statement.{Statement}
use Rattle.ent_semantics.specs.declared.statement.Statement.TheVariants as forms
use Rattle.ent_semantics.specs.Names.{equal_names}
use Rattle.ent_protocol.specs.State.{Use}
use Rattle.ent_protocol.specs.Uses.{shared, exclusive, statement_uses}
use Rattle.ent_protocol_laws.specs.Faithful.{table_number, is_used, is_owned}
use Rattle.ent_lists.specs.Elements.{number_itself, or_cases, or_first}
use Rattle.ent_headline.proofs.Named.{read_by, changed_by}

-- ---- what a closed form uses

atoms_shared : (environment : Environment) (atoms : List (Membership Known))
    → flat_map (λ (membership : Membership Value). map shared membership.select.sources)
    (map (membership_over (known_worth environment)) atoms)
    ≡ map shared (flat_map (λ (membership : Membership Known). membership.select.sources) atoms)
atoms_shared environment [] = refl
atoms_shared environment (atom ∷ atoms) =
    ap (λ (xs : List Use). map shared atom.select.sources ++ xs) (atoms_shared environment atoms)
    ∙ sym (map-append shared atom.select.sources
    (flat_map (λ (membership : Membership Known). membership.select.sources) atoms))

pub uses_are : (environment : Environment) (form : Statement Known)
    → statement_uses (closed environment form) ≡ map shared (read_by form) ++ map exclusive (changed_by form)
uses_are environment (forms.Select select) = sym (append-nil (map shared select.sources))
uses_are environment (forms.Entangled entangled) =
    atoms_shared environment entangled.atoms
    ∙ sym (append-nil (map shared
    (flat_map (λ (membership : Membership Known). membership.select.sources) entangled.atoms)))
uses_are environment (forms.Insert table values) = refl
uses_are environment (forms.Delete table tests) = refl
uses_are environment (forms.Update table image tests) = refl
uses_are environment (forms.Set variable expression) = refl

-- ---- uses of tables under some names

module _ (creates : List Create) where
  abbrev numbers : List Name → List ℕ
  numbers names = map (table_number creates) names

  abbrev AreDeclared : List Name → Type 0
  AreDeclared names = AllByRecursion (λ name. table_number creates name < length creates) names

  -- uses that a test of this table lets through
  passing : (test : Use → Bool) (make : ℕ → Use) (name : Name) → test (make (table_number creates name)) ≡ true
      → (names : List Name) → is_among names name ≡ true → list_any test (map make (numbers names)) ≡ true
  passing test make name is [] there = cc
  passing test make name is (first ∷ names) there =
      elim (or_cases (same_name first name) (is_among names name) there) [
        | inl here ↦ or_first (test (make (table_number creates first))) (list_any test (map make (numbers names)))
            (ap (λ (n : Name). test (make (table_number creates n))) (equal_names first name here) ∙ is)
        | inr more ↦ or_right (test (make (table_number creates first))) (list_any test (map make (numbers names)))
            (passing test make name is names more)
      ]

  is_declared : (make : ℕ → Use) → ((n : ℕ) → (make n).table ≡ n) → (table : ℕ) (names : List Name)
      → AreDeclared names → is_used (map make (numbers names)) table ≡ true → table < length creates
  is_declared make own table [] h there = cc
  is_declared make own table (name ∷ names) h there =
      elim (or_cases ((make (table_number creates name)).table == table) (is_used (map make (numbers names)) table)
      there) [
        | inl here ↦ subst (λ n. n < length creates)
            (sym (own (table_number creates name)) ∙ eqb-true (make (table_number creates name)).table table here) h.0
        | inr more ↦ is_declared make own table names h.1 more
      ]

  module _ (reads changes : List Name) where
    abbrev pub UsesOf : List Use
    UsesOf = map shared (numbers reads) ++ map exclusive (numbers changes)

    pub used_there : (name : Name) → is_among (reads ++ changes) name ≡ true
        → is_used UsesOf (table_number creates name) ≡ true
    used_there name there =
        let test : Use → Bool = λ own. own.table == table_number creates name in
        let is = number_itself (table_number creates name) in
        list_any-append test (map shared (numbers reads)) (map exclusive (numbers changes))
        ∙ elim (or_cases (is_among reads name) (is_among changes name)
        (sym (list_any-append (λ table. same_name table name) reads changes) ∙ there)) [
          | inl here ↦ or_first _ _ (passing test shared name is reads here)
          | inr more ↦ or_right _ _ (passing test exclusive name is changes more)
        ]

    pub owned_there : (name : Name) → is_among changes name ≡ true
        → is_owned UsesOf (table_number creates name) ≡ true
    owned_there name there =
        let test : Use → Bool = λ own. (own.table == table_number creates name) && (mode_rank own.mode == 1) in
        let is : test (exclusive (table_number creates name)) ≡ true =
        ap (λ b. b && true) (number_itself (table_number creates name)) in
        list_any-append test (map shared (numbers reads)) (map exclusive (numbers changes))
        ∙ or_right _ _ (passing test exclusive name is changes there)

    pub all_declared : AreDeclared reads → AreDeclared changes → (table : ℕ) → is_used UsesOf table ≡ true
        → table < length creates
    all_declared of_reads of_changes table there =
        let test : Use → Bool = λ own. own.table == table in
        elim (or_cases (is_used (map shared (numbers reads)) table) (is_used (map exclusive (numbers changes)) table)
        (sym (list_any-append test (map shared (numbers reads)) (map exclusive (numbers changes))) ∙ there)) [
          | inl here ↦ is_declared shared (λ n. refl) table reads of_reads here
          | inr more ↦ is_declared exclusive (λ n. refl) table changes of_changes more
        ]
