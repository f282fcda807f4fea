-- The tables of a book, and the book of a state in which no run is on.
use Rattle.std.proofs.Common.{◌≡◌, ◌≤◌, ◌⊎◌, inl, inr, ℕ, zero, suc, false, cond, List, [], ◌∷◌, ◌++◌, length, map}
use Rattle.std.proofs.Common.{take, refl, sym, ap, ◌∙◌, arith, not}
use Rattle.std.specs.List.{filter, list_any}
use Rattle.std.specs.Arc.{arc_value}
use Rattle.std.specs.declared.sync.Arc.{Arc}
use Rattle.std.proofs.lemmas.Simd.{map-map}
use Rattle.std.proofs.lemmas.List.{length-map, take-map}
use Rattle.ent_rel.specs.Relation.{Relation}
use Rattle.ent_tree.specs.declared.declaration.Create.{Create}
use Rattle.ent_semantics.specs.declared.book.JointAnswer.{JointAnswer}
use Rattle.ent_semantics.specs.declared.book.Member.{Member as JointMember}
use Rattle.ent_semantics.specs.Database.{Name, Rows, same_name}
use Rattle.ent_semantics.specs.Form.{Tables}
use Rattle.ent_form.specs.declared.catalogue.TableSchema.{TableSchema}
use Rattle.ent_form.specs.Catalogue.{schemas_of, names_of, table_schema}
use Rattle.ent_book.specs.declared.table.NamedTable.{NamedTable}
use Rattle.ent_book.specs.Tables.{tables_database}
use Rattle.ent_protocol.specs.Reached.{named_tables, table_names, book_of, settled, committed_joints}
use Rattle.ent_protocol.specs.Rollback.{is_joint_of, is_among}
use Rattle.ent_protocol.specs.State.{State, Member, members}
use Rattle.ent_protocol.specs.Tidy.{IsTidy}
use Rattle.ent_core.specs.Closing.{book_at_rest}
use Rattle.ent_ordinary.specs.Tables.{rows_in}

abbrev relation_of : NamedTable → Relation
relation_of entry = arc_value entry.table

-- tables under their names, from the two lists
listed : (entries : List NamedTable) (name : Name)
    → tables_database entries name ≡ named_tables (map (λ entry. entry.name) entries) (rows_in (map relation_of
    entries)) name
listed [] name = refl
listed (entry ∷ more) name =
    ap (λ (rest : Rows). cond (same_name entry.name name) (relation_of entry).rows rest) (listed more name)

-- what is beyond the shorter list is not seen
cut : (names : List Name) (tables : Tables) (n : ℕ) (name : Name) → (length tables ≤ n) ⊎ (length names ≤ n)
    → named_tables (take n names) (take n tables) name ≡ named_tables names tables name
cut [] tables zero name short = refl
cut [] tables (suc n) name short = refl
cut (first ∷ names) [] zero name short = refl
cut (first ∷ names) [] (suc n) name short = refl
cut (first ∷ names) (rows ∷ tables) zero name (inl short) = absurd (omega arith)
cut (first ∷ names) (rows ∷ tables) zero name (inr short) = absurd (omega arith)
cut (first ∷ names) (rows ∷ tables) (suc n) name (inl short) =
    ap (λ (rest : Rows). cond (same_name first name) rows rest) (cut names tables n name (inl (omega arith)))
cut (first ∷ names) (rows ∷ tables) (suc n) name (inr short) =
    ap (λ (rest : Rows). cond (same_name first name) rows rest) (cut names tables n name (inr (omega arith)))

-- the tables of a list that went as far as one of the two lists goes
module _ {Z : Type 0} where
  pub named_so_far : (entries : List NamedTable) (schemas : List TableSchema) (arcs : List (Arc Relation Z)) (n : ℕ)
      → map (λ entry. entry.name) entries ≡ names_of (take n schemas)
      → map relation_of entries ≡ map arc_value (take n arcs)
      → (length arcs ≤ n) ⊎ (length schemas ≤ n)
      → tables_database entries ≡ named_tables (names_of schemas) (rows_in (map arc_value arcs))
  named_so_far entries schemas arcs n names tables short =
      let f : TableSchema → Name = λ schema. schema.name in
      let rows : List Relation → Tables = rows_in in
      let names_cut : map (λ entry. entry.name) entries ≡ take n (names_of schemas) = names
      ∙ sym (take-map f n schemas) in
      let tables_cut : rows_in (map relation_of entries) ≡ take n (rows_in (map arc_value arcs)) =
      ap rows tables ∙ ap rows (sym (take-map arc_value n arcs))
      ∙ sym (take-map (λ (t : Relation). t.rows) n (map arc_value arcs)) in
      λ i name.
      (listed entries name ∙ (λ j. named_tables (names_cut j) (tables_cut j) name)
      ∙ cut (names_of schemas) (rows_in (map arc_value arcs)) n name (either short)) i
    where
      either : (length arcs ≤ n) ⊎ (length schemas ≤ n)
          → (length (rows_in (map arc_value arcs)) ≤ n) ⊎ (length (names_of schemas) ≤ n)
      either (inl few) = inl (omega (
        arith,
        length-map (map arc_value arcs) (λ (t : Relation). t.rows),
        length-map
            arcs (arc_value {X = Relation} {Z = Z}),
      ))
      either (inr few) = inr (omega (arith, length-map schemas (λ (schema : TableSchema). schema.name)))

-- the names of a catalogue are those that the opening declares
pub names_declared : (schemas : List TableSchema) (declared : List Create) → schemas ≡ schemas_of declared
    → names_of schemas ≡ map (λ create. create.name.name) declared
names_declared schemas declared is =
    ap names_of is ∙ map-map (λ (schema : TableSchema). schema.name) table_schema declared

-- ---- no run is on

none_joint : (own : List JointMember) → list_any (λ member. is_among [] member.tx) own ≡ false
none_joint [] = refl
none_joint (member ∷ more) = none_joint more

all_committed : (joints : List JointAnswer) → filter (λ joint. not (is_joint_of [] joint)) joints ≡ joints
all_committed [] = refl
all_committed (joint ∷ more) =
    (λ i. cond (not (none_joint joint.members i)) (joint ∷ filter (λ other. not (is_joint_of [] other)) more)
    (filter (λ other. not (is_joint_of [] other)) more))
    ∙ ap (λ (rest : List JointAnswer). joint ∷ rest) (all_committed more)

pub book_settled : (s : State) → IsTidy s → settled s ≡ s.tables → s.running ≡ false → book_at_rest s ≡ book_of s
book_settled s tidy rest off =
    let nobody : members s ≡ [] = λ i. append (tidy.no_prepared off i) (tidy.no_active off i) in
    let joints : s.joints ≡ committed_joints s =
    sym (all_committed s.joints) ∙ (λ i. filter (λ joint. not (is_joint_of (sym nobody i) joint)) s.joints) in
    λ i. record (book_at_rest s) {
      joint_answers = joints i;
      database = named_tables (table_names s.opening) (sym rest i);
    }
  where
    append : List Member → List Member → List Member
    append xs ys = xs ++ ys
