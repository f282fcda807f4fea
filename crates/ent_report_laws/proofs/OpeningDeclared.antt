-- The tables that a report shows: the same one under each name.
use Rattle.std.proofs.Common.{◌≡◌, Bool, true, false, cond, ◌||◌, List, [], ◌∷◌, ◌++◌, map, refl, sym, ap, subst, ◌∙◌}
use Rattle.std.proofs.Common.{inl, inr}
use Rattle.std.specs.List.{flat_map, list_any}
use Rattle.std.specs.Cmp.Lexicographic.{slice_cmp, texts_ties}
use Rattle.std.specs.Ordering.{eq_by_cmp, is_eq, nat_cmp}
use Rattle.std.specs.declared.cmp.Ordering.{Ordering}
use Rattle.std.specs.declared.cmp.Ordering.TheVariants.{Less}
use Rattle.std.proofs.lemmas.Cmp.{nat_list_cmp_total}
use Rattle.std.proofs.lemmas.Map.Lookups.{exact_bytes}
use Rattle.ent_lists.specs.Sets as set
use Rattle.ent_lists.specs.Laws.{any_map, contains-ascending, contains-from_list}
use Rattle.ent_tree.specs.declared.declaration.Create.{Create}
use Rattle.ent_tree.specs.declared.declaration.Opening.{Opening}
use Rattle.ent_rel.proofs.Keyed.{keys_ascend}
use Rattle.ent_semantics.specs.Names.{equal_names, names_turned}
use Rattle.ent_book.specs.Report.{names_by_bytes}
use Rattle.ent_history.specs.Told.{declared_under, told_opening}
use Rattle.ent_history.specs.Formed.{is_declared}
use Rattle.ent_lists.specs.Elements.{In, Pairs, in_flat, neither, of_all, pairs_by, pairs_joined, rise}
use Rattle.ent_semantics.specs.Database.{Name, same_name, is_among}
use Rattle.ent_report_laws.specs.Alike.{AreDeclaredAlike}

-- ---- names

abbrev pub name_cmp : Name → Name → Ordering
name_cmp = slice_cmp nat_cmp

ties : (name other : Name) → eq_by_cmp name_cmp name other ≡ same_name other name
ties name other = sym (texts_ties name other) ∙ names_turned name other

same_tests : (name : Name) (names : List Name) → list_any (eq_by_cmp name_cmp name) names ≡ is_among names name
same_tests name names = λ i. list_any (λ other. ties name other i) names

-- the names by which a report shows tables are those of the tables that are declared
pub named : (opening : Opening) (name : Name)
    → is_among (names_by_bytes opening) name ≡ is_declared opening.tables name
named opening name =
    let all : List Name = map (λ create. create.name.name) opening.tables in
    sym (same_tests name (names_by_bytes opening))
    ∙ sym (contains-ascending (set.from_list {R = name_cmp} all) name)
    ∙ contains-from_list nat_list_cmp_total exact_bytes all name
    ∙ same_tests name all
    ∙ any_map (λ other. same_name other name) (λ (create : Create). create.name.name) opening.tables

abbrev pub Before : Name → Name → Type 0
Before name other = name_cmp name other ≡ Less

pub names_rise : (opening : Opening) → Pairs Before (names_by_bytes opening)
names_rise opening =
    rise name_cmp (names_by_bytes opening)
    (keys_ascend (set.from_list {R = name_cmp} (map (λ create. create.name.name) opening.tables)))

pub other_name : (name other : Name) → Before name other → same_name name other ≡ false
other_name name other e = texts_ties name other ∙ ap is_eq e

pub names_apart : (opening : Opening) → Pairs (λ name other. same_name name other ≡ false) (names_by_bytes opening)
names_apart opening =
    pairs_by Before (λ name other. same_name name other ≡ false) (names_by_bytes opening) other_name
    (names_rise opening)

-- ---- tables

-- the first list, unless it is empty
abbrev first_or : List Create → List Create → List Create
first_or [] others = others
first_or (create ∷ more) others = create ∷ more

under_joined : (tables others : List Create) (name : Name)
    → declared_under (tables ++ others) name ≡ first_or (declared_under tables name) (declared_under others name)
under_joined [] others name = refl
under_joined (create ∷ tables) others name =
    by (same_name create.name.name name) (under_joined tables others name)
  where
    by : (b : Bool)
        → declared_under (tables ++ others) name ≡ first_or (declared_under tables name) (declared_under others name)
        → cond b (create ∷ []) (declared_under (tables ++ others) name)
        ≡ first_or (cond b (create ∷ []) (declared_under tables name)) (declared_under others name)
    by true rest = refl
    by false rest = rest

pub none_under : (tables : List Create) (name : Name) → is_declared tables name ≡ false
    → declared_under tables name ≡ []
none_under [] name e = refl
none_under (create ∷ more) name e =
    let apart = neither (same_name create.name.name name) (is_declared more name) e in
    ap (λ (b : Bool). cond b (create ∷ []) (declared_under more name)) apart.0 ∙ none_under more name apart.1

-- the table under a name is the one that is there under it
under_itself : (tables : List Create) (name : Name)
    → declared_under (declared_under tables name) name ≡ declared_under tables name
under_itself [] name = refl
under_itself (create ∷ more) name = by (same_name create.name.name name) refl (under_itself more name)
  where
    by : (b : Bool) → same_name create.name.name name ≡ b
        → declared_under (declared_under more name) name ≡ declared_under more name
        → declared_under (cond b (create ∷ []) (declared_under more name)) name
        ≡ cond b (create ∷ []) (declared_under more name)
    by true e rest = ap (λ (b : Bool). cond b (create ∷ []) []) e
    by false e rest = rest

under_same : (tables : List Create) (other name : Name) → same_name other name ≡ true
    → declared_under (declared_under tables other) name ≡ declared_under tables name
under_same tables other name e =
    ap (λ (n : Name). declared_under (declared_under tables n) name) (equal_names other name e)
    ∙ under_itself tables name

under_other : (tables : List Create) (other name : Name) → same_name other name ≡ false
    → declared_under (declared_under tables other) name ≡ []
under_other [] other name differs = refl
under_other (create ∷ more) other name differs =
    by (same_name create.name.name other) refl (under_other more other name differs)
  where
    by : (b : Bool) → same_name create.name.name other ≡ b
        → declared_under (declared_under more other) name ≡ []
        → declared_under (cond b (create ∷ []) (declared_under more other)) name ≡ []
    by true e rest =
        ap (λ (b : Bool). cond b (create ∷ []) [])
        (ap (λ (n : Name). same_name n name) (equal_names create.name.name other e) ∙ differs)
    by false e rest = rest

one_or : (tables : List Create) (b : Bool) → first_or tables (cond b tables []) ≡ tables
one_or [] true = refl
one_or [] false = refl
one_or (create ∷ more) b = refl

-- of the tables under some names, the one under a name
under_names : (tables : List Create) (names : List Name) (name : Name)
    → declared_under (flat_map (declared_under tables) names) name
    ≡ cond (is_among names name) (declared_under tables name) []
under_names tables [] name = refl
under_names tables (other ∷ names) name =
    under_joined (declared_under tables other) (flat_map (declared_under tables) names) name
    ∙ by (same_name other name) refl (under_names tables names name)
  where
    by : (b : Bool) → same_name other name ≡ b
        → declared_under (flat_map (declared_under tables) names) name
        ≡ cond (is_among names name) (declared_under tables name) []
        → first_or (declared_under (declared_under tables other) name)
        (declared_under (flat_map (declared_under tables) names) name)
        ≡ cond (b || is_among names name) (declared_under tables name) []
    by true e rest =
        (λ i. first_or (under_same tables other name e i) (rest i))
        ∙ one_or (declared_under tables name) (is_among names name)
    by false e rest = (λ i. first_or (under_other tables other name e i) (rest i))

pub tables_told : (opening : Opening) → AreDeclaredAlike (told_opening opening).tables opening.tables
tables_told opening name =
    under_names opening.tables (names_by_bytes opening) name
    ∙ ap (λ (b : Bool). cond b (declared_under opening.tables name) []) (named opening name)
    ∙ by (is_declared opening.tables name) refl
  where
    by : (b : Bool) → is_declared opening.tables name ≡ b
        → cond b (declared_under opening.tables name) [] ≡ declared_under opening.tables name
    by true e = refl
    by false e = sym (none_under opening.tables name e)

-- ---- the table under a name

-- a table that is there under a name is declared, and has that name
pub under_is : (tables : List Create) (name : Name) (create : Create) → In create (declared_under tables name)
    → In create tables × (create.name.name ≡ name)
under_is [] name create at = absurd at
under_is (other ∷ more) name create at = by (same_name other.name.name name) refl (under_is more name create) at
  where
    by : (b : Bool) → same_name other.name.name name ≡ b
        → (In create (declared_under more name) → In create more × (create.name.name ≡ name))
        → In create (cond b (other ∷ []) (declared_under more name))
        → In create (other ∷ more) × (create.name.name ≡ name)
    by true e rest (inl same) =
        (inl same, ap (λ (c : Create). c.name.name) same ∙ equal_names other.name.name name e)
    by true e rest (inr none) = absurd none
    by false e rest at = let r = rest at in (inr r.0, r.1)

-- one that is declared is there
abbrev pub IsUnder : List Create → Name → Type 0
IsUnder tables name =
    (create : Create) × (declared_under tables name ≡ create ∷ []) × (create.name.name ≡ name)

pub one_under : (tables : List Create) (name : Name) → is_declared tables name ≡ true → IsUnder tables name
one_under [] name e = cc (e)
one_under (create ∷ more) name e = by (same_name create.name.name name) refl (one_under more name) e
  where
    by : (b : Bool) → same_name create.name.name name ≡ b → (is_declared more name ≡ true → IsUnder more name)
        → (b || is_declared more name) ≡ true → IsUnder (create ∷ more) name
    by true same rest e = (
      create,
      ap (λ (b : Bool). cond b (create ∷ []) (declared_under more name)) same,
      equal_names create.name.name name same,
    )
    by false differs rest e =
        let r = rest e in (
          r.0,
          ap (λ (b : Bool). cond b (create ∷ []) (declared_under more name)) differs ∙ r.1,
          r.2,
        )

-- ---- in order

abbrev pub Rises : Create → Create → Type 0
Rises first second = Before first.name.name second.name.name

alone : (tables : List Create) (name : Name) → Pairs Rises (declared_under tables name)
alone [] name = tt
alone (create ∷ more) name = by (same_name create.name.name name) (alone more name)
  where
    by : (b : Bool) → Pairs Rises (declared_under more name)
        → Pairs Rises (cond b (create ∷ []) (declared_under more name))
    by true rest = (tt, tt)
    by false rest = rest

pub tables_rise : (tables : List Create) (names : List Name) → Pairs Before names
    → Pairs Rises (flat_map (declared_under tables) names)
tables_rise tables [] rise = tt
tables_rise tables (name ∷ names) rise =
    pairs_joined Rises (declared_under tables name) (flat_map (declared_under tables) names) (alone tables name)
    (tables_rise tables names rise.1) (λ first second at behind.
    let early = under_is tables name first at in
    let found = in_flat (declared_under tables) names second behind in
    let late = under_is tables found.0 second found.2 in
    let rises : Before name found.0 = of_all (Before name) names found.0 rise.0 found.1 in
    subst (λ (n : Name). Before n second.name.name) (sym early.1) (subst (Before name) (sym late.1) rises))

-- a table that is shown is declared
pub shown_declared : (opening : Opening) (create : Create) → In create (told_opening opening).tables
    → In create opening.tables
shown_declared opening create at =
    let found = in_flat (declared_under opening.tables) (names_by_bytes opening) create at in
    (under_is opening.tables found.0 create found.2).0
