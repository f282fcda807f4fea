-- Tables that are declared without a fault have columns of distinct names.
use Rattle.std.proofs.Common.{◌≡◌, Bool, true, false, ◌||◌, List, [], ◌∷◌, ◌++◌, map, None, refl, sym, ◌∙◌}
use Rattle.std.proofs.Common.{ap, subst}
use Rattle.std.specs.List.{AllByRecursion, IsDistinct}
use Rattle.std.proofs.lemmas.Bool.{or_parts}
use Rattle.ent_tree.specs.declared.declaration.Column.{Column}
use Rattle.ent_tree.specs.declared.declaration.Create.{Create}
use Rattle.ent_tree.specs.declared.operand.Identifier.{Identifier}
use Rattle.ent_semantics.specs.Database.{Name, same_name, is_among}
use Rattle.ent_form.specs.declared.fault.FormFault.{FormFault}
use Rattle.ent_form.specs.declared.fault.FormFault.TheVariants.{Repeated}
use Rattle.ent_form.specs.OpeningFault.{◌before◌, refused_where, repeated, declarations_fault}
use Rattle.ent_form.specs.Tables.{HaveDistinctColumns}
use Rattle.ent_form.proofs.Variables.{among_behind}
use Rattle.ent_form.proofs.ResolvedSteps.{nothing_first, nothing_later}

not_refused : (test : Bool) (fault : FormFault) → refused_where test fault ≡ None → test ≡ false
not_refused true fault e = cc
not_refused false fault e = refl

-- names that are none of these and that differ from each other
abbrev AreNew : List Name → List Name → Type 0
AreNew earlier names = AllByRecursion (λ name. is_among earlier name ≡ false) names × IsDistinct same_name names

split_new : (earlier : List Name) (name : Name) (names : List Name)
    → AllByRecursion (λ other. is_among (earlier ++ name ∷ []) other ≡ false) names
    → AllByRecursion (λ other. is_among earlier other ≡ false) names
    × AllByRecursion (λ other. same_name name other ≡ false) names
split_new earlier name [] h = (tt, tt)
split_new earlier name (other ∷ names) h =
    let apart : (is_among earlier other || same_name name other) ≡ false =
    sym (among_behind earlier name other) ∙ h.0 in
    let more = split_new earlier name names h.1 in
    let differs = or_parts (is_among earlier other) (same_name name other) apart in
    ((differs.0, more.0), (differs.1, more.1))

-- identifiers none of which is repeated are new
repeated_new : (earlier : List Name) (identifiers : List Identifier) → repeated earlier identifiers ≡ None
    → AreNew earlier (map (λ identifier. identifier.name) identifiers)
unfolding IsDistinct
repeated_new earlier [] e = (tt, tt)
repeated_new earlier (identifier ∷ more) e =
    let name = identifier.name in
    let rest = repeated (earlier ++ name ∷ []) more in
    let here = refused_where (is_among earlier name) (Repeated identifier.place) in
    let new : is_among earlier name ≡ false =
    not_refused (is_among earlier name) (Repeated identifier.place) (nothing_first here rest e) in
    let behind = repeated_new (earlier ++ name ∷ []) more (nothing_later here rest e) in
    let split = split_new earlier name (map (λ identifier. identifier.name) more) behind.0 in
    ((new, split.0), (split.1, behind.1))

names_alike : (columns : List Column)
    → map (λ (identifier : Identifier). identifier.name) (map (λ (column : Column). column.name) columns)
    ≡ map (λ column. column.name.name) columns
names_alike [] = refl
names_alike (column ∷ columns) = ap (λ names. column.name.name ∷ names) (names_alike columns)

pub columns_distinct : (earlier : List Name) (creates : List Create) → declarations_fault earlier creates ≡ None
    → HaveDistinctColumns creates
columns_distinct earlier [] e = tt
columns_distinct earlier (create ∷ creates) e =
    let name = create.name.name in
    let identifiers = map (λ (column : Column). column.name) create.columns in
    let inside = repeated [] identifiers in
    let rest = declarations_fault (earlier ++ name ∷ []) creates in
    let here = refused_where (is_among earlier name) (Repeated create.name.place) in
    let behind : (inside before rest) ≡ None = nothing_later here (inside before rest) e in (
      subst (λ (names : List Name). IsDistinct same_name names) (names_alike create.columns)
          (repeated_new [] identifiers (nothing_first inside rest behind)).1,
      columns_distinct (earlier ++ name ∷ []) creates (nothing_later inside rest behind),
    )
