-- The tables of the opening, as statements are resolved against them, as they grow.
use Rattle.std.proofs.Common.{◌≡◌, List, [], ◌∷◌, ◌++◌, length, map, Option, Some, None, refl, ap, sym, ◌∙◌, arith}
use Rattle.std.proofs.Common.{length-append}
use Rattle.std.specs.Prelude.{IfNone}
use Rattle.std.specs.Option.{option_to_list}
use Rattle.std.proofs.lemmas.List.{map-append}
use Rattle.ent_tree.specs.declared.declaration.Create.{Create}
use Rattle.ent_form.specs.declared.catalogue.TableSchema.{TableSchema}
use Rattle.ent_form.specs.Catalogue.{schemas_of, table_schema}

pub one_schema : (tables : List Create) (create : Create) (schemas grown : List TableSchema) (schema : TableSchema)
    → schemas ≡ schemas_of tables → schema ≡ table_schema create → grown ≡ schemas ++ schema ∷ []
    → grown ≡ schemas_of (tables ++ create ∷ [])
one_schema tables create schemas grown schema are is pushed =
    pushed ∙ (λ i. are i ++ is i ∷ []) ∙ sym (map-append table_schema tables (create ∷ []))

same_fronts : {X : Type 0} (xs ys : List X) (x y : X) → xs ++ x ∷ [] ≡ ys ++ y ∷ [] → xs ≡ ys
same_fronts [] [] x y e = refl
same_fronts [] (z ∷ ys) x y e = absurd (omega (arith, ap length e, length-append ys (y ∷ [])))
same_fronts (z ∷ xs) [] x y e = absurd (omega (arith, ap length e, length-append xs (x ∷ [])))
same_fronts (a ∷ xs) (b ∷ ys) x y e =
    let first : a ≡ b = cc in let more = same_fronts xs ys x y cc in cc

-- what was put at the end is taken back
pub taken_back : {X : Type 0} (xs pushed left : List X) (x : X) (last : Option X) → pushed ≡ xs ++ x ∷ []
    → pushed ≡ left ++ option_to_list last → IfNone last (length pushed ≡ 0) → left ≡ xs
taken_back xs pushed left x (Some y) is parts none = sym (same_fronts xs left x y (sym is ∙ parts))
taken_back xs pushed left x None is parts none =
    absurd (omega (arith, ap length is, length-append xs (x ∷ []), none))
