-- What is told of tables and of members.
use Rattle.std.proofs.Common.{◌≡◌, ℕ, suc, true, false, cond, List, [], ◌∷◌, refl, ap, ◌∙◌, Option, Some, None}
use Rattle.std.proofs.Common.{slice_get}
use Rattle.std.specs.Option.{option_map}
use Rattle.ent_semantics.specs.Database.{Name, same_name}
use Rattle.ent_semantics.specs.Form.{Tables}
use Rattle.ent_form.specs.declared.catalogue.TableSchema.{TableSchema}
use Rattle.ent_form.specs.Catalogue.{names_of, table_from, table_named}
use Rattle.ent_core.specs.Kinds.{under}
use Rattle.ent_protocol.specs.Lookup.{rows_under, answers_of, group_of, member_of}
use Rattle.ent_protocol.specs.Rollback.{group_numbers}
use Rattle.ent_protocol.specs.State.{State, Member}

abbrev next : ℕ × TableSchema → ℕ × TableSchema
next found = (suc found.0, found.1)

-- the same numbers from one on
shifted : (n : ℕ) (schemas : List TableSchema) (name : Name)
    → table_from (suc n) schemas name ≡ option_map next (table_from n schemas name)
shifted n [] name = refl
shifted n (schema ∷ more) name =
    elim (same_name schema.name name) as (λ b. cond b (Some (suc n, schema)) (table_from (suc (suc n)) more name)
    ≡ option_map next (cond b (Some (n, schema)) (table_from (suc n) more name))) [
      | true ↦ refl
      | false ↦ shifted (suc n) more name
    ]

-- what goes with the table that was found
abbrev pub found_in : {A : Type 0} → List A → Option (ℕ × TableSchema) → Option A
found_in xs None = None
found_in xs (Some found) = slice_get xs found.0

behind : {A : Type 0} (x : A) (xs : List A) (found : Option (ℕ × TableSchema))
    → found_in (x ∷ xs) (option_map next found) ≡ found_in xs found
behind x xs None = refl
behind x xs (Some found) = refl

nothing_in : {A : Type 0} (found : Option (ℕ × TableSchema)) → found_in {A = A} [] found ≡ None
nothing_in None = refl
nothing_in (Some found) = refl

pub found_under : {A : Type 0} (schemas : List TableSchema) (xs : List A) (name : Name)
    → found_in xs (table_named schemas name) ≡ under (names_of schemas) xs name
found_under [] xs name = refl
found_under (schema ∷ more) [] name = nothing_in (table_named (schema ∷ more) name)
found_under {A} (schema ∷ more) (x ∷ xs) name =
    elim (same_name schema.name name) as (λ b. found_in (x ∷ xs) (cond b (Some (0, schema)) (table_from 1 more name))
    ≡ cond b (Some x) (under (names_of more) xs name)) [
      | true ↦ refl
      | false ↦ ap (found_in (x ∷ xs)) (shifted 0 more name) ∙ behind x xs (table_from 0 more name)
          ∙ found_under more xs name
    ]

pub rows_under_name : (names : List Name) (tables : Tables) (name : Name)
    → under names tables name ≡ rows_under names tables name
rows_under_name [] tables name = refl
rows_under_name (first ∷ names) [] name = refl
rows_under_name (first ∷ names) (rows ∷ tables) name =
    ap (λ rest. cond (same_name first name) (Some rows) rest) (rows_under_name names tables name)

-- ---- members

pub answers_found : (s : State) (tx : ℕ) (member : Member) → Some member ≡ member_of s tx
    → member.answers ≡ answers_of s tx
answers_found s tx member e = rw (← e) refl

pub answers_none : (s : State) (tx : ℕ) → None ≡ member_of s tx → [] ≡ answers_of s tx
answers_none s tx e = rw (← e) refl

pub group_found : (s : State) (tx : ℕ) (member : Member) → Some member ≡ member_of s tx
    → group_numbers s member.group ≡ group_of s tx
group_found s tx member e = rw (← e) refl

pub group_none : (s : State) (tx : ℕ) → None ≡ member_of s tx → [] ≡ group_of s tx
group_none s tx e = rw (← e) refl
