-- Two patterns that cover one row.
use Rattle.std.proofs.Common.{◌≡◌, ℕ, suc, true, List, [], ◌∷◌, length, Option, Some, None, slice_get}
use Rattle.std.proofs.Common.{refl, sym, ap, ◌∙◌, arith}
use Rattle.std.specs.Cmp.Lexicographic.{pointwise}
use Rattle.std.specs.Ordering.{eq_by_cmp}
use Rattle.std.proofs.lemmas.Cmp.{eq_by_cmp_equiv}
use Rattle.ent_lists.specs.Elements.{both_and}
use Rattle.ent_value.specs.Order.{values_total}
use Rattle.ent_value.specs.Value.{value_cmp}
use Rattle.ent_value.specs.declared.value.Value.{Value}
use Rattle.ent_semantics.specs.declared.answer.Fact.{Fact}
use Rattle.ent_semantics.specs.Database.{same_name}
use Rattle.ent_semantics.specs.Names.{name_itself}
use Rattle.ent_meetings.specs.Pattern.{may_be_one, may_meet}
use Rattle.ent_meetings.specs.declared.pattern.Pattern.{Pattern}
use Rattle.ent_program_laws.specs.Cover.{Covers}

-- each known term has that value
abbrev AreSo : List (Option Value) → List Value → Type 0
AreSo terms values =
    (place : ℕ) (value : Value) → slice_get terms place ≡ Some (Some value) → slice_get values place ≡ Some value

one_value : (a b : Value) → Some a ≡ Some b → a ≡ b
one_value a b e = cc

terms_of_one : (demanded offered : Option Value) (value : Value)
    → ((own : Value) → demanded ≡ Some own → value ≡ own) → ((own : Value) → offered ≡ Some own → value ≡ own)
    → may_be_one demanded offered ≡ true
terms_of_one (Some known) (Some other) value first second =
    ap (λ (v : Value). eq_by_cmp value_cmp known v) (sym (second other refl) ∙ first known refl)
    ∙ (eq_by_cmp_equiv values_total).refl known
terms_of_one (Some known) None value first second = refl
terms_of_one None offered value first second = refl

rows_of_one : (demanded offered : List (Option Value)) (values : List Value) → length demanded ≡ length values
    → length offered ≡ length values → AreSo demanded values → AreSo offered values
    → pointwise may_be_one demanded offered ≡ true
rows_of_one [] [] [] long wide first second = refl
rows_of_one [] [] (value ∷ values) long wide first second = absurd (omega (arith, long))
rows_of_one [] (other ∷ offered) [] long wide first second = absurd (omega (arith, wide))
rows_of_one [] (other ∷ offered) (value ∷ values) long wide first second = absurd (omega (arith, long))
rows_of_one (term ∷ demanded) offered [] long wide first second = absurd (omega (arith, long))
rows_of_one (term ∷ demanded) [] (value ∷ values) long wide first second = absurd (omega (arith, wide))
rows_of_one (term ∷ demanded) (other ∷ offered) (value ∷ values) long wide first second =
    both_and (may_be_one term other) (pointwise may_be_one demanded offered)
    (terms_of_one term other value (λ own is. one_value value own (first 0 own (ap Some is)))
    (λ own is. one_value value own (second 0 own (ap Some is))))
    (rows_of_one demanded offered values (omega (arith, long)) (omega (arith, wide))
    (λ place own is. first (suc place) own is) (λ place own is. second (suc place) own is))

pub rows_may_meet : (demand offer : Pattern) (fact : Fact) → Covers demand fact → Covers offer fact
    → may_meet demand offer ≡ true
rows_may_meet demand offer fact first second =
    both_and (same_name demand.relation offer.relation) (pointwise may_be_one demand.terms offer.terms)
    (ap (same_name demand.relation) (second.relation ∙ sym first.relation) ∙ name_itself demand.relation)
    (rows_of_one demand.terms offer.terms fact.values first.as_long second.as_long first.known second.known)
