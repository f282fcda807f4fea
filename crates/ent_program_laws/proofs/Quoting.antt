-- A text in which quotes are doubled is of whole characters exactly where the text is.
use Rattle.std.proofs.Common.{◌≡◌, ℕ, Bool, true, false, cond, eqb, List, [], ◌∷◌, ◌++◌, refl, sym, ap, subst, ◌∙◌}
use Rattle.std.proofs.Common.{arith, append_assoc}
use Rattle.std.specs.Prelude.{◌↔◌}
use Rattle.std.specs.Str.{IsUtf8}
use Rattle.std.proofs.lemmas.Bool.{eqb-true}
use Rattle.ent_value.specs.Print.{doubled, quoted}
use Rattle.ent_program_laws.proofs.Texts.{behind_byte, cut_at, joined, one_byte}

-- a byte goes over to the front
with_front : (front : List ℕ) (b : ℕ) (bytes : List ℕ) → (front ++ b ∷ []) ++ bytes ≡ front ++ b ∷ bytes
with_front front b bytes = append_assoc front (b ∷ []) bytes

module _ (b : ℕ) (bytes : List ℕ) where
  quote_doubled : b ≡ 39 → doubled (b ∷ bytes) ≡ 39 ∷ 39 ∷ doubled bytes
  quote_doubled same = ap (λ (c : ℕ). doubled (c ∷ bytes)) same

  other_stays : eqb b 39 ≡ false → doubled (b ∷ bytes) ≡ b ∷ doubled bytes
  other_stays differs =
      ap (λ (test : Bool). cond test (39 ∷ 39 ∷ doubled bytes) (b ∷ doubled bytes)) differs

module _ (front : List ℕ) (b : ℕ) (bytes : List ℕ) where
  doubled_in_by : ((before : List ℕ) → IsUtf8 (before ++ bytes) → IsUtf8 (before ++ doubled bytes)) → (test : Bool)
      → eqb b 39 ≡ test → IsUtf8 (front ++ b ∷ bytes) → IsUtf8 (front ++ doubled (b ∷ bytes))
  doubled_in_by again true e is =
      let same = eqb-true b 39 e in
      let parts = cut_at front 39 bytes (omega arith) (subst (λ (c : ℕ). IsUtf8 (front ++ c ∷ bytes)) same is) in
      subst (λ (more : List ℕ). IsUtf8 (front ++ more)) (sym (quote_doubled b bytes same))
      (joined front (39 ∷ 39 ∷ doubled bytes) parts.0
      (behind_byte 39 (39 ∷ doubled bytes) (omega arith)
      (behind_byte 39 (doubled bytes) (omega arith) (again [] parts.1))))
  doubled_in_by again false e is =
      subst IsUtf8
      (with_front front b (doubled bytes)
      ∙ ap (λ (more : List ℕ). front ++ more) (sym (other_stays b bytes e)))
      (again (front ++ b ∷ []) (subst IsUtf8 (sym (with_front front b bytes)) is))

  doubled_out_by : ((before : List ℕ) → IsUtf8 (before ++ doubled bytes) → IsUtf8 (before ++ bytes)) → (test : Bool)
      → eqb b 39 ≡ test → IsUtf8 (front ++ doubled (b ∷ bytes)) → IsUtf8 (front ++ b ∷ bytes)
  doubled_out_by again true e is =
      let same = eqb-true b 39 e in
      let first = cut_at front 39 (39 ∷ doubled bytes) (omega arith)
      (subst (λ (more : List ℕ). IsUtf8 (front ++ more)) (quote_doubled b bytes same) is) in
      let second = cut_at [] 39 (doubled bytes) (omega arith) first.1 in
      subst (λ (c : ℕ). IsUtf8 (front ++ c ∷ bytes)) (sym same)
      (joined front (39 ∷ bytes) first.0 (behind_byte 39 bytes (omega arith) (again [] second.1)))
  doubled_out_by again false e is =
      subst IsUtf8 (with_front front b bytes)
      (again (front ++ b ∷ [])
      (subst IsUtf8 (ap (λ (more : List ℕ). front ++ more) (other_stays b bytes e)
      ∙ sym (with_front front b (doubled bytes))) is))

pub doubled_in : (front bytes : List ℕ) → IsUtf8 (front ++ bytes) → IsUtf8 (front ++ doubled bytes)
doubled_in front [] is = is
doubled_in front (b ∷ bytes) is =
    doubled_in_by front b bytes (λ before. doubled_in before bytes) (eqb b 39) refl is

pub doubled_out : (front bytes : List ℕ) → IsUtf8 (front ++ doubled bytes) → IsUtf8 (front ++ bytes)
doubled_out front [] is = is
doubled_out front (b ∷ bytes) is =
    doubled_out_by front b bytes (λ before. doubled_out before bytes) (eqb b 39) refl is

pub quoted_text : (text : List ℕ) → IsUtf8 text → IsUtf8 (quoted text)
quoted_text text is =
    behind_byte 39 (doubled text ++ 39 ∷ []) (omega arith)
    (joined (doubled text) (39 ∷ []) (doubled_in [] text is) (one_byte 39 (omega arith)))

-- whatever stands before and behind it
pub text_within : (front text behind : List ℕ) → IsUtf8 (front ++ (quoted text ++ behind)) → IsUtf8 text
text_within front text behind is =
    let first = cut_at front 39 ((doubled text ++ 39 ∷ []) ++ behind) (omega arith) is in
    let second = cut_at (doubled text) 39 behind (omega arith)
    (subst IsUtf8 (append_assoc (doubled text) (39 ∷ []) behind) first.1) in
    doubled_out [] text second.0

pub quoted_exactly : (text : List ℕ) → IsUtf8 (quoted text) ↔ IsUtf8 text
quoted_exactly text = (
  λ is.
      let first = cut_at [] 39 (doubled text ++ 39 ∷ []) (omega arith) is in
      doubled_out [] text (cut_at (doubled text) 39 [] (omega arith) first.1).0,
  quoted_text text,
)
