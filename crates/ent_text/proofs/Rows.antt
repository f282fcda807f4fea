-- Rows are read as they are written.
use Rattle.std.proofs.Common.{◌≡◌, ◌≢◌, ℕ, zero, suc, ◌<◌, ◌≤◌, Bool, true, false, List, [], ◌∷◌, ◌++◌, length, take}
use Rattle.std.proofs.Common.{drop, get_or, Ok, Err, Result, refl, ap, sym, ◌∙◌, subst, arith, eqb, append_assoc}
use Rattle.std.proofs.Common.{length-append}
use Rattle.std.specs.Prelude.{codes}
use Rattle.std.specs.List.{AllByRecursion}
use Rattle.std.specs.Cmp.Lexicographic.{pointwise, same_text, nat_list_eq_equiv}
use Rattle.std.proofs.lemmas.List.{take-append-drop, take_at, drop_at, append-nil}
use Rattle.std.proofs.lemmas.Bool.{eqb-true, ne_eqb}
use Rattle.ent_value.specs.Refusal.{◌>>=◌, Refuses}
use Rattle.ent_value.specs.declared.refusal.Refusal.{Refusal}
use Rattle.ent_value.specs.declared.refusal.Refusal.TheVariants.{Memory, Fault}
use Rattle.ent_value.specs.Print.{value_text, more_text, row_text}
use Rattle.ent_value.specs.declared.value.Value.{Value}
use Rattle.ent_text.specs.declared.line_fault.LineFault.{LineFault}
use Rattle.ent_text.specs.declared.line_fault.LineFault.TheVariants.{Misfit}
use Rattle.ent_text.specs.Pieces.{Read, behind, value_at, with_value, divided_at, more_at, row_at}
use Rattle.ent_text.specs.Written.{IsOver, IsValue, IsRow}
use Rattle.ent_text.proofs.Numbers.{chosen, is_first, is_rest}
use Rattle.ent_text.proofs.Values.{bind_ok, value_found, value_again}

-- ---- words

rest_in : List ℕ → Result (List ℕ) LineFault → List ℕ
rest_in other (Ok rest) = rest
rest_in other (Err fault) = other

abbrev rest_of : List ℕ → Result (List ℕ) LineFault
rest_of rest = Ok rest

same_rest : (one other : List ℕ) → rest_of one ≡ rest_of other → one ≡ other
unfolding rest_in
same_rest one other h = ap (rest_in one) h

pub behind_found : (word bytes rest : List ℕ) → behind word bytes ≡ Ok rest → bytes ≡ word ++ rest
unfolding behind
behind_found word bytes rest h =
    let found = chosen (pointwise eqb (take (length word) bytes) word) _ _ _ h in
    let front : take (length word) bytes ≡ word = same_text (take (length word) bytes) word (sym found.0) in
    let left : drop (length word) bytes ≡ rest = same_rest _ _ found.1 in
    sym (take-append-drop (length word) bytes) ∙ (λ i. front i ++ left i)

pub behind_again : (word rest : List ℕ) → behind word (word ++ rest) ≡ Ok rest
unfolding behind
behind_again word rest =
    rw (take_at word rest (length word) refl)
    (rw (nat_list_eq_equiv.refl word) (ap rest_of (drop_at word rest (length word) refl)))

-- ---- a value behind a comma and a space

divided_found : (bytes rest : List ℕ) (value : Value) → divided_at bytes ≡ Ok (value, rest)
    → (bytes ≡ codes ", " ++ (value_text value ++ rest)) × IsValue value
unfolding divided_at
divided_found bytes rest value h =
    let found = bind_ok (behind (codes ", ") bytes) value_at (value, rest) h in
    let is = value_found found.0 rest value found.2 in
    (behind_found (codes ", ") bytes found.0 found.1 ∙ ap (λ more. codes ", " ++ more) is.0, is.1)

pub divided_shorter : (bytes rest : List ℕ) (value : Value) → divided_at bytes ≡ Ok (value, rest)
    → length rest < length bytes
divided_shorter bytes rest value h =
    let e : bytes ≡ 44 ∷ 32 ∷ (value_text value ++ rest) = (divided_found bytes rest value h).0 in
    omega (arith, ap length e, length-append (value_text value) rest)

-- ---- values up to the closing parenthesis

abbrev pub with_values : List Value → Read (List Value) → Read (List Value)
with_values values read = read >>= λ more. Ok (values ++ more.0, more.1)

abbrev list_read : List Value → List ℕ → Read (List Value)
list_read values rest = Ok (values, rest)

with_values_more : (values : List Value) (value : Value) (read : Read (List Value))
    → with_values values (with_value value read) ≡ with_values (values ++ value ∷ []) read
with_values_more values value (Ok x) = ap (λ all. list_read all x.1) (sym (append_assoc values (value ∷ []) x.0))
with_values_more values value (Err e) = refl

closed : (n : ℕ) (bytes : List ℕ) → more_at (suc n) (41 ∷ bytes) ≡ list_read [] bytes
unfolding more_at
closed n bytes = refl

ended : (n : ℕ) → more_at n [] ≡ Err Misfit
unfolding more_at
ended zero = refl
ended (suc n) = refl

goes : (n b : ℕ) (bytes : List ℕ) → eqb b 41 ≡ false
    → more_at (suc n) (b ∷ bytes) ≡ (divided_at (b ∷ bytes) >>= λ value. with_value value.0 (more_at n value.1))
unfolding more_at
goes n b bytes e = rw e refl

-- what is left of a row behind some of its values
pub record Left (values : List Value) (rest : List ℕ) (whole : Read (List Value)) : Type 0 where
  pub most : ℕ
  pub enough : length rest ≤ most
  pub is : with_values values (more_at most rest) ≡ whole

close_by : (most : ℕ) (values : List Value) (bytes : List ℕ) (whole : Read (List Value))
    → length (41 ∷ bytes) ≤ most → with_values values (more_at most (41 ∷ bytes)) ≡ whole
    → whole ≡ Ok (values, bytes)
close_by zero values bytes whole le is = absurd (omega arith)
close_by (suc n) values bytes whole le is =
    sym is ∙ ap (with_values values) (closed n bytes) ∙ ap (λ all. list_read all bytes) (append-nil values)

pub at_close : (values : List Value) (b : ℕ) (bytes : List ℕ) (whole : Read (List Value))
    → b ≡ 41 → Left values (b ∷ bytes) whole → whole ≡ Ok (values, bytes)
at_close values b bytes whole e left =
    close_by left.most values bytes whole left.enough
    (ap (λ c. with_values values (more_at left.most (c ∷ bytes))) (sym e) ∙ left.is)

pub at_end : (values : List Value) (whole : Read (List Value)) → Left values [] whole → whole ≡ Err Misfit
at_end values whole left = sym left.is ∙ ap (with_values values) (ended left.most)

fault_by : (most : ℕ) (values : List Value) (b : ℕ) (bytes : List ℕ) (whole : Read (List Value)) (fault : LineFault)
    → length (b ∷ bytes) ≤ most → eqb b 41 ≡ false → divided_at (b ∷ bytes) ≡ Err fault
    → with_values values (more_at most (b ∷ bytes)) ≡ whole → whole ≡ Err fault
fault_by zero values b bytes whole fault le e h is = absurd (omega arith)
fault_by (suc n) values b bytes whole fault le e h is =
    sym is ∙ ap (with_values values) (goes n b bytes e
    ∙ ap (λ r. r >>= λ value. with_value value.0 (more_at n value.1)) h)

pub at_fault : (values : List Value) (b : ℕ) (bytes : List ℕ) (whole : Read (List Value)) (fault : LineFault)
    → eqb b 41 ≡ false → divided_at (b ∷ bytes) ≡ Err fault → Left values (b ∷ bytes) whole → whole ≡ Err fault
at_fault values b bytes whole fault e h left =
    fault_by left.most values b bytes whole fault left.enough e h left.is

value_by : (most : ℕ) (values : List Value) (b : ℕ) (bytes next : List ℕ) (value : Value) (whole : Read (List Value))
    → length (b ∷ bytes) ≤ most → eqb b 41 ≡ false → divided_at (b ∷ bytes) ≡ Ok (value, next)
    → length next < length (b ∷ bytes)
    → with_values values (more_at most (b ∷ bytes)) ≡ whole → Left (values ++ value ∷ []) next whole
value_by zero values b bytes next value whole le e h shorter is = absurd (omega arith)
value_by (suc n) values b bytes next value whole le e h shorter is = record {
  most = n;
  enough = omega arith;
  is = sym (with_values_more values value (more_at n next))
      ∙ ap (with_values values)
      (ap (λ r. r >>= λ value. with_value value.0 (more_at n value.1)) (sym h) ∙ sym (goes n b bytes e))
      ∙ is;
}

pub at_value : (values : List Value) (b : ℕ) (bytes next : List ℕ) (value : Value) (whole : Read (List Value))
    → eqb b 41 ≡ false → divided_at (b ∷ bytes) ≡ Ok (value, next) → length next < length (b ∷ bytes)
    → Left values (b ∷ bytes) whole → Left (values ++ value ∷ []) next whole
at_value values b bytes next value whole e h shorter left =
    value_by left.most values b bytes next value whole left.enough e h shorter left.is

-- ---- the same of a list whose first byte is looked at

first_left : (first : Value) (read : Read (List Value)) → with_values (first ∷ []) read ≡ with_value first read
first_left first (Ok x) = refl
first_left first (Err fault) = refl

pub begins_left : (first : Value) (before items : List Value) (bytes : List ℕ) → before ≡ []
    → items ≡ before ++ first ∷ [] → Left items bytes (with_value first (more_at (length bytes) bytes))
begins_left first before items bytes none e = record {
  most = length bytes;
  enough = omega arith;
  is = ap (λ values. with_values values (more_at (length bytes) bytes)) (e ∙ ap (λ xs. xs ++ first ∷ []) none)
      ∙ first_left first (more_at (length bytes) bytes);
}

pub on_close : (values : List Value) (rest next : List ℕ) (whole : Read (List Value)) → 0 < length rest
    → get_or rest 0 0 ≡ 41 → next ≡ drop 1 rest → Left values rest whole → whole ≡ Ok (values, next)
on_close values [] next whole some e is left = absurd (omega arith)
on_close values (b ∷ bytes) next whole some e is left =
    at_close values b bytes whole e left ∙ ap (list_read values) (sym is)

pub on_end : (values : List Value) (rest : List ℕ) (whole : Read (List Value)) → (0 < length rest → ⊥)
    → Left values rest whole → whole ≡ Err Misfit
on_end values [] whole none left = at_end values whole left
on_end values (b ∷ bytes) whole none left = absurd (none (omega arith))

pub on_refusal : (refusal : Refusal LineFault) (values : List Value) (rest : List ℕ) (whole : Read (List Value))
    → 0 < length rest → (get_or rest 0 0 ≡ 41 → ⊥) → Refuses refusal (divided_at rest) → Left values rest whole
    → Refuses refusal whole
on_refusal Memory values rest whole some e h left = tt
on_refusal (Fault fault) values [] whole some e h left = absurd (omega arith)
on_refusal (Fault fault) values (b ∷ bytes) whole some e h left =
    at_fault values b bytes whole fault (ne_eqb b 41 e) h left

pub on_value : (values items : List Value) (rest next : List ℕ) (value : Value) (whole : Read (List Value))
    → 0 < length rest → (get_or rest 0 0 ≡ 41 → ⊥) → divided_at rest ≡ Ok (value, next)
    → items ≡ values ++ value ∷ [] → Left values rest whole → Left items next whole
on_value values items [] next value whole some e h pushed left = absurd (omega arith)
on_value values items (b ∷ bytes) next value whole some e h pushed left =
    subst (λ all. Left all next whole) (sym pushed)
    (at_value values b bytes next value whole (ne_eqb b 41 e) h (divided_shorter (b ∷ bytes) next value h) left)

-- ---- what is read is written so

abbrev pub AreValues : List Value → Type 0
AreValues = AllByRecursion IsValue

abbrev MoreStands : List ℕ → List Value → List ℕ → Type 0
MoreStands bytes values rest = (bytes ≡ more_text values ++ 41 ∷ rest) × AreValues values

no_more : (bytes rest : List ℕ) (values : List Value) → more_at zero bytes ≡ list_read values rest → ⊥
unfolding more_at
no_more bytes rest values h = cc

no_end : (n : ℕ) (rest : List ℕ) (values : List Value) → more_at (suc n) [] ≡ list_read values rest → ⊥
unfolding more_at
no_end n rest values h = cc

more_found_by : (n b : ℕ) (bytes rest : List ℕ) (values : List Value) (t : Bool) → eqb b 41 ≡ t
    → more_at (suc n) (b ∷ bytes) ≡ Ok (values, rest)
    → ((next left : List ℕ) (others : List Value) → more_at n next ≡ Ok (others, left) → MoreStands next others left)
    → MoreStands (b ∷ bytes) values rest
more_found_by n b bytes rest values true e h rec =
    let is = eqb-true b 41 e in
    let k : list_read [] bytes ≡ list_read values rest =
    sym (closed n bytes) ∙ ap (λ c. more_at (suc n) (c ∷ bytes)) (sym is) ∙ h in
    let nothing : [] ≡ values = is_first [] values bytes rest k in
    let left : bytes ≡ rest = is_rest [] values bytes rest k in (
      (λ i. is i ∷ left i) ∙ ap (λ all. more_text all ++ 41 ∷ rest) nothing,
      subst AreValues nothing tt,
    )
more_found_by n b bytes rest values false e h rec =
    let found = bind_ok (divided_at (b ∷ bytes)) (λ value. with_value value.0 (more_at n value.1)) (values, rest)
    (sym (goes n b bytes e) ∙ h) in
    let value = found.0.0 in
    let more = bind_ok (more_at n found.0.1) (λ more. list_read (value ∷ more.0) more.1) (values, rest) found.2 in
    let all : value ∷ more.0.0 ≡ values = is_first (value ∷ more.0.0) values more.0.1 rest more.2 in
    let left : more.0.1 ≡ rest = is_rest (value ∷ more.0.0) values more.0.1 rest more.2 in
    let one = divided_found (b ∷ bytes) found.0.1 value found.1 in
    let others = rec found.0.1 more.0.1 more.0.0 more.1 in (
      one.0
          ∙ ap (λ behind. codes ", " ++ (value_text value ++ behind))
          (others.0 ∙ ap (λ r. more_text more.0.0 ++ 41 ∷ r) left)
          ∙ ap (λ r. codes ", " ++ r) (sym (append_assoc (value_text value) (more_text more.0.0) (41 ∷ rest)))
          ∙ ap (λ vs. more_text vs ++ 41 ∷ rest) all,
      subst AreValues all (one.1, others.1),
    )

more_found : (most : ℕ) (bytes rest : List ℕ) (values : List Value) → more_at most bytes ≡ Ok (values, rest)
    → MoreStands bytes values rest
more_found zero bytes rest values h = absurd (no_more bytes rest values h)
more_found (suc n) [] rest values h = absurd (no_end n rest values h)
more_found (suc n) (b ∷ bytes) rest values h =
    more_found_by n b bytes rest values (eqb b 41) refl h (more_found n)

pub row_found : (bytes rest : List ℕ) (values : List Value) → row_at bytes ≡ Ok (values, rest)
    → (bytes ≡ row_text values ++ rest) × IsRow values
unfolding row_at
row_found bytes rest values h =
    let inner = bind_ok (behind (codes "(") bytes)
    (λ inner. value_at inner >>= λ first. with_value first.0 (more_at (length first.1) first.1)) (values, rest) h in
    let first = bind_ok (value_at inner.0) (λ first. with_value first.0 (more_at (length first.1) first.1))
    (values, rest) inner.2 in
    let value = first.0.0 in
    let more = bind_ok (more_at (length first.0.1) first.0.1) (λ more. list_read (value ∷ more.0) more.1) (values, rest)
    first.2 in
    let all : value ∷ more.0.0 ≡ values = is_first (value ∷ more.0.0) values more.0.1 rest more.2 in
    let left : more.0.1 ≡ rest = is_rest (value ∷ more.0.0) values more.0.1 rest more.2 in
    let one = value_found inner.0 first.0.1 value first.1 in
    let others = more_found (length first.0.1) first.0.1 more.0.1 more.0.0 more.1 in (
      behind_found (codes "(") bytes inner.0 inner.1
          ∙ ap (λ r. 40 ∷ r)
          (one.0
          ∙ ap (λ behind. value_text value ++ behind) (others.0 ∙ ap (λ r. more_text more.0.0 ++ 41 ∷ r) left)
          ∙ sym (append_assoc (value_text value) (more_text more.0.0) (41 ∷ rest))
          ∙ sym (append_assoc (value_text value ++ more_text more.0.0) (41 ∷ []) rest))
          ∙ ap (λ vs. row_text vs ++ rest) all,
      subst IsRow all (not_empty, (one.1, others.1)),
    )
  where
    not_empty : {v : Value} {vs : List Value} → v ∷ vs ≢ []
    not_empty e = cc

-- ---- and back

over_more : (values : List Value) (rest : List ℕ) → IsOver (more_text values ++ 41 ∷ rest)
over_more [] rest = refl
over_more (value ∷ values) rest = refl

divided_again : (value : Value) (rest : List ℕ) → IsValue value → IsOver rest
    → divided_at (codes ", " ++ (value_text value ++ rest)) ≡ Ok (value, rest)
unfolding divided_at
divided_again value rest is over =
    ap (λ r. r >>= λ rest. value_at rest) (behind_again (codes ", ") (value_text value ++ rest))
    ∙ value_again value rest is over

more_again : (most : ℕ) (values : List Value) (rest : List ℕ) → AreValues values
    → length (more_text values ++ 41 ∷ rest) ≤ most
    → more_at most (more_text values ++ 41 ∷ rest) ≡ Ok (values, rest)
more_again zero [] rest are le = absurd (omega arith)
more_again (suc n) [] rest are le = closed n rest
more_again zero (value ∷ values) rest are le = absurd (omega arith)
more_again (suc n) (value ∷ values) rest are le =
    let behind = more_text values ++ 41 ∷ rest in
    let regrouped : more_text (value ∷ values) ++ 41 ∷ rest ≡ codes ", " ++ (value_text value ++ behind) =
    ap (λ r. codes ", " ++ r) (append_assoc (value_text value) (more_text values) (41 ∷ rest)) in
    let short : length behind ≤ n =
    omega (arith, le, ap length regrouped, length-append (value_text value) behind) in
    ap (more_at (suc n)) regrouped
    ∙ goes n 44 (32 ∷ (value_text value ++ behind)) refl
    ∙ ap (λ r. r >>= λ value. with_value value.0 (more_at n value.1))
    (divided_again value behind are.0 (over_more values rest))
    ∙ ap (with_value value) (more_again n values rest are.1 short)

row_again_from : (value : Value) (values : List Value) (rest : List ℕ) → AreValues (value ∷ values)
    → row_at (codes "(" ++ (value_text value ++ (more_text values ++ 41 ∷ rest))) ≡ Ok (value ∷ values, rest)
unfolding row_at
row_again_from value values rest are =
    let behind_first = more_text values ++ 41 ∷ rest in
    ap (λ r. r >>= λ inner. value_at inner >>= λ first. with_value first.0 (more_at (length first.1) first.1))
    (behind_again (codes "(") (value_text value ++ behind_first))
    ∙ ap (λ r. r >>= λ first. with_value first.0 (more_at (length first.1) first.1))
    (value_again value behind_first are.0 (over_more values rest))
    ∙ ap (with_value value) (more_again (length behind_first) values rest are.1 (omega arith))

pub row_again : (values : List Value) (rest : List ℕ) → IsRow values
    → row_at (row_text values ++ rest) ≡ Ok (values, rest)
row_again [] rest is = absurd (is.0 refl)
row_again (value ∷ values) rest is =
    ap row_at (ap (λ r. 40 ∷ r)
    (append_assoc (value_text value ++ more_text values) (41 ∷ []) rest
    ∙ append_assoc (value_text value) (more_text values) (41 ∷ rest)))
    ∙ row_again_from value values rest is.1
