-- Lines in front of a text.
use Rattle.std.proofs.Common.{◌≡◌, ◌≢◌, ℕ, suc, ◌+◌, ◌<◌, ◌≤◌, not, List, [], ◌∷◌, ◌++◌, length, Option, Some, None}
use Rattle.std.proofs.Common.{take, drop, refl, ap, sym, ◌∙◌, subst, inl, inr, arith, append_assoc, length-append}
use Rattle.std.specs.Prelude.{IfNone, IfSome, get_or}
use Rattle.std.specs.List.{list_all}
use Rattle.std.specs.Str.{IsCharBoundary, IsUtf8}
use Rattle.std.proofs.lemmas.Bool.{ne_eqb}
use Rattle.std.proofs.lemmas.Str.{IsCharBoundary-at_seam}
use Rattle.std.proofs.lemmas.Str.Pattern.{IsSplitOnceResult, split_parts}
use denote.Ref.{Bor}
use Rattle.ent_lists.specs.Elements.{both_and}
use Rattle.ent_text.specs.Spelling.{is_in_line}
use Rattle.ent_book.specs.Report.{line}
use Rattle.ent_book.specs.Report2.{line_count}
use Rattle.ent_history.specs.Begins.{HasWholeLines}
use Rattle.ent_history.proofs.InLine.{IsInLine}
use Rattle.ent_history.proofs.Lines.{count_append, none_in_line}
use Rattle.ent_report_reader.specs.Lines.{AreFrontLines, IsFirstLine}

-- ---- the first line

no_end_inside : (xs : List ℕ) → ((i : ℕ) → i < length xs → get_or xs i 0 ≢ 10) → IsInLine xs
no_end_inside [] h = refl
no_end_inside (x ∷ xs) h =
    both_and (is_in_line x) (list_all is_in_line xs) (ap not (ne_eqb x 10 (h 0 (omega arith))))
    (no_end_inside xs (λ i low. h (suc i) (omega (arith, low))))

abbrev Split : Type 0
Split = Option (Bor (List ℕ) × Bor (List ℕ))

pub first_some : (text : List ℕ) (r : Split) → IsSplitOnceResult 10 text r
    → IfSome r (λ x. IsFirstLine text x.0.now x.1.now)
first_some text None h = tt
first_some text (Some x) h =
    let parts = split_parts 10 text (Some x) h (omega arith) in
    record {
      parts = parts.0 ∙ sym (append_assoc x.0.now (10 ∷ []) x.1.now);
      in_line = no_end_inside x.0.now parts.1;
    }

pub first_none : (text : List ℕ) (r : Split) → IsSplitOnceResult 10 text r → IfNone r (line_count text ≡ 0)
first_none text None h = none_in_line text (no_end_inside text (split_parts 10 text None h (omega arith)))
first_none text (Some x) h = tt

-- ---- whole lines

pub one_end : (first : List ℕ) → IsInLine first → line_count (line first) ≡ 1
one_end first h =
    let parts = count_append first (10 ∷ []) in
    let none = none_in_line first h in
    let end : line_count (10 ∷ []) ≡ 1 = refl in
    omega (arith, parts, none, end)

-- some whole lines in front, of so many those that are left
pub record SoFar (text : List ℕ) (most left : ℕ) (rest : List ℕ) : Type 0 where
  pub front : List ℕ
  pub parts : text ≡ front ++ rest
  pub whole : HasWholeLines front
  pub counted : line_count front + left ≡ most

pub so_far_first : (text : List ℕ) (most : ℕ) → SoFar text most most text
so_far_first text most =
    let none : line_count [] ≡ 0 = refl in
    record { front = []; parts = refl; whole = inl refl; counted = omega (arith, none) }

pub so_far_next : (text : List ℕ) (most left next : ℕ) (rest first behind : List ℕ) → next + 1 ≡ left
    → IsFirstLine rest first behind → SoFar text most left rest → SoFar text most next behind
so_far_next text most left next rest first behind less is so_far =
    let parts = count_append so_far.front (line first) in
    let one = one_end first is.in_line in
    record {
      front = so_far.front ++ line first;
      parts = so_far.parts ∙ ap (λ r. so_far.front ++ r) is.parts
          ∙ sym (append_assoc so_far.front (line first) behind);
      whole = inr (so_far.front ++ first, sym (append_assoc so_far.front first (10 ∷ [])));
      counted = omega (arith, parts, one, less, so_far.counted);
    }

pub so_far_all : (text : List ℕ) (most left : ℕ) (rest : List ℕ) → left ≡ 0 → SoFar text most left rest
    → (front : List ℕ) × AreFrontLines text most front rest
so_far_all text most left rest none so_far = (
  so_far.front,
  record {
    parts = so_far.parts;
    whole = so_far.whole;
    few = omega (arith, so_far.counted);
    all = inl (omega (arith, so_far.counted, none));
  },
)

pub so_far_end : (text : List ℕ) (most left : ℕ) (rest : List ℕ) → line_count rest ≡ 0 → SoFar text most left rest
    → (front : List ℕ) × AreFrontLines text most front rest
so_far_end text most left rest none so_far = (
  so_far.front,
  record {
    parts = so_far.parts;
    whole = so_far.whole;
    few = omega (arith, so_far.counted);
    all = inr none;
  },
)

pub take_front : (xs ys : List ℕ) → take (length xs) (xs ++ ys) ≡ xs
take_front [] ys = refl
take_front (x ∷ xs) ys = ap (λ r. x ∷ r) (take_front xs ys)

drop_front : (xs ys : List ℕ) → drop (length xs) (xs ++ ys) ≡ ys
drop_front [] ys = refl
drop_front (x ∷ xs) ys = drop_front xs ys

pub cut_at : (text front rest : List ℕ) (at : ℕ) → text ≡ front ++ rest → at + length rest ≡ length text
    → at ≡ length front
cut_at text front rest at is long = omega (arith, long, ap length is, length-append front rest)

pub front_boundary : (text front rest : List ℕ) (at : ℕ) → text ≡ front ++ rest → at + length rest ≡ length text
    → IsUtf8 rest → IsCharBoundary text at
front_boundary text front rest at is long whole =
    subst (IsCharBoundary text) (sym (cut_at text front rest at is long))
    (IsCharBoundary-at_seam text front rest is whole)

pub front_cut : (text front rest one other : List ℕ) (most at : ℕ) → at + length rest ≡ length text
    → one ≡ take at text → other ≡ drop at text → AreFrontLines text most front rest → AreFrontLines text most one other
front_cut text front rest one other most at long taken dropped are =
    let here = cut_at text front rest at are.parts long in
    let first : one ≡ front = taken ∙ (λ i. take (here i) (are.parts i)) ∙ take_front front rest in
    let second : other ≡ rest = dropped ∙ (λ i. drop (here i) (are.parts i)) ∙ drop_front front rest in
    subst (λ f. AreFrontLines text most f other) (sym first)
    (subst (λ r. AreFrontLines text most front r) (sym second) are)

-- ---- two fronts of as many lines

whole_tail : (c : ℕ) (cs : List ℕ) → HasWholeLines (c ∷ cs) → HasWholeLines cs
whole_tail c cs (inl none) = cc
whole_tail c cs (inr whole) = by whole.0 whole.1
  where
    by : (front : List ℕ) → c ∷ cs ≡ line front → HasWholeLines cs
    by [] e = inl cc
    by (f ∷ fs) e = inr (fs, cc)

some_ends : (c : ℕ) (cs : List ℕ) → HasWholeLines (c ∷ cs) → 1 ≤ line_count (c ∷ cs)
some_ends c cs (inl none) = cc
some_ends c cs (inr whole) =
    let same = ap line_count whole.1 in
    let parts = count_append whole.0 (10 ∷ []) in
    let end : line_count (10 ∷ []) ≡ 1 = refl in
    omega (arith, same, parts, end)

pub same_front : (a b x y : List ℕ) → HasWholeLines a → HasWholeLines b → line_count a ≡ line_count b
    → a ++ x ≡ b ++ y → a ≡ b
same_front [] [] x y h k n e = refl
same_front [] (c ∷ b) x y h k n e =
    let some = some_ends c b k in let none : line_count [] ≡ 0 = refl in absurd (omega (arith, some, none, n))
same_front (c ∷ a) [] x y h k n e =
    let some = some_ends c a h in let none : line_count [] ≡ 0 = refl in absurd (omega (arith, some, none, n))
same_front (c ∷ a) (d ∷ b) x y h k n e =
    let first : c ≡ d = cc in
    let one = count_append (c ∷ []) a in
    let two = count_append (d ∷ []) b in
    let heads = ap (λ (z : ℕ). line_count (z ∷ [])) first in
    let more = same_front a b x y (whole_tail c a h) (whole_tail d b k) (omega (arith, one, two, heads, n)) cc in cc
