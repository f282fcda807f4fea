-- Lists of which a part is in the opposite order, or the first go behind the others.
use Rattle.std.proofs.Common.{◌≡◌, ℕ, suc, ◌+◌, ◌-◌, ◌<◌, ◌≤◌, List, [], ◌∷◌, ◌++◌, length, take, drop, reverse, remove}
use Rattle.std.proofs.Common.{insert, set, swap, get_or, slice_get, slice_range, Some, refl, sym, ap, ◌∙◌, arith}
use Rattle.std.proofs.Common.{nat_eq, append_assoc, drop_at, length-append, length-drop, length-take-le}
use Rattle.std.proofs.Common.{take-append-drop, take_at}
use Rattle.std.proofs.lemmas.List.{append-nil, drop_more, get_or_at, length-reverse, length-take, reverse-append}
use Rattle.std.proofs.lemmas.List.{reverse-reverse, set_at}
use Rattle.std.proofs.lemmas.List.Edits.{insert_end, length-between, split_between, swap_is}
use Rattle.std.proofs.lemmas.List.Folds.{drop_split}
use Rattle.std.proofs.lemmas.List.Sorted.{IsPermutation-trans}
use Rattle.std.proofs.lemmas.Option.{slice_get-get_or}
use Rattle.std.specs.Option.{option_map_or}
use Rattle.indexmap.specs.IndexMap.{IndexMap, IsReordered, move_index}
use Rattle.ent_members.specs.TransactionOrder.{first_behind, part_reversed}

module _ {X : Type 0} where
  -- ---- lists in parts

  swap_parts : (front mid back : List X) (x y : X) (i j : ℕ) → i ≡ length front → j ≡ suc (length front + length mid)
      → swap (front ++ x ∷ (mid ++ y ∷ back)) i j ≡ front ++ y ∷ (mid ++ x ∷ back)
  swap_parts front mid back x y i j at to =
      let all : List X = front ++ x ∷ (mid ++ y ∷ back) in
      let long : length (front ++ x ∷ mid) ≡ j = length-append front (x ∷ mid) ∙ omega (arith, to) in
      let other : length (front ++ y ∷ mid) ≡ j = length-append front (y ∷ mid) ∙ omega (arith, to) in
      let whole : length all ≡ length front + suc (length mid + suc (length back)) =
      length-append front (x ∷ (mid ++ y ∷ back))
      ∙ ap (λ (n : ℕ). length front + suc n) (length-append mid (y ∷ back)) in
      let here : get_or all i x ≡ x = get_or_at front x (mid ++ y ∷ back) x i (sym at) in
      let there : get_or all j x ≡ y =
      ap (λ (l : List X). get_or l j x) (sym (append_assoc front (x ∷ mid) (y ∷ back)))
      ∙ get_or_at (front ++ x ∷ mid) y back x j long in
      sym (swap_is all i j x (omega (arith, whole, at)) (omega (arith, whole, to)))
      ∙ (λ k. set (set all i (there k)) j (here k))
      ∙ ap (λ (l : List X). set l j x) (set_at front x (mid ++ y ∷ back) y i (sym at))
      ∙ ap (λ (l : List X). set l j x) (sym (append_assoc front (y ∷ mid) (y ∷ back)))
      ∙ set_at (front ++ y ∷ mid) y back x j other
      ∙ append_assoc front (y ∷ mid) (x ∷ back)

  reversed_parts : (front part back : List X) (i j : ℕ) → i ≡ length front → j ≡ length front + length part
      → part_reversed i j (front ++ (part ++ back)) ≡ front ++ (reverse part ++ back)
  reversed_parts front part back i j at to =
      let all : List X = front ++ (part ++ back) in
      let before : take i all ≡ front = take_at front (part ++ back) i (sym at) in
      let within : slice_range all i j ≡ part =
      ap (take (j - i)) (drop_at front (part ++ back) i (sym at)) ∙ take_at part back (j - i) (omega (arith, at, to)) in
      let behind : drop j all ≡ back =
      ap (drop j) (sym (append_assoc front part back))
      ∙ drop_at (front ++ part) back j (length-append front part ∙ sym to) in
      λ k. before k ++ (reverse (within k) ++ behind k)

  move_parts : (front back : List X) (x : X) (i last : ℕ) → i ≡ length front → last ≡ length front + length back
      → move_index (front ++ x ∷ back) i last ≡ front ++ (back ++ x ∷ [])
  move_parts front back x i last at to =
      let all : List X = front ++ x ∷ back in
      let within : i < length all = omega (arith, at, length-append front (x ∷ back)) in
      let here : slice_get all i ≡ Some x =
      slice_get-get_or all i x within ∙ ap Some (get_or_at front x back x i (sym at)) in
      let before : take i all ≡ front = take_at front (x ∷ back) i (sym at) in
      let behind : drop (suc i) all ≡ back =
      ap (drop (suc i)) (sym (append_assoc front (x ∷ []) back))
      ∙ drop_at (front ++ x ∷ []) back (suc i) (length-append front (x ∷ []) ∙ omega (arith, at)) in
      let rest : remove all i ≡ front ++ back = λ k. before k ++ behind k in
      ap (λ o. option_map_or (λ y. insert (remove all i) last y) o all) here
      ∙ ap (λ (l : List X). insert l last x) rest
      ∙ ap (λ (n : ℕ). insert (front ++ back) n x) (to ∙ sym (length-append front back))
      ∙ insert_end (front ++ back) x
      ∙ append_assoc front back (x ∷ [])

  -- where it is known which are the first
  pub behind_parts : (first rest : List X) (n : ℕ) → n ≡ length first
      → first_behind n (first ++ rest) ≡ rest ++ reverse first
  behind_parts first rest n at = λ k. drop_at first rest n (sym at) k ++ reverse (take_at first rest n (sym at) k)

  reversed_ends : (x y : X) (mid : List X) → reverse (x ∷ (mid ++ y ∷ [])) ≡ y ∷ (reverse mid ++ x ∷ [])
  reversed_ends x y mid =
      reverse-append (x ∷ []) (mid ++ y ∷ []) ∙ ap (λ (l : List X). l ++ x ∷ []) (reverse-append mid (y ∷ []))

  in_parts : (xs : List X) (d : X) (low last : ℕ) → low < last → last < length xs
      → xs
      ≡ take low xs ++ get_or xs low d ∷ (slice_range xs (low + 1) last ++ get_or xs last d ∷ drop (last + 1) xs)
  in_parts xs d low last less within =
      sym (take-append-drop low xs)
      ∙ ap (λ (l : List X). take low xs ++ l) (drop_more xs low d (omega (arith, less, within)))
      ∙ ap (λ (l : List X). take low xs ++ get_or xs low d ∷ l)
      (drop_split xs (low + 1) last (omega (arith, less))
      ∙ ap (λ (l : List X). slice_range xs (low + 1) last ++ l) (drop_more xs last d within))

  -- ---- a part is reversed from both ends

  -- where the ends of the part are swapped, the part between them is left
  pub swap_reversed : (xs : List X) (d : X) (low last : ℕ) → low < last → last < length xs
      → part_reversed (low + 1) last (swap xs low last) ≡ part_reversed low (last + 1) xs
  swap_reversed xs d low last less within =
      let front : List X = take low xs in
      let mid : List X = slice_range xs (low + 1) last in
      let back : List X = drop (last + 1) xs in
      let x : X = get_or xs low d in
      let y : X = get_or xs last d in
      let whole : xs ≡ front ++ x ∷ (mid ++ y ∷ back) = in_parts xs d low last less within in
      let long : length front ≡ low = length-take-le low xs (omega (arith, less, within)) in
      let inner : length mid ≡ last - (low + 1) = length-between xs (low + 1) last (omega (arith, within)) in
      let longer : length (front ++ y ∷ []) ≡ low + 1 = length-append front (y ∷ []) ∙ omega (arith, long) in
      let part : length (x ∷ (mid ++ y ∷ [])) ≡ last + 1 - low =
      ap suc (length-append mid (y ∷ [])) ∙ omega (arith, inner, less) in
      let left : part_reversed (low + 1) last (swap xs low last) ≡ (front ++ y ∷ []) ++ (reverse mid ++ x ∷ back) =
      ap (λ (l : List X). part_reversed (low + 1) last (swap l low last)) whole
      ∙ ap (part_reversed (low + 1) last)
      (swap_parts front mid back x y low last (sym long) (omega (arith, long, inner, less))
      ∙ sym (append_assoc front (y ∷ []) (mid ++ x ∷ back)))
      ∙ reversed_parts (front ++ y ∷ []) mid (x ∷ back) (low + 1) last (sym longer)
      (omega (arith, longer, inner, less)) in
      let right : part_reversed low (last + 1) xs ≡ front ++ (reverse (x ∷ (mid ++ y ∷ [])) ++ back) =
      ap (part_reversed low (last + 1))
      (whole ∙ ap (λ (l : List X). front ++ x ∷ l) (sym (append_assoc mid (y ∷ []) back)))
      ∙ reversed_parts front (x ∷ (mid ++ y ∷ [])) back low (last + 1) (sym long) (omega (arith, long, part, less)) in
      left
      ∙ append_assoc front (y ∷ []) (reverse mid ++ x ∷ back)
      ∙ ap (λ (l : List X). front ++ y ∷ l) (sym (append_assoc (reverse mid) (x ∷ []) back))
      ∙ ap (λ (l : List X). front ++ (l ++ back)) (sym (reversed_ends x y mid))
      ∙ sym right

  short_reversed : (xs : List X) → length xs ≤ 1 → reverse xs ≡ xs
  short_reversed [] le = refl
  short_reversed (x ∷ []) le = refl
  short_reversed (x ∷ y ∷ xs) le = absurd (omega (arith, le))

  -- a part of one at most is left as it is
  pub none_reversed : (xs : List X) (low high : ℕ) → low ≤ high → high ≤ low + 1 → part_reversed low high xs ≡ xs
  none_reversed xs low high le few =
      let short : length (slice_range xs low high) ≤ 1 = omega (arith, length-take (high - low) (drop low xs), few) in
      ap (λ (l : List X). take low xs ++ (l ++ drop high xs)) (short_reversed (slice_range xs low high) short)
      ∙ sym (split_between xs low high le)

  -- ---- the first go behind the others

  -- the last of the first goes first, and then the others
  pub each_behind : (xs : List X) (d : X) (start count : ℕ) → 0 < count → start + count ≤ length xs
      → first_behind (count - 1) (drop start (move_index xs (start + count - 1) (length xs - 1)))
      ≡ first_behind count (drop start xs)
  each_behind xs d start count some within =
      let at : ℕ = start + count - 1 in
      let front : List X = take start xs in
      let first : List X = slice_range xs start at in
      let x : X = get_or xs at d in
      let rest : List X = drop (at + 1) xs in
      let long : length front ≡ start = length-take-le start xs (omega (arith, within)) in
      let few : length first ≡ count - 1 =
      length-between xs start at (omega (arith, some, within)) ∙ omega (arith, some) in
      let both : length (front ++ first) ≡ at = length-append front first ∙ omega (arith, long, few, some) in
      let here : drop start xs ≡ first ++ x ∷ rest =
      drop_split xs start at (omega (arith, some))
      ∙ ap (λ (l : List X). first ++ l) (drop_more xs at d (omega (arith, some, within))) in
      let whole : xs ≡ (front ++ first) ++ x ∷ rest =
      sym (take-append-drop start xs) ∙ ap (λ (l : List X). front ++ l) here
      ∙ sym (append_assoc front first (x ∷ rest)) in
      let ended : length xs - 1 ≡ length (front ++ first) + length rest =
      omega (arith, ap length whole, length-append (front ++ first) (x ∷ rest)) in
      let moved : move_index xs at (length xs - 1) ≡ front ++ (first ++ (rest ++ x ∷ [])) =
      ap (λ (l : List X). move_index l at (length xs - 1)) whole
      ∙ move_parts (front ++ first) rest x at (length xs - 1) (sym both) ended
      ∙ append_assoc front first (rest ++ x ∷ []) in
      let left : drop start (move_index xs at (length xs - 1)) ≡ first ++ (rest ++ x ∷ []) =
      ap (drop start) moved ∙ drop_at front (first ++ (rest ++ x ∷ [])) start long in
      ap (first_behind (count - 1)) left
      ∙ behind_parts first (rest ++ x ∷ []) (count - 1) (sym few)
      ∙ append_assoc rest (x ∷ []) (reverse first)
      ∙ ap (λ (l : List X). rest ++ l) (sym (reverse-append first (x ∷ [])))
      ∙ sym (behind_parts (first ++ x ∷ []) rest count
      (omega (arith, some, few, length-append first (x ∷ []))))
      ∙ ap (first_behind count) (append_assoc first (x ∷ []) rest ∙ sym here)

  -- all are reversed, and then the others
  pub reversed_behind : (xs : List X) (start count : ℕ) → start + count ≤ length xs
      → drop start (part_reversed start (length xs - count) (part_reversed start (length xs) xs))
      ≡ first_behind count (drop start xs)
  reversed_behind xs start count within =
      let front : List X = take start xs in
      let first : List X = take count (drop start xs) in
      let rest : List X = drop count (drop start xs) in
      let long : length front ≡ start = length-take-le start xs (omega (arith, within)) in
      let many : length (drop start xs) ≡ length xs - start = length-drop start xs in
      let others : length (reverse rest) ≡ length xs - start - count =
      length-reverse rest ∙ length-drop count (drop start xs) ∙ omega (arith, many) in
      let whole : xs ≡ front ++ (drop start xs ++ []) =
      sym (take-append-drop start xs) ∙ ap (λ (l : List X). front ++ l) (sym (append-nil (drop start xs))) in
      let once : part_reversed start (length xs) xs ≡ front ++ (reverse rest ++ reverse first) =
      ap (part_reversed start (length xs)) whole
      ∙ reversed_parts front (drop start xs) [] start (length xs) (sym long) (omega (arith, long, many, within))
      ∙ ap (λ (l : List X). front ++ l)
      (append-nil (reverse (drop start xs))
      ∙ ap reverse (sym (take-append-drop count (drop start xs))) ∙ reverse-append first rest) in
      ap (λ (l : List X). drop start (part_reversed start (length xs - count) l)) once
      ∙ ap (drop start)
      (reversed_parts front (reverse rest) (reverse first) start (length xs - count) (sym long)
      (omega (arith, long, others, within)))
      ∙ drop_at front (reverse (reverse rest) ++ reverse first) start long
      ∙ ap (λ (l : List X). l ++ reverse first) (reverse-reverse rest)

-- in some order, and in another
pub reordered_again : {S : Type 0} (old mid new : IndexMap ℕ ℕ S) → IsReordered nat_eq old mid
    → IsReordered nat_eq mid new → IsReordered nat_eq old new
reordered_again old mid new one two = (
  IsPermutation-trans old.entries mid.entries new.entries one.0 two.0,
  two.1 ∙ one.1,
  λ k. two.2 k ∙ one.2 k,
)
