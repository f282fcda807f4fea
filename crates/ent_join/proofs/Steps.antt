-- The steps of a search, over plain lists.
use Rattle.std.proofs.Common.{◌≡◌, ◌≢◌, ◌⊎◌, ℕ, zero, suc, ◌+◌, ◌-◌, ◌<◌, ◌^◌, Bool, true, false, List, [], ◌∷◌, ◌++◌}
use Rattle.std.proofs.Common.{Some}
use Rattle.std.specs.Prelude.{slice_get, slice_index_or}
use Rattle.std.proofs.Common.{length, take, drop, refl, sym, ◌∙◌, ap, subst, inl, inr, arith, append_assoc}
use Rattle.std.proofs.lemmas.Bool.Decides.{nat_tests}
use Rattle.std.specs.Ordering.{ordering_then, ordering_reverse}
use Rattle.std.specs.declared.cmp.Ordering.{Ordering}
use Rattle.std.specs.declared.cmp.Ordering.TheVariants.{Less, Equal, Greater}
use Rattle.std.proofs.lemmas.List.{append-nil, length_push}
use Rattle.std.proofs.Math.Seq.{take-append_seam}
use Rattle.ent_value.specs.Value.{value_cmp, row_cmp}
use Rattle.ent_value.specs.Order.{values_total, exact_values}
use Rattle.ent_value.specs.declared.value.Value.{Value}
use Rattle.ent_join.specs.Cursor.{IsAmong, IsAscending, IsNext}
use Rattle.ent_join.specs.Going.{AreLeft, IsGoing}
use Rattle.ent_join.specs.Search.{IsLeast, NonePasses, IsGuide, IsSearched, NoDeadEnds, AreTicks}
use Rattle.ent_value.specs.Ticks.{ticked}
use Rattle.ent_match.specs.Links.{IsMarked}
use Rattle.ent_join.specs.Reason.{Agrees, AreMarkedIn, IsBegun, IsFollowedFor, IsRefusedFor, Refutes}
use Rattle.ent_join.proofs.Walked.{ascending_right, all_among, among_split}

no_item : (ys : List Value) → length ys ≡ 0 → ys ≡ []
no_item [] e = refl
no_item (y ∷ ys) e = absurd (omega arith)

-- where nothing is left to choose, the beginning is what passes
pub search_ends : (passes : List Value → Bool) (left : ℕ) (old : List Value) (marks : List Bool) → left ≡ 0
    → passes old ≡ true → IsSearched passes left old old marks true
search_ends passes left old marks z e = (
  [],
  sym (append-nil old),
  record {
    width = sym z;
    passing = ap passes (append-nil old) ∙ e;
    least = λ ys l h g.
        let none : ys ≡ [] = no_item ys (l ∙ z) in
        let f : row_cmp [] [] ≡ Less = ap (λ zs. row_cmp zs []) (sym none) ∙ g in
        cc;
  },
)

-- a beginning that doesn't pass goes on as nothing that does
pub search_is_dropped : (candidates : List Value → List Value) (passes : List Value → Bool) (count left : ℕ)
    (old : List Value) (marks : List Bool)
    → IsGuide count candidates passes → IsRefusedFor passes old marks → IsSearched passes left old old marks false
search_is_dropped candidates passes count left old marks guide refused = (
  refl,
  (λ front rest l w agree h.
      let k : passes front ≡ true = guide.kept front rest h in
      let f : passes front ≡ false = refused front l agree in
      cc),
)

-- the lists that go on with one value more
pub moved : (old pushed : List Value) (value : Value) → pushed ≡ old ++ value ∷ []
    → (rest : List Value) → pushed ++ rest ≡ old ++ value ∷ rest
moved old pushed value push rest = ap (λ zs. zs ++ rest) push ∙ append_assoc old (value ∷ []) rest

pub value_cmp-self : (v : Value) → value_cmp v v ≡ Equal
value_cmp-self v = own_reverse (value_cmp v v) (values_total.antisymm v v)
  where
    own_reverse : (o : Ordering) → o ≡ ordering_reverse o → o ≡ Equal
    own_reverse Less e = cc
    own_reverse Equal e = e
    own_reverse Greater e = cc

least_of_head : (v : Value) (others : List Value) (y : Value) → IsAscending (v ∷ others) → IsAmong y (v ∷ others)
    → value_cmp v y ≢ Greater
least_of_head v others y h (inl e) = λ g.
    let s : value_cmp v v ≡ Greater = ap (value_cmp v) e ∙ g in
    let t : value_cmp v v ≡ Equal = value_cmp-self v in
    cc
least_of_head v others y h (inr a) = all_among (λ w. value_cmp v w ≢ Greater) others y h.0 a

-- a list whose first value isn't less, and whose rest isn't where the first is the same, isn't less
not_less : (o : Ordering) (y v : Value) (ys rest : List Value) → value_cmp y v ≡ o → value_cmp v y ≢ Greater
    → (y ≡ v → row_cmp ys rest ≢ Less) → ordering_then o (row_cmp ys rest) ≢ Less
not_less Less y v ys rest e h k = λ _. h (values_total.antisymm v y ∙ ap ordering_reverse e)
not_less Equal y v ys rest e h k = k (exact_values y v e)
not_less Greater y v ys rest e h k = λ f. cc

-- what goes on with the first value that can is least
pub least_with : (passes : List Value → Bool) (count left less : ℕ) (old pushed remaining after rest : List Value)
    (value : Value)
    → left ≡ less + 1 → count ≡ length old + left → pushed ≡ old ++ value ∷ []
    → IsAscending remaining
    → ((y : Value) (ys : List Value) → length old + (1 + length ys) ≡ count → passes (old ++ y ∷ ys) ≡ true
    → IsAmong y remaining)
    → IsNext remaining after value
    → IsLeast less (λ ys. passes (pushed ++ ys)) rest
    → IsLeast left (λ ys. passes (old ++ ys)) (value ∷ rest)
least_with passes count left less old pushed remaining after rest value e c push ascending complete next found =
    record {
      width = let w = found.width in omega arith;
      passing = ap passes (sym (moved old pushed value push rest)) ∙ found.passing;
      least = leasts;
    }
  where
    leasts : (ys : List Value) → length ys ≡ left → passes (old ++ ys) ≡ true → row_cmp ys (value ∷ rest) ≢ Less
    leasts [] l pass g = omega arith
    leasts (y ∷ ys) l pass g =
        let among : IsAmong y (value ∷ (next.same ++ after)) =
        subst (IsAmong y) next.are (complete y ys (omega arith) pass) in
        let up : IsAscending (value ∷ (next.same ++ after)) = subst IsAscending next.are ascending in
        let ways : y ≡ value → row_cmp ys rest ≢ Less =
        λ is. found.least ys (omega arith)
        (ap passes (moved old pushed value push ys ∙ ap (λ z. old ++ z ∷ ys) (sym is)) ∙ pass) in
        not_less (value_cmp y value) y value ys rest refl
        (least_of_head value (next.same ++ after) y up among) ways g

-- the same, as the search says it
pub searched_with : (passes : List Value → Bool) (count left less : ℕ)
    (old pushed remaining after new : List Value) (marks reason found : List Bool) (value : Value) (b : Bool)
    → left ≡ less + 1 → count ≡ length old + left → pushed ≡ old ++ value ∷ []
    → IsAscending remaining
    → AreLeft passes count old marks remaining
    → IsNext remaining after value
    → b ≡ true
    → IsSearched passes less pushed new reason b
    → IsSearched passes left old new found true
searched_with passes count left less old pushed remaining after new marks reason out value true e c push ascending
    complete next is found = (
      value ∷ found.0,
      found.1 ∙ moved old pushed value push found.0,
      least_with passes count left less old pushed remaining after found.0 value e c push ascending
          (λ y ys l p. complete old y ys refl l (λ k h m. refl) p) next found.2,
    )
searched_with passes count left less old pushed remaining after new marks reason out value false e c push ascending
    complete next is found = cc

pub searched_none : (passes : List Value → Bool) (left : ℕ) (old new : List Value) (marks : List Bool) (b : Bool)
    → b ≡ false → IsSearched passes left old new marks b
    → (new ≡ old) × Refutes (length old + left) passes old marks
searched_none passes left old new marks true e found = cc
searched_none passes left old new marks false e found = found

-- ---- reasons

lower_or_same : (a b : ℕ) → a < b + 1 → (a < b) ⊎ (a ≡ b)
lower_or_same a b h = grind arith

pub get_before : {X : Type 0} (xs ys : List X) (i : ℕ) → i < length xs → slice_get (xs ++ ys) i ≡ slice_get xs i
get_before [] ys i h = absurd (omega arith)
get_before (x ∷ xs) ys zero h = refl
get_before (x ∷ xs) ys (suc i) h = get_before xs ys i (omega arith)

pub get_seam : {X : Type 0} (xs ys : List X) (x : X) (n : ℕ) → n ≡ length xs → slice_get (xs ++ x ∷ ys) n ≡ Some x
get_seam [] ys x n e = ap (slice_get (x ∷ ys)) e
get_seam (z ∷ xs) ys x zero e = absurd (omega arith)
get_seam (z ∷ xs) ys x (suc n) e = get_seam xs ys x n (omega arith)

pub agrees_pushed : (marks : List Bool) (old pushed front : List Value) (value next : Value)
    → pushed ≡ old ++ value ∷ [] → length front ≡ length old
    → Agrees marks old front
    → (IsMarked marks (length old) → next ≡ value)
    → Agrees marks pushed (front ++ next ∷ [])
agrees_pushed marks old pushed front value next push l agree here k h m =
    elim (lower_or_same k (length old) (omega (arith, ap length push, length_push old value))) [
      | inl less ↦ get_before front (next ∷ []) k (omega arith) ∙ (agree k less m
          ∙ sym (ap (λ zs. slice_get zs k) push ∙ get_before old (value ∷ []) k less))
      | inr e ↦ get_seam front [] next k (omega arith)
          ∙ (ap Some (here (subst (IsMarked marks) e m))
          ∙ sym (ap (λ zs. slice_get zs k) push ∙ get_seam old [] value k e))
    ]

agrees_fewer : (some all : List Bool) (old front : List Value) → AreMarkedIn some all → Agrees all old front
    → Agrees some old front
agrees_fewer some all old front are agree k h m = agree k h (are k m)

-- the jump: where the last place of a beginning isn't marked, what comes before it is refuted
pub jumped : (count left less : ℕ) (passes : List Value → Bool) (marks : List Bool) (old pushed : List Value)
    (value : Value)
    → left ≡ less + 1 → count ≡ length old + left → pushed ≡ old ++ value ∷ []
    → slice_index_or marks (length old) false ≡ false
    → Refutes (length pushed + less) passes pushed marks
    → Refutes count passes old marks
jumped count left less passes marks old pushed value e c push free refuted front [] l w agree pass = omega arith
jumped count left less passes marks old pushed value e c push free refuted front (y ∷ ys) l w agree pass =
    refuted (front ++ y ∷ []) ys
    (length_push front y ∙ (ap (λ n. n + 1) l ∙ sym (ap length push ∙ length_push old value)))
    (let k : length (front ++ y ∷ []) ≡ length front + 1 = length_push front y in
    let p : length pushed ≡ length old + 1 = ap length push ∙ length_push old value in
    omega arith)
    (agrees_pushed marks old pushed front value y push l agree (λ m. cc))
    (ap passes (append_assoc front (y ∷ []) ys) ∙ pass)

-- before the first value, each one is left with which a list that passes goes on
pub left_first : (candidates : List Value → List Value) (passes : List Value → Bool) (count : ℕ) (old : List Value)
    (marks : List Bool)
    → IsGuide count candidates passes → IsFollowedFor candidates old marks
    → AreLeft passes count old marks (candidates old)
left_first candidates passes count old marks guide followed front value rest l w agree pass =
    subst (IsAmong value) (followed front l agree) (guide.complete front value rest w pass)

-- one value further
pub left_after : (passes : List Value → Bool) (count : ℕ) (old pushed remaining after : List Value)
    (before reason both : List Bool) (value : Value)
    → pushed ≡ old ++ value ∷ []
    → AreMarkedIn before both → AreMarkedIn reason both
    → IsNext remaining after value
    → Refutes count passes pushed reason
    → AreLeft passes count old before remaining
    → AreLeft passes count old both after
left_after passes count old pushed remaining after before reason both value push all_before all_reason next refuted left
    front y ys l w agree pass =
    by (subst (IsAmong y) next.are (left front y ys l w (agrees_fewer before both old front all_before agree) pass))
  where
    not_here : value ≡ y → ⊥
    not_here is = refuted (front ++ y ∷ []) ys
        (length_push front y ∙ (ap (λ n. n + 1) l ∙ sym (ap length push ∙ length_push old value)))
        (let k : length (front ++ y ∷ []) ≡ length front + 1 = length_push front y in omega arith)
        (agrees_pushed reason old pushed front value y push l (agrees_fewer reason both old front all_reason agree)
        (λ m. sym is))
        (ap passes (append_assoc front (y ∷ []) ys) ∙ pass)

    by : IsAmong y (value ∷ (next.same ++ after)) → IsAmong y after
    by (inl is) = absurd (not_here is)
    by (inr more) =
        elim (among_split next.same after y more) [
          | inl here ↦ absurd (not_here (sym (all_among (λ w. w ≡ value) next.same y next.all_same here)))
          | inr there ↦ there
        ]

-- where no value is left, the marked places are why
pub exhausted : (passes : List Value → Bool) (count left less : ℕ) (old remaining : List Value)
    (marks reason : List Bool)
    → left ≡ less + 1 → count ≡ length old + left → remaining ≡ []
    → AreMarkedIn marks reason
    → AreLeft passes count old marks remaining
    → Refutes count passes old reason
exhausted passes count left less old remaining marks reason e c empty all complete front [] l w agree pass = omega arith
exhausted passes count left less old remaining marks reason e c empty all complete front (y ∷ ys) l w agree pass =
    subst (IsAmong y) empty
    (complete front y ys l (omega arith) (agrees_fewer marks reason old front all agree) pass)

none_passes : (passes : List Value → Bool) (count less : ℕ) (pushed : List Value) (marks : List Bool)
    → count ≡ length pushed + less → Refutes count passes pushed marks
    → NonePasses less (λ ys. passes (pushed ++ ys))
none_passes passes count less pushed marks c refuted ys l pass =
    refuted pushed ys refl (omega arith) (λ k h m. refl) pass

-- nothing passes where what comes before the first value is refuted
pub none_of_all : (passes : List Value → Bool) (count : ℕ) (old : List Value) (marks : List Bool) → old ≡ []
    → Refutes (length old + count) passes old marks → NonePasses count passes
none_of_all passes count old marks e refuted values l pass =
    refuted [] values (sym (ap length e)) (let z : length old ≡ 0 = ap length e in omega arith)
    (λ k h m. absurd (let z : length old ≡ 0 = ap length e in omega arith)) pass

-- what comes before the last value of a list that goes on with one more
pub begun_on : (passes : List Value → Bool) (old pushed : List Value) (value : Value) → pushed ≡ old ++ value ∷ []
    → passes old ≡ true → IsBegun passes pushed
begun_on passes old pushed value push pass front last is =
    subst (λ zs. passes zs ≡ true) (same_front old front value last (sym push ∙ is)) pass
  where
    tail_is : (x y : Value) (xs ys : List Value) → x ∷ xs ≡ y ∷ ys → (x ≡ y) × (xs ≡ ys)
    tail_is x y xs ys e = let head : x ≡ y = cc in let tail : xs ≡ ys = cc in (head, tail)

    empty_not : (x y : Value) (ys : List Value) → [] ≡ ys ++ y ∷ [] → ⊥
    empty_not x y [] e = cc
    empty_not x y (z ∷ ys) e = cc

    same_front : (xs ys : List Value) (x y : Value) → xs ++ x ∷ [] ≡ ys ++ y ∷ [] → xs ≡ ys
    same_front [] [] x y e = refl
    same_front [] (w ∷ ys) x y e = absurd (empty_not x y ys (tail_is x w [] (ys ++ y ∷ []) e).1)
    same_front (v ∷ xs) [] x y e = absurd (empty_not y x xs (sym (tail_is v y (xs ++ x ∷ []) [] e).1))
    same_front (v ∷ xs) (w ∷ ys) x y e =
        let t = tail_is v w (xs ++ x ∷ []) (ys ++ y ∷ []) e in
        let rest : xs ≡ ys = same_front xs ys x y t.1 in
        λ i. t.0 i ∷ rest i

pub begun_first : (passes : List Value → Bool) (none : List Value) → none ≡ [] → IsBegun passes none
begun_first passes none e [] last is = absurd (let f : [] ≡ last ∷ [] = sym e ∙ is in cc)
begun_first passes none e (x ∷ front) last is = absurd (let f : [] ≡ x ∷ (front ++ last ∷ []) = sym e ∙ is in cc)

pub ascending_after : (remaining after : List Value) (value : Value) → IsAscending remaining
    → IsNext remaining after value → IsAscending after
ascending_after remaining after value up next =
    let h : IsAscending (value ∷ (next.same ++ after)) = subst IsAscending next.are up in
    ascending_right next.same after h.1

pub pushed_is : (old now pushed : List Value) (v value : Value) → pushed ≡ now ++ v ∷ [] → now ≡ old → v ≡ value
    → pushed ≡ old ++ value ∷ []
pushed_is old now pushed v value p n e = p ∙ (ap (λ vs. vs ++ v ∷ []) n ∙ ap (λ z. old ++ z ∷ []) e)

-- what a pop leaves after a push
pub popped : (old pushed new : List Value) (value : Value) (k : ℕ) → pushed ≡ old ++ value ∷ []
    → k ≡ length pushed → new ≡ take (k - 1) pushed → new ≡ old
popped old pushed new value k push e t =
    let n : k - 1 ≡ length old =
    let l : length pushed ≡ length old + 1 = ap length push ∙ length_push old value in
    omega arith in
    t ∙ (ap (λ j. take j pushed) n ∙ (ap (take (length old)) push ∙ take-append_seam old (value ∷ [])))

-- what is left where the slice of a vector's items is written
pub written : (items new : List Bool) (len : ℕ) → len ≡ length new → take len (new ++ drop (length new) items) ≡ new
written items new len e =
    ap (λ j. take j (new ++ drop (length new) items)) e ∙ take-append_seam new (drop (length new) items)

-- ---- ticks

pub first_among : (remaining after : List Value) (value : Value) → IsNext remaining after value
    → IsAmong value remaining
first_among remaining after value next = subst (IsAmong value) (sym next.are) (inl refl)

-- where each value leads to a list that passes, the first does
pub no_dead_end : (candidates : List Value → List Value) (passes : List Value → Bool) (count left less : ℕ)
    (old pushed remaining after : List Value) (marks : List Bool) (value : Value)
    → left ≡ less + 1 → count ≡ length old + left → pushed ≡ old ++ value ∷ []
    → remaining ≡ candidates old
    → IsNext remaining after value
    → Refutes (length pushed + less) passes pushed marks
    → NoDeadEnds count candidates passes
    → ⊥
no_dead_end candidates passes count left less old pushed remaining after marks value e c push is next refuted ends =
    let way = ends old value (subst (IsAmong value) is (first_among remaining after value next)) in
    none_passes passes (length pushed + less) less pushed marks refl refuted way.0
    (let l : length old + (1 + length way.0) ≡ count = way.1 in omega arith)
    (ap passes (moved old pushed value push way.0) ∙ way.2)

pub pushed_count : (left less : ℕ) (old pushed : List Value) (value : Value)
    → left ≡ less + 1 → pushed ≡ old ++ value ∷ [] → length old + left ≡ length pushed + less
pushed_count left less old pushed value e push =
    let l : length pushed ≡ length old + 1 = ap length push ∙ length_push old value in
    omega arith

pub ends_on : (candidates : List Value → List Value) (passes : List Value → Bool) (left less : ℕ)
    (old pushed : List Value) (value : Value)
    → left ≡ less + 1 → pushed ≡ old ++ value ∷ []
    → NoDeadEnds (length old + left) candidates passes → NoDeadEnds (length pushed + less) candidates passes
ends_on candidates passes left less old pushed value e push ends =
    subst (λ j. NoDeadEnds j candidates passes) (pushed_count left less old pushed value e push) ends

pub guide_on : (candidates : List Value → List Value) (passes : List Value → Bool) (left less : ℕ)
    (old pushed : List Value) (value : Value)
    → left ≡ less + 1 → pushed ≡ old ++ value ∷ []
    → IsGuide (length old + left) candidates passes → IsGuide (length pushed + less) candidates passes
guide_on candidates passes left less old pushed value e push guide =
    subst (λ j. IsGuide j candidates passes) (pushed_count left less old pushed value e push) guide

pub ticked_with : (left less old mid new : ℕ) (b : Bool) → b ≡ true → left ≡ less + 1
    → (old + 1 < 2 ^ 64 → mid ≡ old + 1) → AreTicks less mid new b → old + left < 2 ^ 64 → new ≡ old + left
ticked_with left less old mid new true b e step t bound =
    let m : mid ≡ old + 1 = step (omega arith) in
    t (omega arith) ∙ omega arith
ticked_with left less old mid new false b e step t bound = cc

pub ticked_one : (before after : ℕ) → after ≡ ticked 1 before → before + 1 < 2 ^ 64 → after ≡ before + 1
ticked_one before after e bound = e ∙ grind (arith, nat_tests)

pub ends_first : (candidates : List Value → List Value) (passes : List Value → Bool) (count : ℕ) (none : List Value)
    → none ≡ [] → NoDeadEnds count candidates passes → NoDeadEnds (length none + count) candidates passes
ends_first candidates passes count none e ends =
    let k : count ≡ length none + count = let l : length none ≡ 0 = ap length e in omega arith in
    subst (λ j. NoDeadEnds j candidates passes) k ends

pub ticks_found : (count old new : ℕ) (b : Bool) → b ≡ true → AreTicks count old new b → old + count < 2 ^ 64
    → new ≡ old + count
ticks_found count old new true e t = t
ticks_found count old new false e t = cc

pub ticks_none : (count old new : ℕ) (b : Bool) → b ≡ false → AreTicks count old new b → new ≡ old
ticks_none count old new true e t = cc
ticks_none count old new false e t = t

-- ---- one value further, as the code writes it

pub going_on : (candidates : List Value → List Value) (passes : List Value → Bool) (count left less : ℕ)
    (old pushed mid now remaining after : List Value) (items before reason both : List Bool) (value : Value)
    (len old_ticks ticks new_ticks : ℕ)
    → left ≡ less + 1 → count ≡ length old + left → pushed ≡ old ++ value ∷ []
    → now ≡ old
    → before ≡ items
    → length both ≡ length before
    → len ≡ length items
    → AreMarkedIn before both → AreMarkedIn reason both
    → IsNext remaining after value
    → Refutes (length pushed + less) passes pushed reason
    → IsGoing passes candidates count old mid items remaining old_ticks ticks
    → IsGoing passes candidates count old now (take len (both ++ drop (length both) items)) after old_ticks new_ticks
going_on candidates passes count left less old pushed mid now remaining after items before reason both value len
    old_ticks ticks new_ticks e c push same is long_both long all_before all_reason next refuted going =
    let l : length before ≡ length items = ap length is in
    let w : take len (both ++ drop (length both) items) ≡ both = written items both len (omega arith) in
    let k : count ≡ length pushed + less = c ∙ pushed_count left less old pushed value e push in
    record {
      unchanged = same;
      width = ap length w ∙ (let m = going.width in omega arith);
      ascending = ascending_after remaining after value going.ascending next;
      complete = subst (λ zs. AreLeft passes count old zs after) (sym w)
          (left_after passes count old pushed remaining after before reason both value push all_before all_reason next
          (subst (λ n. Refutes n passes pushed reason) (sym k) refuted)
          (subst (λ zs. AreLeft passes count old zs remaining) (sym is) going.complete));
      first = λ ends. absurd (no_dead_end candidates passes count left less old pushed remaining after reason value e c
          push (going.first ends).0 next refuted ends);
    }

-- ticks that were counted apart, and added
pub ticks_added : (left old begun counted new : ℕ) (b : Bool) → begun ≡ 0 → AreTicks left begun counted b
    → (old + counted < 2 ^ 64 → new ≡ old + counted) → (counted ≡ 0 → new ≡ old) → AreTicks left old new b
ticks_added left old begun counted new true z ticks sum none = λ bound.
    let k : counted ≡ begun + left = ticks (omega arith) in
    sum (omega arith) ∙ omega arith
ticks_added left old begun counted new false z ticks sum none = none (ticks ∙ z)
