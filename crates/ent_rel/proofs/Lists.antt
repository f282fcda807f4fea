-- Lists of rows: what a loop over them has made, and what they have in common with the set of their rows.
use Rattle.std.proofs.Common.{◌≡◌, ℕ, zero, suc, ◌+◌, ◌<◌, Bool, true, false, cond, List, [], ◌∷◌, ◌++◌, length, refl}
use Rattle.std.proofs.Common.{inl, inr, sym, ap, subst, ◌∙◌, arith, get_or, take, append-nil}
use Rattle.std.specs.Prelude.{Result, Ok, Err, IsTrue, All, ◌||◌}
use Rattle.std.specs.List.{filter, list_any, Contains}
use Rattle.std.specs.Ordering.{eq_by_cmp}
use Rattle.std.specs.Cmp.{Equal-is}
use Rattle.std.proofs.lemmas.List.{take_more}
use Rattle.std.proofs.lemmas.List.Elements.{filter_more, All-append, All-take, All-contains, All-contains_itself}
use Rattle.std.proofs.lemmas.Map.Views.{Contains-from_any, list_any-from_Contains}
use denote.Param.Members.{Shared}
use denote.Ref.{Bor}
use Rattle.ent_lists.specs.Sets as set
use Rattle.ent_lists.specs.Laws.{same_set, contains-from_list, contains-insert_all}
use Rattle.ent_value.specs.declared.value.Value.{Value}
use Rattle.ent_value.specs.declared.value.Kind.{Kind}
use Rattle.ent_value.specs.Value.{row_cmp, kinds_of}
use Rattle.ent_value.specs.Order.{rows_total, exact_rows, rows_equal}
use Rattle.ent_rel.specs.Relation.{RowSet, HaveKinds}
use Rattle.ent_value.specs.Refusal.{◌>>=◌}
use Rattle.ent_rel.specs.Change.{images_of}
use Rattle.ent_rel.specs.Part.{IsPart}
use Rattle.ent_rel.specs.Closure.{Answers, Computes, KeepsKinds, Tells}
use Rattle.ent_rel.proofs.Parts.{part_all}

kept_or_not : {X : Type 0} (b : Bool) (kept : List X) (x : X)
    → cond b (kept ++ x ∷ []) kept ≡ kept ++ cond b (x ∷ []) []
kept_or_not true kept x = refl
kept_or_not false kept x = sym (append-nil kept)

-- one more element of a list that a filter goes over
pub filter_step : {X : Type 0} (p : X → Bool) (xs kept next : List X) (i : ℕ) (x : X) → i < length xs
    → x ≡ get_or xs i x → kept ≡ filter p (take i xs) → next ≡ cond (p x) (kept ++ x ∷ []) kept
    → next ≡ filter p (take (i + 1) xs)
filter_step p xs kept next i x h is so e =
    e ∙ kept_or_not (p x) kept x ∙ ap (λ k. k ++ cond (p x) (x ∷ []) []) so
    ∙ ap (λ y. filter p (take i xs) ++ cond (p y) (y ∷ []) []) is ∙ sym (filter_more p xs i x h)

pub images_more : {E : Type 0} (image : List Value → Result (List Value) E) (rows images : List (List Value))
    (row new : List Value) → images_of image rows ≡ Ok images → image row ≡ Ok new
    → images_of image (rows ++ row ∷ []) ≡ Ok (images ++ new ∷ [])
images_more image [] images row new so one =
    let none : [] ≡ images = cc in
    ap (λ r. r >>= λ x. Ok (x ∷ [])) one ∙ ap (λ xs. Ok (xs ++ new ∷ [])) none
images_more {E} image (x ∷ rows) images row new so one = by (image x) (images_of image rows) refl refl so
    (λ ys f. images_more image rows ys row new f one)
  where
    by : (first : Result (List Value) E) (others : Result (List (List Value)) E) → image x ≡ first
        → images_of image rows ≡ others → (first >>= λ y. others >>= λ ys. Ok (y ∷ ys)) ≡ Ok images
        → ((ys : List (List Value)) → images_of image rows ≡ Ok ys
        → images_of image (rows ++ row ∷ []) ≡ Ok (ys ++ new ∷ []))
        → images_of image (x ∷ rows ++ row ∷ []) ≡ Ok (images ++ new ∷ [])
    by (Ok y) (Ok ys) e f h later =
        let is : y ∷ ys ≡ images = cc in
        (λ i. e i >>= λ y. later ys f i >>= λ zs. Ok (y ∷ zs)) ∙ ap (λ zs. Ok (zs ++ new ∷ [])) is
    by (Ok y) (Err fault) e f h later = absurd cc
    by (Err fault) others e f h later = absurd cc

-- the first row that has no image tells its fault
pub images_fault : {E : Type 0} (image : List Value → Result (List Value) E) (rows images : List (List Value))
    (i : ℕ) (row : List Value) (fault : E) → i < length rows → row ≡ get_or rows i row → image row ≡ Err fault
    → images_of image (take i rows) ≡ Ok images → images_of image rows ≡ Err fault
images_fault image [] images i row fault lt is one so = absurd (omega arith)
images_fault image (x ∷ rows) images zero row fault lt is one so = ap
    (λ r. r >>= λ y. images_of image rows >>= λ ys. Ok (y ∷ ys)) (ap image (sym is) ∙ one)
images_fault {E} image (x ∷ rows) images (suc i) row fault lt is one so = by (image x) (images_of image
    (take i rows)) refl refl so (λ ys f. images_fault image rows ys i row fault (omega arith) is one f)
  where
    by : (first : Result (List Value) E) (others : Result (List (List Value)) E) → image x ≡ first
        → images_of image (take i rows) ≡ others → (first >>= λ y. others >>= λ ys. Ok (y ∷ ys)) ≡ Ok images
        → ((ys : List (List Value)) → images_of image (take i rows) ≡ Ok ys → images_of image rows ≡ Err fault)
        → images_of image (x ∷ rows) ≡ Err fault
    by (Ok y) (Ok ys) e f h later = λ j. e j >>= λ y. later ys f j >>= λ zs. Ok (y ∷ zs)
    by (Ok y) (Err other) e f h later = absurd cc
    by (Err other) others e f h later = absurd cc

pub images_refused : {E : Type 0} (excused : E → Bool) (image : List Value → Result (List Value) E)
    (rows images : List (List Value)) (i : ℕ) (row : List Value) (error : E) → i < length rows → row ≡ get_or rows i row
    → Tells excused error (image row) → images_of image (take i rows) ≡ Ok images
    → Tells excused error (images_of image rows)
images_refused excused image rows images i row error lt is (inl excuse) so = inl excuse
images_refused excused image rows images i row error lt is (inr told) so =
    inr (images_fault image rows images i row error lt is told so)

-- one more row with its image
pub images_step : {E : Type 0} (image : List Value → Result (List Value) E) (rows images : List (List Value)) (i : ℕ)
    (row new : List Value) → i < length rows → row ≡ get_or rows i row → image row ≡ Ok new
    → images_of image (take i rows) ≡ Ok images → images_of image (take (i + 1) rows) ≡ Ok (images ++ new ∷ [])
images_step image rows images i row new lt is one so =
    ap (images_of image) (take_more rows i row lt ∙ ap (λ y. take i rows ++ y ∷ []) (sym is))
    ∙ images_more image (take i rows) images row new so one

-- an element of a list is in the set of its elements
pub there : (rows : List (List Value)) (row : List Value) → Contains rows row
    → IsTrue (set.contains (set.from_list {R = row_cmp} rows) row)
there rows row here = contains-from_list rows_total exact_rows rows row
    ∙ list_any-from_Contains rows_equal row rows here

pub listed : (rows : List (List Value)) (i : ℕ) (x : List Value) → i < length rows → x ≡ get_or rows i x
    → IsTrue (set.contains (set.from_list {R = row_cmp} rows) x)
listed rows i x h is = there rows x (i, h, sym is)

pub same_rows : (x y : List Value) → eq_by_cmp row_cmp x y ≡ true → x ≡ y
same_rows x y h = exact_rows x y ((Equal-is (row_cmp x y)).0 h)

-- and the set has no other element
pub from_there : (rows : List (List Value)) (row : List Value)
    → IsTrue (set.contains (set.from_list {R = row_cmp} rows) row) → Contains rows row
from_there rows row here = Contains-from_any same_rows row rows (sym
    (contains-from_list rows_total exact_rows rows row) ∙ here)

-- the rows of a set have these kinds where those of a list of it do
pub have_kinds : (kinds : List Kind) (rows : List (List Value)) → All (λ row. kinds_of row ≡ kinds) rows
    → HaveKinds kinds (set.from_list rows)
have_kinds kinds rows all row here = All-contains (λ row. kinds_of row ≡ kinds) rows row all (from_there rows row here)

-- what is taken from a list was there
pub taken_there : (rows taken : List (List Value)) (row : List Value) → All (Contains rows) taken
    → IsTrue (set.contains (set.from_list {R = row_cmp} taken) row)
    → IsTrue (set.contains (set.from_list {R = row_cmp} rows) row)
taken_there rows taken row all here = there rows row (All-contains (Contains rows) taken row all
    (from_there taken row here))

-- what a closure does on the rows of a set, it does on those of a list that was taken from it
module _ {F E : Type 0} (calls : Shared F (Bor (List Value) × Unit {0}) (Result (List Value) E)) (closure : F)
    (rows taken : List (List Value)) (s : RowSet) (view : set.from_list rows ≡ s) (all : All
    (Contains rows) taken) where
  found : (row : List Value) → IsTrue (set.contains (set.from_list {R = row_cmp} taken) row)
      → IsTrue (set.contains s row)
  found row here = ap (λ t. set.contains t row) (sym view) ∙ taken_there rows taken row all here

  pub taken_answers : (excused : E → Bool) (image : List Value → Result (List Value) E)
      → Answers calls closure s excused image → Answers calls closure (set.from_list taken) excused image
  taken_answers excused image answers row answer here says = answers row answer (found row here) says

  pub taken_kinds : (kinds : List Kind) → KeepsKinds calls closure s kinds
      → KeepsKinds calls closure (set.from_list taken) kinds
  taken_kinds kinds keeps row answer here says = keeps row answer (found row here) says

-- a list that equals a table's, and one that equals what was taken from it
pub taken_from : (items given taken matched : List (List Value)) → given ≡ items → matched ≡ taken
    → IsPart given taken → IsPart items matched
taken_from items given taken matched same also part =
    let P : List (List Value) → Type 0 = λ xs. IsPart xs taken in
    let Q : List (List Value) → Type 0 = λ xs. IsPart items xs in
    subst Q (sym also) (subst P same part)

pub part_there : (rows part : List (List Value)) → IsPart rows part → All (Contains rows) part
part_there rows part h = part_all (Contains rows) rows part h (All-contains_itself rows)

-- a test that a closure computes on the rows of a set, it computes on those of a list of it
pub computes_listed : {F : Type 0} (calls : Shared F (Bor (List Value) × Unit {0}) Bool) (closure : F)
    (items given : List (List Value)) (s : RowSet) (passes : List Value → Bool) → set.from_list items ≡ s
    → given ≡ items → Computes calls closure s passes → Computes calls closure (set.from_list given) passes
computes_listed calls closure items given s passes view same computes row answer here says =
    computes row answer (sym (ap (λ xs. set.contains (set.from_list {R = row_cmp} xs) row) same
    ∙ ap (λ t. set.contains t row) view) ∙ here) says

any_append : (p : List Value → Bool) (xs ys : List (List Value))
    → list_any p (xs ++ ys) ≡ (list_any p ys || list_any p xs)
any_append p [] ys = sym (or_nothing (list_any p ys))
  where
    or_nothing : (b : Bool) → (b || false) ≡ b
    or_nothing true = refl
    or_nothing false = refl
any_append p (x ∷ xs) ys = ap (λ b. p x || b) (any_append p xs ys) ∙ swapped (p x) (list_any p ys) (list_any p xs)
  where
    swapped : (a b c : Bool) → (a || (b || c)) ≡ (b || (a || c))
    swapped true true c = refl
    swapped true false c = refl
    swapped false b c = refl

-- the set of a list with others behind it
pub from_append : (rows added : List (List Value)) → set.from_list {R = row_cmp} (rows ++ added) ≡ set.insert_all
    (set.from_list rows) added
from_append rows added = same_set rows_total exact_rows _ _ (λ q.
    contains-from_list rows_total exact_rows (rows ++ added) q ∙ any_append (eq_by_cmp row_cmp q) rows added
    ∙ ap (λ b. list_any (eq_by_cmp row_cmp q) added || b) (sym (contains-from_list rows_total exact_rows rows q))
    ∙ sym (contains-insert_all rows_total exact_rows (set.from_list rows) added q))

-- rows that stay and rows that are put in have the table's kinds
pub put_kinds : (kinds own mine : List Kind) (items given kept added put rows : List (List Value)) (i : ℕ)
    → rows ≡ kept ++ take i added → IsPart given kept → given ≡ items → All (λ row. kinds_of row ≡ mine) items
    → kinds ≡ mine → mine ≡ own → added ≡ put → All (λ row. kinds_of row ≡ own) put
    → All (λ row. kinds_of row ≡ kinds) rows
put_kinds kinds own mine items given kept added put rows i e part same fitting is view also all =
    let P : List Value → Type 0 = λ row. kinds_of row ≡ kinds in
    let Q : List (List Value) → Type 0 = λ xs. IsPart xs kept in
    let R : List (List Value) → Type 0 = λ xs. All (λ row. kinds_of row ≡ own) xs in
    let stay : All P kept = λ k d h. All-contains (λ row. kinds_of row ≡ mine) items (get_or kept k d) fitting
    (part_there items kept (subst Q same part) k d h) ∙ sym is in
    let come : All P added = λ k d h. subst R (sym also) all k d h ∙ sym view ∙ sym is in
    rw e (All-append P kept (take i added) stay (All-take P i added come))
