-- The order of keys is the order of rows.
use Rattle.std.proofs.Common.{◌≡◌, ℕ, ℤ, pos, negsuc, zero, suc, ◌+◌, ◌-◌, ◌*◌, ◌/◌, ◌%◌, ◌^◌, ◌<◌, ◌≤◌, List, [], ◌∷◌}
use Rattle.std.proofs.Common.{◌++◌, FitsSigned, append-nil, sym, refl, ap, ◌∙◌, arith}
use Rattle.std.specs.Int.{w64, bytes_high_first, byte_at}
use Rattle.std.specs.Ordering.{nat_cmp, int_cmp, ordering_then}
use Rattle.std.specs.declared.cmp.Ordering.{Ordering}
use Rattle.std.specs.declared.cmp.Ordering.TheVariants.{Less, Equal, Greater}
use Rattle.std.proofs.lemmas.Cmp.{ranked, by_ranked, tied_itself, nat_list_cmp_total}
use Rattle.std.proofs.lemmas.Bool.Decides.{nat_tests}
use Rattle.std.proofs.lemmas.Nat.{div-add-mod', mod-mul-add, mul-add-lt, mod_below}
use Rattle.std.proofs.Math.Nat.{one-le-pow, pow-succ'}
use Rattle.ent_value.specs.Value.{value_cmp, row_cmp, kind_of, kinds_of}
use Rattle.ent_value.specs.Order.{exact_rows}
use Rattle.ent_value.specs.declared.value.Value.{Value}
use Rattle.ent_value.specs.declared.value.Value.TheVariants.{Int, Text}
use Rattle.ent_page.specs.Key.{lifted, int_key, text_key, value_key, key_of, IsStorable, AreStorable, key_cmp}
use Rattle.ent_page.specs.Written.{text_key-suc}

then_assoc : (o p q : Ordering) → ordering_then o (ordering_then p q) ≡ ordering_then (ordering_then o p) q
then_assoc Less p q = refl
then_assoc Equal p q = refl
then_assoc Greater p q = refl

less : (x y : ℕ) → x < y → nat_cmp x y ≡ Less
less x y h = grind (arith, nat_tests)

greater : (x y : ℕ) → y < x → nat_cmp x y ≡ Greater
greater x y h = grind (arith, nat_tests)

less_first : (a b : ℕ) (s t : List ℕ) → a < b → key_cmp (a ∷ s) (b ∷ t) ≡ Less
less_first a b s t h = ap (λ o. ordering_then o (key_cmp s t)) (less a b h)

greater_first : (a b : ℕ) (s t : List ℕ) → b < a → key_cmp (a ∷ s) (b ∷ t) ≡ Greater
greater_first a b s t h = ap (λ o. ordering_then o (key_cmp s t)) (greater a b h)

-- texts

front_text : (s t x y : List ℕ)
    → key_cmp (text_key s ++ x) (text_key t ++ y) ≡ ordering_then (key_cmp s t) (key_cmp x y)
front_text [] [] x y = refl
front_text [] (zero ∷ t) x y = refl
front_text [] (suc c ∷ t) x y = ap (λ z. key_cmp (0 ∷ 0 ∷ x) (z ++ y)) (text_key-suc c t)
    ∙ less_first 0 (suc c) (0 ∷ x) (text_key t ++ y) (omega arith)
front_text (zero ∷ s) [] x y = refl
front_text (suc b ∷ s) [] x y = ap (λ z. key_cmp (z ++ x) (0 ∷ 0 ∷ y)) (text_key-suc b s)
    ∙ greater_first (suc b) 0 (text_key s ++ x) (0 ∷ y) (omega arith)
front_text (zero ∷ s) (zero ∷ t) x y = front_text s t x y
front_text (zero ∷ s) (suc c ∷ t) x y =
    ap (λ z. key_cmp (0 ∷ 255 ∷ text_key s ++ x) (z ++ y)) (text_key-suc c t)
    ∙ less_first 0 (suc c) (255 ∷ text_key s ++ x) (text_key t ++ y) (omega arith)
    ∙ sym (ap (λ o. ordering_then o (key_cmp x y)) (less_first 0 (suc c) s t (omega arith)))
front_text (suc b ∷ s) (zero ∷ t) x y =
    ap (λ z. key_cmp (z ++ x) (0 ∷ 255 ∷ text_key t ++ y)) (text_key-suc b s)
    ∙ greater_first (suc b) 0 (text_key s ++ x) (255 ∷ text_key t ++ y) (omega arith)
    ∙ sym (ap (λ o. ordering_then o (key_cmp x y)) (greater_first (suc b) 0 s t (omega arith)))
front_text (suc b ∷ s) (suc c ∷ t) x y =
    (λ i. key_cmp (text_key-suc b s i ++ x) (text_key-suc c t i ++ y))
    ∙ ap (ordering_then (nat_cmp (suc b) (suc c))) (front_text s t x y)
    ∙ then_assoc (nat_cmp (suc b) (suc c)) (key_cmp s t) (key_cmp x y)

-- numbers

digit_mod : (n m : ℕ) → 0 < m → n % (256 * m) ≡ (n / m % 256) * m + n % m
digit_mod n m h =
    let low : n % m < m = mod_below n m h in
    let digit : n / m % 256 < 256 = omega arith in
    let e : n ≡ (n / m / 256) * (256 * m) + ((n / m % 256) * m + n % m) =
    omega (arith, div-add-mod' n m, ap (λ z. z * m) (div-add-mod' (n / m) 256)) in
    let lt : (n / m % 256) * m + n % m < 256 * m = omega (arith, mul-add-lt (n / m % 256) m (n % m) 256 digit low) in
    ap (λ z. z % (256 * m)) e ∙ mod-mul-add (n / m / 256) (256 * m) ((n / m % 256) * m + n % m) lt

shifted : (k c d : ℕ) → nat_cmp (k + c) (k + d) ≡ nat_cmp c d
shifted k c d = grind (arith, nat_tests)

-- of two numbers of two digits the high ones decide, and else the low ones
two_digits : (a b c d m : ℕ) → c < m → d < m
    → nat_cmp (a * m + c) (b * m + d) ≡ ordering_then (nat_cmp a b) (nat_cmp c d)
two_digits a b c d m p q =
    by_ranked (a < b) (a ≡ b) (b < a) (nat_cmp a b) (ranked a b _ refl)
    (λ e h. less (a * m + c) (b * m + d) (omega (arith, mul-add-lt a m c b h p))
    ∙ ap (λ o. ordering_then o (nat_cmp c d)) (sym e))
    (λ e h. ap (λ z. nat_cmp (a * m + c) (z * m + d)) (sym h) ∙ shifted (a * m) c d
    ∙ ap (λ o. ordering_then o (nat_cmp c d)) (sym e))
    (λ e h. greater (a * m + c) (b * m + d) (omega (arith, mul-add-lt b m d a h q))
    ∙ ap (λ o. ordering_then o (nat_cmp c d)) (sym e))

powers : (k : ℕ) → 0 < 256 ^ k
powers k = one-le-pow k 256 (omega arith)

byte_at_is : (k n : ℕ) → byte_at k n ≡ n / 256 ^ k % 256
byte_at_is zero n = omega arith
byte_at_is (suc k) n = refl

next_digit : (k n : ℕ) → n % 256 ^ suc k ≡ byte_at k n * 256 ^ k + n % 256 ^ k
next_digit k n = ap (λ z. n % z) (pow-succ' 256 k) ∙ digit_mod n (256 ^ k) (powers k)
    ∙ ap (λ b. b * 256 ^ k + n % 256 ^ k) (sym (byte_at_is k n))

front_digits : (k a b : ℕ) (x y : List ℕ)
    → key_cmp (bytes_high_first k a ++ x) (bytes_high_first k b ++ y) ≡ ordering_then
    (nat_cmp (a % 256 ^ k) (b % 256 ^ k)) (key_cmp x y)
front_digits zero a b x y =
    ap (λ o. ordering_then o (key_cmp x y))
    (let e : Equal ≡ nat_cmp (a % 256 ^ zero) (b % 256 ^ zero) = grind (arith, nat_tests) in e)
front_digits (suc k) a b x y =
    let two = two_digits (byte_at k a) (byte_at k b) (a % 256 ^ k) (b % 256 ^ k) (256 ^ k)
    (mod_below a (256 ^ k) (powers k)) (mod_below b (256 ^ k) (powers k)) in
    ap (ordering_then (nat_cmp (byte_at k a) (byte_at k b))) (front_digits k a b x y)
    ∙ then_assoc (nat_cmp (byte_at k a) (byte_at k b)) _ _
    ∙ ap (λ o. ordering_then o (key_cmp x y)) (sym ((λ i. nat_cmp (next_digit k a i) (next_digit k b i)) ∙ two))

-- a number of 64 bits, lifted, is one of 64 bits without a sign, in the same order

pub lifted_fits : (n : ℤ) → FitsSigned w64 n → lifted n < 2 ^ 64
lifted_fits (pos n) h = omega (arith, h.sfits)
lifted_fits (negsuc n) h = omega arith

lifted_order : (a b : ℤ) → FitsSigned w64 a → FitsSigned w64 b → nat_cmp (lifted a) (lifted b) ≡ int_cmp a b
lifted_order (pos a) (pos b) h k = grind (arith, nat_tests)
lifted_order (pos a) (negsuc b) h k = greater (a + 2 ^ 63) (2 ^ 63 - suc b) (omega arith)
lifted_order (negsuc a) (pos b) h k = less (2 ^ 63 - suc a) (b + 2 ^ 63) (omega arith)
lifted_order (negsuc a) (negsuc b) h k =
    let p : suc a ≤ 2 ^ 63 = omega (arith, h.sfits) in
    let q : suc b ≤ 2 ^ 63 = omega (arith, k.sfits) in
    grind (arith, nat_tests)

front_number : (a b : ℤ) (x y : List ℕ) → FitsSigned w64 a → FitsSigned w64 b
    → key_cmp (int_key a ++ x) (int_key b ++ y) ≡ ordering_then (int_cmp a b) (key_cmp x y)
unfolding int_key
front_number a b x y h k =
    front_digits 8 (lifted a) (lifted b) x y
    ∙ ap (λ o. ordering_then o (key_cmp x y)) ((λ i. nat_cmp (whole a h i) (whole b k i)) ∙ lifted_order a b h k)
  where
    whole : (n : ℤ) → FitsSigned w64 n → lifted n % 256 ^ 8 ≡ lifted n
    whole n h = omega (arith, lifted_fits n h)

-- values, and rows

pub front_value : (v w : Value) (x y : List ℕ) → kind_of v ≡ kind_of w → IsStorable v → IsStorable w
    → key_cmp (value_key v ++ x) (value_key w ++ y) ≡ ordering_then (value_cmp v w) (key_cmp x y)
front_value (Int a) (Int b) x y e h k = front_number a b x y h k
front_value (Int a) (Text t) x y e h k = cc
front_value (Text s) (Int b) x y e h k = cc
front_value (Text s) (Text t) x y e h k = front_text s t x y

then_equal : (o : Ordering) → ordering_then o Equal ≡ o
then_equal Less = refl
then_equal Equal = refl
then_equal Greater = refl

pub value_order : (v w : Value) → kind_of v ≡ kind_of w → IsStorable v → IsStorable w
    → key_cmp (value_key v) (value_key w) ≡ value_cmp v w
value_order v w e h k =
    (λ i. key_cmp (sym (append-nil (value_key v)) i) (sym (append-nil (value_key w)) i))
    ∙ front_value v w [] [] e h k ∙ then_equal (value_cmp v w)

pub key_order : (r s : List Value) → kinds_of r ≡ kinds_of s → AreStorable r → AreStorable s
    → key_cmp (key_of r) (key_of s) ≡ row_cmp r s
key_order [] [] e h k = refl
key_order [] (w ∷ s) e h k = cc
key_order (v ∷ r) [] e h k = cc
key_order (v ∷ r) (w ∷ s) e h k =
    let heads : kind_of v ≡ kind_of w = cc in
    let tails : kinds_of r ≡ kinds_of s = cc in
    front_value v w (key_of r) (key_of s) heads h.0 k.0
    ∙ ap (ordering_then (value_cmp v w)) (key_order r s tails h.1 k.1)

pub key_exact : (r s : List Value) → kinds_of r ≡ kinds_of s → AreStorable r → AreStorable s → key_of r ≡ key_of s
    → r ≡ s
key_exact r s e h k same =
    exact_rows r s (sym (key_order r s e h k) ∙ ap (λ z. key_cmp z (key_of s)) same
    ∙ tied_itself nat_list_cmp_total (key_of s))
