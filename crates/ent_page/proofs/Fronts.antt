-- Comparison of bytes with all that begin alike.
use Rattle.std.proofs.Common.{◌≡◌, Bool, true, false, eqb, ℕ, ◌<◌, ◌≤◌, List, [], ◌∷◌, ◌++◌}
use Rattle.std.proofs.Common.{length, take, refl, sym, ap, ◌∙◌, arith}
use Rattle.std.specs.Ordering.{nat_cmp, ordering_then}
use Rattle.std.specs.declared.cmp.Ordering.{Ordering}
use Rattle.std.specs.declared.cmp.Ordering.TheVariants.{Less, Equal, Greater}
use Rattle.std.proofs.lemmas.Cmp.{nat_cmp_total, tied_itself}
use Rattle.std.proofs.lemmas.Map.Lookups.{exact_unsigned}
use Rattle.std.specs.Prelude.{if◌then◌else◌, Result, Ok, Err, MatchResult}
use Rattle.std.proofs.lemmas.List.{append_assoc}
use Rattle.ent_value.specs.declared.value.Value.{Value}
use Rattle.ent_page.specs.Key.{byte_key, text_key, value_key, key_of, key_cmp}

pub same_front : (front x y : List ℕ) → key_cmp (front ++ x) (front ++ y) ≡ key_cmp x y
same_front [] x y = refl
same_front (b ∷ front) x y = ap (λ o. ordering_then o (key_cmp (front ++ x) (front ++ y))) (tied_itself nat_cmp_total b)
    ∙ same_front front x y

-- bytes that do not begin so compare with the beginning as with all that begin so
pub other_front : (bytes front more : List ℕ) → ((rest : List ℕ) → bytes ≡ front ++ rest → ⊥)
    → key_cmp bytes (front ++ more) ≡ key_cmp bytes front
other_front bytes [] more none = absurd (none bytes refl)
other_front [] (b ∷ front) more none = refl
other_front (a ∷ bytes) (b ∷ front) more none =
    by (nat_cmp a b) refl (λ same. other_front bytes front more (λ rest e. none rest (λ i. same i ∷ e i)))
  where
    by : (o : Ordering) → nat_cmp a b ≡ o → (a ≡ b → key_cmp bytes (front ++ more) ≡ key_cmp bytes front)
        → ordering_then (nat_cmp a b) (key_cmp bytes (front ++ more)) ≡ ordering_then (nat_cmp a b)
        (key_cmp bytes front)
    by Less e later = (λ i. ordering_then (e i) (key_cmp bytes (front ++ more)))
        ∙ sym (λ i. ordering_then (e i) (key_cmp bytes front))
    by Greater e later = (λ i. ordering_then (e i) (key_cmp bytes (front ++ more)))
        ∙ sym (λ i. ordering_then (e i) (key_cmp bytes front))
    by Equal e later = ap (ordering_then (nat_cmp a b)) (later (exact_unsigned a b e))

-- what follows a beginning
pub front_taken : (bytes front rest : List ℕ) → bytes ≡ front ++ rest → take (length front) bytes ≡ front
front_taken bytes front rest e = ap (take (length front)) e ∙ took front rest
  where
    took : (front rest : List ℕ) → take (length front) (front ++ rest) ≡ front
    took [] rest = refl
    took (b ∷ front) rest = ap (λ z. b ∷ z) (took front rest)

pub front_long : (bytes front rest : List ℕ) → bytes ≡ front ++ rest → length front ≤ length bytes
front_long bytes front rest e = omega (arith, ap length e, long front rest)
  where
    long : (front rest : List ℕ) → length front ≤ length (front ++ rest)
    long [] rest = omega arith
    long (b ∷ front) rest = omega (arith, long front rest)

-- what is told of bytes and of all that begin with a key
abbrev pub Past : {Y : Type 0} → (Y → List ℕ) → List ℕ → List ℕ → Result Y Ordering → Type 0
Past now bytes front r =
    MatchResult r (λ rest. bytes ≡ front ++ now rest) (λ order. (more : List ℕ) → key_cmp bytes (front ++ more) ≡ order)

pub past_more : {Y : Type 0} (now : Y → List ℕ) (bytes first rest second front : List ℕ) (r : Result Y Ordering)
    → bytes ≡ first ++ rest → front ≡ first ++ second → Past now rest second r → Past now bytes front r
past_more now bytes first rest second front (Ok x) e f h = e ∙ ap (λ z. first ++ z) h
    ∙ sym (append_assoc first second (now x)) ∙ ap (λ z. z ++ now x) (sym f)
past_more now bytes first rest second front (Err order) e f h = λ more.
    (λ i. key_cmp (e i) (f i ++ more)) ∙ ap (key_cmp (first ++ rest)) (append_assoc first second more)
    ∙ same_front first rest (second ++ more) ∙ h more

pub past_none : (bytes first second front : List ℕ) (order : Ordering) → front ≡ first ++ second
    → ((more : List ℕ) → key_cmp bytes (first ++ more) ≡ order) → (more : List ℕ)
    → key_cmp bytes (front ++ more) ≡ order
past_none bytes first second front order f h more = ap (λ z. key_cmp bytes (z ++ more)) f
    ∙ ap (key_cmp bytes) (append_assoc first second more) ∙ h (second ++ more)

pub value_step : (left rest : List ℕ) (v : Value) (vs : List Value) (o : Ordering) → left ≡ value_key v ++ rest
    → key_cmp left (key_of (v ∷ vs)) ≡ o → key_cmp rest (key_of vs) ≡ o
value_step left rest v vs o e h =
    sym (ap (λ z. key_cmp z (value_key v ++ key_of vs)) e ∙ same_front (value_key v) rest (key_of vs)) ∙ h

pub not_nil : (left : List ℕ) → 0 < length left → Greater ≡ key_cmp left []
not_nil [] h = absurd (omega arith)
not_nil (b ∷ left) h = refl

-- one more byte of a text
pub text_of : (b : ℕ) (bs : List ℕ) → text_key (b ∷ bs) ≡ byte_key b ++ text_key bs
text_of b bs = by (eqb b 0)
  where
    by : (t : Bool)
        → (if t then 0 ∷ 255 ∷ text_key bs else (b ∷ text_key bs)) ≡
        (if t then 0 ∷ 255 ∷ [] else (b ∷ [])) ++ text_key bs
    by true = refl
    by false = refl

module _ (left rest : List ℕ) (b : ℕ) (bs : List ℕ) (e : left ≡ byte_key b ++ rest) where
  pub byte_same : (more : List ℕ) (o : Ordering) → key_cmp left (text_key (b ∷ bs) ++ more) ≡ o
      → key_cmp rest (text_key bs ++ more) ≡ o
  byte_same more o h =
      sym ((λ i. key_cmp (e i) (text_of b bs i ++ more))
      ∙ ap (key_cmp (byte_key b ++ rest)) (append_assoc (byte_key b) (text_key bs) more)
      ∙ same_front (byte_key b) rest (text_key bs ++ more)) ∙ h

  pub byte_front : (end : List ℕ) → rest ≡ text_key bs ++ end → left ≡ text_key (b ∷ bs) ++ end
  byte_front end h = e ∙ ap (λ z. byte_key b ++ z) h ∙ sym (append_assoc (byte_key b) (text_key bs) end)
      ∙ ap (λ z. z ++ end) (sym (text_of b bs))
