-- Things one behind the other are read as they are written.
use Rattle.std.proofs.Common.{◌≡◌, ◌≢◌, ℕ, zero, suc, ◌<◌, ◌≤◌, Bool, true, false, not, eqb, eq-eqb, List, [], ◌∷◌}
use Rattle.std.proofs.Common.{◌++◌, length, Ok, Err, refl, ap, sym, ◌∙◌, subst, arith, append_assoc, length-append}
use Rattle.std.specs.Prelude.{slice_index}
use Rattle.std.specs.List.{AllByRecursion, flat_map}
use Rattle.std.proofs.lemmas.Bool.{ne_eqb}
use Rattle.std.proofs.lemmas.List.{append-nil}
use Rattle.ent_value.specs.Refusal.{◌>>=◌, Refuses}
use Rattle.ent_value.specs.declared.refusal.Refusal.{Refusal}
use Rattle.ent_value.specs.declared.refusal.Refusal.TheVariants.{Memory, Fault}
use Rattle.ent_text.specs.declared.line_fault.LineFault.{LineFault}
use Rattle.ent_text.specs.Pieces.{Read}
use Rattle.ent_text.proofs.Numbers.{read_of, is_first, is_rest}
use Rattle.ent_text.proofs.Values.{bind_ok}
use Rattle.ent_history.specs.Listing.{listed_at, with_one}

abbrev pub with_many : {A : Type 0} → List A → Read (List A) → Read (List A)
with_many front read = read >>= λ more. Ok (front ++ more.0, more.1)

with_many_more : {A : Type 0} (front : List A) (x : A) (read : Read (List A))
    → with_many front (with_one x read) ≡ with_many (front ++ x ∷ []) read
with_many_more front x (Ok more) = ap (λ all. read_of all more.1) (sym (append_assoc front (x ∷ []) more.0))
with_many_more front x (Err fault) = refl

with_many_none : {A : Type 0} (read : Read (List A)) → with_many [] read ≡ read
with_many_none (Ok more) = refl
with_many_none (Err fault) = refl

pub with_many_one : {A : Type 0} (x : A) (read : Read (List A)) → with_many (x ∷ []) read ≡ with_one x read
with_many_one x (Ok more) = refl
with_many_one x (Err fault) = refl

module _ {A : Type 0} (first : ℕ) (read : List ℕ → Read A) where
  ends : (n : ℕ) (bytes : List ℕ) → eqb (slice_index bytes 0) first ≡ false
      → listed_at first read n bytes ≡ read_of [] bytes
  unfolding listed_at
  ends zero bytes e = refl
  ends (suc n) bytes e = rw e refl

  goes : (n : ℕ) (bytes : List ℕ) → eqb (slice_index bytes 0) first ≡ true
      → listed_at first read (suc n) bytes ≡ (read bytes >>= λ one. with_one one.0 (listed_at first read n one.1))
  unfolding listed_at
  goes n bytes e = rw e refl

  limited : (bytes : List ℕ) → listed_at first read zero bytes ≡ read_of [] bytes
  unfolding listed_at
  limited bytes = refl

  -- ---- one step of a loop

  pub at_end : (n : ℕ) (things : List A) (rest : List ℕ) (whole : Read (List A)) → (slice_index rest 0 ≡ first → ⊥)
      → with_many things (listed_at first read n rest) ≡ whole → whole ≡ Ok (things, rest)
  at_end n things rest whole none is =
      sym is ∙ ap (with_many things) (ends n rest (ne_eqb (slice_index rest 0) first none))
      ∙ ap (λ all. read_of all rest) (append-nil things)

  pub at_limit : (things : List A) (rest : List ℕ) (whole : Read (List A))
      → with_many things (listed_at first read zero rest) ≡ whole → whole ≡ Ok (things, rest)
  at_limit things rest whole is =
      sym is ∙ ap (with_many things) (limited rest) ∙ ap (λ all. read_of all rest) (append-nil things)

  pub at_one : (n : ℕ) (things : List A) (rest next : List ℕ) (x : A) (whole : Read (List A))
      → slice_index rest 0 ≡ first → read rest ≡ Ok (x, next)
      → with_many things (listed_at first read (suc n) rest) ≡ whole
      → with_many (things ++ x ∷ []) (listed_at first read n next) ≡ whole
  at_one n things rest next x whole e h is =
      sym (with_many_more things x (listed_at first read n next))
      ∙ ap (with_many things)
      (ap (λ r. r >>= λ one. with_one one.0 (listed_at first read n one.1)) (sym h)
      ∙ sym (goes n rest (eq-eqb (slice_index rest 0) first e)))
      ∙ is

  pub at_fault : (n : ℕ) (things : List A) (rest : List ℕ) (fault : LineFault) (whole : Read (List A))
      → slice_index rest 0 ≡ first → read rest ≡ Err fault
      → with_many things (listed_at first read (suc n) rest) ≡ whole → whole ≡ Err fault
  at_fault n things rest fault whole e h is =
      sym is ∙ ap (with_many things) (goes n rest (eq-eqb (slice_index rest 0) first e)
      ∙ ap (λ r. r >>= λ one. with_one one.0 (listed_at first read n one.1)) h)

  -- ---- a loop over all of them

  -- what is left behind some of the things
  pub record Left (things : List A) (rest : List ℕ) (whole : Read (List A)) : Type 0 where
    pub most : ℕ
    pub enough : length rest ≤ most
    pub is : with_many things (listed_at first read most rest) ≡ whole

  pub left_first : (things : List A) (bytes : List ℕ) → things ≡ []
      → Left things bytes (listed_at first read (length bytes) bytes)
  left_first things bytes none = record {
    most = length bytes;
    enough = omega arith;
    is = ap (λ front. with_many front (listed_at first read (length bytes) bytes)) none
        ∙ with_many_none (listed_at first read (length bytes) bytes);
  }

  pub left_end : (things : List A) (rest : List ℕ) (whole : Read (List A)) → (slice_index rest 0 ≡ first → ⊥)
      → Left things rest whole → whole ≡ Ok (things, rest)
  left_end things rest whole none left = at_end left.most things rest whole none left.is

  one_by : (most : ℕ) (things : List A) (rest next : List ℕ) (x : A) (whole : Read (List A))
      → length rest ≤ most → slice_index rest 0 ≡ first → read rest ≡ Ok (x, next) → length next < length rest
      → with_many things (listed_at first read most rest) ≡ whole → Left (things ++ x ∷ []) next whole
  one_by zero things rest next x whole le e h shorter is = absurd (omega arith)
  one_by (suc n) things rest next x whole le e h shorter is =
      record { most = n; enough = omega arith; is = at_one n things rest next x whole e h is }

  pub left_one : (things more : List A) (rest next : List ℕ) (x : A) (whole : Read (List A))
      → slice_index rest 0 ≡ first → read rest ≡ Ok (x, next) → length next < length rest
      → more ≡ things ++ x ∷ [] → Left things rest whole → Left more next whole
  left_one things more rest next x whole e h shorter pushed left =
      subst (λ all. Left all next whole) (sym pushed)
      (one_by left.most things rest next x whole left.enough e h shorter left.is)

  fault_by : (most : ℕ) (things : List A) (rest : List ℕ) (fault : LineFault) (whole : Read (List A))
      → length rest ≤ most → 0 < length rest → slice_index rest 0 ≡ first → read rest ≡ Err fault
      → with_many things (listed_at first read most rest) ≡ whole → whole ≡ Err fault
  fault_by zero things rest fault whole le some e h is = absurd (omega arith)
  fault_by (suc n) things rest fault whole le some e h is = at_fault n things rest fault whole e h is

  some_left : (rest : List ℕ) → 0 < first → slice_index rest 0 ≡ first → 0 < length rest
  some_left [] positive e = absurd (omega (arith, e))
  some_left (b ∷ bytes) positive e = omega arith

  pub left_fault : (refusal : Refusal LineFault) (things : List A) (rest : List ℕ) (whole : Read (List A))
      → 0 < first → slice_index rest 0 ≡ first → Refuses refusal (read rest) → Left things rest whole
      → Refuses refusal whole
  left_fault Memory things rest whole positive e h left = tt
  left_fault (Fault fault) things rest whole positive e h left =
      fault_by left.most things rest fault whole left.enough (some_left rest positive e) e h left.is

  -- ---- what is read is written so

  module _ (text : A → List ℕ) (Is : A → Type 0)
      (read_found : (bytes rest : List ℕ) (x : A) → read bytes ≡ Ok (x, rest) → (bytes ≡ text x ++ rest) × Is x) where
    -- these things stand in front, at most so many
    pub record Listed (n : ℕ) (bytes : List ℕ) (things : List A) (rest : List ℕ) : Type 0 where
      pub text_is : bytes ≡ flat_map text things ++ rest
      pub are : AllByRecursion Is things
      pub few : length things ≤ n

    none_listed : (n : ℕ) (bytes rest : List ℕ) (things : List A) → read_of [] bytes ≡ read_of things rest
        → Listed n bytes things rest
    none_listed n bytes rest things h =
        let nothing : [] ≡ things = is_first [] things bytes rest h in
        subst (λ all. Listed n bytes all rest) nothing
        (record { text_is = is_rest [] things bytes rest h; are = tt; few = omega arith })

    one_listed : (n : ℕ) (bytes next rest : List ℕ) (x : A) (more : List A) → read bytes ≡ Ok (x, next)
        → Listed n next more rest → Listed (suc n) bytes (x ∷ more) rest
    one_listed n bytes next rest x more h others =
        let is = read_found bytes next x h in
        record {
          text_is = is.0 ∙ ap (λ r. text x ++ r) others.text_is ∙ sym (append_assoc (text x) (flat_map text more) rest);
          are = (is.1, others.are);
          few = omega (arith, others.few);
        }

    listed_found_by : (n : ℕ) (bytes rest : List ℕ) (things : List A) (t : Bool) → eqb (slice_index bytes 0) first ≡ t
        → listed_at first read (suc n) bytes ≡ Ok (things, rest)
        → ((next : List ℕ) (more : List A) → listed_at first read n next ≡ Ok (more, rest) → Listed n next more rest)
        → Listed (suc n) bytes things rest
    listed_found_by n bytes rest things false e h rec =
        none_listed (suc n) bytes rest things (sym (ends (suc n) bytes e) ∙ h)
    listed_found_by n bytes rest things true e h rec =
        let found = bind_ok (read bytes) (λ one. with_one one.0 (listed_at first read n one.1)) (things, rest)
        (sym (goes n bytes e) ∙ h) in
        let x = found.0.0 in
        let more = bind_ok (listed_at first read n found.0.1) (λ more. read_of (x ∷ more.0) more.1) (things, rest)
        found.2 in
        let all : x ∷ more.0.0 ≡ things = is_first (x ∷ more.0.0) things more.0.1 rest more.2 in
        let end : more.0.1 ≡ rest = is_rest (x ∷ more.0.0) things more.0.1 rest more.2 in
        let others = rec found.0.1 more.0.0
        (more.1 ∙ ap (λ (r : List ℕ). read_of more.0.0 r) end) in
        subst (λ these. Listed (suc n) bytes these rest) all
        (one_listed n bytes found.0.1 rest x more.0.0 found.1 others)

    pub listed_found : (n : ℕ) (bytes rest : List ℕ) (things : List A)
        → listed_at first read n bytes ≡ Ok (things, rest) → Listed n bytes things rest
    listed_found zero bytes rest things h =
        none_listed zero bytes rest things (sym (limited bytes) ∙ h)
    listed_found (suc n) bytes rest things h =
        listed_found_by n bytes rest things (eqb (slice_index bytes 0) first) refl h
        (λ next more e. listed_found n next rest more e)

  -- ---- what is written so is read

  module _ (text : A → List ℕ) (Is : A → Type 0) (Over : List ℕ → Type 0)
      (read_again : (x : A) (rest : List ℕ) → Is x → Over rest → read (text x ++ rest) ≡ Ok (x, rest))
      (over_text : (x : A) (rest : List ℕ) → Over (text x ++ rest))
      (begins : (x : A) (rest : List ℕ) → slice_index (text x ++ rest) 0 ≡ first) where
    over_texts : (things : List A) (rest : List ℕ) → Over rest → Over (flat_map text things ++ rest)
    over_texts [] rest over = over
    over_texts (x ∷ more) rest over =
        subst Over (sym (append_assoc (text x) (flat_map text more) rest)) (over_text x (flat_map text more ++ rest))

    pub listed_again : (n : ℕ) (things : List A) (rest : List ℕ) → AllByRecursion Is things → length things ≤ n
        → Over rest → (slice_index rest 0 ≡ first → ⊥)
        → listed_at first read n (flat_map text things ++ rest) ≡ Ok (things, rest)
    listed_again n [] rest are few over none = ends n rest (ne_eqb (slice_index rest 0) first none)
    listed_again zero (x ∷ more) rest are few over none = absurd (omega (arith, few))
    listed_again (suc n) (x ∷ more) rest are few over none =
        let behind = flat_map text more ++ rest in
        ap (listed_at first read (suc n)) (append_assoc (text x) (flat_map text more) rest)
        ∙ goes n (text x ++ behind) (eq-eqb (slice_index (text x ++ behind) 0) first (begins x behind))
        ∙ ap (λ r. r >>= λ one. with_one one.0 (listed_at first read n one.1))
        (read_again x behind are.0 (over_texts more rest over))
        ∙ ap (with_one x) (listed_again n more rest are.1 (omega (arith, few)) over none)

pub shorter_than_text : {A : Type 0} (text : A → List ℕ) → ((x : A) → 0 < length (text x)) → (things : List A)
    → length things ≤ length (flat_map text things)
shorter_than_text text some [] = omega arith
shorter_than_text text some (x ∷ more) =
    omega (arith, some x, shorter_than_text text some more, length-append (text x) (flat_map text more))

pub nonempty : {A : Type 0} (xs : List A) → not (eqb (length xs) 0) ≡ true → xs ≢ []
nonempty [] h e = cc
nonempty (x ∷ xs) h e = cc

pub is_nonempty : {A : Type 0} (xs : List A) → xs ≢ [] → not (eqb (length xs) 0) ≡ true
is_nonempty [] some = absurd (some refl)
is_nonempty (x ∷ xs) some = ap not (ne_eqb (length (x ∷ xs)) 0 (λ e. absurd (omega (arith, e))))
