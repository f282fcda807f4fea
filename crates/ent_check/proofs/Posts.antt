-- The rule of postconditions, on the way through joint answers and offers.
use Rattle.std.proofs.Common.{◌≡◌, ℕ, zero, suc, ◌<◌, Bool, true, false, not, ◌||◌, ◌&&◌, ◌==◌, cond, List}
use Rattle.std.proofs.Common.{[], ◌∷◌, ◌++◌, length, map, refl, sym, ap, ◌∙◌, arith}
use Rattle.std.proofs.Common.{slice_index_or, flat_map, filter}
use Rattle.std.proofs.Math.Bool.{or_assoc, and_assoc}
use Rattle.std.specs.List.{list_all, list_any}
use Rattle.ent_semantics.specs.declared.answer.Fact.{Fact}
use Rattle.ent_semantics.specs.declared.book.Member.{Member}
use Rattle.ent_semantics.specs.Joint.{read_view_heads, read_view_posts}
use Rattle.ent_semantics.specs.Serial.{ReadView}
use Rattle.ent_history.specs.Alike.{same_fact}
use Rattle.ent_history.specs.Joint.{stands_among}
use Rattle.ent_history.specs.Post.{are_met, is_offered, read_views_of}
use Rattle.ent_check.specs.Offers.{offer_of, offers_of}
use Rattle.ent_check.specs.declared.offer.StatementOffer.{StatementOffer}
use Rattle.ent_check.proofs.Lists.{all_same, any_same}

-- ---- lists

pub some_there : {X : Type 0} (xs : List X) (i : ℕ) → i < length xs → (x : X) × (x ≡ slice_index_or xs i x)
some_there [] i low = absurd (omega (arith, low))
some_there (x ∷ xs) zero low = (x, refl)
some_there (x ∷ xs) (suc i) low = some_there xs i (omega (arith, low))

-- ---- tests over lists that are made of others

any_mapped : {X Y : Type 0} (f : X → Y) (p : Y → Bool) (xs : List X)
    → list_any p (map f xs) ≡ list_any (λ x. p (f x)) xs
any_mapped f p [] = refl
any_mapped f p (x ∷ xs) = ap (λ b. p (f x) || b) (any_mapped f p xs)

all_mapped : {X Y : Type 0} (f : X → Y) (p : Y → Bool) (xs : List X)
    → list_all p (map f xs) ≡ list_all (λ x. p (f x)) xs
all_mapped f p [] = refl
all_mapped f p (x ∷ xs) = ap (λ b. p (f x) && b) (all_mapped f p xs)

any_joined : {X : Type 0} (p : X → Bool) (xs ys : List X) → list_any p (xs ++ ys) ≡ (list_any p xs || list_any p ys)
any_joined p [] ys = refl
any_joined p (x ∷ xs) ys =
    ap (λ b. p x || b) (any_joined p xs ys) ∙ sym (or_assoc (p x) (list_any p xs) (list_any p ys))

all_joined : {X : Type 0} (p : X → Bool) (xs ys : List X) → list_all p (xs ++ ys) ≡ (list_all p xs && list_all p ys)
all_joined p [] ys = refl
all_joined p (x ∷ xs) ys =
    ap (λ b. p x && b) (all_joined p xs ys) ∙ sym (and_assoc (p x) (list_all p xs) (list_all p ys))

-- of those of a list that pass a test, what is made of each
any_made : {X Y : Type 0} (f : X → List Y) (b : X → Bool) (p : Y → Bool) (xs : List X)
    → list_any p (flat_map f (filter b xs)) ≡ list_any (λ x. b x && list_any p (f x)) xs
any_made f b p [] = refl
any_made {X} {Y} f b p (x ∷ xs) = by (b x) (any_made f b p xs)
  where
    by : (t : Bool)
        → list_any p (flat_map f (filter b xs)) ≡ list_any (λ z. b z && list_any p (f z)) xs
        → list_any p (flat_map f (cond t (x ∷ filter b xs) (filter b xs)))
        ≡ ((t && list_any p (f x)) || list_any (λ z. b z && list_any p (f z)) xs)
    by true rest = any_joined p (f x) (flat_map f (filter b xs)) ∙ ap (λ c. list_any p (f x) || c) rest
    by false rest = rest

all_made : {X Y : Type 0} (f : X → List Y) (b : X → Bool) (p : Y → Bool) (xs : List X)
    → list_all p (flat_map f (filter b xs)) ≡ list_all (λ x. not (b x) || list_all p (f x)) xs
all_made f b p [] = refl
all_made {X} {Y} f b p (x ∷ xs) = by (b x) (all_made f b p xs)
  where
    by : (t : Bool)
        → list_all p (flat_map f (filter b xs)) ≡ list_all (λ z. not (b z) || list_all p (f z)) xs
        → list_all p (flat_map f (cond t (x ∷ filter b xs) (filter b xs)))
        ≡ ((not t || list_all p (f x)) && list_all (λ z. not (b z) || list_all p (f z)) xs)
    by true rest = all_joined p (f x) (flat_map f (filter b xs)) ∙ ap (λ c. list_all p (f x) && c) rest
    by false rest = rest

-- of those of a list that pass a test
any_passing : {X : Type 0} (b p : X → Bool) (xs : List X) → list_any p (filter b xs) ≡ list_any (λ x. b x && p x) xs
any_passing b p [] = refl
any_passing {X} b p (x ∷ xs) = by (b x) (any_passing b p xs)
  where
    by : (t : Bool) → list_any p (filter b xs) ≡ list_any (λ z. b z && p z) xs
        → list_any p (cond t (x ∷ filter b xs) (filter b xs)) ≡ ((t && p x) || list_any (λ z. b z && p z) xs)
    by true rest = ap (λ c. p x || c) rest
    by false rest = rest

all_passing : {X : Type 0} (b p : X → Bool) (xs : List X)
    → list_all p (filter b xs) ≡ list_all (λ x. not (b x) || p x) xs
all_passing b p [] = refl
all_passing {X} b p (x ∷ xs) = by (b x) (all_passing b p xs)
  where
    by : (t : Bool) → list_all p (filter b xs) ≡ list_all (λ z. not (b z) || p z) xs
        → list_all p (cond t (x ∷ filter b xs) (filter b xs)) ≡ ((not t || p x) && list_all (λ z. not (b z) || p z) xs)
    by true rest = ap (λ c. p x && c) rest
    by false rest = rest

-- ---- a joint answer over a run and over its offers

-- a fact is a head of an offer of a joint answer
abbrev pub is_met_by : (StatementOffer → ℕ) → ℕ → List StatementOffer → Fact → Bool
is_met_by own number offers post = list_any (λ offer. (own offer == number) && is_offered offer.heads post) offers

-- an offer is of another, or each of its posts is met
abbrev pub is_content_by : (StatementOffer → ℕ) → ℕ → List StatementOffer → StatementOffer → Bool
is_content_by own number offers offer =
    not (own offer == number) || list_all (is_met_by own number offers) offer.posts

-- where an offer is of a joint answer just where its statement is a member
module _ (run : List ReadView) (own : StatementOffer → ℕ) (number : ℕ) (members : List Member)
    (same : (read_view : ReadView)
    → stands_among read_view.tx read_view.place members ≡ (own (offer_of read_view) == number)) where
  abbrev stands : ReadView → Bool
  stands read_view = stands_among read_view.tx read_view.place members

  abbrev heads : List Fact
  heads = flat_map read_view_heads (read_views_of run members)

  met : (post : Fact) → is_offered heads post ≡ is_met_by own number (map offer_of run) post
  met post =
      any_made read_view_heads stands (same_fact post) run
      ∙ any_same (λ read_view. stands read_view && list_any (same_fact post) (read_view_heads read_view))
      (λ read_view. (own (offer_of read_view) == number) && is_offered (read_view_heads read_view) post) run
      (λ read_view. ap (λ b. b && list_any (same_fact post) (read_view_heads read_view)) (same read_view))
      ∙ sym (any_mapped offer_of (λ offer. (own offer == number) && is_offered offer.heads post) run)

  content : (read_view : ReadView)
      → (not (stands read_view) || list_all (is_offered heads) (read_view_posts read_view))
      ≡ is_content_by own number (map offer_of run) (offer_of read_view)
  content read_view =
      ap (λ b. not b || list_all (is_offered heads) (read_view_posts read_view)) (same read_view)
      ∙ ap (λ b. not (own (offer_of read_view) == number) || b)
      (all_same (is_offered heads) (is_met_by own number (map offer_of run)) (read_view_posts read_view) met)

  pub met_over_offers : are_met run members
      ≡ list_all (is_content_by own number (map offer_of run)) (map offer_of run)
  met_over_offers =
      all_made read_view_posts stands (is_offered heads) run
      ∙ all_same (λ read_view. not (stands read_view) || list_all (is_offered heads) (read_view_posts read_view))
      (λ read_view. is_content_by own number (map offer_of run) (offer_of read_view)) run content
      ∙ sym (all_mapped offer_of (is_content_by own number (map offer_of run)) run)

-- ---- the offers of one joint answer alone

-- a fact is a head of one of these offers
abbrev pub is_met_among : List StatementOffer → Fact → Bool
is_met_among offers post = list_any (λ offer. is_offered offer.heads post) offers

-- the posts of an offer are met among these
abbrev pub is_content_among : List StatementOffer → StatementOffer → Bool
is_content_among offers offer = list_all (is_met_among offers) offer.posts

module _ (own : StatementOffer → ℕ) (number : ℕ) (offers : List StatementOffer) where
  abbrev those : List StatementOffer
  those = offers_of own number offers

  pub met_alone : list_all (is_content_among those) those ≡ list_all (is_content_by own number offers) offers
  met_alone =
      all_passing (λ (offer : StatementOffer). own offer == number) (is_content_among those) offers
      ∙ all_same (λ offer. not (own offer == number) || is_content_among those offer)
      (is_content_by own number offers) offers
      (λ offer. ap (λ b. not (own offer == number) || b)
      (all_same (is_met_among those) (is_met_by own number offers) offer.posts
      (λ post. any_passing (λ (other : StatementOffer). own other == number)
      (λ other. is_offered other.heads post) offers)))
