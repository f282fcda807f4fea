-- Atoms that unify have a mark at one place.
use Rattle.std.proofs.Common.{◌≡◌, ℕ, ◌+◌, ◌<◌, ◌≤◌, ◌==◌, ◌⊎◌, inl, inr, Bool, true, false, not, nat_eq}
use Rattle.std.proofs.Common.{List, [], ◌∷◌, ◌++◌, length, map, take, get_or, bit_and, refl, sym, ap, subst, ◌∙◌, arith}
use Rattle.std.proofs.Common.{true≢false}
use Rattle.std.specs.Prelude.{Contains, Some, None, fold}
use Rattle.std.specs.Hash as fed
use Rattle.std.specs.Hash.FoldHasher as folding
use Rattle.std.specs.Int.{bit_at}
use Rattle.std.proofs.lemmas.Bool.{eqb-true}
use Rattle.std.proofs.lemmas.List.{length-map, take_all, take_more}
use Rattle.std.proofs.lemmas.List.Elements.{Contains-append_left, Contains-push, Contains-push_cases}
use Rattle.std.proofs.lemmas.Nat.{mod_below}
use Rattle.std.proofs.lemmas.Nat.Bits.{bit_at-zero, bit_at_and, bit_at_ones}
use Rattle.std.proofs.lemmas.Option.{slice_get_within, get_or_from_slice_get}
use Rattle.ent_group.specs.Marks.{has_mark}
use Rattle.ent_value.specs.declared.value.Value.{Value}
use Rattle.ent_semantics.specs.Database.{Name}
use Rattle.ent_semantics.specs.Entangled.{Valuation}
use Rattle.ent_semantics.specs.Form.{term_worth}
use Rattle.ent_semantics.specs.declared.entangled.Atom.{Atom}
use Rattle.ent_semantics.specs.declared.entangled.Term.{Term}
use Rattle.ent_semantics.specs.declared.entangled.Term.TheVariants.{Known, Variable}
use Rattle.ent_semantics.specs.Pool.{CanMeet, Posted}
use Rattle.ent_group.proofs.Walks.{no_mark}
use Rattle.ent_match.specs.Signature.{IsMarkedAt, IsSignature, MarksToo, hashed_value, mark_by, mark_of, mark_place}

-- ---- marks of an atom

pub mark_below : (relation : Name) (n : ℕ) (first : Value) → mark_place relation n first < 64
unfolding mark_place
mark_below relation n first =
    mod_below (folding.finish (fold folding.write folding.initial (relation ∷ (fed.usize n ++ hashed_value first)))) 64
    (omega arith)

full : (place : ℕ) → place < 64 → has_mark 18446744073709551615 place ≡ true
unfolding has_mark
full place within = ap (λ n. n == 1) (bit_at_ones 64 place within)

-- an atom with a mark at each place
pub marks_all : (atom : Atom Value) (old : ℕ) → mark_of atom ≡ None → MarksToo atom old 18446744073709551615
marks_all atom old is = λ place within. (λ marked. inr (inl is), λ either. full place within)

-- ---- marks of atoms

pub signature_of_none : (atoms : List (Atom Value)) → IsSignature (take 0 atoms) 0
signature_of_none atoms = λ place within. (
  λ marked. absurd (true≢false (sym marked ∙ no_mark place)),
  λ some. absurd (let none = some.1.1 in omega arith),
)

pub signature_more : (atoms : List (Atom Value)) (k old new : ℕ) (atom : Atom Value) → k < length atoms
    → atom ≡ get_or atoms k atom → MarksToo atom old new → IsSignature (take k atoms) old
    → IsSignature (take (k + 1) atoms) new
signature_more atoms k old new atom within is step so_far =
    let before = take k atoms in
    let whole : take (k + 1) atoms ≡ before ++ atom ∷ [] =
    take_more atoms k atom within ∙ ap (λ a. before ++ a ∷ []) (sym is) in
    subst (λ (all : List (Atom Value)). IsSignature all new) (sym whole) (λ place below. (
      λ marked. elim ((step place below).0 marked) [
        | inl was ↦ let some = (so_far place below).0 was in
            (some.0, Contains-append_left before (atom ∷ []) some.0 some.1, some.2)
        | inr here ↦ (atom, Contains-push before atom, here)
      ],
      λ some. (step place below).1 (elim (Contains-push_cases before atom some.0 some.1) [
        | inl was ↦ inl ((so_far place below).1 (some.0, was, some.2))
        | inr here ↦ inr (subst (λ (a : Atom Value). IsMarkedAt a place) (sym here) some.2)
      ]),
    ))

pub signature_all : (atoms : List (Atom Value)) (k row : ℕ) → length atoms ≤ k → IsSignature (take k atoms) row
    → IsSignature atoms row
signature_all atoms k row past all = subst (λ (some : List (Atom Value)). IsSignature some row)
    (take_all k atoms past) all

-- ---- atoms that unify

abbrev worth : Valuation → Term Value → Value
worth values = term_worth (λ value. value) values

-- terms have their mark at a place, or a mark at each
abbrev HasMark : Name → List (Term Value) → ℕ → Type 0
HasMark relation terms place = (mark_by relation terms ≡ None) ⊎ (mark_by relation terms ≡ Some place)

-- two have a mark at one place
abbrev Share : Name → List (Term Value) → Name → List (Term Value) → Type 0
Share relation terms name others =
    (place : ℕ) × (place < 64) × HasMark relation terms place × HasMark name others place

-- where the one has a mark at each place
share_left : (relation : Name) (terms : List (Term Value)) (name : Name) (others : List (Term Value))
    → mark_by relation terms ≡ None → Share relation terms name others
share_left relation terms name [] none = (0, omega arith, inl none, inl refl)
share_left relation terms name (Variable index ∷ others) none = (0, omega arith, inl none, inl refl)
share_left relation terms name (Known value ∷ others) none =
    let n = length (Known value ∷ others) in
    (mark_place name n value, mark_below name n value, inl none, inr refl)

share : (relation : Name) (terms : List (Term Value)) (name : Name) (others : List (Term Value))
    (values more : Valuation)
    → relation ≡ name → map (worth values) terms ≡ map (worth more) others → Share relation terms name others
share relation [] name others values more same equal = share_left relation [] name others refl
share relation (Variable index ∷ terms) name others values more same equal =
    share_left relation (Variable index ∷ terms) name others refl
share relation (Known value ∷ terms) name [] values more same equal = absurd (cc)
share relation (Known value ∷ terms) name (Variable index ∷ others) values more same equal =
    let n = length (Known value ∷ terms) in
    (mark_place relation n value, mark_below relation n value, inr refl, inl refl)
share relation (Known value ∷ terms) name (Known other ∷ others) values more same equal =
    let n = length (Known value ∷ terms) in
    let m = length (Known other ∷ others) in
    let first : value ≡ other = ap (λ (vs : List Value). get_or vs 0 value) equal in
    let one_length : n ≡ m =
    sym (length-map (Known value ∷ terms) (worth values))
    ∙ (ap (λ (vs : List Value). length vs) equal ∙ length-map (Known other ∷ others) (worth more)) in
    let place : mark_place name m other ≡ mark_place relation n value =
    ap (λ (r : Name). mark_place r m other) (sym same)
    ∙ (ap (λ (k : ℕ). mark_place relation k other) (sym one_length) ∙ ap (mark_place relation n) (sym first)) in
    (mark_place relation n value, mark_below relation n value, inr refl, inr (ap Some place))

-- no row has a mark where the other one has
abbrev pub ShareNone : ℕ → ℕ → Type 0
ShareNone row other = (place : ℕ) → has_mark row place ≡ true → has_mark other place ≡ true → ⊥

-- statements whose signatures have no mark in common don't meet
pub unlike : (asker owner : Posted) (posts heads : ℕ) → IsSignature asker.statement.posts posts
    → IsSignature owner.statement.heads heads → ShareNone posts heads → (index : ℕ) → CanMeet asker index owner → ⊥
unlike asker owner posts heads of_posts of_heads none index meets =
    let post = meets.post in
    let head = meets.head in
    let all = asker.statement.posts in
    let is_post : Contains all post =
    (index, slice_get_within all index post meets.is_post, get_or_from_slice_get all index post post meets.is_post) in
    let shared = share post.relation post.terms head.relation head.terms meets.unify.values meets.unify.other_values
    (ap (λ f. f.relation) meets.unify.one_fact) (ap (λ f. f.values) meets.unify.one_fact) in
    none shared.0 ((of_posts shared.0 shared.1).1 (post, is_post, shared.2))
    ((of_heads shared.0 shared.1).1 (head, meets.is_head, shared.3))

-- two rows without a bit in common
pub share_none : (row other : ℕ) → not (nat_eq (bit_and row other) 0) ≡ false → ShareNone row other
unfolding has_mark
share_none row other none place own theirs =
    let empty : bit_and row other ≡ 0 =
    eqb-true (bit_and row other) 0 (not_false (nat_eq (bit_and row other) 0) none) in
    let nothing : bit_at (bit_and row other) place ≡ 0 = ap (λ n. bit_at n place) empty ∙ bit_at-zero place in
    let mine : bit_at row place ≡ 1 = eqb-true (bit_at row place) 1 own in
    let yours : bit_at other place ≡ 1 = eqb-true (bit_at other place) 1 theirs in
    omega (arith, nothing, mine, yours, bit_at_and row other place)
  where
    not_false : (b : Bool) → not b ≡ false → b ≡ true
    not_false true e = refl
    not_false false e = absurd (cc)
