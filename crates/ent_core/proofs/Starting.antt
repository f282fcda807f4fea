-- A run that starts.
use Rattle.std.proofs.Common.{◌≡◌, ◌<◌, ◌≤◌, ℕ, zero, suc, Bool, true, false, List, [], ◌∷◌, ◌++◌, length, map, take}
use Rattle.std.proofs.Common.{drop, min, refl, sym, ap, subst, ◌∙◌, arith, nat_eq}
use Rattle.std.specs.List.{AllByRecursion, IsDistinct}
use Rattle.ent_group.specs.declared.members.TheConstants.{MOST_MEMBERS}
use Rattle.ent_semantics.specs.declared.book.Fated.{Fated}
use Rattle.ent_tree.specs.declared.declaration.Opening.{Opening}
use Rattle.ent_form.specs.declared.catalogue.TableSchema.{TableSchema}
use Rattle.ent_run.specs.Run.{Run}
use Rattle.ent_semantics.specs.Pool.{Posted}
use Rattle.ent_protocol.specs.Event.{Reply, Started}
use Rattle.ent_protocol.specs.Run.{Starts, StartsWith, fresh, numbers_of, starting}
use Rattle.ent_protocol.specs.State.{State, Submitted, Dormant, Member, by_number}
use Rattle.ent_members.specs.TransactionTable.{TransactionTable}
use Rattle.ent_tables.specs.Stored.{Stored}
use Rattle.ent_waits.specs.Pooled.{IsPoolOf}
use Rattle.ent_core.specs.Store.{IsKept}

abbrev numbers : List Dormant → List ℕ
numbers dormant = map (λ own. own.tx) dormant

-- ---- parts of a list in which nobody stands twice

all_taken : (P : ℕ → Type 0) (n : ℕ) (dormant : List Dormant) → AllByRecursion P (numbers dormant)
    → AllByRecursion P (numbers (take n dormant))
all_taken P zero dormant all = tt
all_taken P (suc n) [] all = tt
all_taken P (suc n) (own ∷ more) all = (all.0, all_taken P n more all.1)

pub distinct_taken : (n : ℕ) (dormant : List Dormant) → IsDistinct nat_eq (numbers dormant)
    → IsDistinct nat_eq (numbers (take n dormant))
unfolding IsDistinct
distinct_taken zero dormant distinct = tt
distinct_taken (suc n) [] distinct = tt
distinct_taken (suc n) (own ∷ more) distinct =
    (all_taken (λ m. nat_eq own.tx m ≡ false) n more distinct.0, distinct_taken n more distinct.1)

distinct_dropped : (n : ℕ) (dormant : List Dormant) → IsDistinct nat_eq (numbers dormant)
    → IsDistinct nat_eq (numbers (drop n dormant))
unfolding IsDistinct
distinct_dropped zero dormant distinct = distinct
distinct_dropped (suc n) [] distinct = tt
distinct_dropped (suc n) (own ∷ more) distinct = distinct_dropped n more distinct.1

all_dropped : (P : Dormant → Type 0) (n : ℕ) (dormant : List Dormant) → AllByRecursion P dormant
    → AllByRecursion P (drop n dormant)
all_dropped P zero dormant all = all
all_dropped P (suc n) [] all = tt
all_dropped P (suc n) (own ∷ more) all = all_dropped P n more all.1

pub kept_started : (schemas : List TableSchema) (opening : Opening) (submitted : List Submitted)
    (transaction_table transaction_table' : TransactionTable) (running : Bool) (run run' : Run) (stored : Stored)
    (posted posted' : List Posted) (n : ℕ)
    → IsKept schemas opening submitted transaction_table running run stored posted
    → transaction_table' ≡ record transaction_table { dormant = drop n transaction_table.dormant }
    → IsPoolOf submitted run'.active posted'
    → IsKept schemas opening submitted transaction_table' true run' stored posted'
kept_started schemas opening submitted transaction_table transaction_table' running run run' stored posted posted' n
    kept now pooled =
    let dormant = transaction_table.dormant in
    let left : transaction_table'.dormant ≡ drop n dormant = ap (λ (r : TransactionTable). r.dormant) now in
    let A : List Dormant → Type 0 = λ all. AllByRecursion (λ (one : Dormant). one.tx ≤ length submitted) all in
    let D : List Dormant → Type 0 = λ all. IsDistinct nat_eq (numbers all) in
    record {
      declared = kept.declared;
      formed = kept.formed;
      kinds = kept.kinds;
      asks = kept.asks;
      known = ap (λ (r : TransactionTable). r.known) now ∙ kept.known;
      arrived = subst A (sym left) (all_dropped (λ (one : Dormant). one.tx ≤ length submitted) n dormant kept.arrived);
      distinct = subst D (sym left) (distinct_dropped n dormant kept.distinct);
      idle_prepared = λ off. absurd (different off);
      idle_active = λ off. absurd (different off);
      posted = pooled;
    }
  where
    different : true ≡ false → ⊥
    different e = cc

-- ---- as many as there are, or as many as a run may have

none_taken : (n : ℕ) → take {A = Dormant} n [] ≡ []
none_taken zero = refl
none_taken (suc n) = refl

none_left : (n : ℕ) → drop {A = Dormant} n [] ≡ []
none_left zero = refl
none_left (suc n) = refl

taken_most : (most count : ℕ) (dormant : List Dormant) → count ≡ min (length dormant) most
    → take count dormant ≡ take most dormant
taken_most most count [] least = none_taken count ∙ sym (none_taken most)
taken_most zero zero (own ∷ more) least = refl
taken_most zero (suc count) (own ∷ more) least = absurd (omega arith)
taken_most (suc most) zero (own ∷ more) least = absurd (omega arith)
taken_most (suc most) (suc count) (own ∷ more) least =
    ap (λ (rest : List Dormant). own ∷ rest) (taken_most most count more (omega arith))

left_most : (most count : ℕ) (dormant : List Dormant) → count ≡ min (length dormant) most
    → drop count dormant ≡ drop most dormant
left_most most count [] least = none_left count ∙ sym (none_left most)
left_most zero zero (own ∷ more) least = refl
left_most zero (suc count) (own ∷ more) least = absurd (omega arith)
left_most (suc most) zero (own ∷ more) least = absurd (omega arith)
left_most (suc most) (suc count) (own ∷ more) least = left_most most count more (omega arith)

-- ---- the event

starts_with : {F : Type 0} (s : State) (running : Bool) (dormant : List Dormant) (reply : Reply F) (new : State)
    → running ≡ false → 0 < length dormant → reply ≡ Started (numbers_of (starting s).active) → new ≡ starting s
    → StartsWith s running dormant reply new
starts_with s true dormant reply new off some replies is = absurd (different off)
  where
    different : true ≡ false → ⊥
    different e = cc
starts_with s false [] reply new off some replies is = absurd (omega arith)
starts_with s false (first ∷ more) reply new off some replies is = (replies, is)

pub started : (F : Type 0) (s now : State) (count : ℕ) (dormant' : List Dormant) (fates' : List Fated) (prepared'
    active' : List Member)
    (members : List ℕ) (tried' : List (List Posted)) → s ≡ now → s.running ≡ false → tried' ≡ [] → s.prepared ≡ []
    → 0 < length s.dormant
    → count ≡ min (length s.dormant) MOST_MEMBERS → prepared' ≡ []
    → active' ≡ by_number (λ member. member.tx) (map fresh (take count s.dormant)) → dormant' ≡ drop count s.dormant
    → fates' ≡ s.fates
    → members ≡ numbers_of (prepared' ++ active')
    → Starts {F = F} now (Started members)
    (record s {
      running = true;
      prepared = prepared';
      active = active';
      dormant = dormant';
      tried = tried';
      fates =
          fates';
    })
started F s now count dormant' fates' prepared' active' members tried' same off untried none some least no_prepared
    actives left finished numbered =
    let new : State = record s {
      running = true;
      prepared = prepared';
      active = active';
      dormant = dormant';
      tried =
          tried';
      fates = fates';
    } in
    let first : active' ≡ (starting s).active =
    actives ∙ ap (λ (all : List Dormant). by_number (λ (member : Member). member.tx) (map fresh all)) (taken_most
    MOST_MEMBERS count s.dormant least) in
    let rest : dormant' ≡ drop MOST_MEMBERS s.dormant = left ∙ left_most MOST_MEMBERS count s.dormant least in
    let is : new ≡ starting s =
    λ i. record s {
      running = true;
      prepared = (no_prepared ∙ sym none) i;
      active = first i;
      dormant = rest i;
      tried
          = untried i;
      fates = finished i;
    } in
    let replied : members ≡ numbers_of (starting s).active =
    numbered ∙ (λ i. numbers_of (no_prepared i ++ active')) ∙ ap numbers_of first in
    let P : State → Type 0 = λ x. Starts {F = F} x (Started members) new in
    subst P same (starts_with s s.running s.dormant (Started members) new off some (ap (λ ns. Started ns) replied) is)
