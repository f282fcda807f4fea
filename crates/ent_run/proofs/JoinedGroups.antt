-- Members whose groups become one.
use Rattle.std.proofs.Common.{◌≡◌, ℕ, ◌==◌, ◌||◌, if◌then◌else◌, List, [], ◌∷◌, ◌++◌}
use Rattle.std.proofs.Common.{map, refl, ap, ◌∙◌, arith}
use Rattle.std.specs.Prelude.{filter}
use Rattle.std.specs.List.{list_any}
use Rattle.std.proofs.lemmas.List.{length-map, map-append}
use Rattle.std.proofs.lemmas.List.Elements.{filter-append}
use Rattle.ent_semantics.specs.Pool.{Posted}
use Rattle.ent_protocol.specs.Member.{is_tx}
use Rattle.ent_protocol.specs.PoolEvents.{in_joined_group}
use Rattle.ent_protocol.specs.State.{Member}
use Rattle.ent_run.specs.Joined.{is_one_of, labels_in}
use Rattle.ent_members.specs.Order.{tx_of}
use Rattle.ent_run.specs.Run.{IsRun}
use Rattle.ent_run.proofs.OneMember.{eq_turned, run_kept}

-- ---- labels

pub labels-append : (numbers : List ℕ) (xs ys : List Member)
    → labels_in numbers (xs ++ ys) ≡ labels_in numbers xs ++ labels_in numbers ys
labels-append numbers xs ys =
    ap (map (λ (member : Member). member.group)) (filter-append (is_one_of numbers) xs ys)
    ∙ map-append (λ (member : Member). member.group) (filter (is_one_of numbers) xs) (filter (is_one_of numbers) ys)

-- ---- the members that are asked for

one_asked : (asked : List Posted) (member : Member)
    → is_one_of (map (λ (query : Posted). query.tx) asked) member
    ≡ list_any (λ (query : Posted). is_tx query.tx member) asked
one_asked [] member = refl
one_asked (query ∷ asked) member =
    ap (λ b. b || is_one_of (map (λ (a : Posted). a.tx) asked) member) (eq_turned query.tx member.tx)
    ∙ ap (λ b. (member.tx == query.tx) || b) (one_asked asked member)

filter_asked : (asked : List Posted) (xs : List Member)
    → filter (is_one_of (map (λ (query : Posted). query.tx) asked)) xs
    ≡ filter (λ member. list_any (λ (query : Posted). is_tx query.tx member) asked) xs
filter_asked asked [] = refl
filter_asked asked (x ∷ xs) =
    ap (λ b. if b then x ∷ filter (is_one_of (map (λ (a : Posted). a.tx) asked)) xs
    else filter (is_one_of (map (λ (a : Posted). a.tx) asked)) xs) (one_asked asked x)
    ∙ ap (λ ms. if list_any (λ (query : Posted). is_tx query.tx x) asked then x ∷ ms else ms) (filter_asked asked xs)

pub asked_labels : (asked : List Posted) (xs : List Member)
    → labels_in (map (λ (query : Posted). query.tx) asked) xs
    ≡ map (λ (member : Member). member.group)
    (filter (λ member. list_any (λ (query : Posted). is_tx query.tx member) asked) xs)
asked_labels asked xs = ap (map (λ (member : Member). member.group)) (filter_asked asked xs)

-- ---- the run

same_numbers : (labels : List ℕ) (xs : List Member) → map tx_of (map (in_joined_group labels) xs) ≡ map tx_of xs
same_numbers labels [] = refl
same_numbers labels (x ∷ xs) = ap (λ ns. x.tx ∷ ns) (same_numbers labels xs)

pub run_joined : (labels : List ℕ) (prepared active : List Member) → IsRun prepared active
    → IsRun (map (in_joined_group labels) prepared) (map (in_joined_group labels) active)
run_joined labels prepared active run =
    let kept = run_kept prepared active (map (in_joined_group labels) active) (same_numbers labels active) run in
    record {
      bound = omega (arith, kept.bound, length-map prepared (in_joined_group labels));
      ascending = kept.ascending;
      distinct = kept.distinct;
    }
