-- One head more, and a look-up among heads.
use Rattle.std.proofs.Common.{◌≡◌, Bool, true, false, ◌&&◌, ◌||◌, cond, List, refl, sym, ◌∙◌}
use Rattle.std.specs.BTreeMap.{is_at}
use Rattle.std.specs.BTreeSet.{UpdatesBy, contains_by}
use Rattle.std.specs.Cmp.{IsTotalOrder, both_tied, eq_by_cmp_equiv}
use Rattle.std.specs.Cmp.Lexicographic.{slice_cmp}
use Rattle.std.specs.List.{list_all}
use Rattle.std.specs.Ordering.{nat_cmp, ordering_then}
use Rattle.std.specs.declared.cmp.Ordering.{Ordering}
use Rattle.std.proofs.lemmas.Cmp.{nat_list_cmp_total, on_total, then_total}
use Rattle.std.proofs.lemmas.Map.Text.{is_eq-slice_cmp}
use Rattle.ent_value.specs.Order.{rows_total}
use Rattle.ent_value.specs.Value.{row_cmp}
use Rattle.ent_semantics.specs.Database.{same_name}
use Rattle.ent_semantics.specs.declared.answer.Fact.{Fact}
use Rattle.ent_history.specs.Alike.{same_fact, same_row}
use Rattle.ent_check.specs.Heads.{Head, Heads, has}
use Rattle.ent_check.specs.declared.offer.StatementOffer.{StatementOffer}
use Rattle.ent_check.proofs.Lists.{all_same, any_same}
use Rattle.ent_check.proofs.Posts.{is_met_among}

-- heads stand by relation, and those of a relation by row
abbrev pub head_cmp : Head → Head → Ordering
head_cmp x y = ordering_then (slice_cmp nat_cmp x.0.now y.0.now) (row_cmp x.1.now y.1.now)

-- where a fact stands beside a head
abbrev pub beside : Fact → Head → Ordering
beside fact head = ordering_then (slice_cmp nat_cmp fact.relation head.0.now) (row_cmp fact.values head.1.now)

heads_total : IsTotalOrder head_cmp
heads_total =
    then_total (on_total (λ (head : Head). head.0.now) nat_list_cmp_total)
    (on_total (λ (head : Head). head.1.now) rows_total)

-- a fact as a head
abbrev as_head : Fact → Head
as_head fact = (record { ref_ptr = (0, 0); now = fact.relation }, record { ref_ptr = (0, 0); now = fact.values })

-- a head that ties with a fact has its relation and its row
tied : (fact : Fact) (head : Head)
    → is_at (beside fact) head ≡ (same_name fact.relation head.0.now && same_row fact.values head.1.now)
tied fact head =
    sym (both_tied (same_name fact.relation head.0.now) (same_row fact.values head.1.now)
    (slice_cmp nat_cmp fact.relation head.0.now) (row_cmp fact.values head.1.now)
    (sym (is_eq-slice_cmp fact.relation head.0.now)) refl)

pub looked_up : (heads : Heads) (post : Fact) → contains_by (beside post) heads ≡ has heads post
looked_up heads post =
    any_same (is_at (beside post))
    (λ (head : Head). same_name post.relation head.0.now && same_row post.values head.1.now) heads.keys (tied post)

pub one_more : (old new : Heads) (fact : Fact) → UpdatesBy head_cmp (beside fact) old new true
    → (post : Fact) → has new post ≡ (has old post || same_fact post fact)
one_more old new fact updates post =
    sym (looked_up new post)
    ∙ updates.0 (as_head post)
    ∙ either (is_at (beside fact) (as_head post)) (contains_by (beside post) old)
    ∙ (λ i. looked_up old post i || same i)
  where
    either : (here there : Bool) → cond here true there ≡ (there || here)
    either true true = refl
    either true false = refl
    either false true = refl
    either false false = refl

    same : is_at (beside fact) (as_head post) ≡ same_fact post fact
    same = (eq_by_cmp_equiv heads_total).symm (as_head fact) (as_head post) ∙ tied post (as_head fact)

-- posts among the heads of offers are met by them
pub met_by_heads : (heads : Heads) (offers : List StatementOffer)
    → ((post : Fact) → has heads post ≡ is_met_among offers post)
    → list_all (λ (offer : StatementOffer). list_all (has heads) offer.posts) offers
    ≡ list_all (λ (offer : StatementOffer). list_all (is_met_among offers) offer.posts) offers
met_by_heads heads offers are =
    all_same (λ (offer : StatementOffer). list_all (has heads) offer.posts)
    (λ (offer : StatementOffer). list_all (is_met_among offers) offer.posts) offers
    (λ offer. all_same (has heads) (is_met_among offers) offer.posts are)
