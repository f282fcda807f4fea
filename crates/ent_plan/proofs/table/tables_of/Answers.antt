use Rattle.std.proofs.Common.{◌≡◌, ◌∙◌, ℕ, Bool, sym, ap, arith, eqb}
use Rattle.std.specs.List.{flat_map, dedup}
use Rattle.std.specs.Cmp.{unsigned_tied}
use Rattle.std.specs.Ordering.{nat_cmp, eq_by_cmp}
use Rattle.std.proofs.lemmas.Cmp.{nat_cmp_total}
use Rattle.std.proofs.lemmas.List.{take_all}
use Rattle.std.proofs.lemmas.List.Filters.{dedup_is}
use Rattle.std.proofs.lemmas.Map.Lookups.{exact_unsigned}
use Rattle.ent_lists.specs.Sets as set
use Rattle.ent_lists.specs.Laws.{ascending-from_sorted}
use Rattle.ent_plan.specs.Tables.{sources_of}
use Rattle.ent_plan.proofs.table.tables_of.Goals as goal

same_tests : eqb ≡ eq_by_cmp nat_cmp
same_tests = λ i x y. sym (unsigned_tied x y) i

pub returns : goal.returns
returns c =
    let all = c.loop-member.invariant
    ∙ ap (flat_map (λ member. sources_of member.statement))
    (take_all c.loop-member.member-index c.args.members.now (omega arith)) in
    dedup_is eqb _ _ c.dedup.ensures.filtered
    ∙ (ap (λ (e : ℕ → ℕ → Bool). dedup e c.sort.new.self.items) same_tests
    ∙ (ascending-from_sorted nat_cmp_total exact_unsigned c.loop-member.tables.items c.sort.new.self.items
    c.in_ok-sort.ensures.permutation c.in_ok-sort.ensures.sorted
    ∙ ap (λ tables. set.ascending (set.from_list {R = nat_cmp} tables)) all))
