use Rattle.std.proofs.Common.{◌≡◌, ◌∙◌, List, eqb, ℕ, ap, map, arith}
use Rattle.std.specs.Cmp.Lexicographic.{slice_cmp, pointwise}
use Rattle.std.specs.Ordering.{nat_cmp}
use Rattle.std.proofs.lemmas.List.{take_all}
use Rattle.std.proofs.lemmas.List.Filters.{dedup_is}
use Rattle.ent_lists.specs.Sets as set
use Rattle.ent_tree.specs.declared.declaration.Create.{Create}
use Rattle.ent_book.proofs.Names.{names_in_order}
use Rattle.ent_meet.proofs.tables.names_by_bytes.Goals as goal

pub returns : goal.returns
returns c =
    let creates = c.as_slice-create-items.result.now in
    let declared : List Create → List (List ℕ) = λ creates. map (λ create. create.name.name) creates in
    let all : c.loop-create.names.items ≡ declared c.args.opening.now.tables =
    c.loop-create.invariant
    ∙ ap declared (take_all c.loop-create.create-index creates (omega arith))
    ∙ ap declared (c.as_slice-create-items.ensures ∙ c.deref.ensures) in
    dedup_is (pointwise eqb) _ _ c.dedup.ensures.filtered
    ∙ names_in_order c.loop-create.names.items c.sort.new.self.items c.in_ok-sort.ensures.permutation
    c.in_ok-sort.ensures.sorted
    ∙ ap (λ names. set.ascending (set.from_list {R = slice_cmp nat_cmp} names)) all
