use Rattle.std.proofs.Common.{◌==◌, ◌∙◌, ℕ, List, ap, arith, length, nat_eq, subst, sym}
use Rattle.std.specs.List.{AllByRecursion, IsDistinct, list_any}
use Rattle.slab.specs.Slab.{ContainsKey}
use Rattle.ent_members.proofs.Ended.{others_still, rest_distinct, rest_there}
use Rattle.ent_members.proofs.live.+remove_each.Goals as goal

pub remove-requires : goal.remove-requires
remove-requires t c =
    (subst (λ (keys : List ℕ). AllByRecursion (ContainsKey c.args.live.now) keys) c.in-Some.ensures.cases.0
    c.requires.there).0

pub remove_each-requires : goal.remove_each-requires
remove_each-requires t c =
    let whole = c.in-Some.ensures.cases.0 in
    let first = c.in-Some.first.now in
    let rest = c.in-Some.rest.now in
    let distinct = subst (λ (keys : List ℕ). IsDistinct nat_eq keys) whole c.requires.distinct in
    let there = subst (λ (keys : List ℕ). AllByRecursion (ContainsKey c.args.live.now) keys) whole c.requires.there in
    let shorter = ap (λ (keys : List ℕ). length keys) whole in (
      omega (arith, shorter),
      (
        rest_distinct first rest distinct,
        rest_there c.args.live.now c.remove.new.self first rest distinct there c.remove.ensures.updates,
      ),
    )

pub returns-clause-others : goal.returns-clause-others
returns-clause-others t c = λ key lack.
    others_still c.args.live.now c.remove.new.self c.remove_each.new.live c.in-Some.first.now c.in-Some.rest.now
    c.remove.ensures.updates c.remove_each.ensures.others key
    (ap (λ (keys : List ℕ). list_any (λ k. k == key) keys) (sym c.in-Some.ensures.cases.0) ∙ lack)

pub returns-clause-fewer : goal.returns-clause-fewer
returns-clause-fewer t c =
    omega (
      arith,
      c.remove.ensures.len,
      c.remove_each.ensures.fewer,
      ap (λ (keys : List ℕ). length keys) c.in-Some.ensures.cases.0,
    )
