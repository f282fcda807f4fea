use Rattle.std.proofs.Common.{◌≡◌, ℕ, ◌+◌, ◌-◌, ◌≤◌, List, [], ◌∷◌, ◌++◌, map, refl, ap, sym, ◌∙◌, arith}
use Rattle.std.specs.List.{AllByRecursion}
use Rattle.std.proofs.lemmas.List.Elements.{recursion_from_All}
use Rattle.ent_page.proofs.page.push_ends.Goals as goal

-- ends that are counted from where they were stay the same
unmoved : (start base : ℕ) (ends : List ℕ) → start ≡ base → AllByRecursion (λ end. start ≤ end) ends
    → map (λ end. end - start + base) ends ≡ ends
unmoved start base [] same order = refl
unmoved start base (end ∷ ends) same order =
    let first : end - start + base ≡ end = omega (arith, same, order.0) in
    λ i. first i ∷ unmoved start base ends same order.1 i

pub returns-then-start-base : goal.returns-then-start-base
returns-then-start-base c =
    let same : c.args.start ≡ c.args.base = omega arith in
    let order = recursion_from_All (λ (end : ℕ). c.args.start ≤ end) c.args.ends.now c.requires.order in
    c.push_same.ensures
    ∙ ap (λ ends. c.args.new.now.items ++ ends) (sym (unmoved c.args.start c.args.base c.args.ends.now same order))
