use Rattle.std.proofs.Common.{◌≡◌, ◌+◌, ◌-◌, ◌/◌, [], true, false, take, drop, get_or, sym, subst, ◌∙◌, arith, ℕ, zero}
use Rattle.std.proofs.Common.{suc}
use Rattle.std.specs.List.{flat_map}
use Rattle.std.specs.Arc.{arc_value}
use Rattle.std.specs.declared.cmp.Ordering.TheVariants.{Greater}
use Rattle.ent_page.specs.Key.{key_cmp}
use Rattle.ent_page.specs.Paged.{AllBelow, AllAbove}
use Rattle.ent_page.proofs.Paging.{below_step, above_step, above_next}
use Rattle.ent_page.proofs.pages.place_of.Goals as goal

pub loop-low-preserved-then-first_is_above : goal.loop-low-preserved-then-first_is_above
loop-low-preserved-then-first_is_above g c =
    let mid = c.loop-low.low + (c.loop-low.high - c.loop-low.low) / 2 in
    let x = c.index-pages-middle.result in
    let more : key_cmp (get_or (arc_value c.index-pages-middle.result) 0 [])
    (g.P.Probe.bytes c.args.key.now) ≡ Greater =
    rw c.deref.ensures at (c.first_is_above.ensures.0 c.if-first_is_above.true) in
    record {
      order = omega arith;
      range = omega arith;
      below = c.loop-low.invariant.below;
      above = above_step arc_value c.args.pages.now mid x (g.P.Probe.bytes c.args.key.now)
          (omega arith) c.index-pages-middle.is c.requires.sized c.requires.sorted more;
    }

pub loop-low-preserved : goal.loop-low-preserved
loop-low-preserved g c =
    let mid = c.loop-low.low + (c.loop-low.high - c.loop-low.low) / 2 in
    let x = c.index-pages-middle.result in
    let not_above : key_cmp (get_or (arc_value c.index-pages-middle.result) 0 [])
    (g.P.Probe.bytes c.args.key.now) ≡ Greater → ⊥ = λ more.
    (let no : false ≡ true = sym c.if-first_is_above.false ∙ c.first_is_above.ensures.1 (rw c.deref.ensures more) in
    cc) in
    let same : c.loop-low.low + (c.loop-low.high - c.loop-low.low) / 2 ≡ c.loop-low.low +
    (c.loop-low.high - c.loop-low.low) / 2 + 1 - 1 = omega arith in
    record {
      order = omega arith;
      range = c.loop-low.invariant.range;
      below = λ _. subst
          (λ (n : ℕ). AllBelow (flat_map arc_value (take n c.args.pages.now)) (g.P.Probe.bytes c.args.key.now)) same
          (below_step arc_value c.args.pages.now mid x (g.P.Probe.bytes c.args.key.now)
          (omega arith) c.index-pages-middle.is c.requires.sized c.requires.sorted not_above);
      above = c.loop-low.invariant.above;
    }

pub returns-clause-above : goal.returns-clause-above
returns-clause-above g c =
    by c.loop-low.low (omega arith) (omega arith) c.saturating_sub.ensures c.loop-low.invariant.above
  where
    by : (low : ℕ) → c.loop-low.high ≡ c.loop-low.low → low ≡ c.loop-low.low → c.saturating_sub.result ≡ low - 1
        → AllAbove (flat_map arc_value (drop c.loop-low.high c.args.pages.now)) (g.P.Probe.bytes c.args.key.now)
        → AllAbove (flat_map arc_value (drop (c.saturating_sub.result + 1) c.args.pages.now))
        (g.P.Probe.bytes c.args.key.now)
    by zero e f k h =
        let n : c.loop-low.high + 1 ≡ c.saturating_sub.result + 1 = omega arith in
        subst (λ (n : ℕ). AllAbove (flat_map arc_value (drop n c.args.pages.now)) (g.P.Probe.bytes c.args.key.now)) n
        (above_next arc_value c.args.pages.now c.loop-low.high (g.P.Probe.bytes c.args.key.now) h)
    by (suc low) e f k h =
        let n : c.loop-low.high ≡ c.saturating_sub.result + 1 = omega arith in
        subst (λ (n : ℕ). AllAbove (flat_map arc_value (drop n c.args.pages.now)) (g.P.Probe.bytes c.args.key.now)) n h
