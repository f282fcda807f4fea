use Rattle.std.proofs.Common.{◌≡◌, ◌+◌, ◌-◌, ◌/◌, ◌<◌, [], length, get_or, sym, ap, ◌∙◌, arith}
use Rattle.std.specs.declared.cmp.Ordering.TheVariants.{Less, Equal, Greater}
use Rattle.std.proofs.lemmas.Map.Lookups.{exact_bytes}
use Rattle.ent_page.specs.Key.{key_cmp}
use Rattle.ent_page.proofs.Search.{below_middle, above_middle}
use Rattle.ent_page.proofs.page.Page.search.Goals as goal

pub loop-low-preserved-in-Less : goal.loop-low-preserved-in-Less
loop-low-preserved-in-Less g c =
    let mid = c.loop-low.low + (c.loop-low.high - c.loop-low.low) / 2 in
    let in_range : c.loop-low.low + (c.loop-low.high - c.loop-low.low) / 2 < length c.args.self.now = omega arith in
    let less : key_cmp (get_or c.args.self.now (c.loop-low.low + (c.loop-low.high - c.loop-low.low) / 2) [])
    (g.P.Probe.bytes c.args.key.now) ≡ Less =
    ap (λ z. key_cmp z (g.P.Probe.bytes c.args.key.now)) (sym c.key.ensures) ∙ sym c.against.ensures ∙ c.in-Less.is in (
      omega arith,
      c.loop-low.invariant.1,
      below_middle c.args.self.now
          (g.P.Probe.bytes c.args.key.now) mid in_range less,
      c.loop-low.invariant.3,
    )

pub returns-in-Equal-clause-found : goal.returns-in-Equal-clause-found
returns-in-Equal-clause-found g c =
    let same : key_cmp (get_or c.args.self.now (c.loop-low.low + (c.loop-low.high - c.loop-low.low) / 2) [])
    (g.P.Probe.bytes c.args.key.now) ≡ Equal =
    ap (λ z. key_cmp z (g.P.Probe.bytes c.args.key.now)) (sym c.key.ensures) ∙ sym c.against.ensures
    ∙ c.in-Equal.is in (
      omega arith,
      exact_bytes (get_or c.args.self.now (c.loop-low.low + (c.loop-low.high - c.loop-low.low) / 2) [])
          (g.P.Probe.bytes c.args.key.now) same,
    )

pub loop-low-preserved : goal.loop-low-preserved
loop-low-preserved g c =
    let mid = c.loop-low.low + (c.loop-low.high - c.loop-low.low) / 2 in
    let more : key_cmp (get_or c.args.self.now (c.loop-low.low + (c.loop-low.high - c.loop-low.low) / 2) [])
    (g.P.Probe.bytes c.args.key.now) ≡ Greater =
    ap (λ z. key_cmp z (g.P.Probe.bytes c.args.key.now)) (sym c.key.ensures) ∙ sym c.against.ensures
    ∙ c.in-Greater.is in (
      omega arith,
      omega arith,
      c.loop-low.invariant.2,
      above_middle c.args.self.now
          (g.P.Probe.bytes c.args.key.now) mid more,
    )
