use Rattle.std.proofs.Common.{◌≡◌, ◌+◌, ◌-◌, ◌<◌, ◌^◌, ℕ, length, min, sum_by, take, sym, ap, ◌∙◌, arith, subst}
use Rattle.std.proofs.lemmas.Iterator.{YieldsList-from_chars}
use Rattle.std.proofs.lemmas.Iterator.Consumers.{YieldsList-turn, YieldsList-end}
use Rattle.std.proofs.lemmas.List.{length_push, take_all}
use Rattle.std.proofs.lemmas.List.Sums.{sum_by_more}
use Rattle.std.specs.Str.{chars}
use Rattle.ent_excerpt.specs.Part.{char_columns}
use Rattle.ent_excerpt.proofs.excerpt.columns.Goals as goal

-- a sum that fits with one more does so without it, and isn't cut
one_more : (sum before now width next : ℕ) → (before < 2 ^ 64 → sum ≡ before) → now ≡ before + width
    → next ≡ min (sum + width) (2 ^ 64 - 1) → now < 2 ^ 64 → next ≡ now
one_more sum before now width next so more is fits =
    let low : before < 2 ^ 64 = omega (arith, more, fits) in
    let same = so low in
    omega (arith, same, more, is, fits)

pub loop-c-preserved : goal.loop-c-preserved
loop-c-preserved c fits =
    let all = chars c.args.text.now in
    let t = YieldsList-turn (YieldsList-from_chars c.args.text.now c.utf8.text cc) c.loop-c.yielded _
    c.loop-c.yielded_by _ _ c.in-Some.c c.in-Some.is c.next.ensures.steps in
    let count = length_push c.loop-c.yielded c.in-Some.c in
    let more = sum_by_more char_columns all (length c.loop-c.yielded) c.in-Some.c t.0 in
    one_more c.loop-c.sum _ _ _ _ c.loop-c.invariant
    (ap (λ n. sum_by char_columns (take n all)) count ∙ more) (cc) fits

pub returns : goal.returns
returns c fits =
    let all = chars c.args.text.now in
    let t = YieldsList-end (YieldsList-from_chars c.args.text.now c.utf8.text cc) c.loop-c.yielded _
    c.loop-c.yielded_by _ _ c.in-None.is c.next.ensures.steps in
    let whole : take (length c.loop-c.yielded) all ≡ all =
    take_all (length c.loop-c.yielded) all (omega (arith, t.1)) in
    c.loop-c.invariant (subst (λ (cs : _). sum_by char_columns cs < 2 ^ 64) (sym whole) fits)
    ∙ ap (sum_by char_columns) whole
