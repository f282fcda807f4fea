use Rattle.std.proofs.Common.{◌≡◌, ◌<◌, length, get_or, not, arith, ap}
use Rattle.ent_group.specs.Groups.{alone}
use Rattle.std.proofs.lemmas.Bool.{ne_eqb, eq-eqb}
use Rattle.std.proofs.lemmas.List.{get_or_default}
use Rattle.std.proofs.lemmas.List.Filters.{FiltersInPlace-more_set, FiltersInPlace-more_no}
use Rattle.ent_group.proofs.groups.keep_others.Goals.{then-membership-group, else-membership-group}
use Rattle.ent_group.proofs.groups.keep_others.Goals as goal

pub loop-i-preserved : goal.loop-i-preserved
loop-i-preserved c =
    let ms = c.loop-i.memberships in
    let read = get_or ms c.loop-i.i (alone 0) in
    let within : c.loop-i.i < length ms = omega (arith, c.loop-i.auto.memberships, c.loop-i-test.true, c.requires) in
    let same : read ≡ get_or ms c.loop-i.i read = get_or_default ms c.loop-i.i (alone 0) read within in
    elim c.if-membership-group.branch [
      | then-membership-group w ↦
          rw (w.memberships-is, w.kept-is)
          (FiltersInPlace-more_set {x = read} c.loop-i.invariant within
          (ap not (ne_eqb read.group c.args.group w.if-membership-group.true)) same)
      | else-membership-group w ↦
          rw (w.memberships-is, w.kept-is)
          (FiltersInPlace-more_no {x = read} c.loop-i.invariant within
          (ap not (eq-eqb read.group c.args.group w.if-membership-group.false)) same)
    ]
