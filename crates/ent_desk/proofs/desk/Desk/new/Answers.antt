use Rattle.std.proofs.Common.{◌∙◌, ap, length, refl, sym}
use Rattle.ent_desk.proofs.desk.Desk.new.Goals as goal

pub invariant_of-result : goal.invariant_of-result
invariant_of-result g c = (
  record {
    gathered = (c.args.core, 0, c.requires.made, refl);
    scripts = c.requires.scripts;
    entries = c.requires.entries.0 ∙ sym (ap length c.requires.entries.1);
  },
  c.forget.ensures c.args.core.lent (sym c.lent_count.ensures),
)
