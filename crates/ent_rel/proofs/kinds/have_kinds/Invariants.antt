use Rattle.std.proofs.Common.{◌≡◌, take}
use Rattle.ent_value.specs.Value.{kinds_of}
use Rattle.ent_page.specs.Key.{AreStorable}
use Rattle.ent_rel.proofs.kinds.have_kinds.Given as goal

abbrev pub invariant-loop-number : goal.invariant-loop-number
invariant-loop-number l = record {
  kinds : kinds_of
      (take l.number l.values) ≡ take l.number l.kinds;
  stored : AreStorable (take l.number l.values);
}
