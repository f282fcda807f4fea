use Rattle.std.proofs.Common.{◌≡◌, ◌++◌, take}
use Rattle.std.specs.List.{flat_map}
use Rattle.ent_picture.specs.Members.{if_met}
use Rattle.ent_picture.proofs.met.put_partners.Given as goal

abbrev pub invariant-loop-joint : goal.invariant-loop-joint
invariant-loop-joint l =
    l.found.items ≡ l.fn.found.items ++ flat_map (λ joint. if_met l.picked joint.members.items)
    (take l.joint-index l.joints)
