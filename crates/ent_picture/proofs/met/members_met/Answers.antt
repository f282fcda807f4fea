use Rattle.ent_picture.specs.Members.{picked_and_met}
use Rattle.ent_picture.proofs.Found.{all_found}
use Rattle.ent_picture.proofs.Rising.{same_as_named}
use Rattle.ent_picture.proofs.met.members_met.Goals as goal

pub returns-clause-exact : goal.returns-clause-exact
returns-clause-exact c =
    let named = all_found c.args.trace.now c.args.joints.now c.args.picked.now _ _ _ _ _ _ c.new-found.ensures.items
    c.as_slice.ensures.value c.in_ok-started.ensures c.in_ok-put_picked.ensures c.in_ok-put_partners.ensures
    c.in_ok-put_companies.ensures in
    same_as_named c.each_once.result.items c.put_companies.new.found.items
    (picked_and_met c.args.trace.now c.args.joints.now c.args.picked.now) named c.each_once.ensures.exact
