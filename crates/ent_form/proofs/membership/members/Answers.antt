use Rattle.std.proofs.Common.{map}
use Rattle.std.proofs.lemmas.Slice.Zip.{either_empty_from_Zip}
use Rattle.std.specs.Iterator.Adapters.{zip_first, zip_second}
use Rattle.std.specs.Slice.Iter.{iter_rest}
use Rattle.ent_form.specs.Bindings.{bound_in}
use Rattle.ent_form.proofs.Columns.{members_end}
use Rattle.ent_form.proofs.membership.members.Goals as goal

pub returns : goal.returns
returns c =
    let left = c.loop-kind.kind-iterator in
    members_end (map (λ name. name.now) c.args.names.now) (bound_in c.args.bindings.now) c.loop-kind.members
    (bound_in c.loop-kind.kinds) (iter_rest (zip_first left)) (iter_rest (zip_second left)) _
    (either_empty_from_Zip left c.next.new.self c.next.result c.in-None.is c.next.ensures.steps)
    c.loop-kind.invariant.2
