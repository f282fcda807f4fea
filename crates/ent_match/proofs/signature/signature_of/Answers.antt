use Rattle.ent_match.proofs.Signatures.{signature_all, signature_more, signature_of_none}
use Rattle.ent_match.proofs.signature.signature_of.Goals as goal

pub loop-atom-init : goal.loop-atom-init
loop-atom-init c = signature_of_none c.args.atoms.now

pub loop-atom-preserved : goal.loop-atom-preserved
loop-atom-preserved c =
    signature_more c.args.atoms.now c.loop-atom.atom-index c.loop-atom.row c.with_marks_of-row.result c.atom-item.result
    c.loop-atom-test.true c.atom-item.is c.with_marks_of-row.ensures c.loop-atom.invariant

pub returns : goal.returns
returns c =
    signature_all c.args.atoms.now c.loop-atom.atom-index c.loop-atom.row c.loop-atom-test.false c.loop-atom.invariant
