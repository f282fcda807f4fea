use Rattle.std.proofs.Common.{sym}
use Rattle.ent_match.proofs.Signatures.{marks_all}
use Rattle.ent_match.proofs.signature.with_marks_of.Goals as goal

pub returns-in-None : goal.returns-in-None
returns-in-None c = marks_all c.args.atom.now c.args.row (sym c.in-None.ensures.value)
