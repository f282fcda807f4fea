use Rattle.std.proofs.Common.{take}
use Rattle.ent_match.specs.Signature.{IsSignature}
use Rattle.ent_match.proofs.signature.signature_of.Given as goal

-- the row has the marks of the atoms so far
abbrev pub invariant-loop-atom : goal.invariant-loop-atom
invariant-loop-atom l = IsSignature (take l.atom-index l.atoms) l.row
