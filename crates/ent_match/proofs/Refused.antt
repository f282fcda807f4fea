-- Why a statement isn't posted.
use Rattle.std.proofs.Common.{List}
use Rattle.ent_semantics.specs.Pool.{Posted}
use Rattle.ent_match.specs.declared.fault.PostFault.{PostFault}
use Rattle.ent_match.specs.declared.fault.PostFault.TheVariants as faults
use Rattle.ent_match.specs.Fault.{IsByNumber}
use Rattle.ent_match.specs.Posting.{Adds, IsWhyIn, IsWhyWith}
use Rattle.ent_match.proofs.Faults.{not_safe}
use Rattle.ent_match.proofs.Placed.{why_front}

pub why_with : (old new : List Posted) (member : Posted) (fault : PostFault) → Adds old new member → IsByNumber new
    → IsWhyIn new fault → IsWhyWith old member fault
why_with old new member faults.Memory adds ordered why = tt
why_with old new member (faults.Unsafe fault) adds ordered why =
    why_front old new member fault adds (not_safe new ordered fault why.0) why
