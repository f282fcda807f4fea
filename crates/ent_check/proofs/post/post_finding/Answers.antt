use Rattle.std.proofs.Common.{List, subst}
use Rattle.std.proofs.lemmas.Result.{IfOk-weaker}
use Rattle.ent_check.specs.Offers.{AreJoined, joint_in}
use Rattle.ent_check.specs.declared.offer.StatementOffer.{StatementOffer}
use Rattle.ent_check.proofs.post.post_finding.Goals as goal

pub returns : goal.returns
returns c =
    λ all run none are.
    IfOk-weaker c.first_unmet.result _ _ (λ finding is. is all run c.args.seats.now c.requires none
    (subst (λ (offers : List StatementOffer). AreJoined (joint_in c.args.seats.now) offers c.in_ok-joined.joined) are
    c.in_ok-joined.ensures))
    c.first_unmet.ensures
