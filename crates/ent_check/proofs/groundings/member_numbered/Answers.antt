use Rattle.std.proofs.Common.{Some, None}
use Rattle.ent_history.specs.declared.history.ToldMember.{ToldMember}
use Rattle.ent_semantics.proofs.Numbered.{numbered_map}
use Rattle.ent_check.proofs.groundings.member_numbered.Goals as goal

pub returns-in-Some : goal.returns-in-Some
returns-in-Some c =
    numbered_map (λ (told : ToldMember). told.member) c.args.members.now c.args.number (Some c.in-Some.told.now)
    c.in-Some.ensures

pub returns-in-None : goal.returns-in-None
returns-in-None c =
    numbered_map (λ (told : ToldMember). told.member) c.args.members.now c.args.number None c.in-None.ensures
