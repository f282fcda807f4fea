use Rattle.std.proofs.Common.{ap, ◌∙◌}
use Rattle.std.proofs.lemmas.Result.{IfOk-weaker}
use Rattle.std.specs.List.{list_all}
use Rattle.ent_check.proofs.Posts.{is_content_among, met_alone}
use Rattle.ent_check.proofs.post.are_met.Goals as goal

pub returns : goal.returns
returns c =
    IfOk-weaker c.are_content.result _ _ (λ met is own offers are.
    is
    ∙ ap (λ those. list_all (is_content_among those) those) (c.offers_of.ensures ∙ are c.args.number)
    ∙ met_alone own c.args.number offers)
    c.are_content.ensures
