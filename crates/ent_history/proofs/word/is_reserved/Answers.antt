use Rattle.std.proofs.Common.{◌∙◌, Some, None}
use Rattle.ent_text.specs.View.{kind_seen}
use Rattle.ent_history.proofs.Names.{seen, word_is_text}
use Rattle.ent_history.proofs.word.is_reserved.Goals as goal

pub returns-in_default : goal.returns-in_default
returns-in_default c = absurd (c.in_default.ensures.cases.0 (word_is_text c.args.word.now c.requires))

pub returns-in-Some : goal.returns-in-Some
returns-in-Some c =
    c.is_keyword.ensures
    ∙ seen c.args.word.now c.in-Ok.text.now c.of-tokens.result (Some (kind_seen c.in-Some.view.now)) c.requires
    c.in-Ok.ensures.cases.0 c.of-tokens.ensures c.in-Some.ensures.kind

pub returns-in-None : goal.returns-in-None
returns-in-None c =
    seen c.args.word.now c.in-Ok.text.now c.of-tokens.result None c.requires c.in-Ok.ensures.cases.0
    c.of-tokens.ensures c.in-None.ensures.kind
