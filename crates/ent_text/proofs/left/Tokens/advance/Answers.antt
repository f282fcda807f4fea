use Rattle.std.proofs.Common.{◌∙◌, List, drop, ap}
use Rattle.ent_text.specs.declared.token.Token.{Token}
use Rattle.ent_text.proofs.UpTo.{behind_first}
use Rattle.ent_text.proofs.left.Tokens.advance.Goals as goal

pub returns : goal.returns
returns c =
    c.self-2.view_is ∙ c.tokens_from.ensures ∙ behind_first c.self.inside.front c.self.inside.start c.self.inside.end
    c.self.inside.behind.now c.self.invariant.at_end ∙ ap (λ (ts : List Token). drop 1 ts) c.self.view_is
