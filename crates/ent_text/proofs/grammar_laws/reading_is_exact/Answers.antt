use Rattle.ent_text.proofs.Stopped.{read_is_spelled, spelled_is_read, unexpected_cant_follow, too_many_is_too_much}
use Rattle.ent_text.proofs.Place.{one_value, cant_follow_is_unexpected, too_much_is_too_many}
use Rattle.std.proofs.Common.{true}
use Rattle.ent_text.proofs.grammar_laws.reading_is_exact.Goals as goal

pub returns-clause-value : goal.returns-clause-value
returns-clause-value g c h end tokens y = (
  λ e. read_is_spelled g.T.Language.grammar h end tokens y e true,
  spelled_is_read g.T.Language.grammar h end tokens
      y,
)

pub returns-clause-single : goal.returns-clause-single
returns-clause-single g c h tokens this that = one_value g.T.Language.grammar 0 tokens h this that

pub returns-clause-unexpected : goal.returns-clause-unexpected
returns-clause-unexpected g c h end tokens place = (
  unexpected_cant_follow g.T.Language.grammar h end tokens place,
  cant_follow_is_unexpected g.T.Language.grammar end
      tokens h place,
)

pub returns-clause-too_many : goal.returns-clause-too_many
returns-clause-too_many g c h end tokens place = (
  too_many_is_too_much g.T.Language.grammar h end tokens place,
  too_much_is_too_many g.T.Language.grammar end tokens
      h place,
)
