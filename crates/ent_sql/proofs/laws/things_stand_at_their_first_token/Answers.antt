use Rattle.std.proofs.Common.{[], true, sym, ap, ◌∙◌}
use Rattle.std.proofs.lemmas.List.{append-nil}
use Rattle.ent_text.specs.Read.{place_of}
use Rattle.ent_sql.proofs.Places.{literal_stands, operand_stands, expression_stands, term_stands, condition_stands}
use Rattle.ent_sql.proofs.laws.things_stand_at_their_first_token.Goals as goal

pub returns-clause-literal : goal.returns-clause-literal
returns-clause-literal c end tokens thing h = sym (ap (place_of end) (append-nil tokens))
    ∙ literal_stands end true thing tokens h []

pub returns-clause-operand : goal.returns-clause-operand
returns-clause-operand c end tokens thing h = sym (ap (place_of end) (append-nil tokens))
    ∙ operand_stands end true thing tokens h []

pub returns-clause-expression : goal.returns-clause-expression
returns-clause-expression c end tokens thing h = sym (ap (place_of end) (append-nil tokens))
    ∙ expression_stands end true thing tokens h []

pub returns-clause-term : goal.returns-clause-term
returns-clause-term c end tokens thing h = sym (ap (place_of end) (append-nil tokens))
    ∙ term_stands end true thing tokens h []

pub returns-clause-condition : goal.returns-clause-condition
returns-clause-condition c end tokens thing h = sym (ap (place_of end) (append-nil tokens))
    ∙ condition_stands end true thing tokens h []
