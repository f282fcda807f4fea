use Rattle.std.proofs.Common.{◌≡◌, ◌∙◌, true, not, map, sym, ap}
use Rattle.std.specs.Prelude.{is_none}
use Rattle.std.specs.Arc.{arc_value}
use Rattle.std.specs.Option.{option_map}
use Rattle.ent_closing.specs.Environment.{environment_of}
use Rattle.ent_history.specs.Placed.{member_at}
use Rattle.ent_ordinary.specs.Tables.{rows_in}
use Rattle.ent_check.proofs.Compared.{right_finding, tables_there}
use Rattle.ent_check.proofs.operation.operation_finding.Goals as goal

pub failing-requires : goal.failing-requires
failing-requires c =
    tables_there c.as_slice.result.now c.args.stage.now.tables.items c.args.statement.now c.in-Entangled.entangled
    c.as_slice.ensures.value c.in-Entangled.is c.requires.within

pub returns-clause-finding : goal.returns-clause-finding
returns-clause-finding c =
    let tx = c.args.place.tx in
    let place = c.args.place.place in
    let right : is_none c.in_ok-wrong.wrong ≡ true = ap not (sym c.is_some.ensures ∙ c.if-is_some.false) in
    right_finding c.in-Some.seat.joint c.in-Some.seat.number c.in-Some.seat.grounding.now tx place
    (member_at c.args.groundings.now tx place) c.in-Some.ensures c.in-Entangled.entangled c.args.statement.now
    c.in-Entangled.is (option_map (λ told. told.now) c.args.told) (rows_in (map arc_value c.as_slice.result.now))
    (rows_in (map arc_value c.args.stage.now.tables.items)) (environment_of c.args.environment.now)
    (ap (λ tables. rows_in (map arc_value tables)) c.as_slice.ensures.value) (is_none c.in_ok-wrong.wrong)
    c.in_ok-wrong.ensures right c.answer_finding-2.result c.answer_finding-2.ensures.finding
