use Rattle.std.proofs.Common.{◌≡◌, ◌<◌, ◌≤◌, true, false, length, map, refl, sym, ap, subst, ◌∙◌, arith, rules, Ok, Bor}
use Rattle.std.proofs.Common.{List, is_some, slice_get}
use Rattle.std.specs.Arc.{arc_value}
use Rattle.std.specs.List.{AllByRecursion}
use Rattle.std.specs.Option.{option_map}
use Rattle.std.proofs.lemmas.List.{length-map}
use Rattle.ent_semantics.specs.FormKinds.{tables_named}
use Rattle.ent_closing.specs.Environment.{environment_of}
use Rattle.ent_form.specs.Catalogue.{schemas_of}
use Rattle.ent_form.specs.Form.{script_in}
use Rattle.ent_form.specs.Kinds.{none_bound}
use Rattle.ent_form.specs.Tables.{database_of}
use Rattle.ent_ordinary.specs.Tables.{rows_in}
use Rattle.ent_semantics.specs.declared.answer.Answer.{Answer}
use Rattle.ent_check.proofs.Along.{Midway, Resolves, midway_begun, resolved_so}
use Rattle.ent_check.proofs.Next.{end_replayed, next_asks, next_on, next_there, none_there, off_replayed}
use Rattle.ent_check.proofs.Next.{told_there}
use Rattle.ent_check.proofs.transaction.transaction_finding.Goals as goal

pub loop-index-init : goal.loop-index-init
loop-index-init c =
    let creates = c.args.declared.now in
    let script = c.args.script.now in
    let tables = map arc_value c.args.stage.now.tables.items in
    let database = database_of creates (rows_in tables) in
    let offers = c.args.stage.now.offers.items in
    let forms = c.as_slice-forms.result.now in
    let form : script_in (schemas_of creates) script ≡ Ok c.in_ok-plain.plain =
    ap (λ schemas. script_in schemas script) (sym c.catalogue.ensures.tables) ∙ c.in_ok-plain.ensures in
    let resolved = subst (Resolves (schemas_of creates) none_bound script.statements)
    (sym (c.as_slice-forms.ensures ∙ c.deref.ensures))
    (resolved_so (schemas_of creates) script c.in_ok-plain.plain form) in
    subst (λ environment. Midway creates c.args.groundings.now c.args.tx script.statements c.args.told.now.answers
    database offers 1 script.statements forms c.args.told.now.answers tables environment offers)
    (sym c.new-environment.ensures.nothing)
    (midway_begun creates c.args.groundings.now c.args.tx script.statements c.args.told.now.answers database offers
    forms tables resolved c.requires.declared c.requires.seated refl)

pub operation_finding-requires-clause-within : goal.operation_finding-requires-clause-within
operation_finding-requires-clause-within c =
    let creates = c.args.declared.now in
    let before = map arc_value c.args.stage.now.tables.items in
    let tables = map arc_value c.loop-index.stage.tables.items in
    let forms = c.as_slice-forms.result.now in
    let low : c.loop-index.index < length forms = grind (arith, rules) in
    subst (λ n. AllByRecursion (λ number. number < n) (tables_named c.in_ok-statement.statement))
    (length-map c.loop-index.stage.tables.items arc_value)
    (next_there creates c.args.groundings.now c.args.tx c.args.script.now c.args.told.now
    (database_of creates (rows_in before)) c.args.stage.now.offers.items c.forms_run_as_statements.ensures
    c.catalogue.ensures.columns c.loop-index.index forms c.index-forms-index.result low c.index-forms-index.is tables
    (environment_of c.loop-index.environment) c.loop-index.stage.offers.items c.in_ok-statement.statement
    c.in_ok-statement.ensures.closed c.loop-index.invariant)

pub operation_finding-requires-clause-fits : goal.operation_finding-requires-clause-fits
operation_finding-requires-clause-fits c =
    let creates = c.args.declared.now in
    let before = map arc_value c.args.stage.now.tables.items in
    let tables = map arc_value c.loop-index.stage.tables.items in
    let forms = c.as_slice-forms.result.now in
    let low : c.loop-index.index < length forms = grind (arith, rules) in
    (next_asks creates c.args.groundings.now c.args.tx c.args.script.now c.args.told.now
    (database_of creates (rows_in before)) c.args.stage.now.offers.items c.forms_run_as_statements.ensures
    c.catalogue.ensures.columns c.loop-index.index forms c.index-forms-index.result low c.index-forms-index.is tables
    (environment_of c.loop-index.environment) c.loop-index.stage.offers.items c.in_ok-statement.statement
    c.in_ok-statement.ensures.closed c.loop-index.invariant).0

pub operation_finding-requires-clause-seat : goal.operation_finding-requires-clause-seat
operation_finding-requires-clause-seat c =
    let creates = c.args.declared.now in
    let before = map arc_value c.args.stage.now.tables.items in
    let tables = map arc_value c.loop-index.stage.tables.items in
    let forms = c.as_slice-forms.result.now in
    let low : c.loop-index.index < length forms = grind (arith, rules) in
    (next_asks creates c.args.groundings.now c.args.tx c.args.script.now c.args.told.now
    (database_of creates (rows_in before)) c.args.stage.now.offers.items c.forms_run_as_statements.ensures
    c.catalogue.ensures.columns c.loop-index.index forms c.index-forms-index.result low c.index-forms-index.is tables
    (environment_of c.loop-index.environment) c.loop-index.stage.offers.items c.in_ok-statement.statement
    c.in_ok-statement.ensures.closed c.loop-index.invariant).1

pub returns-then-is_some-clause-replayed : goal.returns-then-is_some-clause-replayed
returns-then-is_some-clause-replayed c =
    let creates = c.args.declared.now in
    let before = map arc_value c.args.stage.now.tables.items in
    let tables = map arc_value c.loop-index.stage.tables.items in
    let after = database_of creates (rows_in (map arc_value c.operation_finding.new.stage.tables.items)) in
    let forms = c.as_slice-forms.result.now in
    let i = c.loop-index.index in
    let low : i < length forms = grind (arith, rules) in
    let answer = option_map (λ (one : Bor Answer). one.now) c.get-answer.result in
    let is_told = told_there c.as_slice.result.now i c.get-answer.result c.get-answer.ensures.lookup
    ∙ ap (λ (answers : List Answer). slice_get answers i) c.as_slice.ensures in
    let some : is_some c.in_ok-finding.finding ≡ true = sym c.is_some.ensures ∙ c.if-is_some.true in
    off_replayed creates c.args.groundings.now c.args.tx c.args.script.now c.args.told.now
    (database_of creates (rows_in before)) c.args.stage.now.offers.items c.forms_run_as_statements.ensures
    c.catalogue.ensures.columns i forms c.index-forms-index.result low c.index-forms-index.is tables
    (environment_of c.loop-index.environment) c.loop-index.stage.offers.items c.in_ok-statement.statement
    c.in_ok-statement.ensures.closed c.loop-index.invariant answer is_told c.in_ok-finding.finding
    c.in_ok-finding.ensures.finding some after c.operation_finding.new.stage.offers.items

pub loop-index-preserved : goal.loop-index-preserved
loop-index-preserved c =
    let creates = c.args.declared.now in
    let before = map arc_value c.args.stage.now.tables.items in
    let tables = map arc_value c.loop-index.stage.tables.items in
    let behind = map arc_value c.operation_finding.new.stage.tables.items in
    let forms = c.as_slice-forms.result.now in
    let i = c.loop-index.index in
    let low : i < length forms = grind (arith, rules) in
    let answer = option_map (λ (one : Bor Answer). one.now) c.get-answer.result in
    let is_told = told_there c.as_slice.result.now i c.get-answer.result c.get-answer.ensures.lookup
    ∙ ap (λ (answers : List Answer). slice_get answers i) c.as_slice.ensures in
    let none = none_there c.in_ok-finding.finding (sym c.is_some.ensures ∙ c.if-is_some.false) in
    next_on creates c.args.groundings.now c.args.tx c.args.script.now c.args.told.now
    (database_of creates (rows_in before)) c.args.stage.now.offers.items c.forms_run_as_statements.ensures
    c.catalogue.ensures.columns i forms c.index-forms-index.result low c.index-forms-index.is tables
    (environment_of c.loop-index.environment) c.loop-index.stage.offers.items c.in_ok-statement.statement
    c.in_ok-statement.ensures.closed c.loop-index.invariant answer is_told c.in_ok-finding.finding
    c.in_ok-finding.ensures.finding behind (environment_of c.operation_finding.new.environment)
    c.operation_finding.new.stage.offers.items none (c.in_ok-finding.ensures.left none)
    (c.in_ok-finding.ensures.offers none) (c.in_ok-finding.ensures.kinds none)

pub returns-clause-replayed : goal.returns-clause-replayed
returns-clause-replayed c =
    let creates = c.args.declared.now in
    let before = map arc_value c.args.stage.now.tables.items in
    let tables = map arc_value c.loop-index.stage.tables.items in
    let forms = c.as_slice-forms.result.now in
    let over : length forms ≤ c.loop-index.index = grind (arith, rules) in
    end_replayed creates c.args.groundings.now c.args.tx c.args.script.now c.args.told.now
    (database_of creates (rows_in before)) c.args.stage.now.offers.items c.loop-index.index forms tables
    (environment_of c.loop-index.environment) c.loop-index.stage.offers.items over c.loop-index.invariant
