use Rattle.ent_lists.specs.Elements.{in_contains}
use Rattle.ent_program_laws.proofs.Told.{few_are_told, rows_are_told, tables_are_told}
use Rattle.ent_program_laws.proofs.answer_law.tables_can_be_told.Goals as goal

pub returns-clause-limit : goal.returns-clause-limit
returns-clause-limit c declared database create holds there = few_are_told declared database holds create there

pub returns-clause-rows : goal.returns-clause-rows
returns-clause-rows c declared database create holds there = rows_are_told declared database holds create there

pub returns-clause-shown : goal.returns-clause-shown
returns-clause-shown c declared database holds =
    tables_are_told declared database holds declared (λ create at. in_contains declared create at)
