use Rattle.std.proofs.Common.{◌∙◌}
use Rattle.ent_form.specs.AllFaults.{opening_faults}
use Rattle.ent_form.specs.Catalogue.{schemas_of}
use Rattle.ent_form.specs.OpeningFault.{opening_fault, unless}
use Rattle.ent_form.proofs.FirstFault.{first_answered, unless_fault}
use Rattle.ent_form.proofs.Heads.{opening_head}
use Rattle.ent_form.proofs.catalogue.Catalogue.of.Goals as goal

pub returns-clause-fault : goal.returns-clause-fault
returns-clause-fault c =
    let opening = c.args.opening.now in
    let tables = schemas_of opening.tables in
    first_answered (λ catalogue. catalogue.tables) c.declared.result (unless (opening_fault opening) tables)
    (opening_faults opening) (unless_fault (opening_fault opening) tables ∙ opening_head opening) c.declared.ensures
