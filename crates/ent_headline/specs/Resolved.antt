-- Scripts resolved over the tables that an opening declares.
use Rattle.ent_form.specs.InputFault.{form_over}
use Rattle.ent_form.specs.declared.fault.FormFault.{FormFault}
use Rattle.ent_protocol.specs.Run.{Forms}

-- the statements of a script's form, or its first fault
abbrev pub resolved_forms : Forms FormFault
resolved_forms = record { resolve = form_over }
