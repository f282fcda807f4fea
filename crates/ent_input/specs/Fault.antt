-- The number and the place of a fault.
use Rattle.std.specs.Prelude.{ℕ, Option, Some, None}
use Rattle.ent_sql.specs.Fault.{code_of as sql_code_of, place_of as sql_place_of}
use Rattle.ent_form.specs.Fault.{code_of as form_code_of, place_of as form_place_of}
use Rattle.ent_input.specs.declared.fault.InputFault.{InputFault}
use Rattle.ent_input.specs.declared.fault.InputFault.TheVariants.{TooLong, NotUtf8, Sql, Form}

abbrev pub code_of : InputFault → ℕ
code_of TooLong = 105
code_of (NotUtf8 place) = 100
code_of (Sql fault) = sql_code_of fault
code_of (Form fault) = form_code_of fault

abbrev pub place_of : InputFault → Option ℕ
place_of TooLong = None
place_of (NotUtf8 place) = Some place
place_of (Sql fault) = Some (sql_place_of fault)
place_of (Form fault) = Some (form_place_of fault)
