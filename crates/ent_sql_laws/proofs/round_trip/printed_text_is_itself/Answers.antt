use Rattle.ent_sql_laws.proofs.Scripts.{again_input}
use Rattle.ent_print.specs.Printing.{script_text}
use Rattle.ent_sql_laws.proofs.round_trip.printed_text_is_itself.Goals as goal

pub returns : goal.returns
returns c = λ script fits readable.
    let printed = c.printed_script_is_read.ensures script readable in
    let found = (c.reader_is_exact.ensures.tokens (script_text script) printed.0).1 printed.1 in
    let again = (again_input script fits).read printed.0 printed.2 in (
      again.0,
      (c.reading_is_exact.ensures.input (script_text script) again.0).1
          (record { tokens = printed.0; are_tokens = found; spelled = again.1 }),
      again.2,
    )
