use Rattle.ent_print.specs.Reading.{CanBeRead}
use Rattle.ent_print.specs.Spelling.{script_spelling}
use Rattle.ent_sql_laws.specs.Fits.{Each, ScriptFits}
use Rattle.ent_sql_laws.specs.Following.{WasRead, text_with}
use Rattle.ent_sql_laws.proofs.Keeping.{each_of, each_implies}
use Rattle.ent_sql_laws.proofs.Following.{scripts_follow}
use Rattle.ent_sql_laws.proofs.round_trip.printed_scripts_follow.Goals as goal

pub returns : goal.returns
returns c = λ front first scripts is were few.
    let said = (c.reading_is_exact.ensures.input front first).0 is in
    let tokens = (c.reader_is_exact.ensures.tokens front said.tokens).0 said.are_tokens in
    let each = each_of WasRead scripts were in
    let fit = each_implies WasRead ScriptFits
    (λ s h. (c.read_scripts_can_be_printed.ensures.each h.0 h.1 s h.2 h.3).0) scripts each in
    let can = each_implies WasRead (λ s. Each CanBeRead (script_spelling s))
    (λ s h. each_of CanBeRead (script_spelling s) (c.read_scripts_can_be_printed.ensures.each h.0 h.1 s h.2 h.3).1)
    scripts each in
    let found = scripts_follow c.line_end_parts_texts.ensures c.printed_text_is_read.ensures front said.tokens first
    scripts tokens said.spelled fit can few in (
      found.2.0,
      (c.reading_is_exact.ensures.input (text_with front scripts) found.2.0).1 (record {
        tokens = found.0;
        are_tokens = (c.reader_is_exact.ensures.tokens (text_with front scripts) found.0).1 found.1;
        spelled = found.2.1;
      }),
      found.2.2,
    )
