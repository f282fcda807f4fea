use Rattle.ent_sql_laws.proofs.spelling.texts_are_spelled.Goals as goal

pub returns : goal.returns
returns c = λ text tree. (
  λ is.
      let h = (c.reading_is_exact.ensures.input text tree).0 is in
      record {
        tokens = h.tokens;
        are_tokens = (c.reader_is_exact.ensures.tokens text h.tokens).0 h.are_tokens;
        said = (c.inputs_are_spelled.ensures.input tree h.tokens).0 h.spelled;
      },
  λ h. (c.reading_is_exact.ensures.input text tree).1 (record {
    tokens = h.tokens;
    are_tokens = (c.reader_is_exact.ensures.tokens text h.tokens).1 h.are_tokens;
    spelled = (c.inputs_are_spelled.ensures.input tree h.tokens).1 h.said;
  }),
)
