use Rattle.std.proofs.Common.{arith, ◌∙◌}
use Rattle.std.proofs.Math.Bool.{or-false}
use Rattle.ent_stream.proofs.Pieces.{nothing_read, read_more, read_to_end, read_too_much}
use Rattle.ent_stream.proofs.reader.read_pieces.Goals as goal

pub reading-init : goal.reading-init
reading-init g c = record {
  bound = omega (arith, c.new-bytes.ensures.len);
  front = nothing_read _ _ c.new-bytes.ensures.items;
  unmarked = c.requires.unmarked;
}

pub returns-in-Ok-eq0-clause-whole : goal.returns-in-Ok-eq0-clause-whole
returns-in-Ok-eq0-clause-whole g c =
    read_to_end _ _ _ c.reading.bytes.items c.read.new.buffer c.in-Ok-eq0.field-0 c.in-Ok-eq0.field-0-test
    (omega (arith, c.read.auto.buffer, c.requires)) c.reading.invariant.front c.in-Ok-eq0.ensures.bytes

pub returns-then-count-most-clause-too_long : goal.returns-then-count-most-clause-too_long
returns-then-count-most-clause-too_long g c is =
    read_too_much _ _ _ c.reading.bytes.items c.read.new.buffer c.in-Ok.count _ c.in-Ok.ensures.bound.0
    (omega (arith, c.if-count-most.true, c.len.ensures, c.reading.bytes.ok.0)) c.reading.invariant.front
    c.in-Ok.ensures.bytes.0

pub reading-preserved : goal.reading-preserved
reading-preserved g c = record {
  bound = omega (
    arith,
    c.if-count-most.false,
    c.len.ensures,
    c.in_ok-extend_from_slice-in-Ok.ensures.len,
    c.split_at.ensures.front_len,
    c.reading.invariant.bound,
  );
  front = rw (c.in_ok-extend_from_slice-in-Ok.ensures.items, c.split_at.ensures.front)
      (read_more _ (g.R.Read.remaining c.reading.reader.inner) _ _ _ c.reading.invariant.front c.in-Ok.ensures.bytes.0);
  unmarked = (
    c.in-Ok.ensures.failed ∙ or-false _ ∙ c.reading.invariant.unmarked.0,
    c.in-Ok.ensures.stalled
        ∙ c.reading.invariant.unmarked.1,
  );
}
