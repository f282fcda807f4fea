use Rattle.std.proofs.Common.{◌≤◌, ◌-◌, vec_len}
use Rattle.std.specs.Io.KnownBytes.{Consumes}
use Rattle.ent_value.specs.Watched.{IsUnmarked}
use Rattle.ent_stream.proofs.reader.read_pieces.Given as goal

-- what was read is a beginning of what the reader had, and no read failed
abbrev pub invariant-reading : goal.invariant-reading
invariant-reading g l = record {
  bound : vec_len l.bytes ≤ l.most;
  front : Consumes (g.R.Read.remaining l.fn.reader.inner) (g.R.Read.remaining l.reader.inner) l.bytes.items;
  unmarked : IsUnmarked l.reader;
}

abbrev pub decreases-reading : goal.decreases-reading
decreases-reading g l = l.most - vec_len l.bytes
