use Rattle.std.proofs.Common.{◌≡◌, ◌++◌, drop}
use Rattle.ent_feed.specs.Json.{escaped}
use Rattle.ent_feed.proofs.json.put_escaped.Given as goal

-- what is out, and what is left as it will stand
abbrev pub invariant-loop-byte : goal.invariant-loop-byte
invariant-loop-byte l = l.out.items ++ escaped (drop l.byte-index l.bytes) ≡ l.fn.out.items ++ escaped l.bytes
