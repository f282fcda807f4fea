use Rattle.std.specs.Prelude.{string_bytes}
use Rattle.ent_history.proofs.Filled.{one_more}
use Rattle.ent_history.proofs.begins.filled.Goals as goal

pub loop-left-preserved : goal.loop-left-preserved
loop-left-preserved c =
    one_more (string_bytes c.loop-left.text) (string_bytes c.push_str.new.self) _ c.loop-left.left c.loop-left-test.true
    c.in_ok-push_str.ensures.bytes c.loop-left.invariant
