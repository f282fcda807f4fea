use Rattle.ent_protocol.specs.Member.{next_of}
use Rattle.ent_protocol.specs.Waits.{next_uses}
use Rattle.ent_run.proofs.Waiting.{into_pairs, out_of_pairs}
use Rattle.ent_run.proofs.law.awaited_members_are_waited_for.Goals as goal

pub returns : goal.returns
returns c = λ s asker pair.
    (into_pairs s asker (next_uses (next_of s asker)) pair, out_of_pairs s asker (next_uses (next_of s asker)) pair)
