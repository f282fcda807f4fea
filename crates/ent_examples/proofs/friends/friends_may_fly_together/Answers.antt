use Rattle.ent_examples.proofs.Good.{good_is_legal}
use Rattle.ent_examples.proofs.friends.friends_may_fly_together.Goals as goal

-- src/friends.rt:11:1
pub returns : goal.returns
returns c = good_is_legal
