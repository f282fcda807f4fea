use Rattle.ent_waiting.proofs.Lists.{one_more, one_less, none_more}
use Rattle.ent_waiting.proofs.store_law.waiting_lists_go_on_so.Goals as goal

pub returns : goal.returns
returns c = record { put = one_more; ended = one_less; same = none_more }
