-- Those who wait rest where nobody stands in any of the queues.
use Rattle.ent_waiting.specs.WaitingList.{WaitingList}
use Rattle.ent_waiting.specs.declared.queues.Rank.TheVariants.{Newcomer, Ordinary, Woken}
use Rattle.ent_room.specs.State.{AreResting, HasNobodyIn}

pub in_no_queue : (list : WaitingList) → HasNobodyIn list Ordinary → HasNobodyIn list Newcomer → HasNobodyIn list Woken
    → AreResting list
in_no_queue list ordinary newcomer woken Ordinary = ordinary
in_no_queue list ordinary newcomer woken Newcomer = newcomer
in_no_queue list ordinary newcomer woken Woken = woken
