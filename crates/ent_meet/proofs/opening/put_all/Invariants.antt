use Rattle.std.proofs.Common.{◌≡◌, drop}
use Rattle.ent_room.specs.Putting.{tables_of}
use Rattle.ent_waiting.specs.WaitingList.{WaitingList}
use Rattle.ent_meet.specs.Opening.{AreWaiting}
use Rattle.ent_meet.proofs.opening.put_all.Given as goal

-- where those who are left come to wait, all do
abbrev pub invariant-loop-script : goal.invariant-loop-script
invariant-loop-script l = record {
  index : l.index ≡ l.script-index;
  list :
      (last : WaitingList)
      → AreWaiting (tables_of l.fn.room.admission) l.said l.index (drop l.script-index l.scripts) l.room.admission.list
      last
      → AreWaiting (tables_of l.fn.room.admission) l.said 0 l.scripts l.fn.room.admission.list last;
  epoch : l.room.admission.epoch ≡ l.fn.room.admission.epoch;
  coming : l.room.admission.coming ≡ l.fn.room.admission.coming;
  feed : l.room.admission.feed ≡ l.fn.room.admission.feed;
  news : l.room.admission.news ≡ l.fn.room.admission.news;
  last : l.room.last ≡ l.fn.room.last;
}
