use Rattle.std.proofs.Common.{◌≡◌, ◌++◌, None}
use Rattle.ent_form.specs.InputFault.{scripts_fault}
use Rattle.ent_room.specs.Reading.{all_put}
use Rattle.ent_room.proofs.room.Room.take_all.Given as goal

-- those so far wait, and the others have no fault
abbrev pub invariant-loop-script : goal.invariant-loop-script
invariant-loop-script l = record {
  list : l.self.admission.list ≡ all_put l.yielded l.fn.self.admission.list;
  epoch : l.self.admission.epoch ≡ l.fn.self.admission.epoch;
  coming : l.self.admission.coming ≡ l.fn.self.admission.coming;
  feed : l.self.admission.feed ≡ l.fn.self.admission.feed;
  news : l.self.admission.news ≡ l.fn.self.admission.news;
  last : l.self.last ≡ l.fn.self.last;
  formed : scripts_fault l.fn.self.admission.epoch.core.opening l.script-iterator.rest.items ≡ None;
  all : l.yielded ++ l.script-iterator.rest.items ≡ l.fn.scripts;
}
