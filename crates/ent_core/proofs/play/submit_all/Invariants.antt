use Rattle.std.proofs.Common.{◌≡◌, ◌++◌, None}
use Rattle.ent_protocol.specs.Reached.{book_of}
use Rattle.ent_semantics.specs.Book.{IsLegal}
use Rattle.ent_form.specs.InputFault.{scripts_fault}
use Rattle.ent_core.specs.Play.{AreSubmitted}
use Rattle.ent_core.proofs.play.submit_all.Given as goal

-- those so far were submitted, and no fault was found
abbrev pub invariant-loop-script : goal.invariant-loop-script
invariant-loop-script l = record {
  submitted : AreSubmitted l.fn.core.opening l.yielded l.core;
  clean : scripts_fault l.fn.core.opening l.yielded ≡ None;
  legal : IsLegal (book_of l.core);
  all : l.yielded ++ l.script-iterator.rest.items ≡ l.fn.scripts;
}
