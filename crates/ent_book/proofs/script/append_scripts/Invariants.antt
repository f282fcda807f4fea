use Rattle.std.proofs.Common.{◌≡◌, ◌+◌, ◌++◌, drop}
use Rattle.ent_book.specs.Report2.{scripts_text}
use Rattle.ent_book.proofs.script.append_scripts.Given as goal

-- what is out, and the text of what is left
abbrev pub invariant-loop-script : goal.invariant-loop-script
invariant-loop-script l = record {
  number : l.number ≡ l.script-index + 1;
  whole :
      l.out.items ++ scripts_text l.number (drop l.script-index l.scripts)
      ≡ l.fn.out.items ++ scripts_text 1 l.scripts;
}
