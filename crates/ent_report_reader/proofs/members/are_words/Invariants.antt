use Rattle.std.proofs.Common.{take}
use Rattle.std.specs.List.{AllByRecursion}
use Rattle.ent_value.specs.Name.{IsWord}
use Rattle.ent_report_reader.proofs.members.are_words.Given as goal

-- the names so far are words
abbrev pub invariant-loop-name : goal.invariant-loop-name
invariant-loop-name l = AllByRecursion IsWord (take l.name-index l.names)
