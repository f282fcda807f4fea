-- How a failure is named.
use Rattle.std.specs.Prelude.{ℕ, List, codes}
use Rattle.ent_semantics.specs.declared.answer.Failure.{Failure}
use Rattle.ent_semantics.specs.declared.answer.Failure.TheVariants.{Overflow, TableFull}

-- the bytes of a failure's name, in reports and in traces
abbrev pub failure_name : Failure → List ℕ
failure_name Overflow = codes "F1"
failure_name TableFull = codes "F2"
