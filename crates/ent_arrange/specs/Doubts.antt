-- What is left to do for those who are doubtful.
use Rattle.std.specs.Prelude.{ℕ, ◌+◌, length}
use Rattle.ent_arrange.specs.declared.doubts.Doubts.{Doubts}

-- so many are doubtful, or may get it
abbrev pub work_of : Doubts → ℕ
work_of doubts = length doubts.tickets.items + doubts.looks
