-- Lines that a text is filled up with.
use Rattle.std.specs.Prelude.{ℕ, zero, suc, List, [], ◌++◌, codes}
use Rattle.ent_book.specs.Report.{line}

-- so many lines of a statement that has no fault wherever it stands
abbrev pub filling : ℕ → List ℕ
filling zero = []
filling (suc n) = line (codes "SET @x = 0;") ++ filling n
