-- Why a run gives no report.
use Rattle.std.specs.Prelude.{ℕ, List}
use Rattle.ent_input.specs.Reading.{IsNoInput}
use Rattle.ent_engine.specs.declared.fault.RunFault.{RunFault}
use Rattle.ent_engine.specs.declared.fault.RunFault.TheVariants.{Input, Check, Differs, ReadFault, WriteFault, Memory}

-- Why bytes in memory are refused: they are no input without a fault. Want of memory says nothing of the bytes.
abbrev pub IsRefused : List ℕ → RunFault → Type 0
IsRefused bytes (Input fault) = IsNoInput bytes fault
IsRefused bytes (Check fault) = ⊥
IsRefused bytes Differs = ⊥
IsRefused bytes ReadFault = ⊥
IsRefused bytes WriteFault = ⊥
IsRefused bytes Memory = Unit {0}

-- Why a run gives no report: the bytes that the reader has are refused, or the reader or the writer failed.
abbrev pub IsRefusedInRun : List ℕ → RunFault → Type 0
IsRefusedInRun bytes ReadFault = Unit {0}
IsRefusedInRun bytes WriteFault = Unit {0}
IsRefusedInRun bytes (Input fault) = IsRefused bytes (Input fault)
IsRefusedInRun bytes (Check fault) = IsRefused bytes (Check fault)
IsRefusedInRun bytes Differs = IsRefused bytes Differs
IsRefusedInRun bytes Memory = IsRefused bytes Memory
