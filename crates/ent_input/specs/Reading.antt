-- Which bytes are an input or a script, and why others aren't.
use Rattle.std.specs.Prelude.{◌≡◌, ◌<◌, ◌≤◌, ℕ, List, length, Some, None, Ok, Err}
use Rattle.std.specs.Str.{IsUtf8, IsValidUpTo}
use Rattle.ent_value.specs.declared.refusal.Refusal.{Refusal}
use Rattle.ent_value.specs.declared.refusal.Refusal.TheVariants.{Memory, Fault}
use Rattle.ent_tree.specs.declared.script.Input.{Input}
use Rattle.ent_tree.specs.declared.script.Script.{Script}
use Rattle.ent_sql.specs.Reading.{reading, script_reading}
use Rattle.ent_form.specs.InputFault.{input_fault}
use Rattle.ent_input.specs.declared.fault.InputFault.{InputFault}
use Rattle.ent_input.specs.declared.fault.InputFault.TheVariants.{TooLong, NotUtf8, Sql, Form}
use Rattle.ent_input.specs.declared.reading.TheConstants.{MOST_BYTES}

-- bytes that are no more than an input may have, and are UTF-8
abbrev pub IsText : List ℕ → Type 0
IsText bytes = (length bytes ≤ MOST_BYTES) × IsUtf8 bytes

-- bytes that read as this input, whatever its form
pub record IsRead (bytes : List ℕ) (input : Input) : Type 0 where
  pub text : IsText bytes
  pub reads : reading bytes ≡ Ok input

-- bytes that are this input, without a fault
pub record IsInput (bytes : List ℕ) (input : Input) : Type 0 where
  pub read : IsRead bytes input
  pub formed : input_fault input.opening input.scripts ≡ None

-- bytes that read as this script, alone, whatever its form
pub record IsScript (bytes : List ℕ) (script : Script) : Type 0 where
  pub text : IsText bytes
  pub reads : script_reading bytes ≡ Ok script

-- ---- first faults

-- why bytes are no text: their length, then UTF-8
abbrev pub IsNoText : List ℕ → InputFault → Type 0
IsNoText bytes TooLong = MOST_BYTES < length bytes
IsNoText bytes (NotUtf8 place) = (length bytes ≤ MOST_BYTES) × (¬ (IsUtf8 bytes)) × IsValidUpTo bytes place
IsNoText bytes (Sql fault) = ⊥
IsNoText bytes (Form fault) = ⊥

-- why bytes read as no input: they are no text, or the first fault of their tokens or their grammar
abbrev pub IsUnread : List ℕ → InputFault → Type 0
IsUnread bytes TooLong = IsNoText bytes TooLong
IsUnread bytes (NotUtf8 place) = IsNoText bytes (NotUtf8 place)
IsUnread bytes (Sql fault) = IsText bytes × (reading bytes ≡ Err fault)
IsUnread bytes (Form fault) = ⊥

-- why bytes read as no script, in the same way
abbrev pub IsNoScript : List ℕ → InputFault → Type 0
IsNoScript bytes TooLong = IsNoText bytes TooLong
IsNoScript bytes (NotUtf8 place) = IsNoText bytes (NotUtf8 place)
IsNoScript bytes (Sql fault) = IsText bytes × (script_reading bytes ≡ Err fault)
IsNoScript bytes (Form fault) = ⊥

-- Why bytes are no input without a fault. Length comes first, then UTF-8, tokens and grammar, and last the form: that
-- of the opening, then that of each script in order.
abbrev pub IsNoInput : List ℕ → InputFault → Type 0
IsNoInput bytes TooLong = IsUnread bytes TooLong
IsNoInput bytes (NotUtf8 place) = IsUnread bytes (NotUtf8 place)
IsNoInput bytes (Sql fault) = IsUnread bytes (Sql fault)
IsNoInput bytes (Form fault) =
    (input : Input) × IsRead bytes input × (input_fault input.opening input.scripts ≡ Some fault)

-- ---- refusals: for the first fault, or since memory ran out

abbrev pub RefusesInput : List ℕ → Refusal InputFault → Type 0
RefusesInput bytes Memory = Unit {0}
RefusesInput bytes (Fault fault) = IsUnread bytes fault

abbrev pub RefusesScript : List ℕ → Refusal InputFault → Type 0
RefusesScript bytes Memory = Unit {0}
RefusesScript bytes (Fault fault) = IsNoScript bytes fault

-- of bytes in memory, which should be an input without a fault
abbrev pub IsRefused : List ℕ → Refusal InputFault → Type 0
IsRefused bytes Memory = Unit {0}
IsRefused bytes (Fault fault) = IsNoInput bytes fault
