-- What is told beside a text.
use Rattle.std.specs.Prelude.{◌≡◌, ℕ, List, true, false, take, Option, Some, None}
use Rattle.std.specs.Str.{IsCharBoundary}
use Rattle.std.specs.Str.Lossy.{utf8_valid_len}
use Rattle.ent_driver.specs.Fault.{code_of as refusal_code, place_of as refusal_place}
use Rattle.ent_driver.specs.declared.fault.DriverFault.{DriverFault}
use Rattle.ent_engine.specs.Fault.{code_of, place_of}
use Rattle.ent_engine.specs.declared.fault.RunFault.{RunFault}
use Rattle.ent_excerpt.specs.Place.{IsPlaceAt}
use Rattle.ent_c.specs.declared.told.CallTold.{CallTold}

-- beside a text of so many bytes, where there is no fault
abbrev pub told_of_text : ℕ → CallTold
told_of_text count =
    record { needed = count; offset = 0; line = 0; column = 0; code = 0; has_place = false }

-- the longest beginning of some bytes that is UTF-8, over which a place is counted
abbrev pub text_of : List ℕ → List ℕ
text_of bytes = take (utf8_valid_len bytes) bytes

-- where a fault stands is told: its offset, its line and its column
abbrev pub TellsPlace : Option ℕ → List ℕ → CallTold → Type 0
TellsPlace None bytes told =
    (told.has_place ≡ false) × (told.offset ≡ 0) × (told.line ≡ 0) × (told.column ≡ 0)
TellsPlace (Some offset) bytes told =
    (told.has_place ≡ true) × (told.offset ≡ offset)
    × (IsCharBoundary (text_of bytes) offset
    → IsPlaceAt (text_of bytes) offset (record { line = told.line; column = told.column }))

-- a fault of this number, that stands there in these bytes, is told beside a text of so many bytes
pub record TellsCode (number : ℕ) (place : Option ℕ) (bytes : List ℕ) (count : ℕ) (told : CallTold) : Type 0 where
  pub counted : told.needed ≡ count
  pub numbered : told.code ≡ number
  pub placed : TellsPlace place bytes told

-- a fault of these bytes is told, beside a text of so many
abbrev pub TellsFault : RunFault → List ℕ → ℕ → CallTold → Type 0
TellsFault fault bytes count told = TellsCode (code_of fault) (place_of fault) bytes count told

-- a call is told to be refused, for a fault of the bytes that were handed in or for another, beside no text
abbrev pub TellsRefusal : DriverFault → List ℕ → CallTold → Type 0
TellsRefusal fault bytes told = TellsCode (refusal_code fault) (refusal_place fault) bytes 0 told
