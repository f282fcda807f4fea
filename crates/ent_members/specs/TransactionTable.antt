-- Who waits for a run, and who is finished.
use Rattle.std.specs.Prelude.{◌≡◌, ◌+◌, ◌≤◌, ◌==◌, ℕ, Bool, false, List, map, drop, length, Option, None, Some, IsSome}
use Rattle.std.specs.Prelude.{nat_eq}
use Rattle.std.specs.List.{list_any}
use Rattle.slab.specs.Slab.{Slab, get as value_at, slab_len}
use Rattle.indexmap.specs.IndexMap.{IndexMap, keys, get}
use Rattle.ent_semantics.specs.declared.book.Fated.{Fated}
use Rattle.ent_protocol.specs.State.{Dormant}
use Rattle.ent_members.specs.ByNumber.{IsNumbered, ShowsFirst}

pub record TransactionTable : Type 0 where
  -- in order of arrival
  pub dormant : List Dormant
  -- in the order in which they were finished
  pub fates : List Fated
  -- how many scripts were submitted
  pub known : ℕ

abbrev pub is_dormant : ℕ → List Dormant → Bool
is_dormant tx dormant = list_any (λ own. own.tx == tx) dormant

abbrev pub is_fated : ℕ → List Fated → Bool
is_fated tx fates = list_any (λ fated. fated.tx == tx) fates

-- a script that was submitted and stands in neither list
pub record IsAway (tx : ℕ) (table : TransactionTable) : Type 0 where
  pub number : IsNumbered table.known tx
  pub awake : is_dormant tx table.dormant ≡ false
  pub unfinished : is_fated tx table.fates ≡ false

-- ---- what a transaction table keeps of its parts

abbrev pub runs_of : Option Dormant → ℕ
runs_of None = 0
runs_of (Some own) = own.runs

abbrev pub runs_at : Slab Dormant → Option ℕ → ℕ
runs_at live None = 0
runs_at live (Some key) = runs_of (value_at live key)

module _ {S : Type 0} where
  abbrev pub entrant_of : Slab Dormant → IndexMap ℕ ℕ S → ℕ → Dormant
  entrant_of live order tx = record { tx = tx; runs = runs_at live (get nat_eq order tx) }

  -- those behind the run's members, in order
  abbrev pub waiting : Slab Dormant → IndexMap ℕ ℕ S → ℕ → List Dormant
  waiting live order in_run = map (entrant_of live order) (drop in_run (keys order))

  -- each number has a key, under which its own entry stands
  abbrev pub Stand : Slab Dormant → IndexMap ℕ ℕ S → Type 0
  Stand live order = (tx key : ℕ) → get nat_eq order tx ≡ Some key
      → (own : Dormant) × (value_at live key ≡ Some own) × (own.tx ≡ tx)

  pub record IsKept (live : Slab Dormant) (order : IndexMap ℕ ℕ S) (in_run : ℕ) (finished : List (Option Fated))
      (fates : List Fated) (known fates_room : ℕ) : Type 0 where
    pub stand : Stand live order
    -- nothing else stands in the slab
    pub held : slab_len live ≡ length order.entries
    pub members : in_run ≤ length order.entries
    -- who isn't finished has a place, and who has a place was submitted
    pub all : (tx : ℕ) → IsNumbered known tx → is_fated tx fates ≡ false → IsSome (get nat_eq order tx)
    pub only : (tx : ℕ) → IsSome (get nat_eq order tx) → tx ≤ known
    -- no more stand in the two lists than were submitted, and there is room for the fates of all
    pub few : length order.entries ≤ known
    pub bound : length order.entries + length fates ≤ known + in_run
    pub fits : known ≤ fates_room
    -- each one's fate is found by its number
    pub all_finished : length finished ≡ known
    pub finished_shown : ShowsFirst (λ fated. fated.tx) fates finished
