-- The uses that transactions hold: a finite relation of transactions, tables and modes.
use Rattle.std.specs.Prelude.{◌≡◌, ◌≢◌, ℕ, ◌≤◌, ◌⊎◌, ◌↔◌, Bool, true, false, List, [], ◌∷◌, map, IsTrue, Contains}
use Rattle.std.specs.Prelude.{Option, None, Some, refl}
use Rattle.std.specs.Coded.{Coded, code_by, coded×, coded_ℕ, coded_bool, coded_list}
use Rattle.std.specs.Ordering.{nat_cmp, on, then_cmp}
use Rattle.std.specs.Cmp.Lexicographic.{slice_cmp}
use Rattle.std.specs.declared.cmp.Ordering.{Ordering}
use Rattle.std.specs.FinSet as set
use Rattle.ent_lock.specs.declared.mode.Mode.{Mode}
use Rattle.ent_lock.specs.declared.mode.Mode.TheVariants.{Shared, Exclusive}
use Rattle.ent_lock.specs.Mode.{in_conflict, mode_rank}

-- a transaction holds a table, known by its key, in a mode
pub record Use : Type 0 where
  pub holder : ℕ
  pub table : List ℕ
  pub mode : Mode

-- the key of a table that is named by a number
abbrev pub key_of_number : ℕ → List ℕ
key_of_number n = n ∷ []

-- uses of tables, by the tables' keys
abbrev pub keyed : {T : Type 0} → (T → List ℕ) → List (T × Mode) → List (List ℕ × Mode)
keyed key uses = map (λ u. (key u.0, u.1)) uses

abbrev pub use_cmp : Use → Use → Ordering
use_cmp =
    then_cmp (on (λ u. u.holder) nat_cmp)
    (then_cmp (on (λ u. u.table) (slice_cmp nat_cmp)) (on (λ u. mode_rank u.mode) nat_cmp))

abbrev pub Uses : Type 0
Uses = set.FinSet use_cmp

-- a transaction holds a table in a mode
abbrev pub Holds : Uses → ℕ → List ℕ → Mode → Type 0
Holds held tx table mode = IsTrue (set.contains held (record { holder = tx; table = table; mode = mode }))

-- a transaction holds a use of a table that is in conflict with a mode of using it
abbrev pub InConflictAt : Uses → ℕ → List ℕ → Mode → Type 0
InConflictAt held v table mode = (theirs : Mode) × Holds held v table theirs × IsTrue (in_conflict theirs mode)

-- a transaction holds a use that is in conflict with one that is asked for
abbrev pub InConflict : Uses → ℕ → List (List ℕ × Mode) → Type 0
InConflict held v asked =
    (table : List ℕ) × (mode theirs : Mode) × Contains asked (table, mode) × Holds held v table theirs
    × IsTrue (in_conflict theirs mode)

-- another transaction, which is not to be passed, holds a use in conflict with one that is asked for
abbrev pub Blocks : Uses → ℕ → List (List ℕ × Mode) → List ℕ → ℕ → Type 0
Blocks held tx asked pass v = (v ≢ tx) × ¬ Contains pass v × InConflict held v asked

-- the least number of which a fact holds
abbrev pub IsLeast : (ℕ → Type 0) → ℕ → Type 0
IsLeast P v = P v × ((w : ℕ) → P w → v ≤ w)

-- the least number of which a fact holds, or none where it holds of none
abbrev pub IsLeastIfAny : (ℕ → Type 0) → Option ℕ → Type 0
IsLeastIfAny P None = (v : ℕ) → ¬ P v
IsLeastIfAny P (Some v) = IsLeast P v

-- the uses that were held, and those that a transaction asked for
abbrev pub AddsUses : Uses → Uses → ℕ → List (List ℕ × Mode) → Type 0
AddsUses old new tx asked =
    (v : ℕ) (table : List ℕ) (mode : Mode)
    → Holds new v table mode ↔ (Holds old v table mode ⊎ ((v ≡ tx) × Contains asked (table, mode)))

-- the uses that were held, without those of some transactions
abbrev pub DropsUses : Uses → Uses → List ℕ → Type 0
DropsUses old new members =
    (v : ℕ) (table : List ℕ) (mode : Mode)
    → Holds new v table mode ↔ (Holds old v table mode × ¬ Contains members v)

abbrev is_exclusive : Mode → Bool
is_exclusive Shared = false
is_exclusive Exclusive = true

abbrev mode_of : Bool → Mode
mode_of false = Shared
mode_of true = Exclusive

pub mode_of-is_exclusive : (m : Mode) → mode_of (is_exclusive m) ≡ m
mode_of-is_exclusive Shared = refl
mode_of-is_exclusive Exclusive = refl

abbrev coded_mode : Coded Mode
coded_mode = code_by Bool coded_bool is_exclusive mode_of mode_of-is_exclusive

abbrev coded_use : Coded Use
coded_use =
    code_by (ℕ × (List ℕ × Mode)) (coded× coded_ℕ (coded× (coded_list coded_ℕ) coded_mode))
    (λ u. (u.holder, (u.table, u.mode))) (λ p. record { holder = p.0; table = p.1.0; mode = p.1.1 }) (λ _. refl)

abbrev pub coded_uses : Coded Uses
coded_uses = set.code coded_use

-- the uses with one for each that a transaction asks for
abbrev pub with_uses : Uses → ℕ → List (List ℕ × Mode) → Uses
with_uses held tx [] = held
with_uses held tx (a ∷ asked) = with_uses (set.insert held (record { holder = tx; table = a.0; mode = a.1 })) tx asked
