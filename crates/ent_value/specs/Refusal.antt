-- What a call that may run out of memory says: the meaning, a fault of it, or Memory.
use Rattle.std.specs.Prelude.{◌≡◌, Result, Ok, Err}
use Rattle.ent_value.specs.declared.refusal.Refusal.{Refusal}
use Rattle.ent_value.specs.declared.refusal.Refusal.TheVariants.{Memory, Fault}

-- one meaning after the other; the first fault is that of the whole
infixl 10 ◌>>=◌
abbrev pub ◌>>=◌ : {A B F : Type 0} → Result A F → (A → Result B F) → Result B F
(Ok x) >>= f = f x
(Err fault) >>= f = Err fault

-- a refusal is the fault that is meant, or memory ran out
abbrev pub Refuses : {Y F : Type 0} → Refusal F → Result Y F → Type 0
Refuses Memory meant = Unit {0}
Refuses (Fault fault) meant = meant ≡ Err fault

-- what was answered, seen by view, is what is meant, unless memory ran out
abbrev pub Gives : {X Y F : Type 0} → (X → Y) → Result X (Refusal F) → Result Y F → Type 0
Gives view (Ok x) meant = meant ≡ Ok (view x)
Gives view (Err refusal) meant = Refuses refusal meant
