-- What a step says of a line.
use Rattle.std.specs.Prelude.{◌≡◌, Bool, true, false, Result, Ok, Err}
use Rattle.ent_value.specs.declared.refusal.Refusal.{Refusal}
use Rattle.ent_value.specs.declared.refusal.Refusal.TheVariants.{Memory, Fault}
use Rattle.ent_text.specs.declared.line_fault.LineFault.{LineFault}
use Rattle.ent_history.specs.Draft.{Draft}

-- The line stands there, and with it the report tells this; or it can't stand there, and the draft is as before; or
-- memory ran out, and nothing is known of the draft.
abbrev pub Judges : {A : Type 0} → (Draft → Type 0) → Draft → Result A (Refusal LineFault) → Draft → Type 0
Judges stands old (Ok done) new = stands new
Judges stands old (Err Memory) new = Unit {0}
Judges stands old (Err (Fault fault)) new = ((next : Draft) → stands next → ⊥) × (new ≡ old)

-- something of the sort stands there, and this is one; or nothing does; or memory ran out
abbrev pub Finds : {A : Type 0} → (A → Type 0) → Result A (Refusal LineFault) → Type 0
Finds is (Ok x) = is x
Finds is (Err Memory) = Unit {0}
Finds {A = A} is (Err (Fault fault)) = (x : A) → is x → ⊥

-- what holds unless memory ran out
abbrev pub Unless : {A : Type 0} → Type 0 → Result A (Refusal LineFault) → Type 0
Unless fact (Ok x) = fact
Unless fact (Err Memory) = Unit {0}
Unless fact (Err (Fault fault)) = fact

-- nothing of the sort can stand
abbrev pub Cannot : (Draft → Type 0) → Type 0
Cannot stands = (next : Draft) → stands next → ⊥

-- whether the line stands, as the step says where memory didn't run out
abbrev pub TellsWhether : {A : Type 0} → Result A (Refusal LineFault) → Bool → Type 0
TellsWhether (Ok done) stands = stands ≡ true
TellsWhether (Err Memory) stands = ⊥
TellsWhether (Err (Fault fault)) stands = stands ≡ false
