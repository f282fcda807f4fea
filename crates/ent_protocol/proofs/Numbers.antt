-- A member keeps its number, whatever happens to it.
use Rattle.std.proofs.Common.{◌≡◌, Bool, true, false, cond, List, [], ◌∷◌, Option, Some, None, refl, sym}
use Rattle.std.specs.Prelude.{◌==◌}
use Rattle.ent_lists.specs.Elements.{same_number}
use Rattle.ent_semantics.specs.Entangled.{Valuation}
use Rattle.ent_semantics.specs.declared.book.Fate.{Fate}
use Rattle.ent_semantics.specs.Pool.{Posted}
use Rattle.ent_protocol.specs.Begin.{replaced}
use Rattle.ent_protocol.specs.Member.{is_tx}
use Rattle.ent_protocol.specs.PoolEvents.{answered_among, answered_by}
use Rattle.ent_protocol.specs.Rollback.{Cause, dormant_by, fate_of}
use Rattle.ent_protocol.specs.State.{Submitted, Member, Dormant}

pub replaced_tx : (new other : Member) → (replaced new other).tx ≡ other.tx
replaced_tx new other = by (other.tx == new.tx) refl
  where
    by : (b : Bool) → (other.tx == new.tx) ≡ b → (cond b new other).tx ≡ other.tx
    by true is = sym (same_number other.tx new.tx is)
    by false is = refl

pub answered_tx : (asked : List Posted) (groundings : List Valuation) (m : Member)
    → (answered_among asked groundings m).tx ≡ m.tx
answered_tx [] groundings m = refl
answered_tx (query ∷ asked) [] m = refl
answered_tx (query ∷ asked) (values ∷ more) m = by (is_tx query.tx m) (answered_tx asked more m)
  where
    by : (b : Bool) → (answered_among asked more m).tx ≡ m.tx
        → (cond b (answered_by query values m) (answered_among asked more m)).tx ≡ m.tx
    by true e = refl
    by false e = e

-- one that waits for another run
pub waiting_tx : (submitted : List Submitted) (cause : Cause) (m : Member) (own : Dormant)
    → dormant_by submitted cause m ≡ Some own → own.tx ≡ m.tx
waiting_tx submitted cause m own h = by (fate_of submitted cause m) refl
  where
    by : (f : Option Fate) → fate_of submitted cause m ≡ f → own.tx ≡ m.tx
    by None e =
        let k : Some (record { tx = m.tx; runs = m.attempt }) ≡ Some own = rw e at h in
        cc
    by (Some fate) e = let k : None ≡ Some own = rw e at h in cc
