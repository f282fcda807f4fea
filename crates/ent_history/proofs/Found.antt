-- Nothing is found where all holds.
use Rattle.std.proofs.Common.{◌≡◌, Bool, true, false, [], ◌∷◌, refl}
use Rattle.ent_history.specs.Journal.{unless}
use Rattle.ent_history.specs.declared.finding.Finding.{Finding}
use Rattle.ent_history.specs.declared.finding.Rule.{Rule}
use Rattle.ent_history.specs.declared.finding.Thing.{Thing}

pub unless_holds : (holds : Bool) (rule : Rule) (thing : Thing) → unless holds rule thing ≡ [] → holds ≡ true
unless_holds true rule thing e = refl
unless_holds false rule thing e = absurd (filled (record { rule = rule; thing = thing }) e)
  where
    filled : (finding : Finding) → finding ∷ [] ≡ [] → ⊥
    filled finding e = cc

pub holds_unless : (holds : Bool) (rule : Rule) (thing : Thing) → holds ≡ true → unless holds rule thing ≡ []
holds_unless true rule thing e = refl
holds_unless false rule thing e = cc
