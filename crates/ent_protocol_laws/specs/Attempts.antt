-- In how many runs transactions took part, of those that their scripts ask for.
use Rattle.std.specs.Prelude.{◌≡◌, ◌<◌, ◌≤◌, ℕ, List, Some}
use Rattle.std.specs.List.{AllByRecursion}
use Rattle.ent_semantics.specs.Serial.{numbered}
use Rattle.ent_protocol.specs.State.{State, Submitted, Dormant, Member, members}

-- a script asks for one run at least
abbrev pub AsksForRun : Submitted → Type 0
AsksForRun own = 1 ≤ own.script.within

-- the scripts ask for no more runs than a number
abbrev pub AskForMost : ℕ → State → Type 0
AskForMost most s = AllByRecursion (λ (own : Submitted). own.script.within ≤ most) s.submitted

-- one run more is left to a transaction that waits for one
pub record HasRunLeft (submitted : List Submitted) (dormant : Dormant) : Type 0 where
  pub own : Submitted
  pub is_own : numbered submitted dormant.tx ≡ Some own
  pub left : dormant.runs < own.script.within

-- the present run of a member, this one counted, is one of those that it may take part in
pub record MayTakePart (submitted : List Submitted) (member : Member) : Type 0 where
  pub own : Submitted
  pub is_own : numbered submitted member.tx ≡ Some own
  pub counted : 1 ≤ member.attempt
  pub within : member.attempt ≤ own.script.within

-- nobody took part in more runs than its script asks for
pub record StayWithin (s : State) : Type 0 where
  pub dormant : AllByRecursion (HasRunLeft s.submitted) s.dormant
  pub members : AllByRecursion (MayTakePart s.submitted) (members s)

-- nor in more than this number, and who waits for a run in fewer
pub record StayBelow (most : ℕ) (s : State) : Type 0 where
  pub dormant : AllByRecursion (λ (dormant : Dormant). dormant.runs < most) s.dormant
  pub members : AllByRecursion (λ (member : Member). member.attempt ≤ most) (members s)
