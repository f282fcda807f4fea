-- Entangled statements that transactions have passed, and the joint answers in which they stand.
use Rattle.std.specs.Prelude.{◌≡◌, ◌<◌, ◌⊎◌, ◌==◌, ◌&&◌, ℕ, Bool, [], ◌∷◌, Contains, Some}
use Rattle.std.specs.List.{filter, list_any}
use Rattle.ent_tree.specs.declared.entangled.Entangled.{Entangled}
use Rattle.ent_tree.specs.declared.script.Statement.TheVariants as statements
use Rattle.ent_semantics.specs.declared.book.Entry.{Entry}
use Rattle.ent_semantics.specs.declared.book.JointAnswer.{JointAnswer}
use Rattle.ent_semantics.specs.declared.book.Member.{Member as JointMember}
use Rattle.ent_semantics.specs.Serial.{numbered}
use Rattle.ent_protocol.specs.State.{State, Submitted, Member}

-- a transaction has committed, or is prepared, or is a member that stands behind this place
abbrev pub IsPast : State → ℕ → ℕ → Type 0
IsPast s tx place =
    ((entry : Entry) × Contains s.journal entry × (entry.tx ≡ tx))
    ⊎ ((member : Member) × Contains s.prepared member × (member.tx ≡ tx))
    ⊎ ((member : Member) × Contains s.active member × (member.tx ≡ tx) × (place < member.place))

-- it has passed an entangled statement at this place of its script
pub record HasAsked (s : State) (tx place : ℕ) : Type 0 where
  pub past : IsPast s tx place
  pub submitted : Submitted
  pub of_tx : numbered s.submitted tx ≡ Some submitted
  pub entangled : Entangled
  pub at_place : numbered submitted.script.statements place ≡ Some (statements.Entangled entangled)

-- the statement of a transaction and a place stands in a joint answer
abbrev pub stands_in : ℕ → ℕ → JointAnswer → Bool
stands_in tx place joint = list_any (λ member. (member.tx == tx) && (member.place == place)) joint.members

-- it stands in exactly one of the joint answers that were made and not rolled back
abbrev pub IsAnsweredOnce : State → ℕ → ℕ → Type 0
IsAnsweredOnce s tx place = (joint : JointAnswer) × (filter (stands_in tx place) s.joints ≡ joint ∷ [])

-- each member of such a joint answer is a statement that was passed
abbrev pub NothingElse : State → Type 0
NothingElse s =
    (joint : JointAnswer) (member : JointMember) → Contains s.joints joint → Contains joint.members member
    → HasAsked s member.tx member.place
