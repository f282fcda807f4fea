-- What a joint answer makes of the members of a run: some are answered, and the groups of these become one.
use Rattle.std.specs.Prelude.{◌≡◌, ◌⊎◌, ◌↔◌, suc, false, List, [], ◌∷◌, ◌++◌, Option, Some, None, Contains}
use Rattle.std.specs.Prelude.{find, zip}
use Rattle.std.specs.List.{AllZip}
use Rattle.ent_semantics.specs.declared.answer.Answer.TheVariants as answers
use Rattle.ent_semantics.specs.Entangled.{Valuation}
use Rattle.ent_semantics.specs.Form.{form_heads, form_bound}
use Rattle.ent_semantics.specs.Pool.{Posted}
use Rattle.ent_protocol.specs.PoolEvents.{joint_answer}
use Rattle.ent_protocol.specs.Member.{is_tx}
use Rattle.ent_protocol.specs.State.{State, Member, members}

-- ---- members

-- of the statements that are answered, the first one of this member, with its grounding
abbrev pub own_pair : List Posted → List Valuation → Member → Option (Posted × Valuation)
own_pair asked groundings member = find (λ pair. is_tx pair.0.tx member) (zip asked groundings)

-- a member is as it was, but for the label of its group
abbrev pub IsAsBefore : Member → Member → Type 0
IsAsBefore member after = after ≡ record member { group = after.group }

-- It is answered: its heads are its answer, what they bind is bound, and it is at its next statement.
abbrev pub IsAnswered : Posted → Valuation → Member → Member → Type 0
IsAnswered query values member after =
    after
    ≡ record member {
      group = after.group;
      place = suc member.place;
      bound = member.bound ++ form_bound (λ value. value) query.statement values;
      answers = member.answers ++ answers.Heads (form_heads (λ value. value) query.statement values) ∷ [];
      posted = false;
    }

-- one that has such a pair is answered by it; another one is as before
abbrev pub BecomesBy : Option (Posted × Valuation) → Member → Member → Type 0
BecomesBy (Some pair) member after = IsAnswered pair.0 pair.1 member after
BecomesBy None member after = IsAsBefore member after

-- ---- groups

-- a member before and after
abbrev pub Passage : Type 0
Passage = Member × Member

-- the members of the run, before and after
abbrev pub before_and_after : State → State → List Passage
before_and_after s new = zip (members s) (members new)

-- a member's group is that of a member whose statement is answered
pub record IsOfAsked (s : State) (asked : List Posted) (member : Member) : Type 0 where
  pub query : Posted
  pub is_asked : Contains asked query
  pub owner : Member
  pub is_member : Contains (members s) owner
  pub owns : owner.tx ≡ query.tx
  pub group : owner.group ≡ member.group

-- two members were of one group, or both in groups of members whose statements are answered
abbrev pub WereTogether : State → List Posted → Member → Member → Type 0
WereTogether s asked one other = (one.group ≡ other.group) ⊎ (IsOfAsked s asked one × IsOfAsked s asked other)

-- ---- the state

-- members are answered together
pub record IsJoined (s : State) (asked : List Posted) (groundings : List Valuation) (new : State) : Type 0 where
  pub prepared : AllZip IsAsBefore s.prepared new.prepared
  pub active : AllZip (λ member after. BecomesBy (own_pair asked groundings member) member after) s.active new.active
  -- two are of one group then exactly where they were together
  pub groups : (one other : Passage) → Contains (before_and_after s new) one → Contains (before_and_after s new) other
      → (one.1.group ≡ other.1.group) ↔ WereTogether s asked one.0 other.0
  -- the joint answer is the last one made
  pub joints : new.joints ≡ s.joints ++ joint_answer asked groundings ∷ []
  -- nothing else changes
  pub others : new ≡ record s { prepared = new.prepared; active = new.active; joints = new.joints }

-- two states are one but for the labels of groups, and have the same groups
pub record AreOneButForLabels (one other : State) : Type 0 where
  pub prepared : AllZip IsAsBefore one.prepared other.prepared
  pub active : AllZip IsAsBefore one.active other.active
  pub groups : (first second : Passage) → Contains (before_and_after one other) first
      → Contains (before_and_after one other) second
      → (first.0.group ≡ second.0.group) ↔ (first.1.group ≡ second.1.group)
  pub others : other ≡ record one { prepared = other.prepared; active = other.active }
