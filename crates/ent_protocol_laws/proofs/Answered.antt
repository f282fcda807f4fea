-- What an answer makes of each member, and which statement each place of the joint answer is of.
use Rattle.std.proofs.Common.{◌≡◌, ◌⊎◌, Bool, true, false, cond, List, [], ◌∷◌, refl, ap, ◌∙◌, inl, inr, Option}
use Rattle.std.proofs.Common.{Some, None}
use Rattle.ent_tree.specs.declared.script.Statement.{Statement as TreeStatement}
use Rattle.ent_semantics.specs.declared.answer.Fact.{Fact}
use Rattle.ent_semantics.specs.declared.book.Member.{Member as JointMember}
use Rattle.ent_semantics.specs.Entangled.{Valuation}
use Rattle.ent_semantics.specs.Serial.{Operation, numbered}
use Rattle.ent_semantics.specs.Form.{Tables, form_heads, form_posts, is_form_grounding}
use Rattle.ent_semantics.specs.Choice.{AreGroundings, all_posts, all_heads}
use Rattle.ent_semantics.specs.Pool.{Posted}
use Rattle.ent_protocol.specs.Member.{is_tx, Asks, next_of}
use Rattle.ent_protocol.specs.PoolEvents.{answered_by, answered_among, joint_members}
use Rattle.ent_protocol.specs.State.{State, Submitted, Member}
use Rattle.ent_lists.specs.Elements.{In, Pairs, of_all, to_all, in_either, in_first, in_second}
use Rattle.ent_lists.specs.Elements.{same_number, differ}
use Rattle.ent_protocol_laws.proofs.Joints.{OtherTx}

-- ---- what an answer keeps of a member

pub answered_keeps : {A : Type 0} (field : Member → A)
    → ((query : Posted) (values : Valuation) (m : Member) → field (answered_by query values m) ≡ field m)
    → (asked : List Posted) (groundings : List Valuation) (m : Member)
    → field (answered_among asked groundings m) ≡ field m
answered_keeps field same [] groundings m = refl
answered_keeps field same (a ∷ asked) [] m = refl
answered_keeps field same (a ∷ asked) (values ∷ more) m =
    by (is_tx a.tx m) (answered_keeps field same asked more m)
  where
    by : (b : Bool) → field (answered_among asked more m) ≡ field m
        → field (cond b (answered_by a values m) (answered_among asked more m)) ≡ field m
    by true rest = same a values m
    by false rest = rest

-- ---- the operations that it adds

abbrev pub statement_operation : Valuation → Option TreeStatement → List Operation
statement_operation values None = []
statement_operation values (Some st) = record { statement = st; valuation = values } ∷ []

abbrev pub operation_at : Member → Valuation → Option Submitted → List Operation
operation_at m values None = []
operation_at m values (Some own) = statement_operation values (numbered own.script.statements m.place)

abbrev pub operations_among : List Submitted → List Posted → List Valuation → Member → List Operation
operations_among submitted [] groundings m = []
operations_among submitted (a ∷ asked) [] m = []
operations_among submitted (a ∷ asked) (values ∷ more) m =
    cond (is_tx a.tx m) (operation_at m values (numbered submitted m.tx)) (operations_among submitted asked more m)

abbrev pub joint_member : Posted → Valuation → JointMember
joint_member query values = record { tx = query.tx; place = query.place; grounding = values }

-- a statement of the answer is a member's
pub record IsAnswered (submitted : List Submitted) (seen : Tables) (asked : List Posted) (groundings : List Valuation)
    (m : Member) : Type 0 where
  pub query : Posted
  pub values : Valuation
  pub at : In query asked
  pub tx : m.tx ≡ query.tx
  pub grounds : is_form_grounding (λ value. value) seen query.statement values ≡ true
  pub member : answered_among asked groundings m ≡ answered_by query values m
  pub operations : operations_among submitted asked groundings m ≡ operation_at m values (numbered submitted m.tx)
  pub in_joint : In (joint_member query values) (joint_members asked groundings)
  pub demands : (post : Fact) → In post (form_posts (λ value. value) query.statement values)
      → In post (all_posts asked groundings)

pub record IsLeft (submitted : List Submitted) (asked : List Posted) (groundings : List Valuation) (m : Member)
    : Type 0 where
  pub member : answered_among asked groundings m ≡ m
  pub operations : operations_among submitted asked groundings m ≡ []
  pub none : (query : Posted) → In query asked → m.tx ≡ query.tx → ⊥

pub answered_or_left : (submitted : List Submitted) (seen : Tables) (asked : List Posted) (groundings : List Valuation)
    (m : Member) → AreGroundings seen asked groundings
    → IsAnswered submitted seen asked groundings m ⊎ IsLeft submitted asked groundings m
answered_or_left submitted seen [] groundings m good =
    inr (record { member = refl; operations = refl; none = λ a at. absurd at })
answered_or_left submitted seen (a ∷ asked) [] m good = absurd good
answered_or_left submitted seen (a ∷ asked) (values ∷ more) m good =
    by (is_tx a.tx m) refl (answered_or_left submitted seen asked more m good.1)
  where
    by : (b : Bool) → is_tx a.tx m ≡ b
        → IsAnswered submitted seen asked more m ⊎ IsLeft submitted asked more m
        → IsAnswered submitted seen (a ∷ asked) (values ∷ more) m ⊎ IsLeft submitted (a ∷ asked) (values ∷ more) m
    by true is rest =
        inl (record {
          query = a;
          values = values;
          at = inl refl;
          tx = same_number m.tx a.tx is;
          grounds = good.0.grounds;
          member = ap (λ b. cond b (answered_by a values m) (answered_among asked more m)) is;
          operations = ap (λ b. cond b (operation_at m values (numbered submitted m.tx))
              (operations_among submitted asked more m)) is;
          in_joint = inl refl;
          demands = λ post at. in_first (form_posts (λ value. value) a.statement values)
              (all_posts asked more) post at;
        })
    by false is (inl r) =
        inl (record {
          query = r.query;
          values = r.values;
          at = inr r.at;
          tx = r.tx;
          grounds = r.grounds;
          member = ap (λ b. cond b (answered_by a values m) (answered_among asked more m)) is ∙ r.member;
          operations = ap (λ b. cond b (operation_at m values (numbered submitted m.tx))
              (operations_among submitted asked more m)) is
              ∙ r.operations;
          in_joint = inr r.in_joint;
          demands = λ post at. in_second (form_posts (λ value. value) a.statement values)
              (all_posts asked more) post (r.demands post at);
        })
    by false is (inr r) =
        inr (record {
          member = ap (λ b. cond b (answered_by a values m) (answered_among asked more m)) is ∙ r.member;
          operations = ap (λ b. cond b (operation_at m values (numbered submitted m.tx))
              (operations_among submitted asked more m)) is
              ∙ r.operations;
          none = λ other at same. elim at [
            | inl here ↦ differ m.tx a.tx is (same ∙ ap (λ (x : Posted). x.tx) here)
            | inr there ↦ r.none other there same
          ];
        })

pub nonempty : (seen : Tables) (asked : List Posted) (groundings : List Valuation)
    → AreGroundings seen asked groundings → (asked ≡ [] → ⊥)
    → joint_members asked groundings ≡ [] → ⊥
nonempty seen [] groundings good some e = some refl
nonempty seen (a ∷ asked) [] good some e = absurd good
nonempty seen (a ∷ asked) (v ∷ groundings) good some e = cc (e)

-- ---- the joint answer

-- what each place of the joint answer comes from
pub from_joint : (many : List Posted) (gs : List Valuation) (m : JointMember) → In m (joint_members many gs)
    → (a : Posted) × (v : Valuation) × In a many × (m ≡ joint_member a v)
from_joint [] gs m at = absurd at
from_joint (a ∷ many) [] m at = absurd at
from_joint (a ∷ many) (v ∷ gs) m (inl same) = (a, v, inl refl, same)
from_joint (a ∷ many) (v ∷ gs) m (inr at) = let r = from_joint many gs m at in (r.0, r.1, inr r.2, r.3)

pub from_heads : (many : List Posted) (gs : List Valuation) (fact : Fact) → In fact (all_heads many gs)
    → (a : Posted) × (v : Valuation) × In a many × In (joint_member a v) (joint_members many gs)
    × In fact (form_heads (λ value. value) a.statement v)
from_heads [] gs fact at = absurd at
from_heads (a ∷ many) [] fact at = absurd at
from_heads (a ∷ many) (v ∷ gs) fact at =
    elim (in_either (form_heads (λ value. value) a.statement v) (all_heads many gs) fact at) [
      | inl here ↦ (a, v, inl refl, inl refl, here)
      | inr there ↦ let r = from_heads many gs fact there in (r.0, r.1, inr r.2, inr r.3, r.4)
    ]

abbrev pub OtherPostedQuery : Posted → Posted → Type 0
OtherPostedQuery one other = one.tx ≡ other.tx → ⊥

pub joint_pairs : (many : List Posted) (gs : List Valuation) → Pairs OtherPostedQuery many
    → Pairs OtherTx (joint_members many gs)
joint_pairs [] gs pairs = tt
joint_pairs (a ∷ many) [] pairs = tt
joint_pairs (a ∷ many) (v ∷ gs) pairs = (
  to_all (OtherTx (joint_member a v)) (joint_members many gs) (λ m at e.
      let r = from_joint many gs m at in
      of_all (OtherPostedQuery a) many r.0 pairs.0 r.2 (e ∙ ap (λ (x : JointMember). x.tx) r.3)),
  joint_pairs many gs pairs.1,
)

-- ---- members that are answered

-- a statement is of a member that is posted before it
pub record IsPresent (s : State) (query : Posted) : Type 0 where
  pub member : Member
  pub at : In member s.active
  pub posted : member.posted ≡ true
  pub next : next_of s member ≡ Asks query.statement
  pub tx : query.tx ≡ member.tx
  pub place : query.place ≡ member.place
