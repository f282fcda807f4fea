-- Joint answers that give all statements of some histories are good over a run that sees these statements.
use Rattle.std.proofs.Common.{◌≡◌, List, map, sym, ap, subst, ◌∙◌, Contains}
use Rattle.std.proofs.Common.{flat_map}
use Rattle.std.specs.List.{AllByRecursion}
use Rattle.ent_tree.specs.declared.declaration.Create.{Create}
use Rattle.ent_semantics.specs.declared.answer.Fact.{Fact}
use Rattle.ent_semantics.specs.declared.book.JointAnswer.{JointAnswer}
use Rattle.ent_semantics.specs.declared.book.Member.{Member as JointMember}
use Rattle.ent_semantics.specs.Joint.{IsGood, IsGrounded, IsOffered, StandsIn, read_view_heads, read_view_posts}
use Rattle.ent_semantics.specs.Joint as joint_specs
use Rattle.ent_semantics.specs.Serial.{ReadView}
use Rattle.ent_protocol_laws.specs.History.{History}
use Rattle.ent_lists.specs.Elements.{In, contains_in, in_contains, in_flat, to_flat}
use Rattle.ent_lists.specs.Elements.{of_all, of_map, to_map, pairs_index}
use Rattle.ent_protocol_laws.proofs.Asks.{Ask, ask_of, ask_member, ask_heads, history_asks}
use Rattle.ent_protocol_laws.proofs.Joints.{JointsRight, AsksOf, OtherTx}

module _ (all : List History) (seen : List ReadView) (asks_are : map ask_of seen ≡ flat_map history_asks all) where
  pub asked_by : (read_view : ReadView) → In read_view seen → AsksOf all (ask_of read_view)
  asked_by read_view at =
      in_flat history_asks all (ask_of read_view)
      (subst (In (ask_of read_view)) asks_are (to_map ask_of seen read_view at))

  seen_by : (ask : Ask) → AsksOf all ask → (read_view : ReadView) × In read_view seen × (ask ≡ ask_of read_view)
  seen_by ask a = of_map ask_of seen ask (subst (In ask) (sym asks_are) (to_flat history_asks all a.0 ask a.1 a.2))

  module _ (joints : List JointAnswer) (right : JointsRight (AsksOf all) joints) where
    pub read_view_of : (joint : JointAnswer) → In joint joints → (member : JointMember) → In member joint.members
        → (read_view : ReadView) × Contains seen read_view × (member ≡ joint_specs.member_of read_view)
    read_view_of joint jt member mt =
        let a = right.down joint jt member mt in
        let v = seen_by a.0 a.1 in
        (v.0, in_contains seen v.0 v.1, a.2 ∙ ap ask_member v.2)

    met : (joint : JointAnswer) → In joint joints → (read_view : ReadView) → StandsIn seen joint.members read_view
        → (post : Fact) → Contains (read_view_posts read_view) post → IsOffered seen joint.members post
    met joint jt read_view stands post at =
        let r = right.met joint jt (ask_of read_view) (asked_by read_view (contains_in seen read_view stands.0))
        (contains_in joint.members (joint_specs.member_of read_view) stands.1) post
        (contains_in (read_view_posts read_view) post at) in
        let v = seen_by r.0 r.1 in (
          v.0,
          (
            in_contains seen v.0 v.1,
            in_contains joint.members (joint_specs.member_of v.0)
                (subst (λ m. In m joint.members) (ap ask_member v.2) r.2),
          ),
          in_contains (read_view_heads v.0) post (subst (In post) (ap ask_heads v.2) r.3),
        )

    pub good_over : (declared : List Create) → AllByRecursion (IsGrounded declared) seen → (joint : JointAnswer)
        → In joint joints → IsGood declared seen joint.members
    good_over declared grounded joint jt =
        record {
          some = right.some joint jt;
          distinct = pairs_index OtherTx joint.members (right.distinct joint jt);
          of_run = λ member at. read_view_of joint jt member (contains_in joint.members member at);
          grounded = λ read_view stands. of_all (IsGrounded declared) seen read_view grounded
              (contains_in seen read_view stands.0);
          met = met joint jt;
        }
