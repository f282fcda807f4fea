-- Groups are the classes of joint answers in every state that is reached.
use Rattle.std.proofs.Common.{◌≡◌, ◌≤◌, ◌+◌, ℕ, zero, suc, Bool, true, false, ◌==◌, List, [], ◌∷◌}
use Rattle.std.proofs.Common.{◌++◌, length, refl, sym, ap, subst, ◌∙◌, arith, Contains}
use Rattle.std.proofs.lemmas.List.{length-append}
use Rattle.ent_value.specs.declared.value.Value.{Value}
use Rattle.ent_semantics.specs.declared.book.JointAnswer.{JointAnswer}
use Rattle.ent_semantics.specs.declared.book.Member.{Member as JointMember}
use Rattle.ent_semantics.specs.declared.operand.Known.{Known}
use Rattle.ent_semantics.specs.declared.statement.Statement.{Statement}
use Rattle.ent_semantics.specs.declared.statement.Statement.{Statement as FormStatement}
use Rattle.ent_tree.specs.declared.declaration.Opening.{Opening}
use Rattle.ent_tree.specs.declared.script.Script.{Script}
use Rattle.ent_protocol.specs.Finish.{finished}
use Rattle.ent_protocol.specs.Job.{Job, Outcome, Shown, Changed, Bound, Choice, Fault}
use Rattle.ent_protocol.specs.Reached.{opened, IsReached, live_joints}
use Rattle.ent_protocol.specs.Rollback.{is_among, is_joint_of}
use Rattle.ent_protocol.specs.Run.{Forms, submitting}
use Rattle.ent_protocol.specs.State.{State, Member, members}
use Rattle.ent_protocol_laws.specs.Groups.{takes_part, AreLinkedIn, GroupsAreClasses}
use Rattle.ent_protocol_laws.proofs.Acts.{AreKept, ComesBack, reached}
use Rattle.ent_protocol_laws.proofs.Classes.{Labelled, LinkedIn}
use Rattle.ent_protocol_laws.proofs.Left.{dormant_tx, in_among}
use Rattle.ent_lists.specs.Elements.{In, of_filter, to_filter, to_map, any_some, any_in, contains_in, in_contains}
use Rattle.ent_lists.specs.Elements.{same_number}
use Rattle.ent_protocol_laws.proofs.Placed.{places_kept, places_opened}
use Rattle.ent_protocol_laws.proofs.Times.{one_if, count, count_joined}
use Rattle.ent_protocol_laws.proofs.Groups.{label_of, labels, GroupsRight, one_member, replaced_labels, of_labels}
use Rattle.ent_protocol_laws.proofs.Groups.{as_before, prepares, commits, rolls_back, ends, starts}
use Rattle.ent_protocol_laws.proofs.Together.{joins}

finishes : (s : State) (m : Member) (left : List Job) (statement : Statement Value) (outcome : Outcome)
    → ComesBack s m left → GroupsRight s → GroupsRight (finished (record s { lent = left }) m statement outcome)
finishes s m left statement (Changed count removed added) back h =
    as_before s _ (places_kept.finishes s m left statement (Changed count removed added) back h.stands)
    (replaced_labels s h.stands _ m back.at refl refl) refl refl refl h
finishes s m left statement (Bound value) back h =
    as_before s _ (places_kept.finishes s m left statement (Bound value) back h.stands)
    (replaced_labels s h.stands _ m back.at refl refl) refl refl refl h
finishes s m left statement (Shown rows) back h =
    as_before s _ (places_kept.finishes s m left statement (Shown rows) back h.stands)
    (replaced_labels s h.stands _ m back.at refl refl) refl refl refl h
finishes s m left statement (Fault failure) back h =
    as_before s _ (places_kept.takes s back.job left back.taken h.stands) refl refl refl refl h
finishes s m left statement (Choice groundings) back h =
    as_before s _ (places_kept.takes s back.job left back.taken h.stands) refl refl refl refl h

-- a number that is new isn't one of these
new_number : (k n d : ℕ) → n ≤ k → d ≡ 0 → d + one_if (suc k == n) 0 ≡ 0
new_number k n d low none = by (suc k == n) refl
  where
    by : (b : Bool) → (suc k == n) ≡ b → d + one_if b 0 ≡ 0
    by true e = let same = same_number (suc k) n e in absurd (omega (arith, same, low))
    by false e = omega (arith, none)

one_longer : (n k all : ℕ) → all ≡ k + 1 → n ≤ k → n ≤ all
one_longer n k all e low = omega (arith, e, low)

submits : (s : State) (script : Script) (form : List (FormStatement Known)) → GroupsRight s
    → GroupsRight (submitting s script form)
submits s script form h =
    record {
      stands = places_kept.submits s script form h.stands;
      known = λ joint jt n is.
          let k = h.known joint jt n is in (
            k.0,
            one_longer n (length s.submitted) (length (s.submitted ++ record { script = script; form = form } ∷ []))
                (length-append s.submitted (record { script = script; form = form } ∷ [])) k.1,
            count_joined dormant_tx n s.dormant (record { tx = suc (length s.submitted); runs = 0 } ∷ [])
                ∙ new_number (length s.submitted) n (count dormant_tx n s.dormant) k.1 k.2,
          );
      right = h.right;
    }

groups_kept : AreKept GroupsRight
groups_kept =
    record {
      submits = submits;
      starts = starts;
      lends = λ s m statement idle next h.
          as_before s _ (places_kept.lends s m statement idle next h.stands)
          (replaced_labels s h.stands _ m idle.at refl refl) refl refl refl h;
      posts = λ s m statement idle next safe h.
          as_before s _ (places_kept.posts s m statement idle next safe h.stands)
          (replaced_labels s h.stands _ m idle.at refl refl) refl refl refl h;
      prepares = prepares;
      commits = commits;
      rolls_back = rolls_back;
      takes = λ s job left taken h.
          as_before s _ (places_kept.takes s job left taken h.stands) refl refl refl refl h;
      finishes = finishes;
      picks = λ s asked component out h.
          as_before s _ (places_kept.picks s asked component out h.stands) refl refl refl refl h;
      joins = λ s job left asked groundings taken component grounded h.
          joins s left asked groundings component grounded.0 grounded.1 h
          (places_kept.joins s job left asked groundings taken component grounded h.stands);
      tries = λ s asked h. as_before s _ (places_kept.tries s asked h.stands) refl refl refl refl h;
      ends = ends;
      recalls = λ s h. as_before s _ (places_kept.recalls s h.stands) refl refl refl refl h;
    }

-- ---- of a state that is reached

module _ (s : State) (h : GroupsRight s) where
  one_in : (x : Member) → In x (members s) → In (label_of x) (labels s)
  one_in x at = to_map label_of (members s) x at

  is_live : (joint : JointAnswer) → In joint s.joints → (x : Member) → In x (members s)
      → takes_part joint x.tx ≡ true → Contains (live_joints s) joint
  is_live joint jt x at is =
      let part = any_some (λ (part : JointMember). part.tx == x.tx) joint.members is in
      in_contains (live_joints s) joint (to_filter (is_joint_of (members s)) s.joints joint jt
      (any_in (λ (other : JointMember). is_among (members s) other.tx) joint.members part.0 part.1
      (ap (is_among (members s)) (same_number part.0.tx x.tx part.2) ∙ in_among (members s) x at)))

  -- labels that are linked are of members that are
  chain : (n : ℕ) (x y : Member) → In x (members s) → In y (members s)
      → LinkedIn n s.joints (labels s) (label_of x) (label_of y) → AreLinkedIn n s x y
  chain zero x y at bt same = one_member s h.stands x y at bt (ap (λ (l : Labelled). l.0) same)
  chain (suc n) x y at bt step =
      let r = of_labels s step.0 step.1 in
      let join = step.2 in (
        r.0,
        in_contains (members s) r.0 r.1,
        record {
          joint = join.joint;
          live = is_live join.joint join.at x at join.of_first;
          of_first = join.of_first;
          of_second = ap (λ (l : Labelled). takes_part join.joint l.0) (sym r.2) ∙ join.of_second;
        },
        chain n r.0 y r.1 bt (subst (λ l. LinkedIn n s.joints (labels s) l (label_of y)) r.2 step.3),
      )

  one_label : (n : ℕ) (x y : Member) → In x (members s) → AreLinkedIn n s x y → x.group ≡ y.group
  one_label zero x y at same = ap (λ (m : Member). m.group) same
  one_label (suc n) x y at step =
      let next = contains_in (members s) step.0 step.1 in
      let join = step.2 in
      let live = of_filter (is_joint_of (members s)) s.joints join.joint
      (contains_in (live_joints s) join.joint join.live) in
      h.right.within join.joint live.0 (label_of x) (label_of step.0) (one_in x at) (one_in step.0 next)
      join.of_first join.of_second
      ∙ one_label n step.0 y next step.3

  classes : GroupsAreClasses s
  classes one other a b =
      let at = contains_in (members s) one a in
      let bt = contains_in (members s) other b in (
        λ same.
            let linked = h.right.linked (label_of one) (label_of other) (one_in one at) (one_in other bt) same in
            (linked.0, chain linked.0 one other at bt linked.1),
        λ linked. one_label linked.0 one other at linked.1,
      )

groups_opened : (opening : Opening) → GroupsRight (opened opening)
groups_opened opening =
    record {
      stands = places_opened opening;
      known = λ joint jt. absurd jt;
      right = record { within = λ joint jt. absurd jt; linked = λ one other at. absurd at };
    }

pub reached_groups : {F : Type 0} (forms : Forms F) (s : State) → IsReached forms s → GroupsAreClasses s
reached_groups forms s r = classes s (reached forms GroupsRight groups_kept s (groups_opened s.opening) r)
