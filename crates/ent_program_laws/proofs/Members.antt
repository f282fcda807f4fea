-- The joint answers that a history tells are told by its book again, where that is legal.
use Rattle.std.proofs.Common.{◌≡◌, ℕ, zero, suc, List, [], ◌∷◌, map, refl, sym, ap, subst, ◌∙◌, inl, inr, Option, Some}
use Rattle.std.proofs.Common.{Ok, Result, slice_get}
use Rattle.std.proofs.lemmas.Option.{same_Some}
use Rattle.ent_tree.specs.declared.entangled.Entangled.{Entangled as TreeEntangled}
use Rattle.ent_tree.specs.declared.script.Script.{Script}
use Rattle.ent_tree.specs.declared.script.Statement.{Statement as TreeStatement}
use Rattle.ent_tree.specs.declared.script.Statement.TheVariants as trees
use Rattle.ent_semantics.specs.declared.book.JointAnswer.{JointAnswer}
use Rattle.ent_semantics.specs.declared.book.Member.{Member}
use Rattle.ent_semantics.specs.Book.{IsLegal, all_members, book_read_views}
use Rattle.ent_semantics.specs.Database.{opening_database}
use Rattle.ent_semantics.specs.Entangled.{written_variables}
use Rattle.ent_semantics.specs.Serial.{numbered}
use Rattle.ent_book.specs.Report2.{member_variables, script_statement, statement_variables}
use Rattle.ent_semantics.specs.declared.entangled.Entangled.{Entangled}
use Rattle.ent_semantics.specs.declared.operand.Known.{Known}
use Rattle.ent_semantics.specs.declared.statement.Statement.{Statement}
use Rattle.ent_semantics.specs.declared.statement.Statement.TheVariants as forms
use Rattle.ent_semantics.proofs.Numbered.{numbered_in}
use Rattle.ent_form.specs.AllFaults.{fault_of, head_of}
use Rattle.ent_form.specs.Catalogue.{schemas_of}
use Rattle.ent_form.specs.Form.{script_in, statement_in}
use Rattle.ent_form.specs.Kinds.{Bound, none_bound}
use Rattle.ent_form.specs.ScriptFaults.{script_faults}
use Rattle.ent_form.specs.declared.catalogue.TableSchema.{TableSchema}
use Rattle.ent_form.specs.declared.fault.FormFault.{FormFault}
use Rattle.ent_form.specs.declared.script.Plain.{Plain}
use Rattle.ent_history.specs.declared.history.History.{History}
use Rattle.ent_history.specs.declared.history.ToldJoint.{ToldJoint}
use Rattle.ent_history.specs.declared.history.ToldMember.{ToldMember}
use Rattle.ent_history.specs.Told.{book_of, joint_answer_of, told_joint, told_member}
use Rattle.ent_history.specs.Joints.{Binds, BindsRight, binds_of, member_binds, resolved_at, script_binds}
use Rattle.ent_history.specs.Scripts.{IsScript}
use Rattle.ent_lists.specs.Elements.{In, contains_in, in_contains, of_all, to_flat, to_map}
use Rattle.ent_report_laws.specs.Tellable.{CanBeTold, IsJointTold, IsMemberTold}
use Rattle.ent_check.proofs.Along.{Resolves, resolved_so}
use Rattle.ent_program_laws.proofs.Turns.{resolves}
use Rattle.ent_program_laws.proofs.Walking.{entangled_form}
use Rattle.ent_program_laws.proofs.Seen.{seen_in}

-- ---- the form of an entangled statement

abbrev IsEntangledAt : List (Statement Known) → ℕ → Type 0
IsEntangledAt made place = (form : Entangled Known) × (numbered made place ≡ Some (forms.Entangled form))

form_at : (schemas : List TableSchema) (bound : Bound) (statements : List TreeStatement)
    (made : List (Statement Known)) → Resolves schemas bound statements made → (k : ℕ) (entangled : TreeEntangled)
    → slice_get statements k ≡ Some (trees.Entangled entangled) → IsEntangledAt made (suc k)
form_at schemas bound [] made resolved k entangled at = cc (at)
form_at schemas bound (statement ∷ more) [] resolved k entangled at = absurd resolved
form_at schemas bound (statement ∷ more) (form ∷ made) resolved zero entangled at =
    let same : statement ≡ trees.Entangled entangled = same_Some statement (trees.Entangled entangled) at in
    let own = entangled_form schemas bound resolved.0 entangled form
    (ap (statement_in schemas bound) (sym same) ∙ resolved.1) in
    (own.0, ap (λ (f : Statement Known). Some f) own.1)
form_at schemas bound (statement ∷ more) (form ∷ made) resolved (suc k) entangled at =
    form_at schemas resolved.0 more made resolved.2 k entangled at

form_numbered : (schemas : List TableSchema) (script : Script) (plain : Plain) → script_in schemas script ≡ Ok plain
    → (place : ℕ) (entangled : TreeEntangled)
    → numbered script.statements place ≡ Some (trees.Entangled entangled) → IsEntangledAt plain.statements place
form_numbered schemas script plain made zero entangled at = cc (at)
form_numbered schemas script plain made (suc k) entangled at =
    form_at schemas none_bound script.statements plain.statements (resolved_so schemas script plain made) k entangled at

-- ---- members

-- the entangled statement of a transaction's script at a place
record IsEntangled (history : History) (tx place : ℕ) : Type 0 where
  script : Script
  own : numbered history.scripts tx ≡ Some script
  entangled : TreeEntangled
  there : numbered script.statements place ≡ Some (trees.Entangled entangled)

abbrev pub FirstFault : Type 0
FirstFault =
    (tables : List TableSchema) (script : Script)
    → fault_of (script_in tables script) ≡ head_of (script_faults tables script)

module _ (first : FirstFault) (history : History) (told : CanBeTold history) (legal : IsLegal (book_of history)) where
  stands : (member : Member) → In member (all_members (book_of history).joint_answers)
      → IsEntangled history member.tx member.place
  stands member at =
      let view = legal.no_widow member (in_contains (all_members (book_of history).joint_answers) member at) in
      let all = book_read_views (book_of history) legal.turns in
      let seen = seen_in history.opening.tables legal.turns (opening_database history.opening) view.0
      (contains_in all view.0 view.1) in
      let tx : member.tx ≡ seen.turn.tx = ap (λ (m : Member). m.tx) view.2 ∙ seen.own in
      let place = ap (λ (m : Member). m.place) view.2 in
      record {
        script = seen.turn.script;
        own = ap (numbered history.scripts) tx
            ∙ legal.runs.own_scripts seen.turn (in_contains legal.turns seen.turn seen.at);
        entangled = view.0.entangled;
        there = ap (numbered seen.turn.script.statements) place ∙ seen.there;
      }

  -- the variables of such a member are those of its statement
  variables_are : (one : ToldMember) → IsMemberTold history one
      → IsEntangled history one.member.tx one.member.place
      → member_variables history.scripts one.member ≡ one.variables
  variables_are one is at =
      let tables = schemas_of history.opening.tables in
      let place = one.member.place in
      let among = numbered_in history.scripts one.member.tx at.script at.own in
      let resolved = (of_all (IsScript history) history.scripts at.script told.scripts among).resolved in
      let plain = resolves (script_in tables at.script) (first tables at.script ∙ ap head_of resolved) in
      let form = form_numbered tables at.script plain.0 plain.1 place at.entangled at.there in
      let variables : member_variables history.scripts one.member ≡ written_variables at.entangled =
      ap (λ (o : Option Script). statement_variables (script_statement place o)) at.own
      ∙ ap (λ (o : Option TreeStatement). statement_variables o) at.there in
      let binds : member_binds history one.member.tx place
      ≡ Some (written_variables at.entangled, form.0.variables) =
      ap (λ (o : Option Script). script_binds tables o place) at.own
      ∙ ap (λ (o : Option TreeStatement). binds_of o (resolved_at (script_in tables at.script) place)) at.there
      ∙ ap (λ (r : Result Plain FormFault). binds_of (Some (trees.Entangled at.entangled)) (resolved_at r place))
      plain.1
      ∙ ap (λ (o : Option (Statement Known)). binds_of (Some (trees.Entangled at.entangled)) o) form.1 in
      let right = subst (λ (b : Option Binds). BindsRight b one.variables one.member.grounding) binds is.binds in
      variables ∙ sym right.0

  its_variables : (joint : ToldJoint) → In joint history.joint_answers → (one : ToldMember) → In one joint.members
      → member_variables history.scripts one.member ≡ one.variables
  its_variables joint jt one at =
      let joint_told = of_all (IsJointTold history) history.joint_answers joint told.joints jt in
      variables_are one (of_all (IsMemberTold history) joint.members one joint_told.members at)
      (stands one.member
      (to_flat (λ (j : JointAnswer). j.members) (map joint_answer_of history.joint_answers) (joint_answer_of joint)
      one.member (to_map joint_answer_of history.joint_answers joint jt)
      (to_map (λ (m : ToldMember). m.member) joint.members one at)))

-- ---- joint answers

members_again : (scripts : List Script) (members : List ToldMember)
    → ((one : ToldMember) → In one members → member_variables scripts one.member ≡ one.variables)
    → map (told_member scripts) (map (λ (one : ToldMember). one.member) members) ≡ members
members_again scripts [] own = refl
members_again scripts (one ∷ more) own =
    λ i. record { member = one.member; variables = own one (inl refl) i }
    ∷ members_again scripts more (λ other at. own other (inr at)) i

each_again : (scripts : List Script) (joints : List ToldJoint)
    → ((joint : ToldJoint) → In joint joints → (one : ToldMember) → In one joint.members
    → member_variables scripts one.member ≡ one.variables)
    → map (told_joint scripts) (map joint_answer_of joints) ≡ joints
each_again scripts [] own = refl
each_again scripts (joint ∷ more) own =
    λ i. record { members = members_again scripts joint.members (own joint (inl refl)) i }
    ∷ each_again scripts more (λ other at. own other (inr at)) i

pub joints_again : FirstFault → (history : History) → CanBeTold history → IsLegal (book_of history)
    → map (told_joint history.scripts) (map joint_answer_of history.joint_answers) ≡ history.joint_answers
joints_again first history told legal =
    each_again history.scripts history.joint_answers (its_variables first history told legal)
