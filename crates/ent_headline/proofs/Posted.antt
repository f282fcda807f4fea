-- The statements of the pool are what resolving gave, closed.
use Rattle.std.proofs.Common.{◌≡◌, Bool, true, false, List, [], ◌∷◌, refl, sym, ap, subst, ◌∙◌}
use Rattle.std.proofs.Common.{Option, Some, None, Result, Ok, Err, inl, inr, Contains}
use Rattle.ent_protocol_laws.proofs.Asked.{same_asks}
use Rattle.ent_value.specs.Refusal.{◌>>=◌}
use Rattle.ent_value.specs.declared.value.Value.{Value}
use Rattle.ent_tree.specs.declared.script.End.{End}
use Rattle.ent_tree.specs.declared.script.End.TheVariants.{Commit, Rollback}
use Rattle.ent_tree.specs.declared.script.Script.{Script}
use Rattle.ent_semantics.specs.Database.{Environment}
use Rattle.ent_semantics.specs.Serial.{numbered}
use Rattle.ent_semantics.specs.Closing.{closed, closed_entangled}
use Rattle.ent_semantics.specs.declared.entangled.Entangled.{Entangled}
use Rattle.ent_semantics.specs.declared.operand.Known.{Known}
use Rattle.ent_semantics.specs.declared.statement.Statement.{Statement}
use Rattle.ent_semantics.specs.declared.statement.Statement.TheVariants as statements
use Rattle.ent_semantics.specs.Pool.{Posted}
use Rattle.ent_form.specs.Catalogue.{schemas_of}
use Rattle.ent_form.specs.Form.{script_in}
use Rattle.ent_form.specs.declared.catalogue.TableSchema.{TableSchema}
use Rattle.ent_form.specs.declared.fault.FormFault.{FormFault}
use Rattle.ent_form.specs.declared.script.Plain.{Plain}
use Rattle.ent_form.proofs.ResolvedSteps.{one_answer}
use Rattle.ent_protocol.specs.Member.{Next, Ordinary, Asks, Commits, RollsBack, next_in, next_of, posted_by, pool}
use Rattle.ent_protocol.specs.Member.{statement_next, end_next, environment_of}
use Rattle.ent_protocol.specs.Reached.{IsReached}
use Rattle.ent_protocol.specs.PostedBy.{in_pool}
use Rattle.ent_protocol.specs.State.{State, Submitted, Member}
use Rattle.ent_headline.specs.Resolved.{resolved_forms}
use Rattle.ent_lists.specs.Elements.{In, in_contains, of_map, in_flat}
use Rattle.ent_headline.proofs.Lists.{numbered_in}
use Rattle.ent_headline.proofs.Submitted.{submitted_resolved}

-- a statement in the pool is an entangled one of a resolved script, closed
pub record IsResolvedPost (tables : List TableSchema) (member : Posted) : Type 0 where
  pub script : Script
  pub plain : Plain
  pub entangled : Entangled Known
  pub environment : Environment
  pub resolved : script_in tables script ≡ Ok plain
  pub stands : Contains plain.statements (statements.Entangled entangled)
  pub is : member ≡ record {
    tx = member.tx;
    attempt = member.attempt;
    place = member.place;
    statement = closed_entangled environment entangled;
  }

-- ---- what it asks

-- the script of a member that asks, and its statement there
pub record IsAskedIn (all : List Submitted) (m : Member) (asked : Entangled Value) : Type 0 where
  pub own : Submitted
  pub submitted : numbered all m.tx ≡ Some own
  pub entangled : Entangled Known
  pub there : numbered own.form m.place ≡ Some (statements.Entangled entangled)
  pub is : asked ≡ closed_entangled (environment_of m) entangled

statement_asks : (environment : Environment) (statement : Statement Known) (asked : Entangled Value)
    → statement_next (closed environment statement) ≡ Asks asked
    → (entangled : Entangled Known) × (statement ≡ statements.Entangled entangled)
    × (asked ≡ closed_entangled environment entangled)
statement_asks environment (statements.Entangled entangled) asked e =
    (entangled, refl, sym (same_asks (closed_entangled environment entangled) asked e))
statement_asks environment (statements.Select select) asked e = cc
statement_asks environment (statements.Insert table values) asked e = cc
statement_asks environment (statements.Delete table tests) asked e = cc
statement_asks environment (statements.Update table image tests) asked e = cc
statement_asks environment (statements.Set variable expression) asked e = cc

end_asks : (end : End) (asked : Entangled Value) → end_next end ≡ Asks asked → ⊥
end_asks Commit asked e = cc
end_asks Rollback asked e = cc

asked_in : (all : List Submitted) (m : Member) (asked : Entangled Value)
    → next_in (numbered all m.tx) m ≡ Asks asked → IsAskedIn all m asked
asked_in all m asked e = by (numbered all m.tx) refl
  where
    by : (found : Option Submitted) → numbered all m.tx ≡ found → IsAskedIn all m asked
    by None none = let wrong : RollsBack ≡ Asks asked = rw none at e in cc
    by (Some own) there = at (numbered own.form m.place) refl
      where
        here : next_in (Some own) m ≡ Asks asked
        here = ap (λ (found : Option Submitted). next_in found m) (sym there) ∙ e

        at : (statement : Option (Statement Known)) → numbered own.form m.place ≡ statement → IsAskedIn all m asked
        at None none = absurd (end_asks own.script.end asked (rw none at here))
        at (Some statement) is =
            let asks : statement_next (closed (environment_of m) statement) ≡ Asks asked = rw is at here in
            let r = statement_asks (environment_of m) statement asked asks in
            record { own = own; submitted = there; entangled = r.0; there = is ∙ ap Some r.1; is = r.2 }

-- ---- of reached states

pub plain_given : (first : Result Plain FormFault) (form : List (Statement Known))
    → (first >>= λ (plain : Plain). Ok plain.statements) ≡ Ok form
    → (plain : Plain) × (first ≡ Ok plain) × (plain.statements ≡ form)
plain_given (Ok plain) form e = (plain, refl, one_answer {E = FormFault} plain.statements form e)
plain_given (Err fault) form e = cc

pub posted_resolved : (s : State) → IsReached resolved_forms s → (member : Posted) → In member (pool s)
    → IsResolvedPost (schemas_of s.opening.tables) member
posted_resolved s reached member at =
    let m = in_pool s member at in
    let asked = asked_in s.submitted m.member member.statement m.by.next in
    let resolved = submitted_resolved resolved_forms s asked.own reached
    (in_contains s.submitted asked.own (numbered_in s.submitted m.member.tx asked.own asked.submitted)) in
    let p = plain_given (script_in (schemas_of s.opening.tables) asked.own.script) asked.own.form resolved in
    let stands = in_contains p.0.statements (statements.Entangled asked.entangled)
    (subst (In (statements.Entangled asked.entangled)) (sym p.2)
    (numbered_in asked.own.form m.member.place (statements.Entangled asked.entangled) asked.there)) in
    let is : member ≡ record {
      tx = member.tx;
      attempt = member.attempt;
      place = member.place;
      statement = closed_entangled (environment_of m.member) asked.entangled;
    } = ap (λ (statement : Entangled Value). record {
      tx = member.tx;
      attempt = member.attempt;
      place = member.place;
      statement = statement;
    }) asked.is in
    record {
      script = asked.own.script;
      plain = p.0;
      entangled = asked.entangled;
      environment = environment_of m.member;
      resolved = p.1;
      stands = stands;
      is = is;
    }
