-- What comes next, as the form at the member's place says.
use Rattle.std.proofs.Common.{◌≡◌, ◌∙◌, Option, Some, None, IfSome, Bor, refl, ap, sym}
use Rattle.std.specs.Option.{option_copied}
use Rattle.ent_value.specs.declared.value.Value.{Value}
use Rattle.ent_semantics.specs.Database.{Environment}
use Rattle.ent_semantics.specs.Serial.{numbered}
use Rattle.ent_semantics.specs.Closing.{closed}
use Rattle.ent_semantics.specs.declared.operand.Known.{Known}
use Rattle.ent_semantics.specs.declared.statement.Statement.{Statement}
use Rattle.ent_semantics.specs.declared.statement.Statement.TheVariants as statements
use Rattle.ent_protocol.specs.Member.{environment_of, next_in, statement_next}
use Rattle.ent_protocol.specs.State.{Member, Submitted}
use Rattle.ent_protocol.specs.Uses.{statement_uses}
use Rattle.ent_protocol.specs.Waits.{next_uses}

pub at_statement : (own : Submitted) (member : Member) (form : Statement Known)
    → numbered own.form member.place ≡ Some form
    → next_in (Some own) member ≡ statement_next (closed (environment_of member) form)
at_statement own member form is = rw is refl

pub uses_next : (statement : Statement Value) → next_uses (statement_next statement) ≡ statement_uses statement
uses_next (statements.Entangled entangled) = refl
uses_next (statements.Select select) = refl
uses_next (statements.Insert table values) = refl
uses_next (statements.Delete table tests) = refl
uses_next (statements.Update table image tests) = refl
uses_next (statements.Set variable expression) = refl

-- a form that stands there asks for the uses of what comes next
pub uses_there : (laws : (environment : Environment) (statement : Statement Known)
    → statement_uses (closed environment statement) ≡ statement_uses statement)
    (own : Submitted) (member : Member) (found : Option (Bor (Statement Known)))
    → option_copied found ≡ numbered own.form member.place
    → IfSome found (λ form. next_uses (next_in (Some own) member) ≡ statement_uses form.now)
uses_there laws own member None is = tt
uses_there laws own member (Some form) is =
    ap next_uses (at_statement own member form.now (sym is))
    ∙ uses_next (closed (environment_of member) form.now) ∙ laws (environment_of member) form.now
