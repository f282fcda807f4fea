-- Plays in parts, and submits.
use Rattle.std.proofs.Common.{◌≡◌, ℕ, suc, false, List, [], ◌∷◌, ◌++◌, refl, sym, subst, ◌∙◌, ap}
use Rattle.std.specs.Prelude.{length, nat_le}
use Rattle.ent_tree.specs.declared.limits.TheConstants.{MOST_SCRIPTS}
use Rattle.ent_tree.specs.declared.script.End.{End}
use Rattle.ent_semantics.specs.declared.operand.Known.{Known}
use Rattle.ent_semantics.specs.declared.statement.Statement.{Statement}
use Rattle.ent_protocol.specs.Event.{Event, Reply, Submit, Submitted}
use Rattle.ent_protocol.specs.Play.{Plays}
use Rattle.ent_protocol.specs.Run.{Forms, SubmitsForm, SubmitsUnless, submitting}
use Rattle.ent_protocol.specs.State.{State}
use Rattle.ent_protocol.specs.Step.{Step}
use Rattle.ent_examples.specs.Partners.{partners_opening}
use Rattle.ent_examples.specs.Scripts.{ScriptOf, script}

infixr 5 ◌▸◌
-- an event, with the state that it leads to, and then those that follow
pub ◌▸◌ : {A : Type 0} {P Q : A → Type 0} (first : (a : A) × P a) → Q first.0 → (a : A) × P a × Q a
first ▸ rest = (first.0, first.1, rest)

module _ {F : Type 0} (resolved : Forms F) where
  -- one part after another
  pub plays_on : (xs ys : List (Event × Reply F)) (s mid last : State) → Plays resolved s xs mid
      → Plays resolved mid ys last → Plays resolved s (xs ++ ys) last
  plays_on [] ys s mid last one two = subst (λ from. Plays resolved from ys last) one two
  plays_on (x ∷ xs) ys s mid last one two = (one.0, one.1, plays_on xs ys one.0 mid last one.2 two)

  abbrev accepted : ℕ → Reply F
  accepted tx = Submitted tx

  pub submits : {within : ℕ} {form : List (Statement Known)} {end : End} (known : ScriptOf resolved within form end)
      (s : State) → s.opening ≡ partners_opening → nat_le MOST_SCRIPTS (length s.submitted) ≡ false
      → Step resolved s (Submit (script known)) (accepted (suc (length s.submitted))) (submitting s (script known) form)
  submits {form = form} known s opening room =
      subst (λ full. SubmitsUnless full resolved s (script known) (accepted (suc (length s.submitted)))
      (submitting s (script known) form)) (sym room)
      (subst (λ result. SubmitsForm s (script known) result (accepted (suc (length s.submitted)))
      (submitting s (script known) form))
      (sym (ap (λ o. resolved.resolve o (script known)) opening ∙ known.resolves)) (refl, refl))
