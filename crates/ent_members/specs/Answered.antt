-- What one member gets of a joint answer.
use Rattle.std.specs.Prelude.{ℕ, List}
use Rattle.ent_value.specs.declared.value.Value.{Value}
use Rattle.ent_semantics.specs.declared.answer.Answer.{Answer}
use Rattle.ent_semantics.specs.declared.answer.Answer.TheVariants as answers
use Rattle.ent_semantics.specs.Database.{Name}
use Rattle.ent_semantics.specs.Entangled.{Valuation}
use Rattle.ent_semantics.specs.declared.entangled.Entangled.{Entangled}
use Rattle.ent_semantics.specs.Form.{form_bound, form_heads}

-- what one member gets of a joint answer, and what that binds
pub record MemberAnswer : Type 0 where
  pub tx : ℕ
  pub answer : Answer
  pub bound : List (Name × Value)

-- what the member with a posted statement gets under a grounding
abbrev pub member_answer : ℕ → Entangled Value → Valuation → MemberAnswer
member_answer tx statement values =
    record {
      tx = tx;
      answer = answers.Heads (form_heads (λ value. value) statement values);
      bound = form_bound (λ value. value) statement values;
    }

abbrev pub answer_tx : MemberAnswer → ℕ
answer_tx own = own.tx
