-- Answers of one kind are none of another.
use Rattle.std.proofs.Common.{◌≡◌, ℕ, List}
use Rattle.ent_value.specs.declared.value.Value.{Value}
use Rattle.ent_semantics.specs.declared.answer.Answer.TheVariants as answers

pub rows_are_no_count : (rows : List (List Value)) (count : ℕ) → answers.Rows rows ≡ answers.Count count → ⊥
rows_are_no_count rows count is = absurd cc
