use Rattle.std.proofs.Common.{ℕ, List, Result, Ok, Err}
use Rattle.std.specs.Prelude.{IfOk, IfErr}
use Rattle.std.specs.List.{All}
use Rattle.ent_value.specs.declared.refusal.Refusal.{Refusal}
use Rattle.ent_value.specs.declared.refusal.Refusal.TheVariants as errors
use Rattle.ent_value.specs.Refusal.{Gives}
use Rattle.ent_text.specs.declared.fault.TextFault.{TextFault}
use Rattle.ent_text.specs.declared.token.Token.{Token}
use Rattle.ent_text.specs.Fault.{IfFault}
use Rattle.ent_text.specs.Reading.{AreTokens, HasFault}
use Rattle.ent_text.specs.Slices.{IsSliceOf, AreInOrder}
use Rattle.ent_text.specs.Lexing.{tokens_of}
use Rattle.ent_text.proofs.Found.{found_are_tokens, fault_is_found}
use Rattle.ent_text.proofs.Slices.{tokens_are_slices, tokens_are_in_order}
use Rattle.ent_text.proofs.tokenizer.tokens.Goals as goal

abbrev Answer : Type 0
Answer = Result (List Token) (Refusal TextFault)

is_found : (text : List ℕ) (answer : Answer) → Gives (λ tokens. tokens) answer (tokens_of text)
    → IfOk answer (λ tokens. AreTokens text tokens)
is_found text (Ok tokens) given = found_are_tokens text tokens given
is_found text (Err refusal) given = tt

are_slices : (text : List ℕ) (answer : Answer) → Gives (λ tokens. tokens) answer (tokens_of text)
    → IfOk answer (λ tokens. All (λ token. IsSliceOf text token) tokens)
are_slices text (Ok tokens) given = tokens_are_slices text tokens (found_are_tokens text tokens given)
are_slices text (Err refusal) given = tt

are_in_order : (text : List ℕ) (answer : Answer) → Gives (λ tokens. tokens) answer (tokens_of text)
    → IfOk answer (λ tokens. AreInOrder tokens)
are_in_order text (Ok tokens) given = tokens_are_in_order text tokens (found_are_tokens text tokens given)
are_in_order text (Err refusal) given = tt

is_fault : (text : List ℕ) (answer : Answer) → Gives (λ tokens. tokens) answer (tokens_of text)
    → IfErr answer (λ refusal. IfFault (λ fault. HasFault text fault) refusal)
is_fault text (Ok tokens) given = tt
is_fault text (Err errors.Memory) given = tt
is_fault text (Err (errors.Fault fault)) given = fault_is_found text fault given

pub returns-clause-found : goal.returns-clause-found
returns-clause-found c = is_found c.args.text.now c.all_tokens.result c.all_tokens.ensures

pub returns-clause-slices : goal.returns-clause-slices
returns-clause-slices c = are_slices c.args.text.now c.all_tokens.result c.all_tokens.ensures

pub returns-clause-order : goal.returns-clause-order
returns-clause-order c = are_in_order c.args.text.now c.all_tokens.result c.all_tokens.ensures

pub returns-clause-fault : goal.returns-clause-fault
returns-clause-fault c = is_fault c.args.text.now c.all_tokens.result c.all_tokens.ensures
