use Rattle.std.proofs.Common.{◌≡◌, ◌++◌, Ok, length}
use Rattle.ent_text.specs.Lexing.{tokens_of}
use Rattle.ent_text.proofs.tokenizer.all_tokens.Given as goal

-- the tokens so far and those that are left are all
abbrev pub invariant-loop-view : goal.invariant-loop-view
invariant-loop-view l = tokens_of l.text ≡ Ok (l.found ++ l.left)

abbrev pub decreases-loop-view : goal.decreases-loop-view
decreases-loop-view l = length l.left
