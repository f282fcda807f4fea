use Rattle.std.proofs.Common.{◌≡◌, take}
use Rattle.std.specs.List.{list_any}
use Rattle.ent_semantics.specs.declared.answer.Fact.{Fact}
use Rattle.ent_history.specs.Post.{is_offered}
use Rattle.ent_check.specs.Heads.{has}
use Rattle.ent_check.proofs.heads.heads_of.Given as goal

-- the heads of the offers so far stand there
abbrev pub invariant-loop-offer : goal.invariant-loop-offer
invariant-loop-offer l =
    (post : Fact) → has l.heads post ≡ list_any (λ offer. is_offered offer.heads post) (take l.offer-index l.offers)
