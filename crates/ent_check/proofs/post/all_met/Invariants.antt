use Rattle.std.proofs.Common.{◌≡◌, true, take}
use Rattle.std.specs.List.{list_all}
use Rattle.ent_check.specs.Heads.{has}
use Rattle.ent_check.proofs.post.all_met.Given as goal

-- those of the offers so far are heads
abbrev pub invariant-loop-offer : goal.invariant-loop-offer
invariant-loop-offer l = list_all (λ offer. list_all (has l.heads) offer.posts) (take l.offer-index l.offers) ≡ true
