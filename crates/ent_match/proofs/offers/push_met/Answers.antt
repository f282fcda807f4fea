use Rattle.std.proofs.Common.{inl}
use Rattle.ent_match.proofs.offers.push_met.Goals as goal

pub returns-then-not-may_meet : goal.returns-then-not-may_meet
returns-then-not-may_meet c = record {
  grows = record { kept = λ offer listed. listed; sound = λ offer listed. inl listed };
  ok = λ offer met. absurd (c.may_meet.ensures c.if-not-may_meet.true offer.index met.2);
}
