use Rattle.std.proofs.Common.{◌≡◌, ◌<◌, ◌≤◌, ◌+◌, ◌++◌, ◌∷◌, [], ℕ, List, length, take, get_or, subst, sym, ap, ◌∙◌}
use Rattle.std.proofs.Common.{arith}
use Rattle.std.proofs.lemmas.List.{take_all, take_more}
use Rattle.ent_lists.specs.Elements.{In}
use Rattle.ent_meetings.specs.declared.pattern.Pattern.{Pattern}
use Rattle.ent_meetings.specs.Group.{offers_of}
use Rattle.ent_meetings.specs.Settling.{GoesPast}
use Rattle.ent_meetings.specs.Waiting.{Waiting, named}
use Rattle.ent_meetings.proofs.Growing.{grows_both, grows_not, shorter}
use Rattle.ent_meetings.proofs.Settled.{goes_past_both, goes_past_not, offered_more}
use Rattle.ent_meetings.proofs.widening.Gathering.let_in_all.Goals as goal

pub loop-offer-init : goal.loop-offer-init
loop-offer-init c = record {
  grows = grows_not c.args.index.now c.args.self.now c.requires;
  fewer = omega arith;
  past = λ some low. goes_past_not c.args.index.now c.args.self.now.tickets.items;
}

-- one offer more
one_more : (waiting : Waiting) (old mid new more : List ℕ) (offers slice : List Pattern) (at : ℕ) (offer : Pattern)
    → slice ≡ offers → at < length slice → offer ≡ get_or slice at offer → (longer : List ℕ) → mid ≡ old ++ longer
    → GoesPast waiting old mid (take at offers) → GoesPast waiting mid new (offer ∷ [])
    → GoesPast waiting old new (take (at + 1) offers)
one_more waiting old mid new more offers slice at offer same low is longer grown first second =
    let front : take (at + 1) offers ≡ take at offers ++ offer ∷ [] =
    ap (take (at + 1)) (sym same) ∙ take_more slice at offer low
    ∙ ap (λ (x : Pattern). take at slice ++ x ∷ []) (sym is)
    ∙ ap (λ (xs : List Pattern). take at xs ++ offer ∷ []) same in
    subst (GoesPast waiting old new) (sym front)
    (goes_past_both waiting old mid new (take at offers) (offer ∷ [])
    (λ o there. subst (λ (tickets : List ℕ). In o (offers_of (named waiting tickets))) (sym grown)
    (offered_more waiting old longer o there)) first second)

pub loop-offer-preserved : goal.loop-offer-preserved
loop-offer-preserved c =
    let before = c.loop-offer.invariant in
    let fewer = before.fewer in
    let left = c.let_in_for.ensures.looks in
    let grows = c.in_ok-let_in_for.ensures.ok in
    let mid = c.loop-offer.self.tickets.items in
    let new = c.let_in_for.new.self.tickets.items in
    let longer = before.grows.longer in
    record {
      grows = grows_both c.args.index.now c.args.self.now c.loop-offer.self c.let_in_for.new.self before.grows grows;
      fewer = omega arith;
      past = λ some low. one_more c.args.index.now c.args.self.now.tickets.items mid new grows.longer.0
          c.args.party.now.offers c.as_slice-offer-items.result.now c.loop-offer.offer-index c.offer-item.result
          c.as_slice-offer-items.ensures (omega arith) c.offer-item.is longer.0 longer.1
          (before.past (omega arith) (shorter mid new grows.longer.0 grows.longer.1 low))
          (c.in_ok-let_in_for.ensures.past some low);
    }

whole : (waiting : Waiting) (old new : List ℕ) (offers slice : List Pattern) (at : ℕ) → slice ≡ offers
    → length slice ≤ at
    → GoesPast waiting old new (take at offers) → GoesPast waiting old new offers
whole waiting old new offers slice at same long past =
    subst (GoesPast waiting old new)
    (take_all at offers (subst (λ (xs : List Pattern). length xs ≤ at) same long)) past

pub returns-clause-past : goal.returns-clause-past
returns-clause-past c some low =
    whole c.args.index.now c.args.self.now.tickets.items c.loop-offer.self.tickets.items c.args.party.now.offers
    c.as_slice-offer-items.result.now c.loop-offer.offer-index c.as_slice-offer-items.ensures (omega arith)
    (c.loop-offer.invariant.past some low)
