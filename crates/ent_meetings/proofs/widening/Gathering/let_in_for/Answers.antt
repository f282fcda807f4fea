use Rattle.std.proofs.Common.{◌≡◌, ◌<◌, ◌∷◌, ℕ, Bool, false, List, Option, Some, ◌⊎◌, refl, subst, sym, inl, inr, arith}
use Rattle.ent_meetings.specs.Next.{IsAfter, IsNext}
use Rattle.ent_meetings.specs.declared.next.Next.{Next}
use Rattle.ent_meetings.specs.declared.next.Next.TheVariants.{Nobody, Stopped}
use Rattle.ent_meetings.specs.Waiting.{demands_at}
use Rattle.ent_meetings.specs.Settling.{IsPassing, IsTried}
use Rattle.ent_meetings.proofs.Growing.{grows_both, grows_not, shorter}
use Rattle.ent_meetings.proofs.Settled.{passed_one, passes_on}
use Rattle.ent_meetings.proofs.widening.Gathering.let_in_for.Goals as goal

pub loop-looks-init : goal.loop-looks-init
loop-looks-init c = record {
  grows = grows_not c.args.index.now c.args.self.now c.requires;
  fewer = omega arith;
  past = λ low offered past among. record {
    past = past;
    among = among;
    before = λ ticket party none waits asks. absurd none;
  };
}

pub loop-looks-preserved : goal.loop-looks-preserved
loop-looks-preserved c =
    let before = c.loop-looks.invariant in
    let fewer = before.fewer in
    let left = c.next_demander.ensures.looks in
    let grows = c.in_ok-let_in-in-Found.ensures.ok in
    let old = c.loop-looks.self.tickets.items in
    let more = grows.longer in
    record {
      grows = grows_both c.args.index.now c.args.self.now c.loop-looks.self c.let_in.new.self before.grows grows;
      fewer = omega arith;
      past = λ low offered past among.
          subst (λ (tickets : List ℕ). IsPassing c.args.index.now tickets offered c.args.offer.now
          (Some c.in-Found.ticket))
          (sym more.1)
          (passes_on c.args.index.now old more.0 offered c.args.offer.now c.loop-looks.last c.in-Found.ticket
          (before.past (shorter old c.let_in.new.self.tickets.items more.0 more.1 low) offered past among)
          (subst (λ (tickets : List ℕ). IsTried c.args.index.now tickets c.in-Found.ticket) more.1
          (c.in_ok-let_in-in-Found.ensures.tried low))
          c.in-Found.ensures.next.2);
    }

-- where looks are left, nobody comes after
none_after : (passes : ℕ → Bool) (last : Option ℕ) (looks left : ℕ) (answer : Next)
    → IsNext passes last looks left answer
    → (answer ≡ Nobody) ⊎ ((further : Option ℕ) × (answer ≡ Stopped further)) → 0 < left
    → (other : ℕ) → IsAfter last other → passes other ≡ false
none_after passes last looks left answer next (inl is) some = subst (IsNext passes last looks left) is next
none_after passes last looks left answer next (inr stopped) some =
    let there = subst (IsNext passes last looks left) stopped.1 next in
    absurd (omega (arith, there.0, some))

pub returns-in-Nobody : goal.returns-in-Nobody
returns-in-Nobody c =
    let waiting = c.args.index.now in
    let offer = c.args.offer.now in
    let before = c.loop-looks.invariant in
    let fewer = before.fewer in
    let left = c.next_demander.ensures.looks in
    let tickets = c.loop-looks.self.tickets.items in
    record {
      looks = omega arith;
      ok = before.grows;
      past = λ some low offered past among. record {
        offered = offer ∷ offered;
        past = passed_one waiting tickets offered offer c.loop-looks.last
            (before.past low offered past (among offer (inl refl)))
            (none_after (demands_at waiting offer) c.loop-looks.last c.loop-looks.looks c.next_demander.new.looks
            c.next_demander.result c.next_demander.ensures.next c.in-Nobody.is some);
        before_in = λ o at. inr at;
        own_in = λ o at. elim at [ inl same ↦ inl same | inr bad ↦ absurd bad ];
      };
    }
