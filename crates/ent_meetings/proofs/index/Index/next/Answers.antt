use Rattle.std.proofs.Common.{◌<◌, ◌^◌, arith, sym, ◌∙◌}
use Rattle.ent_meetings.specs.Next.{IsAfter}
use Rattle.ent_meetings.specs.Sides.{fits_at}
use Rattle.ent_meetings.proofs.Nexts.{nobody, none_before, none_up_to}
use Rattle.ent_meetings.proofs.Sought.{fitting_agrees, fitting_waits}
use Rattle.ent_meetings.proofs.index.Index.next.Goals as goal

pub returns-in_default-clause-next : goal.returns-in_default-clause-next
returns-in_default-clause-next c =
    let passes = fits_at c.args.side c.args.self.now c.args.sought.now in
    nobody passes c.args.after c.loop-looks.last c.loop-looks.invariant.none
    (λ other behind is.
    c.in_default.ensures other
    (fitting_waits c.args.side c.args.self.now c.args.sought.now (λ ticket. ticket < 2 ^ 64)
    c.postings-postings.ensures.tickets other is) behind)

pub returns-in_default-leap-clause-next : goal.returns-in_default-leap-clause-next
returns-in_default-leap-clause-next c =
    let passes = fits_at c.args.side c.args.self.now c.args.sought.now in
    nobody passes c.args.after c.loop-looks.last c.loop-looks.invariant.none
    (λ other behind is.
    c.in_default-leap.ensures other ((c.in-Some.ensures other).0 behind)
    (fitting_agrees c.args.side c.args.self.now c.postings-postings.result.now c.args.sought.now other
    c.postings-postings.ensures.posted is))

pub returns-then-fits-clause-next : goal.returns-then-fits-clause-next
returns-then-fits-clause-next c =
    let passes = fits_at c.args.side c.args.self.now c.args.sought.now in
    let ticket = c.in-Some-leap.ticket in (
      c.loop-looks.invariant.later ticket ((c.in-Some.ensures ticket).1 c.in-Some-leap.ensures.0),
      sym c.fits.ensures ∙ c.if-fits.true,
      none_before passes c.args.after c.loop-looks.last c.loop-looks.invariant.none c.in-Some.from ticket
          c.in-Some.ensures
          (λ other low high is.
          c.in-Some-leap.ensures.1 other low high
          (fitting_agrees c.args.side c.args.self.now c.postings-postings.result.now c.args.sought.now other
          c.postings-postings.ensures.posted is)),
    )

pub loop-looks-preserved : goal.loop-looks-preserved
loop-looks-preserved c =
    let passes = fits_at c.args.side c.args.self.now c.args.sought.now in
    let ticket = c.in-Some-leap.ticket in
    let behind : IsAfter c.loop-looks.last ticket = (c.in-Some.ensures ticket).1 c.in-Some-leap.ensures.0 in
    record {
      fewer = let fewer = c.loop-looks.invariant.fewer in omega arith;
      none = none_up_to passes c.args.after c.loop-looks.last c.loop-looks.invariant.none c.in-Some.from ticket
          c.in-Some.ensures
          (λ other low high is.
          c.in-Some-leap.ensures.1 other low high
          (fitting_agrees c.args.side c.args.self.now c.postings-postings.result.now c.args.sought.now other
          c.postings-postings.ensures.posted is)) (sym c.fits.ensures ∙ c.if-fits.false);
      later = λ other past. c.loop-looks.invariant.later other
          ((c.in-Some.ensures other).1 (let first = c.in-Some-leap.ensures.0 in omega arith));
      further = λ fewer. c.loop-looks.invariant.later ticket behind;
    }
