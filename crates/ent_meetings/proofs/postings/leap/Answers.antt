use Rattle.std.proofs.Common.{None, IsSome, arith, rules, sym, subst}
use Rattle.std.specs.Prelude.{slice_index_or}
use Rattle.ent_meetings.proofs.Agreeing.{NoneAgrees, behind, none_before, none_from}
use Rattle.ent_meetings.proofs.postings.leap.Goals as goal
use Rattle.ent_meetings.proofs.postings.leap.Goals.{then-is_some+in_ok-first, else-is_some}

pub returns-in_err-first : goal.returns-in_err-first
returns-in_err-first c =
    let place = c.loop-place.place in
    let known : IsSome (slice_index_or c.args.pattern.now.terms place None) = search rules in
    let none = none_from c.args.postings.now c.args.pattern.now place (λ ticket agrees. agrees.at place known)
    c.args.from c.loop-place.first c.loop-place.invariant.none c.in_err-first.ensures in
    rw c.from_residual.ensures none

pub loop-place-preserved : goal.loop-place-preserved
loop-place-preserved c =
    let place = c.loop-place.place in
    elim c.if-is_some.branch [
      | then-is_some+in_ok-first w ↦
          let known : IsSome (slice_index_or c.args.pattern.now.terms place None) = search rules in
          let later = w.in_ok-first.ensures.0 in
          let before = c.loop-place.invariant.from in
          record {
            from = omega arith;
            none =
                subst (NoneAgrees c.args.postings.now c.args.pattern.now c.args.from) (sym w.first-is)
                (none_before c.args.postings.now c.args.pattern.now place (λ ticket agrees. agrees.at place known)
                c.args.from c.loop-place.first c.loop-place.invariant.none w.in_ok-first.first w.in_ok-first.ensures.1);
          }
      | else-is_some w ↦ rw w.first-is c.loop-place.invariant
    ]

pub returns-else-is_known : goal.returns-else-is_known
returns-else-is_known c =
    let found = rw c.len-length.ensures at c.first_agreeing-else-is_known.ensures in
    behind c.args.postings.now c.args.pattern.now c.args.from c.first_agreeing-else-is_known.result found
