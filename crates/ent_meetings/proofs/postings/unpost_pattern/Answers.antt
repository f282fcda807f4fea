use Rattle.std.proofs.Common.{◌≡◌, false, length, arith}
use Rattle.std.specs.BTreeSet.{Updates}
use Rattle.ent_meetings.specs.Postings.{entry_cmp}
use Rattle.ent_meetings.specs.Keys.{key_at}
use Rattle.ent_meetings.proofs.EntryOrder.{at}
use Rattle.ent_meetings.proofs.Posted.{unposts_last, unposts_place}
use Rattle.ent_meetings.proofs.postings.unpost_pattern.Goals as goal

pub loop-place-preserved : goal.loop-place-preserved
loop-place-preserved c =
    let update : Updates entry_cmp c.loop-place.postings c.remove.new.self
    (at (key_at c.args.pattern.now c.loop-place.place) c.args.ticket) false =
    rw c.key_at-key.ensures at c.remove.ensures.updates in
    unposts_place c.args.pattern.now c.args.ticket c.args.postings.now c.loop-place.postings c.remove.new.self
    c.loop-place.place c.loop-place.invariant update

pub returns-2 : goal.returns-2
returns-2 c =
    let last : c.loop-place.place ≡ length c.args.pattern.now.terms = omega arith in
    let update : Updates entry_cmp c.loop-place.postings c.remove.new.self
    (at (key_at c.args.pattern.now c.loop-place.place) c.args.ticket) false =
    rw c.key_at-key.ensures at c.remove.ensures.updates in
    unposts_last c.args.pattern.now c.args.ticket c.args.postings.now c.loop-place.postings c.remove.new.self
    c.loop-place.place last c.loop-place.invariant update
