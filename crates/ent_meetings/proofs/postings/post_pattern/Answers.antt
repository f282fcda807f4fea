use Rattle.std.proofs.Common.{◌≡◌, ◌≤◌, true, length, arith, rules}
use Rattle.std.specs.BTreeSet.{Updates}
use Rattle.ent_meetings.specs.Postings.{entry_cmp}
use Rattle.ent_meetings.specs.Keys.{key_at}
use Rattle.ent_meetings.proofs.EntryOrder.{at}
use Rattle.ent_meetings.proofs.Posted.{posts_last, posts_place, posts_unchanged}
use Rattle.ent_meetings.proofs.postings.post_pattern.Goals as goal

pub returns-in_err-insert-clause-err : goal.returns-in_err-insert-clause-err
returns-in_err-insert-clause-err c =
    let within : c.loop-place.place ≤ length c.args.pattern.now.terms = omega arith in
    let some = posts_unchanged c.args.pattern.now c.args.ticket c.args.postings.now c.loop-place.postings
    c.insert.new.self
    c.loop-place.place within c.loop-place.invariant c.in_err-insert.ensures.err in
    search rules

pub loop-place-preserved : goal.loop-place-preserved
loop-place-preserved c =
    let update : Updates entry_cmp c.loop-place.postings c.insert.new.self
    (at (key_at c.args.pattern.now c.loop-place.place) c.args.ticket) true =
    rw c.key_at-key.ensures at c.in_ok-insert.ensures.updates in
    posts_place c.args.pattern.now c.args.ticket c.args.postings.now c.loop-place.postings c.insert.new.self
    c.loop-place.place c.loop-place.invariant update

pub returns-in_ok-insert-clause-ok : goal.returns-in_ok-insert-clause-ok
returns-in_ok-insert-clause-ok c =
    let last : c.loop-place.place ≡ length c.args.pattern.now.terms = omega arith in
    let update : Updates entry_cmp c.loop-place.postings c.insert.new.self
    (at (key_at c.args.pattern.now c.loop-place.place) c.args.ticket) true =
    rw c.key_at-key.ensures at c.in_ok-insert.ensures.updates in
    posts_last c.args.pattern.now c.args.ticket c.args.postings.now c.loop-place.postings c.insert.new.self
    c.loop-place.place last c.loop-place.invariant update
