use Rattle.std.proofs.Common.{◌≡◌, ◌<◌, ap, false, subst, sym, rules}
use Rattle.ent_book.specs.Tables.{book_seen}
use Rattle.ent_core.specs.Reply.{reply_seen}
use Rattle.ent_protocol_laws.specs.Tries.{tries_left}
use Rattle.ent_protocol.specs.Event.{Recall}
use Rattle.ent_protocol.specs.Reached.{CanClose, IsFinished}
use Rattle.ent_protocol.specs.State.{State}
use Rattle.ent_core.specs.Passed.{resolved_forms}
use Rattle.ent_sched.specs.Bounds.{events_of_run}
use Rattle.ent_sched.specs.Onward.{TicksOn}
use Rattle.ent_sched.specs.Tally.{Tally}
use Rattle.ent_sched.specs.Watching.{IsWatched}
use Rattle.ent_sched.proofs.Adding.{unmoved}
use Rattle.ent_sched.proofs.Running.{HasRun, finished_so, has_run_into, has_run_more, has_run_out, is_run_out}
use Rattle.ent_sched.proofs.Running.{just_recalled}
use Rattle.ent_sched.proofs.Watched.{both_told, one_told}
use Rattle.ent_sched.proofs.all_runs.run_all_watched.Goals as goal

pub runs-init : goal.runs-init
runs-init g c =
    record {
      none_lent = ap (λ (x : State). x.lent) c.recall_watched.ensures.made.step.1;
      ran = just_recalled resolved_forms (reply_seen c.recall_watched.result) c.args.counted c.recall_watched.new.self
          c.recall_watched.ensures.made;
      watched = one_told resolved_forms g.W.Watcher.hears Recall (reply_seen c.recall_watched.result) c.args.counted
          c.recall_watched.new.self c.args.watcher.now c.recall_watched.new.watcher c.recall_watched.ensures.made
          c.recall_watched.ensures.told;
    }

pub returns-in-Ok-clause-runs : goal.returns-in-Ok-clause-runs
returns-in-Ok-clause-runs g c =
    let last = c.runs.counted in
    let finished : IsFinished resolved_forms last.core = record {
      reached = c.is_reached.ensures.reached;
      no_run = c.in-Ok.ensures.done.0;
      none_dormant = c.in-Ok.ensures.done.1;
    } in
    has_run_out resolved_forms c.args.counted last (book_seen c.in-Ok.made.book) c.in-Ok.made.ticks
    c.runs.invariant.ran finished c.in-Ok.ensures.book c.in-Ok.ensures.ticks

pub returns-in-Ok-clause-book : goal.returns-in-Ok-clause-book
returns-in-Ok-clause-book g c =
    let last = c.runs.counted in
    let finished : IsFinished resolved_forms last.core = record {
      reached = c.is_reached.ensures.reached;
      no_run = c.in-Ok.ensures.done.0;
      none_dormant = c.in-Ok.ensures.done.1;
    } in
    is_run_out resolved_forms c.args.counted last (book_seen c.in-Ok.made.book) c.runs.invariant.ran finished
    c.in-Ok.ensures.book

pub returns-in-Ok-clause-finished : goal.returns-in-Ok-clause-finished
returns-in-Ok-clause-finished g c =
    finished_so resolved_forms c.args.counted c.runs.counted (book_seen c.in-Ok.made.book) c.runs.invariant.ran
    c.in-Ok.ensures.finished

pub returns-in-Memory-clause-handed_back : goal.returns-in-Memory-clause-handed_back
returns-in-Memory-clause-handed_back g c =
    let middle = c.runs.counted in
    let none : TicksOn resolved_forms (events_of_run middle.core) middle c.in-Err.refused.counted =
    unmoved resolved_forms (events_of_run middle.core) middle c.in-Err.refused.counted c.is_reached.ensures.bound
    c.in-Err.ensures.returned in
    has_run_into resolved_forms (c.events_lead_on.ensures.joined resolved_forms) c.args.counted middle
    c.in-Err.refused.counted c.runs.invariant.ran none

pub returns-then-is_err-clause-handed_back : goal.returns-then-is_err-clause-handed_back
returns-then-is_err-clause-handed_back g c =
    let middle = c.in-Err.refused.counted in
    let before = subst (HasRun resolved_forms c.args.counted) (sym c.in-Err.ensures.returned) c.runs.invariant.ran in
    has_run_into resolved_forms (c.events_lead_on.ensures.joined resolved_forms) c.args.counted middle
    c.run_watched.new.counted before c.run_watched.ensures.events

pub runs-preserved : goal.runs-preserved
runs-preserved g c =
    let middle = c.in-Err.refused.counted in
    let before = subst (HasRun resolved_forms c.args.counted) (sym c.in-Err.ensures.returned) c.runs.invariant.ran in
    let so_far = subst (λ (t : Tally).
    IsWatched resolved_forms g.W.Watcher.hears c.args.counted t c.args.watcher.now c.runs.watcher)
    (sym c.in-Err.ensures.returned) c.runs.invariant.watched in
    let undone : ¬ CanClose middle.core = search rules in
    let ended : c.run_watched.new.counted.core.running ≡ false = search rules in
    record {
      none_lent = search rules;
      ran = has_run_more resolved_forms (c.events_lead_on.ensures.joined resolved_forms) c.args.counted middle
          c.run_watched.new.counted before undone c.run_watched.ensures.events ended;
      watched = both_told resolved_forms g.W.Watcher.hears c.args.counted middle c.run_watched.new.counted
          c.args.watcher.now c.runs.watcher c.run_watched.new.watcher so_far c.run_watched.ensures.watched.0;
    }

pub returns-in-Ok-clause-watched : goal.returns-in-Ok-clause-watched
returns-in-Ok-clause-watched g c =
    (c.runs.counted, c.runs.invariant.watched, c.in-Ok.ensures.book, c.in-Ok.ensures.ticks)

pub returns-in-Memory-clause-watched_so_far : goal.returns-in-Memory-clause-watched_so_far
returns-in-Memory-clause-watched_so_far g c =
    subst (λ (t : Tally). IsWatched resolved_forms g.W.Watcher.hears c.args.counted t c.args.watcher.now c.runs.watcher)
    (sym c.in-Err.ensures.returned) c.runs.invariant.watched

pub returns-then-is_err-clause-watched_so_far : goal.returns-then-is_err-clause-watched_so_far
returns-then-is_err-clause-watched_so_far g c =
    let before = subst (λ (t : Tally).
    IsWatched resolved_forms g.W.Watcher.hears c.args.counted t c.args.watcher.now c.runs.watcher)
    (sym c.in-Err.ensures.returned) c.runs.invariant.watched in
    both_told resolved_forms g.W.Watcher.hears c.args.counted c.in-Err.refused.counted c.run_watched.new.counted
    c.args.watcher.now c.runs.watcher c.run_watched.new.watcher before c.run_watched.ensures.watched.0

pub runs-smaller : goal.runs-smaller
runs-smaller g c =
    let middle = c.in-Err.refused.counted in
    let undone : ¬ CanClose middle.core = search rules in
    let fewer : tries_left c.run_watched.new.counted.core < tries_left middle.core = search rules in
    subst (λ (t : Tally). tries_left c.run_watched.new.counted.core < tries_left t.core) c.in-Err.ensures.returned fewer
