use Rattle.std.proofs.Common.{◌+◌, ap}
use Rattle.ent_book.specs.Tables.{book_seen}
use Rattle.ent_protocol.specs.State.{State}
use Rattle.ent_engine.proofs.Ran.{led_on, run_out_from}
use Rattle.ent_engine.proofs.runs.run_out.Goals as goal

pub loop-init : goal.loop-init
loop-init g c =
    let same = c.new-counted.ensures.core in
    record {
      led = (
        0,
        record {
          leads = same;
          opening = ap (λ (s : State). s.opening) same;
          submitted = ap (λ (s : State). s.submitted) same;
        },
      );
    }

pub loop-preserved : goal.loop-preserved
loop-preserved g c =
    let led = c.loop.invariant.led in
    let more = c.in-Err.ensures.handed_back in
    record {
      led = (
        led.0 + more.0,
        led_on c.events_lead_on.ensures.joined led.0 more.0 c.args.core c.loop.counted.core
            c.in-Err.field-0.value.core led.1 more.1,
      );
    }

pub returns-in-Ok-clause-book : goal.returns-in-Ok-clause-book
returns-in-Ok-clause-book g c =
    let led = c.loop.invariant.led in
    run_out_from c.events_lead_on.ensures.joined led.0 c.args.core c.loop.counted.core (book_seen c.in-Ok.made.book)
    led.1 c.in-Ok.ensures.book

pub returns-in-Ok-run_all_watched-clause-book : goal.returns-in-Ok-run_all_watched-clause-book
returns-in-Ok-run_all_watched-clause-book g c =
    let led = c.loop.invariant.led in
    run_out_from c.events_lead_on.ensures.joined led.0 c.args.core c.loop.counted.core
    (book_seen c.in-Ok-run_all_watched.made.book) led.1 c.in-Ok-run_all_watched.ensures.book
