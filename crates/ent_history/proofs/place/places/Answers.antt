use Rattle.std.proofs.Common.{◌∙◌, sym, arith}
use Rattle.ent_history.specs.JointLines.{place_at, places_at}
use Rattle.ent_history.proofs.JointLines.{place_shorter}
use Rattle.ent_history.proofs.Listing.{left_first, left_end, left_fault, left_one}
use Rattle.ent_history.proofs.place.places.Goals as goal

pub loop-rest-init : goal.loop-rest-init
unfolding places_at
loop-rest-init c = left_first 32 place_at c.new-places.result c.args.bytes.now c.new-places.ensures

pub loop-rest-smaller : goal.loop-rest-smaller
loop-rest-smaller c = place_shorter c.loop-rest.rest.now c.in-Ok.next.now c.in-Ok.place c.in-Ok.ensures

pub loop-rest-preserved : goal.loop-rest-preserved
loop-rest-preserved c =
    left_one 32 place_at c.loop-rest.places _ c.loop-rest.rest.now c.in-Ok.next.now c.in-Ok.place
    (places_at c.args.bytes.now) (sym c.first_byte.ensures ∙ c.loop-rest-test.true) c.in-Ok.ensures
    (place_shorter c.loop-rest.rest.now c.in-Ok.next.now c.in-Ok.place c.in-Ok.ensures) c.in_ok-push-in-Ok.ensures.ok
    c.loop-rest.invariant

pub returns-in-Err : goal.returns-in-Err
returns-in-Err c =
    left_fault 32 place_at c.in-Err.refusal c.loop-rest.places c.loop-rest.rest.now (places_at c.args.bytes.now)
    (omega arith) (sym c.first_byte.ensures ∙ c.loop-rest-test.true) c.in-Err.ensures c.loop-rest.invariant

pub returns : goal.returns
returns c =
    left_end 32 place_at c.loop-rest.places c.loop-rest.rest.now (places_at c.args.bytes.now)
    (λ e. c.loop-rest-test.false (c.first_byte.ensures ∙ e)) c.loop-rest.invariant
