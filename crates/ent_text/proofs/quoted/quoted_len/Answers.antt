use Rattle.std.proofs.Common.{◌≡◌, ◌∙◌, ◌++◌, ◌∷◌, ◌<◌, ◌+◌, get_or, [], List, ℕ, Ok, ap, sym, refl, arith, length}
use Rattle.std.proofs.Common.{take, length-take}
use Rattle.std.proofs.lemmas.Bool.Decides.{nat_tests}
use Rattle.std.proofs.lemmas.List.{length-append}
use Rattle.ent_text.proofs.Reading.{Body, left_length, on_doubled}
use Rattle.ent_text.proofs.Measured.{begins, closes, controls, opens, two_there}
use Rattle.ent_text.proofs.Verbatim.{control_there, run_stops, over_run}
use Rattle.ent_text.proofs.quoted.quoted_len.Goals as goal

pub loop-rest-init : goal.loop-rest-init
loop-rest-init c = record {
  place = omega arith;
  few = omega arith;
  whole = ([], refl, begins c.args.quote c.args.place c.args.bytes.now);
}

pub returns-then-is_empty : goal.returns-then-is_empty
returns-then-is_empty c =
    opens c.args.quote _ _ c.tail-rest.result.now _ (grind (arith, nat_tests))
    (over_run c.args.quote c.loop-rest.at c.verbatim_len-len.result c.loop-rest.invariant.whole.0 c.loop-rest.rest.now
    c.tail-rest.result.now _ c.verbatim_len-len.ensures.value c.tail-rest.ensures c.loop-rest.invariant.whole.2)

pub returns-then-rest-ne39 : goal.returns-then-rest-ne39
returns-then-rest-ne39 c =
    let some : 0 < length c.tail-rest.result.now = grind (arith, nat_tests) in
    controls c.args.quote _ _ c.tail-rest.result.now _ some c.if-rest-ne39.true
    (control_there _ (run_stops c.verbatim_len-len.result c.loop-rest.rest.now c.tail-rest.result.now
    c.verbatim_len-len.ensures.value c.tail-rest.ensures some) c.if-rest-ne39.true)
    (over_run c.args.quote c.loop-rest.at c.verbatim_len-len.result c.loop-rest.invariant.whole.0 c.loop-rest.rest.now
    c.tail-rest.result.now _ c.verbatim_len-len.ensures.value c.tail-rest.ensures c.loop-rest.invariant.whole.2)

pub returns-then-byte_at-ne39 : goal.returns-then-byte_at-ne39
returns-then-byte_at-ne39 c =
    let len = c.verbatim_len-len.result in
    let front = c.loop-rest.invariant.whole.0 ++ take len c.loop-rest.rest.now in
    let some : 0 < length c.tail-rest.result.now = grind (arith, nat_tests) in (
      front,
      closes c.args.quote _ front c.tail-rest.result.now _ some c.if-rest-ne39.false
          (λ e. c.if-byte_at-ne39.true (c.byte_at.ensures ∙ e))
          (over_run c.args.quote c.loop-rest.at len c.loop-rest.invariant.whole.0 c.loop-rest.rest.now
          c.tail-rest.result.now _ c.verbatim_len-len.ensures.value c.tail-rest.ensures
          c.loop-rest.invariant.whole.2)
          ∙ ap (λ (xs : List ℕ). let r : Body = Ok (front, xs) in r) (sym c.tail.ensures),
      omega (
        arith,
        length-append c.loop-rest.invariant.whole.0 (take len c.loop-rest.rest.now),
        length-take len
            c.loop-rest.rest.now,
        c.loop-rest.invariant.whole.1,
        c.verbatim_len-len.ensures.bound,
      ),
    )

pub loop-rest-preserved : goal.loop-rest-preserved
loop-rest-preserved c =
    let len = c.verbatim_len-len.result in
    let run = take len c.loop-rest.rest.now in
    let before = c.loop-rest.invariant.whole.0 in
    let also : get_or c.tail-rest.result.now 1 0 ≡ 39 = sym c.byte_at.ensures ∙ c.if-byte_at-ne39.false in
    let two = two_there c.tail-rest.result.now also in
    let over = left_length len c.loop-rest.rest.now c.tail-rest.result.now c.verbatim_len-len.ensures.bound
    c.tail-rest.ensures in
    let left = left_length 2 c.tail-rest.result.now c.tail-rest-in-loop-rest.result.now
    (omega arith) c.tail-rest-in-loop-rest.ensures in
    record {
      place = omega arith;
      few = omega arith;
      whole = (
        (before ++ run) ++ 39 ∷ [],
        omega (
          arith,
          length-append (before ++ run) (39 ∷ []),
          length-append before run,
          length-take len
              c.loop-rest.rest.now,
          c.loop-rest.invariant.whole.1,
          c.verbatim_len-len.ensures.bound,
        ),
        on_doubled c.args.quote (c.loop-rest.at + len) (before ++ run) ((before ++ run) ++ 39 ∷ [])
            c.tail-rest.result.now c.tail-rest-in-loop-rest.result.now _ two c.if-rest-ne39.false also refl
            c.tail-rest-in-loop-rest.ensures
            (over_run c.args.quote c.loop-rest.at len before c.loop-rest.rest.now c.tail-rest.result.now _
            c.verbatim_len-len.ensures.value c.tail-rest.ensures c.loop-rest.invariant.whole.2),
      );
    }
