use Rattle.std.proofs.Common.{◌<◌, ◌∙◌, arith, length, sym}
use Rattle.ent_text.proofs.Reading.{left_length}
use Rattle.ent_text.proofs.Shorter.{piece_shorter}
use Rattle.ent_text.specs.View.{kind_if_seen}
use Rattle.ent_text.proofs.ReadOn.{made_there, empty_there}
use Rattle.ent_text.proofs.UpTo.{left_seen, left_unseen, left_blank, left_fault, left_nothing}
use Rattle.ent_text.proofs.left.tokens_from.Goals as goal

pub tokens_from_word-requires-clause-room : goal.tokens_from_word-requires-clause-room
tokens_from_word-requires-clause-room c = omega arith

pub returns-then-is_ascii_alphabetic : goal.returns-then-is_ascii_alphabetic
returns-then-is_ascii_alphabetic c = c.tokens_from_word.ensures ∙ c.loop-rest.invariant.left

pub invariant_of-result : goal.invariant_of-result
invariant_of-result c =
    let rest = c.loop-rest.rest.now in
    let behind = c.in-Ok.behind.now in
    let shorter : length behind < length rest =
    piece_shorter c.loop-rest.start rest (kind_if_seen c.in-Ok.front, behind) c.loop-rest-test.true c.in-Ok.ensures.0 in
    record {
      room = omega (arith, shorter);
      made = made_there c.in-Ok.front c.in-Some.view c.in-Some.is c.in-Ok.ensures.1;
      at_end = tt;
    }

pub returns-in-Ok : goal.returns-in-Ok
returns-in-Ok c =
    sym (left_seen c.loop-rest.start c.loop-rest.rest.now c.in-Ok.behind.now c.in-Ok.front c.in-Some.view
    c.loop-rest-test.true c.in-Ok.ensures.0 c.in-Some.is) ∙ c.loop-rest.invariant.left

pub overflow_sub-end : goal.overflow_sub-end
overflow_sub-end c =
    let shorter = piece_shorter c.loop-rest.start c.loop-rest.rest.now (kind_if_seen c.in-Ok.front, c.in-Ok.behind.now)
    c.loop-rest-test.true c.in-Ok.ensures.0 in
    omega (arith, shorter)

pub loop-rest-smaller : goal.loop-rest-smaller
loop-rest-smaller c =
    piece_shorter c.loop-rest.start c.loop-rest.rest.now (kind_if_seen c.in-Ok.front, c.in-Ok.behind.now)
    c.loop-rest-test.true c.in-Ok.ensures.0

pub loop-rest-preserved : goal.loop-rest-preserved
loop-rest-preserved c =
    let rest = c.loop-rest.rest.now in
    let behind = c.in-Ok.behind.now in
    let shorter : length behind < length rest =
    piece_shorter c.loop-rest.start rest (kind_if_seen c.in-Ok.front, behind) c.loop-rest-test.true c.in-Ok.ensures.0 in
    record {
      place = omega (arith, shorter);
      left = sym (left_unseen c.loop-rest.start rest behind c.in-Ok.front c.loop-rest-test.true c.in-Ok.ensures.0
          c.in_default.is) ∙ c.loop-rest.invariant.left;
    }

pub loop-rest-preserved-then-is_blank : goal.loop-rest-preserved-then-is_blank
loop-rest-preserved-then-is_blank c = record {
  place = omega (arith, left_length 1 c.loop-rest.rest.now c.tail-rest.result.now (omega arith) c.tail-rest.ensures);
  left = sym (left_blank c.loop-rest.start c.loop-rest.rest.now c.tail-rest.result.now c.loop-rest-test.true
      (sym c.is_blank.ensures ∙ c.if-is_blank.true) c.tail-rest.ensures) ∙ c.loop-rest.invariant.left;
}

pub returns-in-Err : goal.returns-in-Err
returns-in-Err c =
    c.ended_by.ensures ∙ sym (left_fault c.loop-rest.start c.loop-rest.rest.now c.in-Err.fault c.loop-rest-test.true
    c.in-Err.ensures) ∙ c.loop-rest.invariant.left

pub invariant_of-result-2 : goal.invariant_of-result-2
invariant_of-result-2 c = record {
  room = omega arith;
  made = tt;
  at_end = empty_there c.loop-rest.rest.now (omega arith);
}

pub returns : goal.returns
returns c = sym (left_nothing c.loop-rest.start c.loop-rest.rest.now (omega arith)) ∙ c.loop-rest.invariant.left
