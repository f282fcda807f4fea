use Rattle.std.proofs.Common.{◌≡◌, ℕ, ◌+◌, true, false, max, length, take, inl, inr, ap, ◌∙◌, arith, rules, tests}
use Rattle.std.specs.Str.Lines.{lines}
use Rattle.std.proofs.lemmas.List.{length_push}
use Rattle.std.proofs.lemmas.Iterator.Consumers.{YieldsList-turn, YieldsList-end}
use Rattle.std.proofs.lemmas.Iterator.Splits.{YieldsList-from_lines}
use Rattle.ent_picture.specs.Trace.{is_notice, lines_of, told}
use Rattle.ent_picture.proofs.Lines.{all_read, all_told, is_absent, is_nothing, is_there, passed, read_on, strange}
use Rattle.ent_picture.proofs.reading.read_trace.Goals as goal
use Rattle.ent_picture.proofs.reading.read_trace.Goals.{then-is_some-via-then-is_some}
use Rattle.ent_picture.proofs.reading.read_trace.Goals.{then-is_some-via-else-is_some+then-is_empty}

pub loop-words-preserved-in-Ok : goal.loop-words-preserved-in-Ok
loop-words-preserved-in-Ok c =
    let l = c.loop-words in
    let all = lines c.args.text.now in
    let at = YieldsList-turn (YieldsList-from_lines c.args.text.now cc) l.yielded _ l.yielded_by _ _ c.in-Some.words
    c.in-Some.is c.next.ensures.steps in
    let more = length_push l.yielded c.in-Some.words in
    let other : is_notice c.in-Some.words.now ≡ false = search (rules, tests) in (
      omega (arith, l.invariant.0, more),
      ap (λ (n : ℕ). told (take n all)) more
          ∙ read_on all (length l.yielded) c.in-Some.words.now (lines_of l.reading.exchanges.items l.reading.event)
          (lines_of c.take.new.self.exchanges.items c.take.new.self.event) at l.invariant.1 c.in-Ok.ensures.ok other,
    )

pub returns-in-Err-Fault-clause-fault : goal.returns-in-Err-Fault-clause-fault
returns-in-Err-Fault-clause-fault c =
    let l = c.loop-words in
    let at = YieldsList-turn (YieldsList-from_lines c.args.text.now cc) l.yielded _ l.yielded_by _ _ c.in-Some.words
    c.in-Some.is c.next.ensures.steps in
    let other : is_notice c.in-Some.words.now ≡ false = search (rules, tests) in
    inl (strange (lines c.args.text.now) (length l.yielded) (l.line + 1) c.in-Some.words.now l.reading.exchanges.items
    l.reading.event at (omega (arith, l.invariant.0)) l.invariant.1 other)

pub loop-words-preserved : goal.loop-words-preserved
loop-words-preserved c =
    let l = c.loop-words in
    let all = lines c.args.text.now in
    let at = YieldsList-turn (YieldsList-from_lines c.args.text.now cc) l.yielded _ l.yielded_by _ _ c.in-Some.words
    c.in-Some.is c.next.ensures.steps in
    let more = length_push l.yielded c.in-Some.words in
    let notice : is_notice c.in-Some.words.now ≡ true = search (rules, tests) in (
      omega (arith, l.invariant.0, more),
      ap (λ (n : ℕ). told (take n all)) more
          ∙ passed all (length l.yielded) c.in-Some.words.now (lines_of l.reading.exchanges.items l.reading.event) at
          l.invariant.1 notice,
    )

pub returns-then-is_some-clause-fault : goal.returns-then-is_some-clause-fault
returns-then-is_some-clause-fault c =
    let l = c.loop-words in
    let all = lines c.args.text.now in
    let end = YieldsList-end (YieldsList-from_lines c.args.text.now cc) l.yielded _ l.yielded_by _ _ c.in-None.is
    c.next.ensures.steps in
    let read = all_read all (length l.yielded) (lines_of l.reading.exchanges.items l.reading.event) end.1
    l.invariant.1 in
    let last : c.max.result ≡ max (length all) 1 = c.max.ensures ∙ ap (λ (n : ℕ). max n 1) (l.invariant.0 ∙ end.1) in
    inr (
      l.reading.exchanges.items,
      l.reading.event,
      last,
      read,
      elim c.then-is_some.branch [
        | then-is_some-via-then-is_some w ↦ inl (is_there l.reading.event (search (rules, tests)))
        | then-is_some-via-else-is_some+then-is_empty w ↦ inr
            (is_nothing l.reading.exchanges.items _ l.reading.exchanges.ok.0 (search (rules, tests)))
      ],
    )

pub returns-clause-ok : goal.returns-clause-ok
returns-clause-ok c =
    let l = c.loop-words in
    let all = lines c.args.text.now in
    let end = YieldsList-end (YieldsList-from_lines c.args.text.now cc) l.yielded _ l.yielded_by _ _ c.in-None.is
    c.next.ensures.steps in
    let read = all_read all (length l.yielded) (lines_of l.reading.exchanges.items l.reading.event) end.1
    l.invariant.1 in
    all_told l.reading.exchanges.items l.reading.event (told all) (is_absent l.reading.event (search (rules, tests)))
    read
