use Rattle.std.proofs.Common.{◌≡◌, ℕ, Option, length, subst, sym, ◌∙◌, arith, vec_len}
use Rattle.std.specs.Global.{Vec}
use Rattle.std.specs.Option.{option_map}
use Rattle.ent_lists.specs.Elements.{same_number}
use Rattle.ent_meetings.specs.SearchSteps.{IsStep}
use Rattle.ent_meetings.proofs.Resting.{further_still, rested, taken_from}
use Rattle.ent_meetings.proofs.search.Search.next.Goals as goal

pub returns-in-Some-clause-ok : goal.returns-in-Some-clause-ok
returns-in-Some-clause-ok c =
    let step = subst (λ (found : Option (Vec ℕ)). IsStep c.args.index.now c.loop-looks.self c.step.new.self
    (option_map (λ (meeting : Vec ℕ). meeting.items) found)) c.in-Some.is c.in_ok-meeting.ensures.ok in
    taken_from c.args.index.now c.args.self.now c.loop-looks.self c.loop-looks.invariant.root
    c.loop-looks.invariant.found
    c.step.new.self c.in-Some.meeting.items step.2

pub loop-looks-preserved-in_default : goal.loop-looks-preserved-in_default
loop-looks-preserved-in_default c =
    let moves = subst (λ (found : Option (Vec ℕ)). IsStep c.args.index.now c.loop-looks.self c.step.new.self
    (option_map (λ (meeting : Vec ℕ). meeting.items) found)) c.in_default.is c.in_ok-meeting.ensures.ok in
    let before = c.loop-looks.invariant in
    let looked = c.in_ok-meeting.ensures.looked in
    let fewer = before.fewer in
    record {
      stand = moves.stand;
      root = moves.root ∙ before.root;
      found = moves.found ∙ before.found;
      fewer = omega arith;
      further = λ less. further_still c.args.self.now c.loop-looks.self c.step.new.self c.args.looks.now
          c.loop-looks.looks
          before.fewer before.further before.same moves.further;
      same = λ same. absurd (omega arith);
    }

pub loop-looks-preserved : goal.loop-looks-preserved
loop-looks-preserved c =
    let before = c.loop-looks.invariant in
    let moves = c.in_ok-begin_again.ensures.ok c.args.index.now before.stand in
    let fewer = before.fewer in
    let some = c.loop-looks-test.true in
    record {
      stand = moves.stand;
      root = moves.root ∙ before.root;
      found = moves.found ∙ before.found;
      fewer = omega arith;
      further = λ less. further_still c.args.self.now c.loop-looks.self c.begin_again.new.self c.args.looks.now
          c.loop-looks.looks before.fewer before.further before.same moves.further;
      same = λ same. absurd (omega arith);
    }

pub returns-else-self-clause-ok : goal.returns-else-self-clause-ok
returns-else-self-clause-ok c =
    let before = c.loop-looks.invariant in
    let none : vec_len c.loop-looks.self.chosen ≡ 0 =
    same_number (vec_len c.loop-looks.self.chosen) 0 (sym c.if-not-is_empty.ensures) in
    let over : length c.loop-looks.self.chosen.items ≡ 0 = omega (arith, c.loop-looks.self.chosen.ok.0) in
    rested c.args.index.now c.args.self.now c.loop-looks.self before.root before.found c.args.looks.now
    c.loop-looks.looks
    c.rest.result (c.rest.ensures c.args.index.now before.stand over c.if-self.false)
