use Rattle.std.proofs.Common.{ℕ, List, arith, length, ap}
use Rattle.ent_run.specs.InRuns.{is_labelled, is_otherwise_labelled}
use Rattle.ent_run.proofs.TakenOut.{Taking, rest_distinct, rest_there, taken_listed, taken_others}
use Rattle.ent_run.proofs.TakenOut.{taken_whole}
use Rattle.ent_run.proofs.moves.+take_group.Goals as goal
use Rattle.ent_run.proofs.moves.+take_group.Goals.{After-take_one}

abbrev taking : (t : _) → After-take_one t → Taking
taking t c = record {
  live = c.args.live.now;
  mid = c.take_one.new.live;
  keys = c.args.keys.now;
  first = c.in-Some.first.now;
  rest = c.in-Some.rest.now;
  whole = c.in-Some.ensures.cases.0;
  there = c.requires.there;
  distinct = c.requires.distinct;
  passes = is_otherwise_labelled c.args.groups.now c.args.group;
  own = c.take_one.ensures.own;
  others = c.take_one.ensures.others;
}

pub take_group-requires : goal.take_group-requires
take_group-requires t c =
    let k = taking t (goal.at.take_group-requires t c).After-take_one in (
      omega (arith, ap (λ (keys : List ℕ). length keys) c.in-Some.ensures.cases.0),
      (
        rest_there k,
        (
          rest_distinct k,
          omega (
            arith,
            ap (λ (keys : List ℕ). length keys) c.in-Some.ensures.cases.0,
            c.requires.room,
            c.take_one.ensures.len,
            c.take_one.ensures.capacity,
          ),
        ),
      ),
    )

pub returns-clause-taken : goal.returns-clause-taken
returns-clause-taken t c =
    taken_whole (taking t (goal.at.returns-clause-taken t c).After-take_one)
    (is_labelled c.args.groups.now c.args.group) c.args.taken.now.items
    c.take_one.new.taken.items c.take_group.new.taken.items c.take_one.ensures.taken c.take_group.ensures.taken

pub returns-clause-listed : goal.returns-clause-listed
returns-clause-listed t c =
    taken_listed (taking t (goal.at.returns-clause-listed t c).After-take_one) c.take_group.new.live
    c.take_group.ensures.listed c.take_group.ensures.others c.take_group.ensures.fewer

pub returns-clause-others : goal.returns-clause-others
returns-clause-others t c =
    taken_others (taking t (goal.at.returns-clause-others t c).After-take_one) c.take_group.new.live
    c.take_group.ensures.listed c.take_group.ensures.others c.take_group.ensures.fewer
