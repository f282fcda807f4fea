use Rattle.std.proofs.Common.{◌≡◌, List, [], Some, sym, ap, ◌∙◌, arith}
use Rattle.std.specs.List.{slice_get}
use Rattle.std.proofs.lemmas.Option.{get_or_from_slice_get, slice_get_within}
use Rattle.ent_lists.proofs.Lists.{got_none}
use Rattle.ent_meetings.specs.declared.party.Party.{Party}
use Rattle.ent_meetings.specs.Waiting.{named}
use Rattle.ent_meetings.proofs.Growing.{grows_both, grows_not, shorter}
use Rattle.ent_meetings.proofs.Settled.{all_past, all_past_most, party_more, past_none}
use Rattle.ent_meetings.proofs.widening.Gathering.widen.Goals as goal

pub loop-place-init : goal.loop-place-init
loop-place-init c = record {
  grows = grows_not c.args.index.now c.args.self.now c.requires;
  fewer = omega arith;
  past = λ some low. record {
    offered = [];
    past = past_none c.args.index.now c.args.self.now.tickets.items;
    before_in = λ offer at. at;
    own_in = λ offer at. absurd at;
  };
}

pub loop-place-preserved : goal.loop-place-preserved
loop-place-preserved c =
    let waiting = c.args.index.now in
    let before = c.loop-place.invariant in
    let fewer = before.fewer in
    let left = c.let_in_all.ensures.looks in
    let grows = c.in_ok-let_in_all.ensures.ok in
    let mid = c.loop-place.self.tickets.items in
    let new = c.let_in_all.new.self.tickets.items in
    let party = c.in-Some.party.now in
    let got : slice_get (named waiting mid) c.loop-place.place ≡ Some party =
    ap (λ (parties : List Party). slice_get parties c.loop-place.place) (sym before.grows.parties)
    ∙ sym c.in-Some.ensures in
    record {
      grows = grows_both waiting c.args.self.now c.loop-place.self c.let_in_all.new.self before.grows grows;
      fewer = omega arith;
      past = λ some low. party_more waiting mid new grows.longer.0 c.loop-place.place party grows.longer.1
          (slice_get_within (named waiting mid) c.loop-place.place party got)
          (sym (get_or_from_slice_get (named waiting mid) c.loop-place.place party party got))
          (before.past (omega arith) (shorter mid new grows.longer.0 grows.longer.1 low))
          (c.in_ok-let_in_all.ensures.past some low);
    }

pub returns-in_default-clause-whole : goal.returns-in_default-clause-whole
returns-in_default-clause-whole c some low =
    let waiting = c.args.index.now in
    let before = c.loop-place.invariant in
    let mid = c.loop-place.self.tickets.items in
    all_past waiting mid c.loop-place.place
    (got_none (named waiting mid) c.loop-place.place
    (ap (λ (parties : List Party). slice_get parties c.loop-place.place) (sym before.grows.parties)
    ∙ sym c.in_default.ensures))
    (before.past some low)

pub returns-clause-whole : goal.returns-clause-whole
returns-clause-whole c some low =
    let over = c.loop-place-test.false in
    all_past_most c.args.index.now c.loop-place.self.tickets.items c.loop-place.place (omega (arith, low, over))
    (c.loop-place.invariant.past some low)
