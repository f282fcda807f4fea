use Rattle.std.proofs.Common.{◌≡◌, List, [], ◌∷◌, ◌++◌, refl, ap, sym, subst, ◌∙◌, append-nil}
use Rattle.std.proofs.lemmas.Fn.{says_at}
use Rattle.ent_value.specs.declared.value.Value.{Value}
use Rattle.ent_rel.specs.Part.{IsPart}
use Rattle.ent_rel.proofs.Lists.{there}
use Rattle.ent_rel.proofs.Parts.{part_nil}
use Rattle.ent_rel.proofs.Walks.{walk_kept, walk_left, walk_part_kept, walk_part_left, walk_next, walk_starts}
use Rattle.ent_rel.proofs.matches.matches.Goals as goal

pub loop-row-init : goal.loop-row-init
loop-row-init g c =
    record {
      passing = λ passes computes. rw c.new-found.ensures.items refl;
      part = λ rest h. rw c.new-found.ensures.items h;
      there = walk_starts c.args.cursor;
    }

pub loop-row-preserved-in_ok-push : goal.loop-row-preserved-in_ok-push
loop-row-preserved-in_ok-push g c =
    let all = c.args.cursor in
    let old = c.loop-row.cursor in
    let new = c.next_row.new.self in
    let found = c.loop-row.found.items in
    let row = c.in-Some.row in
    let next = walk_next all old new found row c.in-Some.ensures c.loop-row.invariant.there in
    let pushed : c.push.new.self.items ≡ found ++ row ∷ [] = c.in_ok-push.ensures.items
    ∙ ap (λ y. found ++ y ∷ []) c.in_ok-to_row.ensures in
    rw pushed record {
      passing = λ passes computes.
          walk_kept all old new found row c.in-Some.ensures passes
          (sym (computes row c.test.result (there all row next.0) (says_at g.F.Fn c.test.ensures refl))
          ∙ c.if-test.true)
          (c.loop-row.invariant.passing passes computes);
      part = walk_part_kept all old new found row c.in-Some.ensures c.loop-row.invariant.part;
      there = next.1;
    }

pub loop-row-preserved : goal.loop-row-preserved
loop-row-preserved g c =
    let all = c.args.cursor in
    let old = c.loop-row.cursor in
    let new = c.next_row.new.self in
    let found = c.loop-row.found.items in
    let row = c.in-Some.row in
    let next = walk_next all old new found row c.in-Some.ensures c.loop-row.invariant.there in
    record {
      passing = λ passes computes.
          walk_left all old new found row c.in-Some.ensures passes
          (sym (computes row c.test.result (there all row next.0) (says_at g.F.Fn c.test.ensures refl))
          ∙ c.if-test.false)
          (c.loop-row.invariant.passing passes computes);
      part = walk_part_left all old new found row c.in-Some.ensures c.loop-row.invariant.part;
      there = next.1;
    }

pub returns-clause-part : goal.returns-clause-part
returns-clause-part g c =
    let found = c.loop-row.found.items in
    let P : List (List Value) → Type 0 = λ rows. IsPart c.args.cursor rows in
    subst P (append-nil found) (c.loop-row.invariant.part [] (part_nil c.loop-row.cursor))
