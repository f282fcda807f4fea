use Rattle.std.proofs.Common.{◌++◌, ap, sym, ◌∙◌, append_assoc, rules, arith}
use Rattle.std.proofs.lemmas.Grind.{common_steps}
use Rattle.ent_semantics.specs.Selection.{meets}
use Rattle.ent_ordinary.specs.Worth.{worth_over}
use Rattle.ent_ordinary.proofs.Wanted.{first_are, first_more}
use Rattle.ent_ordinary.proofs.first.first_values.Goals as goal

pub loop-column-preserved : goal.loop-column-preserved
loop-column-preserved c =
    let values = c.loop-column.values.items in
    let front = c.args.front.now in
    record {
      count = search rules;
      kinds = grind (arith, common_steps);
      first = λ row others of met.
          first_more values c.push.new.self.items row others c.args.kinds.now c.loop-column.column c.in-Some.value.now
          c.in_ok-copy-in-Some.field-0 of (omega arith) (c.loop-column.invariant.first row others of met)
          (c.in-Some.ensures.wanted (row ++ others)
          (sym (ap (meets worth_over c.args.tests.now) (append_assoc front row others)) ∙ met))
          c.in_ok-copy-in-Some.ensures c.in_ok-push-in-Some.ensures.items;
    }

pub returns-in-None-clause-first : goal.returns-in-None-clause-first
returns-in-None-clause-first c = λ row others kinds met.
    first_are c.loop-column.values.items row c.loop-column.column c.loop-column.invariant.count
    (c.loop-column.invariant.first row others kinds met)

pub returns-clause-first : goal.returns-clause-first
returns-clause-first c = λ row others kinds met.
    first_are c.loop-column.values.items row c.loop-column.column c.loop-column.invariant.count
    (c.loop-column.invariant.first row others kinds met)
