use Rattle.std.proofs.Common.{rules, arith, ◌≡◌, List, ℕ, subst, IsTrue}
use Rattle.ent_input.specs.Reading.{IsInput}
use Rattle.ent_arrange.specs.Written.{Arranges}
use Rattle.ent_arrange.proofs.Chosen.{given_order, new_order}
use Rattle.ent_arrange.proofs.arranging.text_and_told.Goals as goal
use Rattle.ent_arrange.proofs.arranging.text_and_told.Goals.{then-is_right, else-is_right+in_ok-text}

pub returns-clause-ok : goal.returns-clause-ok
returns-clause-ok c =
    let bytes = c.args.bytes.now in
    let input = c.in_ok-input.input in
    let formed : IsInput bytes input =
    record { read = c.in_ok-input.ensures.input; formed = c.in_ok-over.ensures.formed } in
    let is = λ (text : List ℕ). Arranges bytes text in
    elim c.if-is_right.branch [
      | then-is_right w ↦
          let read = c.as_slice.result.now in
          let same : read ≡ c.if-is_right.text.items = grind (arith, rules) in
          let right : IsTrue c.in_ok-is_right.is_right = grind (arith, rules) in
          subst is same (new_order c.first_fault_is_first.ensures.script
          c.faults_are_the_same_without_places.ensures.script bytes read input formed
          (c.in_ok-is_right.ensures right))
      | else-is_right+in_ok-text w ↦
          let same : bytes ≡ c.if-is_right.text.items = grind (arith, rules) in
          subst is same (given_order bytes input formed)
    ]
