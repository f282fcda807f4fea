use Rattle.std.proofs.Common.{rules, ◌≡◌, arith, map, IsTrue, Bool, List, subst, IfOk}
use Rattle.std.proofs.lemmas.Result.{IfOk-weaker}
use Rattle.ent_print.specs.Printing.{script_text}
use Rattle.ent_tree.specs.declared.script.Script.{Script}
use Rattle.ent_arrange.specs.Arranged.{ArePicked, IsArranged}
use Rattle.ent_arrange.proofs.Reread.{arranged}
use Rattle.ent_arrange.proofs.again.is_arranged.Goals as goal

pub returns : goal.returns
returns c =
    let input = c.args.input.now in
    let again = c.args.again.now in
    let order = c.args.order.now in
    let same : again.opening ≡ input.opening = grind (arith, rules) in
    let one : c.deref.result.now ≡ input.scripts = grind (arith, rules) in
    let other : c.as_slice.result.now ≡ again.scripts = grind (arith, rules) in
    let picks = λ (xs ys : List Script) (b : Bool). IsTrue b → ArePicked (map script_text xs) order
    (map script_text ys) in
    IfOk-weaker c.are_picked.result (picks input.scripts again.scripts)
    (λ (b : Bool). IsTrue b → IsArranged input again)
    (λ b picked yes.
    arranged c.read_script_is_itself.ensures input again c.requires.input c.requires.again order c.requires.order same
    (picked yes))
    (subst (λ (xs : List Script). IfOk c.are_picked.result (picks xs again.scripts)) one
    (subst (λ (ys : List Script). IfOk c.are_picked.result (picks c.deref.result.now ys)) other c.are_picked.ensures))
