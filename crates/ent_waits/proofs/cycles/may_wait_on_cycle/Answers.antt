use Rattle.std.proofs.Common.{ℕ, map, subst, sym, take, arith}
use Rattle.std.proofs.lemmas.Bool.Decides.{Decides-eqb}
use Rattle.std.proofs.lemmas.List.{length-map, length-take}
use Rattle.std.proofs.lemmas.Map.Made.{AllPairs-from_IsDistinct}
use Rattle.ent_members.specs.Order.{tx_of}
use Rattle.ent_waits.specs.Waits.{gathered}
use Rattle.ent_waits.proofs.Gathered.{no_deadlock}
use Rattle.ent_waits.proofs.Marked.{AreRows, first_rows, marked_pairs}
use Rattle.ent_waits.proofs.cycles.may_wait_on_cycle.Goals as goal

pub returns : goal.returns
returns c = λ s quick.
    let run = c.args.run.now in
    let submitted = c.args.submitted.now in
    let lent = c.args.lent.now in
    let numbers = map tx_of run.active in
    let count = c.active_len-count.result in
    let rows = c.rows_of-rows.result in
    let first : AreRows run submitted lent (take count rows) =
    subst (λ (n : ℕ). AreRows run submitted lent (take n rows)) (sym c.active_len-count.ensures.len)
    (first_rows run submitted lent rows c.rows_of-rows.ensures) in
    no_deadlock c.awaited_members_are_waited_for.ensures run submitted lent s
    (c.may_have_cycle.ensures quick numbers (gathered run submitted lent)
    (AllPairs-from_IsDistinct Decides-eqb numbers c.active_len-count.ensures.distinct)
    (omega (
      arith,
      length-map run.active tx_of,
      length-take count rows,
      c.active_len-count.ensures.len,
      c.active_len-count.ensures.bound,
    ))
    (marked_pairs run submitted lent (take count rows) first))
