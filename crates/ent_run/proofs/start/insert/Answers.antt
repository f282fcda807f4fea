use Rattle.std.proofs.Common.{◌≡◌, ℕ, List, insert, arith, length, sym, ap, ◌∙◌}
use Rattle.ent_members.specs.Order.{place_in, tx_of}
use Rattle.ent_members.proofs.ByNumber.{inserted_at, place_bound}
use Rattle.ent_protocol.specs.State.{Member}
use Rattle.ent_run.specs.Run.{Run}
use Rattle.ent_run.proofs.OneMember.{on_ok_then}
use Rattle.ent_run.proofs.start.insert.Goals as goal

pub insert-requires : goal.insert-requires
insert-requires c =
    omega (
      arith,
      c.place_for-at.ensures,
      place_bound tx_of c.active.result c.tx.result,
      ap (λ (ms : List Member). length ms) c.active.ensures,
    )

pub returns-clause-active : goal.returns-clause-active
returns-clause-active c =
    let old = c.args.members.now in
    let at : c.place_for-at.result ≡ place_in tx_of old.active c.args.member.tx = c.place_for-at.ensures
    ∙ (λ i. place_in tx_of (c.active.ensures i) (c.tx.ensures i)) in
    on_ok_then c.insert.result
    (c.insert.new.self ≡ record old { active = insert old.active c.place_for-at.result c.args.member }) _
    (λ is. ap (λ (run : Run). run.active) is ∙ ap (λ (i : ℕ). insert old.active i c.args.member) at
    ∙ sym (inserted_at tx_of c.args.member old.active))
    c.insert.ensures.ok
