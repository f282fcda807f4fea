use Rattle.std.proofs.Common.{◌≡◌, ℕ, List, Some, length, refl, slice_get, subst}
use Rattle.std.proofs.lemmas.Option.{slice_get_read}
use Rattle.ent_protocol.specs.Job.{Job}
use Rattle.ent_stamp.specs.Stamps.{IsStampOf, LentStamp}
use Rattle.ent_stamp.proofs.Knowing.{index_known}
use Rattle.ent_stamp.proofs.lent.LentStamps.index_of.Goals as goal

pub returns-then-is_same : goal.returns-then-is_same
returns-then-is_same g c =
    let own = c.args.self.now in
    let place : ℕ = c.loop-place.place in
    let at : slice_get own.stamps.items place ≡ Some c.lent-item.result =
    subst (λ (stamps : List LentStamp). slice_get stamps place ≡ Some c.lent-item.result)
    c.deref-lent-items.ensures.value
    (slice_get_read c.deref-lent-items.result.now (length c.deref-lent-items.result.now) place c.lent-item.result refl
    c.loop-place-test.true c.lent-item.is) in
    index_known _ own.older place own.stamps.items c.args.stamp.now c.lent-item.result c.checked_add.result at
    (subst (λ (lent : LentStamp). (one two : Job) → IsStampOf lent.0 one → IsStampOf c.args.stamp.now two → one ≡ two)
    c.lent.view_is (c.is_same.ensures c.if-is_same.true))
    c.checked_add.ensures
