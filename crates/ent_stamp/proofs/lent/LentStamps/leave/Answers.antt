use Rattle.std.proofs.Common.{◌≡◌, ◌∙◌, ◌-◌, ap, length, subst, sym}
use Rattle.ent_stamp.specs.Stamps.{jobs_left_by}
use Rattle.ent_stamp.specs.Stamps.{AreStampsBehind}
use Rattle.ent_stamp.proofs.Knowing.{known_left}
use Rattle.ent_stamp.proofs.lent.LentStamps.leave.Goals as goal

pub returns : goal.returns
returns g c = λ jobs long are.
    let own = c.args.self.now in
    let left = c.drop_gone.new.stamps.items in
    let count = c.args.count in
    let less : c.saturating_sub-self.result ≡ count - length left =
    c.saturating_sub-self.ensures ∙ ap (λ n. count - n) (ap length c.as_slice.ensures.value) in
    subst (λ n. AreStampsBehind n left (jobs_left_by c.args.gone.now jobs)) (sym less)
    (known_left c.args.gone.now own.older count own.stamps.items left jobs c.drop_gone.ensures long are)
