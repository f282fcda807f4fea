use Rattle.std.proofs.Common.{◌≡◌, ◌∙◌, ◌++◌, ◌∷◌, [], List, ap, if◌then◌else◌, is_ok, subst, sym}
use Rattle.ent_stamp.specs.Stamps.{AreStampsBehind, LentStamp}
use Rattle.ent_stamp.proofs.Knowing.{known_more}
use Rattle.ent_stamp.proofs.lent.LentStamps.add.Goals as goal

pub returns-in-Ok : goal.returns-in-Ok
returns-in-Ok g c = λ jobs job long is are.
    let own = c.args.self.now in
    let more : c.push.new.self.items ≡ own.stamps.items ++ c.args.lent ∷ [] =
    c.push.ensures.items
    ∙ ap (λ r. if is_ok r then own.stamps.items ++ c.args.lent ∷ [] else own.stamps.items) c.in-Ok.is in
    subst (λ (stamps : List LentStamp). AreStampsBehind own.older stamps (jobs ++ job ∷ [])) (sym more)
    (known_more own.older own.stamps.items jobs c.args.lent job are is)
