use Rattle.std.proofs.Common.{refl}
use Rattle.ent_protocol.proofs.Led.{plays_lead}
use Rattle.ent_examples.specs.Partners.{partners_opening, partners_pass}
use Rattle.ent_examples.proofs.PartnersPlay.{last, played}
use Rattle.ent_examples.proofs.play.partner_passes_a_prepared_lock.Goals as goal

pub returns : goal.returns
returns g c resolved partners = (
  last partners,
  played partners,
  plays_lead resolved partners_opening (partners_pass partners) (last partners) (played partners),
  refl,
  refl,
)
