use Rattle.ent_lists.specs.Elements.{contains_in, of_all, pairs_index}
use Rattle.ent_program_laws.proofs.Rising.{Before, Rises, reached_rise}
use Rattle.ent_program_laws.proofs.finished_law.joint_answers_come_by_number.Goals as goal

pub returns : goal.returns
returns g c forms s joint reached there =
    pairs_index Before joint.members
    (of_all Rises s.joints joint (reached_rise forms s reached) (contains_in s.joints joint there))
