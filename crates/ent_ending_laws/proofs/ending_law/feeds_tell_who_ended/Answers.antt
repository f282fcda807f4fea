use Rattle.ent_ending_laws.specs.Endings.{endings}
use Rattle.ent_ending_laws.proofs.Endings.{told_so_far, told_them}
use Rattle.ent_ending_laws.proofs.ending_law.feeds_tell_who_ended.Goals as goal

pub returns-clause-so_far : goal.returns-clause-so_far
returns-clause-so_far c = λ count first last happened. told_so_far first count last happened

pub returns-clause-at_rest : goal.returns-clause-at_rest
returns-clause-at_rest c = λ count first last happened was now.
    told_them first last (endings count first last happened) (told_so_far first count last happened) was now
