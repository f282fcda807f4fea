use Rattle.ent_admission.proofs.Acting.{commits_told, endings_all_told, goes_still, goes_telling, goes_telling_commits}
use Rattle.ent_admission.proofs.Going.{goes_on}
use Rattle.ent_admission.proofs.admission.Admission.tell.Goals as goal

pub returns-in_err-tell_commits-clause-goes : goal.returns-in_err-tell_commits-clause-goes
returns-in_err-tell_commits-clause-goes c =
    goes_still c.args.self.now c.tell_commits.new.self c.in_err-tell_commits.ensures.err

pub returns-then-is_empty-clause-goes : goal.returns-then-is_empty-clause-goes
returns-then-is_empty-clause-goes c =
    goes_telling_commits c.args.self.now c.tell_commits.new.self c.in_ok-tell_commits.ensures.tells

pub returns-in_err-tell_endings-clause-goes : goal.returns-in_err-tell_endings-clause-goes
returns-in_err-tell_endings-clause-goes c =
    goes_on c.args.self.now c.tell_commits.new.self c.tell_endings.new.self
    (goes_telling_commits c.args.self.now c.tell_commits.new.self c.in_ok-tell_commits.ensures.tells)
    (goes_still c.tell_commits.new.self c.tell_endings.new.self c.in_err-tell_endings.ensures.err)

pub returns-clause-goes : goal.returns-clause-goes
returns-clause-goes c =
    goes_telling c.args.self.now c.tell_commits.new.self c.tell_endings.new.self c.in_ok-tell_commits.ensures.tells
    c.in_ok-tell_endings.ensures.tells

pub returns-clause-told : goal.returns-clause-told
returns-clause-told c =
    endings_all_told c.tell_commits.new.self c.tell_endings.new.self c.in_ok-tell_endings.ensures.tells
    (commits_told c.args.self.now c.tell_commits.new.self c.in_ok-tell_commits.ensures.tells)
