use Rattle.ent_examples.proofs.Refused.{apart_refused, elsewhere_refused, left_out_refused}
use Rattle.ent_examples.proofs.Refused.{twice_refused, widow_refused}
use Rattle.ent_examples.proofs.friends.wrong_books_are_refused.Goals as goal

pub returns-clause-apart : goal.returns-clause-apart
returns-clause-apart c = apart_refused

pub returns-clause-elsewhere : goal.returns-clause-elsewhere
returns-clause-elsewhere c = elsewhere_refused

pub returns-clause-left : goal.returns-clause-left
returns-clause-left c = left_out_refused

pub returns-clause-twice : goal.returns-clause-twice
returns-clause-twice c = twice_refused

pub returns-clause-widow : goal.returns-clause-widow
returns-clause-widow c = widow_refused
