use Rattle.std.proofs.Common.{rules, tests}
use Rattle.std.proofs.lemmas.Iterator.{YieldsList-from_slice}
use Rattle.std.proofs.lemmas.Iterator.Search.{any_from_yields_List}
use Rattle.ent_picture.specs.Members.{is_picked}
use Rattle.ent_picture.proofs.met.is_one_picked.Goals as goal

pub returns : goal.returns
returns c =
    any_from_yields_List (is_picked c.args.picked.now) _ _ _ c.any.ensures.ran
    (YieldsList-from_slice c.args.company.now cc)
    (λ x b q k. search (rules, tests))
