use Rattle.std.proofs.Common.{ℕ, List, subst, sym}
use Rattle.std.specs.Prelude.{Contains}
use Rattle.ent_run.proofs.Lists.{contains_later}
use Rattle.ent_run.proofs.member_list.MemberList.split_first.Goals as goal

pub invariant_of-result : goal.invariant_of-result
invariant_of-result c = λ key there.
    c.self.invariant key (subst (λ (keys : List ℕ). Contains keys key) (sym c.in-Some.ensures.cases.0)
    (contains_later c.in-Some.key.now key c.in-Some.keys.now there))
