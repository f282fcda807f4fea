-- The rules in their order: what is found of one comes before what is found of the next.
use Rattle.std.proofs.Common.{◌≡◌, true, false, List, ◌++◌, sym, ap, ◌∙◌, is_some, Option, None}
use Rattle.std.proofs.Common.{IfOk, Result, Ok, Err}
use Rattle.ent_history.specs.Verdict.{first_of}
use Rattle.ent_history.specs.declared.finding.Finding.{Finding}
use Rattle.ent_check.proofs.LeftOut.{first_kept}
use Rattle.ent_check.proofs.Numbers.{first_none}
use Rattle.ent_check.proofs.Next.{none_there}

-- a rule that isn't broken
pub nothing_found : (own : List Finding) (finding : Option Finding) → finding ≡ first_of own
    → is_some finding ≡ false → first_of own ≡ None
nothing_found own finding found none = sym found ∙ none_there finding none

module _ (own more : List Finding) where
  -- what is found of a rule comes first
  pub found_here : (finding : Option Finding) → finding ≡ first_of own → is_some finding ≡ true
      → finding ≡ first_of (own ++ more)
  found_here finding found some = found ∙ sym (first_kept own more (ap is_some (sym found) ∙ some))

  -- where nothing is, what is found behind it comes first
  pub found_later : {E : Type 0} (result : Result (Option Finding) E) → first_of own ≡ None
      → IfOk result (λ finding. finding ≡ first_of more) → IfOk result (λ finding. finding ≡ first_of (own ++ more))
  found_later (Ok finding) none is = is ∙ sym (first_none own more none)
  found_later (Err refused) none is = tt
