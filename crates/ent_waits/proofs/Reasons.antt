-- Why a run can't end yet.
use Rattle.std.proofs.Common.{◌≡◌, ℕ, Option, Some, None, subst}
use Rattle.std.specs.Prelude.{MatchOption}
use Rattle.ent_lock.specs.Use.{IsLeast, IsLeastIfAny}
use Rattle.ent_protocol.specs.Quiet.{NoneIs}

pub is_least : (P : ℕ → Type 0) (least : Option ℕ) (tx : ℕ) → least ≡ Some tx → IsLeastIfAny P least → IsLeast P tx
is_least P least tx is found = subst (IsLeastIfAny P) is found

pub is_none : (P : ℕ → Type 0) (least : Option ℕ) → least ≡ None → IsLeastIfAny P least → NoneIs P
is_none P least is found = subst (IsLeastIfAny P) is found

pub least_if_any : (P : ℕ → Type 0) (least : Option ℕ) → MatchOption least (NoneIs P) (IsLeast P) → IsLeastIfAny P least
least_if_any P None none = none
least_if_any P (Some tx) found = found
