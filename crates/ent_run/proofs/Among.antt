-- Whether a member of a number is in a list.
use Rattle.std.proofs.Common.{◌≡◌, ℕ, Bool, true, false, ◌||◌, if◌then◌else◌, List, [], ◌∷◌, is_some, refl, sym, ap}
use Rattle.std.proofs.Common.{◌∙◌}
use Rattle.std.specs.Prelude.{IfSome, IsNone, None, Option, Some, filter}
use Rattle.std.specs.List.{list_any}
use Rattle.ent_protocol.specs.Member.{is_tx}
use Rattle.ent_protocol.specs.State.{Member, first_of}
use Rattle.ent_run.specs.Places.{IsAt, found}
use Rattle.ent_run.specs.UnderKeys.{nobody}

any_found : (xs : List Member) (tx : ℕ) → list_any (is_tx tx) xs ≡ is_some (found xs tx)
any_found [] tx = refl
any_found (x ∷ xs) tx = by (is_tx tx x) (any_found xs tx)
  where
    by : (b : Bool) → list_any (is_tx tx) xs ≡ is_some (found xs tx)
        → (b || list_any (is_tx tx) xs)
        ≡ is_some (first_of (if b then x ∷ filter (is_tx tx) xs else filter (is_tx tx) xs))
    by true rest = refl
    by false rest = rest

-- one has a place exactly where it is there
pub any_placed : (xs : List Member) (tx : ℕ) (place : Option ℕ) → IfSome place (IsAt xs tx)
    → (IsNone place → found xs tx ≡ None) → is_some place ≡ list_any (is_tx tx) xs
any_placed xs tx None at none = sym (ap is_some (none refl)) ∙ sym (any_found xs tx)
any_placed xs tx (Some i) at none = sym (ap is_some (at.first nobody)) ∙ sym (any_found xs tx)
