-- The holders of one table.
use Rattle.std.specs.Prelude.{ℕ, ◌==◌, ◌&&◌, Bool, not, min, if◌then◌else◌, List, [], ◌∷◌, Option, None, Some}
use Rattle.std.specs.List.{list_any}
use Rattle.ent_lock.specs.declared.mode.Mode.{Mode}
use Rattle.ent_lock.specs.declared.holders.Holder.{Holder}
use Rattle.ent_lock.specs.Mode.{mode_rank, in_conflict}

-- a transaction's use in a mode
abbrev pub is_holder : ℕ → Mode → Holder → Bool
is_holder tx mode h = (h.holder == tx) && (mode_rank h.mode == mode_rank mode)

abbrev pub is_no_holder : ℕ → Mode → Holder → Bool
is_no_holder tx mode h = not (is_holder tx mode h)

-- a use of none of these transactions
abbrev pub is_not_of : List ℕ → Holder → Bool
is_not_of members h = not (list_any (λ m. m == h.holder) members)

-- a transaction holds the table in a mode that is in conflict, and is neither the asker nor to be passed
abbrev pub is_conflicting : ℕ → Mode → List ℕ → Holder → Bool
is_conflicting asker mode pass h =
    not (h.holder == asker) && (in_conflict h.mode mode && not (list_any (λ m. m == h.holder) pass))

-- the lesser of two numbers, where there are two
abbrev pub lesser : Option ℕ → Option ℕ → Option ℕ
lesser None b = b
lesser (Some x) None = Some x
lesser (Some x) (Some y) = Some (min x y)

-- the least transaction that is in conflict
abbrev pub least_conflicting : ℕ → Mode → List ℕ → List Holder → Option ℕ
least_conflicting asker mode pass [] = None
least_conflicting asker mode pass (h ∷ hs) =
    lesser (if is_conflicting asker mode pass h then Some h.holder else None) (least_conflicting asker mode pass hs)
