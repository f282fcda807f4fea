-- Each script has one fate.
use Rattle.std.specs.Prelude.{◌≡◌, ◌==◌, ℕ, List, [], ◌∷◌, map, length}
use Rattle.std.specs.List.{filter, range_with_len}
use Rattle.ent_semantics.specs.declared.book.Book.{Book}
use Rattle.ent_semantics.specs.declared.book.Fate.{Fate}
use Rattle.ent_semantics.specs.declared.book.Fated.{Fated}
use Rattle.ent_semantics.specs.Database.{Database}

-- just one of them is of this transaction
abbrev pub HasOneFate : List Fated → ℕ → Type 0
HasOneFate fates tx =
    (fate : Fate) × (filter (λ fated. fated.tx == tx) fates ≡ record { tx = tx; fate = fate } ∷ [])

-- the fates are those of the scripts, by number from 1, one for each
abbrev pub HaveFates : Book Database → Type 0
HaveFates book = map (λ fated. fated.tx) book.fates ≡ range_with_len 1 (length book.scripts)
