-- Settled tables that are shared, one after the other.
use Rattle.std.proofs.Common.{◌≡◌, ◌+◌, ◌<◌, ℕ, zero, suc, List, [], ◌∷◌, ◌++◌, Some, None, length, take}
use Rattle.std.proofs.Common.{refl, sym, ap, ◌∙◌, arith, slice_get}
use Rattle.std.specs.Arc.{arc_value}
use Rattle.std.specs.declared.sync.Arc.{Arc}
use Rattle.ent_rel.specs.Relation.{Relation, RowSet}
use Rattle.ent_semantics.specs.Form.{Tables}
use Rattle.ent_feed.specs.Tables.{rows_in}

pub none_missing : (tables : Tables) (number : ℕ) → None ≡ slice_get tables number → number < length tables → ⊥
none_missing [] number none low = absurd (omega (arith, low))
none_missing (rows ∷ more) zero none low = absurd cc
none_missing (rows ∷ more) (suc n) none low = none_missing more n none (omega (arith, low))

-- the first ones, and the next
one_taken : (tables : Tables) (number : ℕ) (rows : RowSet) → Some rows ≡ slice_get tables number
    → take (number + 1) tables ≡ take number tables ++ rows ∷ []
one_taken [] number rows is = absurd cc
one_taken (first ∷ more) zero rows is = let same : rows ≡ first = cc in ap (λ r. r ∷ []) (sym same)
one_taken (first ∷ more) (suc n) rows is =
    let more_taken : suc n + 1 ≡ suc (n + 1) = omega arith in
    ap (λ k. take k (first ∷ more)) more_taken ∙ ap (λ (others : Tables). first ∷ others) (one_taken more n rows is)

rows_more : {Z : Type 0} (tables : List (Arc Relation Z)) (table : Arc Relation Z)
    → rows_in (tables ++ table ∷ []) ≡ rows_in tables ++ (arc_value table).rows ∷ []
rows_more [] table = refl
rows_more (first ∷ tables) table = ap (λ (rows : Tables). (arc_value first).rows ∷ rows) (rows_more tables table)

pub one_shared : {Z : Type 0} (settled : Tables) (number : ℕ) (tables pushed : List (Arc Relation Z))
    (table : Arc Relation Z) → rows_in tables ≡ take number settled → pushed ≡ tables ++ table ∷ []
    → Some (arc_value table).rows ≡ slice_get settled number → rows_in pushed ≡ take (number + 1) settled
one_shared settled number tables pushed table so_far put is =
    ap rows_in put ∙ rows_more tables table
    ∙ ap (λ (rows : Tables). rows ++ (arc_value table).rows ∷ []) so_far
    ∙ sym (one_taken settled number (arc_value table).rows is)
