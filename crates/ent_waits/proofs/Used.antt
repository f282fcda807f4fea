-- Uses that are asked for one statement after the other.
use Rattle.std.proofs.Common.{◌≡◌, ℕ, ◌+◌, ◌<◌, List, [], ◌∷◌, ◌++◌, length, take, get_or, refl, sym, ap, ◌∙◌}
use Rattle.std.specs.List.{flat_map, list_any}
use Rattle.std.proofs.Common.{if◌then◌else◌}
use Rattle.std.proofs.lemmas.List.{append-nil, take_more}
use Rattle.std.proofs.lemmas.Grind.{flat_map-append}
use Rattle.ent_semantics.specs.Pool.{Posted}
use Rattle.ent_protocol.specs.Begin.{same_use, use_rank, with_uses}
use Rattle.ent_protocol.specs.PoolEvents.{joint_uses}
use Rattle.ent_protocol.specs.State.{Use, inserted}
use Rattle.ent_protocol.specs.Uses.{entangled_uses}

with_uses-append : (one other held : List Use) → with_uses (one ++ other) held ≡ with_uses other (with_uses one held)
with_uses-append [] other held = refl
with_uses-append (own ∷ more) other held =
    with_uses-append more other
    (if list_any (same_use own) held then held else inserted use_rank own held)

-- those of the first statements, and of one more
pub uses_more : (asked : List Posted) (n : ℕ) (query : Posted) → n < length asked → query ≡ get_or asked n query
    → with_uses (entangled_uses query.statement) (joint_uses (take n asked)) ≡ joint_uses (take (n + 1) asked)
uses_more asked n query below is =
    let f : Posted → List Use = λ own. entangled_uses own.statement in
    let front : take (n + 1) asked ≡ take n asked ++ query ∷ [] =
    take_more asked n query below ∙ ap (λ (own : Posted). take n asked ++ own ∷ []) (sym is) in
    sym (ap joint_uses front
    ∙ (ap (λ (uses : List Use). with_uses uses []) (flat_map-append f (take n asked) (query ∷ []) ∙ last f)
    ∙ with_uses-append (flat_map f (take n asked)) (f query) []))
  where
    last : (f : Posted → List Use)
        → flat_map f (take n asked) ++ flat_map f (query ∷ []) ≡ flat_map f (take n asked) ++ f query
    last f = ap (λ (uses : List Use). flat_map f (take n asked) ++ uses) (append-nil (f query))
