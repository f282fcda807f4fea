-- Components that begin with the same transaction are one.
use Rattle.std.proofs.Common.{◌≡◌, ◌↔◌, ◌<◌, inl, List, [], ◌∷◌, refl, sym, subst, ◌∙◌}
use Rattle.std.proofs.Common.{Contains}
use Rattle.ent_protocol_laws.proofs.ByNumber.{posted_tx}
use Rattle.ent_semantics.specs.Component.{IsComponent}
use Rattle.ent_semantics.specs.Pool.{Posted, first_tx}
use Rattle.ent_protocol.specs.Member.{pool}
use Rattle.ent_protocol.specs.PoolEvents.{IsPresentComponent}
use Rattle.ent_protocol.specs.PostedBy.{is_present}
use Rattle.ent_protocol.specs.State.{State}
use Rattle.ent_protocol_laws.specs.ByNumber.{StandByNumber}
use Rattle.ent_lists.specs.Elements.{In, Pairs, index_pairs, contains_in, in_contains}
use Rattle.ent_protocol_laws.specs.Numbered.{Apart, Below, below_apart, one_of, same_lists}

-- components that share a statement have the same statements
abbrev pub AreClasses : Type 0
AreClasses =
    (those members others : List Posted) (shared member : Posted) → IsComponent those members
    → IsComponent those others → Contains members shared → Contains others shared
    → Contains members member ↔ Contains others member

-- ---- components

module _ (s : State) (by_number : StandByNumber s) (classes : AreClasses) where
  apart : Pairs (Apart posted_tx) (pool s)
  apart = below_apart posted_tx (pool s) (index_pairs (Below posted_tx) (pool s) by_number.pool)

  ascends : (asked : List Posted) → IsPresentComponent s asked → Pairs (Below posted_tx) asked
  ascends asked h =
      index_pairs (λ (one other : Posted). one.tx < other.tx) asked h.ascending

  posted : (asked : List Posted) → IsPresentComponent s asked → (a : Posted) → In a asked → In a (pool s)
  posted asked h a at =
      is_present (pool s) asked h a at

  -- one that is in both shows that what is in the one is in the other
  within : (asked others : List Posted) → IsPresentComponent s asked → IsPresentComponent s others → (shared : Posted)
      → In shared asked → In shared others → (a : Posted) → In a asked → In a others
  within asked others h k shared at bt a there =
      contains_in others a
      ((classes (pool s) asked others shared a h k (in_contains asked shared at)
      (in_contains others shared bt)).0 (in_contains asked a there))

  some : (asked : List Posted) → IsPresentComponent s asked → (a : Posted) × In a asked × (first_tx asked ≡ a.tx)
  some [] h = absurd (contains_in [] h.first ((h.class h.first).1 (h.in_remainder, (0, refl))))
  some (a ∷ more) h = (a, inl refl, refl)

  pub same_component : (asked others : List Posted) → IsPresentComponent s asked → IsPresentComponent s others
      → first_tx asked ≡ first_tx others → asked ≡ others
  same_component asked others h k same =
      let a = some asked h in
      let b = some others k in
      let one = one_of posted_tx (pool s) a.0 b.0 apart (posted asked h a.0 a.1) (posted others k b.0 b.1)
      (sym a.2 ∙ same ∙ b.2) in
      let shared : In a.0 others = subst (λ x. In x others) (sym one) b.1 in
      same_lists posted_tx asked others (ascends asked h) (ascends others k) (within asked others h k a.0 a.1 shared)
      (within others asked k h a.0 shared a.1)
