-- The first of marked statements, and joins that lead both ways.
use Rattle.std.proofs.Common.{◌≡◌, ℕ, zero, suc, ◌<◌, ◌≤◌, Bool, true, false, List, [], ◌∷◌, refl, sym, ap}
use Rattle.std.proofs.Common.{◌∙◌, arith, length, true≢false}
use Rattle.std.specs.Prelude.{Contains}
use Rattle.ent_semantics.specs.Pool.{Posted, first_tx}
use Rattle.ent_semantics.proofs.Linked.{joined_back}
use Rattle.ent_match.specs.declared.link.Link.{Link}
use Rattle.ent_match.specs.Links.{Closed, IsMarked}
use Rattle.ent_match.specs.Remainder.{At}
use Rattle.ent_match.specs.Components.{AreLinkedBy, flipped, marked_in}

pub some_at : (pool : List Posted) (n : ℕ) → n < length pool → (a : Posted) × At pool n a
some_at [] n below = absurd (omega arith)
some_at (m ∷ pool) zero below = (m, (omega arith, refl))
some_at (m ∷ pool) (suc n) below = let r = some_at pool n (omega arith) in (r.0, (below, r.1.1))

-- of statements at marked places the one at the least place is the first
pub first_is : (marks : List Bool) (pool : List Posted) (n : ℕ) (a : Posted) → At pool n a → IsMarked marks n
    → ((p : ℕ) → IsMarked marks p → n ≤ p)
    → first_tx (marked_in marks pool) ≡ a.tx
first_is [] pool n a at marked least = absurd (true≢false (sym marked))
first_is (b ∷ marks) [] n a (below, is) marked least = absurd (omega arith)
first_is (true ∷ marks) (m ∷ pool) zero a (below, is) marked least = ap (λ (z : Posted). z.tx) is
first_is (false ∷ marks) (m ∷ pool) zero a at marked least = absurd (true≢false (sym marked))
first_is (true ∷ marks) (m ∷ pool) (suc n) a at marked least = absurd (let l = least 0 refl in omega arith)
first_is (false ∷ marks) (m ∷ pool) (suc n) a (below, is) marked least =
    first_is marks pool n a (omega arith, is) marked (λ p m. let l = least (suc p) m in omega arith)

-- ---- joins lead both ways

module _ (pool : List Posted) (joins : List Link) (removed : List Bool) (s : AreLinkedBy pool joins removed) where
  pub leads_back : (join : Link) → Contains joins join → Contains joins (flipped join)
  leads_back join inside =
      let w = s.within join inside in
      let a = some_at pool join.from w.0 in
      let b = some_at pool join.to w.1 in
      let j = s.joined join a.0 b.0 inside a.1 b.1 in
      s.complete join.to join.from b.0 a.0 b.1 a.1 (joined_back a.0 b.0 j.0) j.2 j.1

  -- no join leads from a statement that doesn't remain
  pub removed_closed : Closed joins removed
  removed_closed join inside gone =
      let w = s.within join inside in
      let a = some_at pool join.from w.0 in
      let b = some_at pool join.to w.1 in
      let j = s.joined join a.0 b.0 inside a.1 b.1 in
      absurd (true≢false (sym gone ∙ j.1))
