-- The friends' pool is safe, and with a third it isn't.
use Rattle.std.proofs.Common.{◌≡◌, ℕ, refl, arith}
use Rattle.std.specs.Prelude.{Contains, codes}
use Rattle.ent_semantics.specs.Pool.{CanMeet, IsSafe, IsUnsafeAt, HasHeadFor}
use Rattle.ent_examples.specs.Partners.{Mickey, Minnie}
use Rattle.ent_examples.specs.Pool.{friend, flies_as, with_third}
use Rattle.ent_examples.proofs.Meets.{under_122}

meets : (tx : ℕ) → CanMeet (friend 1 Mickey Minnie) 0 (friend tx Minnie Mickey)
meets tx =
    record {
      post = flies_as Minnie;
      is_post = refl;
      head = flies_as Minnie;
      is_head = (0, omega arith, refl);
      unify = under_122 (codes "R") (codes "Minnie") (codes "R") (codes "Minnie") refl refl;
    }

has : (tx : ℕ) → Contains with_third (friend tx Minnie Mickey) → HasHeadFor with_third 1 0 tx
has tx there =
    record {
      asker = friend 1 Mickey Minnie;
      asks = (0, omega arith, refl);
      asker_is = refl;
      partner = friend tx Minnie Mickey;
      offers = there;
      partner_is = refl;
      meets = meets tx;
    }

pub third_unsafe : IsUnsafeAt with_third (record { asker = 1; index = 0; first = 2; second = 3 })
third_unsafe = (omega arith, has 2 (1, omega arith, refl), has 3 (2, omega arith, refl))

pub third_not_safe : IsSafe with_third → ⊥
third_not_safe h = different (h (friend 1 Mickey Minnie) (friend 2 Minnie Mickey) (friend 3 Minnie Mickey) 0
    (0, omega arith, refl) (1, omega arith, refl) (2, omega arith, refl) (meets 2) (meets 3))
  where
    different : ◌≡◌ {A = ℕ} 2 3 → ⊥
    different e = omega arith
