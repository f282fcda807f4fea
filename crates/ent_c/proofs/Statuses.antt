-- The status of a call, as C has it.
use Rattle.std.proofs.Common.{◌≡◌, ◌∙◌, ◌<◌, ◌^◌, ℕ, ℤ, ap, arith, of_z, pos, to_z, w32}
use Rattle.std.proofs.lemmas.Int.{to_z-of_z, to_z_pos}
use lib.Signed.{mag}

-- a byte is the same number of 32 bits
pub of_byte : (byte : ℕ) {status : ℕ} → byte < 256 → byte ≡ status → to_z w32 byte ≡ pos status
of_byte byte small is = to_z_pos w32 byte (omega arith) ∙ ap pos is

-- a number of 32 bits comes back as it is
pub of_signed : (z : ℤ) → mag z < 2 ^ 31 → to_z w32 (of_z w32 z) ≡ z
of_signed z small = to_z-of_z w32 z (record { sfits = small })
