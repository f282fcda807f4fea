-- Digits that go on above a limit.
use Rattle.std.proofs.Common.{◌≡◌, ℕ, suc, ◌-◌, ◌*◌, ◌+◌, ◌<◌, ◌≤◌, List, ◌∷◌, length, drop, get_or, ap, sym, ◌∙◌}
use Rattle.std.proofs.Common.{arith, drop-cons}
use Rattle.ent_text.specs.Lexing.{value_from}
use Rattle.ent_text.proofs.Reading.{value_grows}

-- what goes on above the limit ends above it
pub over_at_once : (most i value total : ℕ) (digits : List ℕ) → most ≤ 9223372036854775808 → i < length digits
    → 922337203685477580 < value → value_from value (drop i digits) ≡ total → most < total
over_at_once most i value total digits least lt over e =
    let cut : drop i digits ≡ get_or digits i 0 ∷ drop (suc i) digits = drop-cons digits i 0 lt in
    let g = value_grows (drop (suc i) digits) (value * 10 + (get_or digits i 0 - 48)) in
    let whole : value_from (value * 10 + (get_or digits i 0 - 48)) (drop (suc i) digits) ≡ total =
    sym (ap (value_from value) cut) ∙ e in
    omega arith

pub over_behind : (most i value d total : ℕ) (digits : List ℕ) → i < length digits → d ≡ get_or digits i 0 - 48
    → most < value * 10 + d → value_from value (drop i digits) ≡ total → most < total
over_behind most i value d total digits lt is over e =
    let cut : drop i digits ≡ get_or digits i 0 ∷ drop (suc i) digits = drop-cons digits i 0 lt in
    let g = value_grows (drop (suc i) digits) (value * 10 + (get_or digits i 0 - 48)) in
    let whole : value_from (value * 10 + (get_or digits i 0 - 48)) (drop (suc i) digits) ≡ total =
    sym (ap (value_from value) cut) ∙ e in
    omega arith
