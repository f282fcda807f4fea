-- What stands behind the first bytes that pass a test begins with none that passes.
use Rattle.std.proofs.Common.{◌≡◌, ℕ, suc, ◌+◌, Bool, true, false, subst, drop, List, [], ◌∷◌, refl, sym, arith}
use Rattle.std.specs.List.{prefix_len}
use Rattle.ent_text.specs.Lexing.{after, Stops}

stops_by : (test : ℕ → Bool) (b : ℕ) (bytes : List ℕ) (t : Bool) → test b ≡ t → Stops test (after test bytes)
    → Stops test (after test (b ∷ bytes))
stops_by test b bytes true e h =
    let k : 1 + prefix_len test bytes ≡ suc (prefix_len test bytes) = omega arith in
    rw e (subst (λ n. Stops test (drop n (b ∷ bytes))) (sym k) h)
stops_by test b bytes false e h = rw e e

pub after_stops : (test : ℕ → Bool) (bytes : List ℕ) → Stops test (after test bytes)
after_stops test [] = tt
after_stops test (b ∷ bytes) = stops_by test b bytes (test b) refl (after_stops test bytes)
