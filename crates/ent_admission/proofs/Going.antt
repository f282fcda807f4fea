-- Steps behind steps.
use Rattle.std.proofs.Common.{ℕ, zero, suc, refl, sym, subst}
use Rattle.ent_admission.specs.Admission.{Admission}
use Rattle.ent_admission.specs.Moves.{Chain, Goes, Moves}

pub joined : (Step : Admission → Admission → Type 0) (n m : ℕ) (first between last : Admission)
    → Chain Step n first between → Chain Step m between last → (count : ℕ) × Chain Step count first last
joined Step n zero first between last one two = (n, subst (λ (x : Admission). Chain Step n first x) (sym two) one)
joined Step n (suc m) first between last one two =
    let r = joined Step n m first between two.0 one two.1 in
    (suc r.0, (two.0, r.1, two.2))

pub goes_nowhere : (a : Admission) → Goes a a
goes_nowhere a = (zero, refl)

pub goes_once : (first last : Admission) → Moves first last → Goes first last
goes_once first last move = (suc zero, (first, refl, move))

pub goes_on : (first between last : Admission) → Goes first between → Goes between last → Goes first last
goes_on first between last one two = joined Moves one.0 two.0 first between last one.1 two.1
