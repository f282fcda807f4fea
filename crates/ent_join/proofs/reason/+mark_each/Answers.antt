use Rattle.std.proofs.Common.{ℕ, ◌-◌, ◌<◌, ◌≤◌, List, [], ◌∷◌, length, take, drop, get_or, subst, arith}
use Rattle.std.proofs.lemmas.List.{take_all}
use Rattle.std.specs.List.{AllByRecursion}
use Rattle.ent_match.specs.Links.{IsMarked}
use Rattle.ent_join.proofs.reason.+mark_each.Goals as goal

of_first : (P : ℕ → Type 0) (places : List ℕ) → 1 ≤ length places → P (get_or places 0 0)
    → AllByRecursion P (take (length places - 1) (drop 1 places)) → AllByRecursion P places
of_first P [] h one more = absurd (omega arith)
of_first P (place ∷ places) h one more =
    (one, subst (AllByRecursion P) (take_all (length (place ∷ places) - 1) places (omega arith)) more)

pub returns-in-len1-up-clause-marked : goal.returns-in-len1-up-clause-marked
returns-in-len1-up-clause-marked t c =
    let places = c.args.places.now in
    let marks = c.mark_each.new.marks in
    of_first (λ place. place < length c.args.marks.now → IsMarked marks place) places (omega arith)
    (λ less. c.mark_each.ensures.kept (get_or places 0 0) (c.mark.ensures.marked less))
    (subst (λ n. AllByRecursion (λ place. place < n → IsMarked marks place) (take (length places - 1) (drop 1 places)))
    c.mark.auto.marks c.mark_each.ensures.marked)
