-- Jobs that go with members who leave the run.
use Rattle.std.proofs.Common.{◌≡◌, ℕ, not, ◌==◌, ◌||◌, cond, List, [], ◌∷◌, map, refl, ap, ◌∙◌}
use Rattle.std.specs.Prelude.{filter}
use Rattle.std.specs.List.{list_any}
use Rattle.ent_protocol.specs.Job.{Job, Numbered, Work, One, Joint}
use Rattle.ent_protocol.specs.Rollback.{goes_with, is_among}
use Rattle.ent_protocol.specs.State.{Member}
use Rattle.ent_job.specs.Lent.{goes_with_any}

abbrev numbers_of : List Member → List ℕ
numbers_of gone = map (λ member. member.tx) gone

among_numbers : (gone : List Member) (tx : ℕ) → list_any (λ n. n == tx) (numbers_of gone) ≡ is_among gone tx
among_numbers [] tx = refl
among_numbers (member ∷ gone) tx = ap (λ b. (member.tx == tx) || b) (among_numbers gone tx)

goes : (gone : List Member) (work : Work) (tables : List Numbered)
    → goes_with_any (numbers_of gone) (record { work = work; tables = tables })
    ≡ goes_with gone (record { work = work; tables = tables })
goes gone (One single) tables = among_numbers gone single.tx
goes gone (Joint posted) tables = refl

pub left_with : (gone : List Member) (jobs : List Job)
    → filter (λ job. not (goes_with_any (numbers_of gone) job)) jobs ≡ filter (λ job. not (goes_with gone job)) jobs
left_with gone [] = refl
left_with gone (job ∷ more) =
    (λ i. cond (not (goes gone job.work job.tables i))
    (job ∷ filter (λ other. not (goes_with_any (numbers_of gone) other)) more)
    (filter (λ other. not (goes_with_any (numbers_of gone) other)) more))
    ∙ ap (λ (rest : List Job). cond (not (goes_with gone job)) (job ∷ rest) rest) (left_with gone more)
