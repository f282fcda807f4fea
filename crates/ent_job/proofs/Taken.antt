-- A job is taken out of a list.
use Rattle.std.proofs.Common.{◌≡◌, ℕ, suc, ◌+◌, List, [], ◌∷◌, ◌++◌, take, drop, get_or, refl, sym, ap, ◌∙◌, arith}
use Rattle.std.proofs.Common.{add-one}
use Rattle.std.specs.Prelude.{Contains, Some}
use Rattle.std.specs.List.{slice_get}
use Rattle.std.proofs.Math.Seq.{drop-cons}
use Rattle.std.proofs.lemmas.List.{take-append-drop}
use Rattle.std.proofs.lemmas.Option.{slice_get_within, get_or_from_slice_get}
use Rattle.ent_protocol.specs.Finish.{IsTaken}
use Rattle.ent_protocol.specs.Job.{Job}

pub taken_at : (jobs left : List Job) (index : ℕ) (job : Job) → slice_get jobs index ≡ Some job
    → left ≡ take index jobs ++ drop (index + 1) jobs → IsTaken job jobs left
taken_at jobs left index job there is =
    let own : get_or jobs index job ≡ job = get_or_from_slice_get jobs index job job there in
    let rest : drop index jobs ≡ job ∷ drop (index + 1) jobs =
    drop-cons jobs index job (slice_get_within jobs index job there)
    ∙ ap (λ (own : Job). own ∷ drop (suc index) jobs) own ∙ ap (λ n. job ∷ drop n jobs) (sym (add-one index)) in
    record {
      before = take index jobs;
      behind = drop (index + 1) jobs;
      is_there = sym (take-append-drop index jobs) ∙ ap (λ (all : List Job). take index jobs ++ all) rest;
      others = is;
    }

-- what is taken out stood in the list
among : (before behind : List Job) (job : Job) → Contains (before ++ job ∷ behind) job
among [] behind job = (0, omega arith, refl)
among (own ∷ before) behind job =
    let later = among before behind job in
    (suc later.0, omega (arith, later.1), later.2)

pub taken_from : (job : Job) (jobs left : List Job) → IsTaken job jobs left → Contains jobs job
taken_from job jobs left taken = rw taken.is_there (among taken.before taken.behind job)
