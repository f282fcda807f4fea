-- Whose jobs are out, in the words of the protocol.
use Rattle.std.proofs.Common.{◌≡◌, ◌==◌, ◌||◌, ◌⊎◌, inl, inr, ℕ, Bool, true, false, List, [], ◌∷◌, refl, sym, ap, subst}
use Rattle.std.proofs.Common.{◌∙◌, arith, true≢false}
use Rattle.std.specs.Prelude.{Contains}
use Rattle.std.specs.List.{list_any}
use Rattle.std.proofs.lemmas.Bool.Decides.{nat_tests}
use Rattle.std.proofs.lemmas.List.Elements.{Contains-append_right}
use Rattle.ent_run.proofs.Lists.{contains_cases, contains_none}
use Rattle.ent_protocol.specs.Job.{Job, Work, One, Joint}
use Rattle.ent_protocol.specs.Member.{is_single_of}
use Rattle.ent_protocol.specs.Quiet.{HasJobOut}
use Rattle.ent_protocol.specs.State.{State}
use Rattle.ent_waits.specs.Jobs.{IsWorkOf}

-- one of some jobs is of a transaction
abbrev pub HasJobIn : State → List Job → ℕ → Type 0
HasJobIn s jobs tx = (job : Job) × Contains jobs job × IsWorkOf s job.work tx

eq_is : (n m : ℕ) → (n == m) ≡ true → n ≡ m
eq_is n m is = grind (arith, nat_tests)

is_eq : (n m : ℕ) → n ≡ m → (n == m) ≡ true
is_eq n m is = grind (arith, nat_tests)

any_of : (p : Job → Bool) (jobs : List Job) (job : Job) → Contains jobs job → p job ≡ true → list_any p jobs ≡ true
any_of p [] job there passes = absurd (contains_none job there)
any_of p (first ∷ jobs) job there passes =
    by_cases (λ later. any_of p jobs job later passes) (p first) refl (contains_cases first job jobs there)
  where
    by_cases : (Contains jobs job → list_any p jobs ≡ true) → (b : Bool) → p first ≡ b
        → (first ≡ job) ⊎ Contains jobs job → (b || list_any p jobs) ≡ true
    by_cases rest true is other = refl
    by_cases rest false is (inl same) = absurd (true≢false (sym passes ∙ ap p (sym same) ∙ is))
    by_cases rest false is (inr later) = rest later

some_of : (p : Job → Bool) (jobs : List Job) → list_any p jobs ≡ true → (job : Job) × Contains jobs job × (p job ≡ true)
some_of p [] is = absurd (true≢false (sym is))
some_of p (first ∷ jobs) is = by_cases (some_of p jobs) (p first) refl is
  where
    by_cases : (list_any p jobs ≡ true → (job : Job) × Contains jobs job × (p job ≡ true)) → (b : Bool)
        → p first ≡ b → (b || list_any p jobs) ≡ true
        → (job : Job) × Contains (first ∷ jobs) job × (p job ≡ true)
    by_cases some true here any = (first, (0, omega arith, refl), here)
    by_cases some false here any =
        let rest = some any in (rest.0, Contains-append_right (first ∷ []) jobs rest.0 rest.1, rest.2)

-- work of one statement is of its transaction
work_is : (s : State) (tx : ℕ) (work : Work) (job : Job) → job.work ≡ work → is_single_of tx job ≡ true
    → IsWorkOf s job.work tx
work_is s tx (One single) job is own =
    subst (λ (w : Work). IsWorkOf s w tx) (sym is)
    (eq_is single.tx tx (subst (λ (w : Work). is_single_of tx (record job { work = w }) ≡ true) is own))
work_is s tx (Joint asked) job is own =
    absurd (true≢false (sym (subst (λ (w : Work). is_single_of tx (record job { work = w }) ≡ true) is own)))

pub out_from_state : (s : State) (tx : ℕ) → HasJobOut s tx → HasJobIn s s.lent tx
out_from_state s tx (inl lent) =
    let some = some_of (is_single_of tx) s.lent lent in
    (some.0, some.1, work_is s tx some.0.work some.0 refl some.2)
out_from_state s tx (inr joint) =
    let job = joint.out.0 in (
      job,
      joint.out.1,
      subst (λ (w : Work). IsWorkOf s w tx) (sym joint.out.2)
          (joint.component, (joint.query, joint.is_in, joint.own)),
    )

out_by : (s : State) (tx : ℕ) (work : Work) (job : Job) → job.work ≡ work → Contains s.lent job → IsWorkOf s work tx
    → HasJobOut s tx
out_by s tx (One single) job is there own =
    inl (any_of (is_single_of tx) s.lent job there
    (subst (λ (w : Work). is_single_of tx (record job { work = w }) ≡ true) (sym is) (is_eq single.tx tx own)))
out_by s tx (Joint asked) job is there own = inr (record {
  asked = asked;
  out = (job, there, is);
  component = own.0;
  query = own.1.0;
  is_in = own.1.1;
  own = own.1.2;
})

pub out_in_state : (s : State) (tx : ℕ) → HasJobIn s s.lent tx → HasJobOut s tx
out_in_state s tx (job, there, own) = out_by s tx job.work job refl there own
