-- A job that is lent once is taken in one way.
use Rattle.std.proofs.Common.{◌≡◌, inl, List, [], ◌∷◌, ◌++◌, refl, sym, subst, ◌∙◌}
use Rattle.ent_protocol.specs.Finish.{IsTaken}
use Rattle.ent_protocol.specs.Job.{Job, Work, One, Joint}
use Rattle.ent_protocol.specs.State.{State}
use Rattle.ent_protocol_laws.specs.Lent.{AreOther, LentStandOnce}
use Rattle.ent_lists.specs.Elements.{In, Pairs, of_all, in_second, index_pairs}

abbrev OtherJob : Job → Job → Type 0
OtherJob one other = AreOther one.work other.work

never_other : (work : Work) → AreOther work work → ⊥
never_other (One single) other = other refl
never_other (Joint asked) other = other refl

same_head : (x y : Job) (xs ys : List Job) → x ∷ xs ≡ y ∷ ys → x ≡ y
same_head x y xs ys e = cc

same_tail : (x y : Job) (xs ys : List Job) → x ∷ xs ≡ y ∷ ys → xs ≡ ys
same_tail x y xs ys e = cc

-- a job that stands behind itself stands twice
twice : (job : Job) (before behind more : List Job) → Pairs OtherJob (job ∷ more) → more ≡ before ++ job ∷ behind → ⊥
twice job before behind more pairs is =
    never_other job.work
    (of_all (OtherJob job) more job pairs.0
    (subst (In job) (sym is) (in_second before (job ∷ behind) job (inl refl))))

one_place : (job : Job) (before behind first last : List Job) → Pairs OtherJob (before ++ job ∷ behind)
    → before ++ job ∷ behind ≡ first ++ job ∷ last → before ++ behind ≡ first ++ last
one_place job [] behind [] last pairs is = same_tail job job behind last is
one_place job [] behind (x ∷ first) last pairs is =
    absurd (twice job first last behind pairs (same_tail job x behind (first ++ job ∷ last) is))
one_place job (x ∷ before) behind [] last pairs is =
    let same : job ≡ x = sym (same_head x job (before ++ job ∷ behind) last is) in
    absurd (twice job before behind (before ++ job ∷ behind)
    (subst (λ y. Pairs OtherJob (y ∷ before ++ job ∷ behind)) (sym same) pairs) refl)
one_place job (x ∷ before) behind (y ∷ first) last pairs is =
    let same = same_head x y (before ++ job ∷ behind) (first ++ job ∷ last) is in
    let rest = one_place job before behind first last pairs.1
    (same_tail x y (before ++ job ∷ behind) (first ++ job ∷ last) is) in
    λ i. same i ∷ rest i

pub taken_alike : (s : State) (job : Job) (left others : List Job) → LentStandOnce s → IsTaken job s.lent left
    → IsTaken job s.lent others → left ≡ others
taken_alike s job left others lent one other =
    one.others
    ∙ one_place job one.before one.behind other.before other.behind
    (subst (Pairs OtherJob) one.is_there (index_pairs OtherJob s.lent lent.once)) (sym one.is_there ∙ other.is_there)
    ∙ sym other.others
