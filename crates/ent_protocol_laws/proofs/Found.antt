-- What a search finds: a transaction's member, the jobs that are left when one comes back, a script by its number.
use Rattle.std.proofs.Common.{◌≡◌, ℕ, zero, suc, List, [], ◌∷◌, ◌++◌, refl, sym, subst, inl, inr, Some}
use Rattle.std.specs.List.{filter}
use Rattle.ent_semantics.specs.Serial.{numbered}
use Rattle.ent_protocol.specs.Finish.{IsTaken}
use Rattle.ent_protocol.specs.Job.{Job}
use Rattle.ent_protocol.specs.Member.{active_member, is_tx}
use Rattle.ent_protocol.specs.State.{State, Member, first_of}
use Rattle.ent_lists.specs.Elements.{In, in_first, in_second, in_either, got_on, of_filter, same_number}

first_in : {X : Type 0} (xs : List X) (x : X) → first_of xs ≡ Some x → In x xs
first_in [] x e = cc (e)
first_in (y ∷ ys) x e = inl (let same : x ≡ y = cc in same)

pub found : (s : State) (tx : ℕ) (member : Member) → active_member s tx ≡ Some member
    → In member s.active × (member.tx ≡ tx)
found s tx member e =
    let r = of_filter (is_tx tx) s.active member (first_in (filter (is_tx tx) s.active) member e) in
    (r.0, same_number member.tx tx r.1)

pub taken_there : (job : Job) (jobs left : List Job) → IsTaken job jobs left → In job jobs
taken_there job jobs left t = subst (In job) (sym t.is_there) (in_second t.before (job ∷ t.behind) job (inl refl))

pub taken_fewer : (job : Job) (jobs left : List Job) → IsTaken job jobs left → (other : Job) → In other left
    → In other jobs
taken_fewer job jobs left t other at =
    subst (In other) (sym t.is_there)
    (elim (in_either t.before t.behind other (subst (In other) t.others at)) [
      | inl a ↦ in_first t.before (job ∷ t.behind) other a
      | inr b ↦ in_second t.before (job ∷ t.behind) other (inr b)
    ])

-- a script behind which others stand keeps its number
pub numbered_on : {X : Type 0} (xs more : List X) (n : ℕ) (x : X) → numbered xs n ≡ Some x
    → numbered (xs ++ more) n ≡ Some x
numbered_on xs more zero x e = cc
numbered_on xs more (suc n) x e = got_on xs more n x e
