-- Owners of heads for the posts of a statement, one by one.
use Rattle.std.proofs.Common.{ℕ, ◌<◌, List, [], ◌∷◌, ◌++◌, length, get_or, subst, sym, length-append}
use Rattle.std.proofs.lemmas.List.{get_or_append_left}
use Rattle.std.proofs.Math.Seq.{get_or-append_seam}
use Rattle.ent_semantics.specs.Pool.{Posted}
use Rattle.ent_match.specs.Demand.{AreOwners}
use Rattle.ent_match.specs.Fault.{IsOwner}
use Rattle.ent_match.proofs.Faults.{one_more}

pub owners_pushed : (pool : List Posted) (asker : Posted) (owners : List ℕ) (tx : ℕ) → AreOwners pool asker owners
    → IsOwner pool asker (length owners) tx → AreOwners pool asker (owners ++ tx ∷ [])
owners_pushed pool asker owners tx before last = λ i below.
    one_more (λ k. IsOwner pool asker k (get_or (owners ++ tx ∷ []) k 0)) (length owners)
    (λ k less. subst (λ owner. IsOwner pool asker k owner) (sym (get_or_append_left owners (tx ∷ []) 0 k less))
    (before k less))
    (subst (λ owner. IsOwner pool asker (length owners) owner) (sym (get_or-append_seam owners tx [] 0)) last)
    i (subst (λ n. i < n) (length-append owners (tx ∷ [])) below)
