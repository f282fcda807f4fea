-- The first component that is neither tried nor out, by the places at which components begin.
use Rattle.std.specs.Prelude.{◌≡◌, ◌≤◌, ℕ, List, Contains, Option}
use Rattle.ent_semantics.specs.Pool.{Posted}
use Rattle.ent_match.specs.Components.{FirstIs, component_at}
use Rattle.ent_protocol.specs.Job.{Job, Joint}

-- a joint job of exactly these statements is one of those lent
abbrev pub IsOutAmong : List Job → List Posted → Type 0
IsOutAmong lent asked = (job : Job) × Contains lent job × (job.work ≡ Joint asked)

-- neither tried nor out
pub record IsOpen (tried : List (List Posted)) (lent : List Job) (asked : List Posted) : Type 0 where
  pub untried : Contains tried asked → ⊥
  pub not_out : IsOutAmong lent asked → ⊥

-- a component begins at a place, and is open
pub record IsOpenAt (posted : List Posted) (firsts : List (Option ℕ)) (tried : List (List Posted)) (lent : List Job)
    (place : ℕ) : Type 0 where
  pub begins : FirstIs firsts place place
  pub is_open : IsOpen tried lent (component_at firsts place posted)

abbrev pub NoneIsOpen : List Posted → List (Option ℕ) → List (List Posted) → List Job → Type 0
NoneIsOpen posted firsts tried lent = (place : ℕ) → IsOpenAt posted firsts tried lent place → ⊥

-- the least such place
pub record IsFirstOpen (posted : List Posted) (firsts : List (Option ℕ)) (tried : List (List Posted)) (lent : List Job)
    (place : ℕ) : Type 0 where
  pub is_open : IsOpenAt posted firsts tried lent place
  pub least : (other : ℕ) → IsOpenAt posted firsts tried lent other → place ≤ other
