-- Which statements of a pool remain, by their places.
use Rattle.std.specs.Prelude.{◌≡◌, ◌<◌, ◌⊎◌, ℕ, Bool, true, false, List, length, Contains, slice_index_or}
use Rattle.ent_semantics.specs.Component.{IsInRemainder}
use Rattle.ent_semantics.specs.Pool.{Posted, CanMeet}
use Rattle.ent_match.specs.declared.link.Link.{Link}
use Rattle.ent_match.specs.Links.{IsMarked}

-- a statement stands at a place
abbrev pub At : List Posted → ℕ → Posted → Type 0
At pool place member = (place < length pool) × (slice_index_or pool place member ≡ member)

-- the statement at a place has a head for a post
pub record IsOwnerAt (pool : List Posted) (asker : Posted) (index place : ℕ) : Type 0 where
  pub owner : Posted
  pub offers : At pool place owner
  pub meets : CanMeet asker index owner

-- a link from the owner of a head to the owner of a post
pub record IsLinkOf (pool : List Posted) (link : Link) : Type 0 where
  pub asker : Posted
  pub asks : At pool link.to asker
  pub index : ℕ
  pub owner : IsOwnerAt pool asker index link.from

-- a post has its link
pub record HasLink (pool : List Posted) (links : List Link) (place : ℕ) (asker : Posted) (index : ℕ) : Type 0 where
  pub from : ℕ
  pub owner : IsOwnerAt pool asker index from
  pub listed : Contains links (record { from = from; to = place })

-- each post of the statement at a place has its link
abbrev pub HasLinks : List Posted → List Link → ℕ → Type 0
HasLinks pool links place =
    (asker : Posted) (index : ℕ) → At pool place asker → index < length asker.statement.posts
    → HasLink pool links place asker index

-- what is known of a statement with a post that unifies with no head, and of others
abbrev pub IsAsked : List Posted → List Link → ℕ → Bool → Type 0
IsAsked pool links place true = (asker : Posted) → At pool place asker → IsInRemainder pool asker → ⊥
IsAsked pool links place false = HasLinks pool links place

-- the links to the statement at a place are put down
pub record AsksTo (pool : List Posted) (place : ℕ) (old new : List Link) (is_removed : Bool) : Type 0 where
  pub grows : (link : Link) → Contains old link → Contains new link
  pub sound : (link : Link) → Contains new link → Contains old link ⊎ IsLinkOf pool link
  pub asked : IsAsked pool new place is_removed

-- the links of a pool, and marks at statements with a post that unifies with no head
pub record IsStart (pool : List Posted) (links : List Link) (removed : List Bool) : Type 0 where
  pub room : length removed ≡ length pool
  pub sound : (link : Link) → Contains links link → IsLinkOf pool link
  pub asked : (place : ℕ) → place < length pool → IsAsked pool links place (slice_index_or removed place false)

-- the links of a pool, and marks at exactly the statements that don't remain
pub record AreRemoved (pool : List Posted) (links : List Link) (removed : List Bool) : Type 0 where
  pub room : length removed ≡ length pool
  pub sound : (link : Link) → Contains links link → IsLinkOf pool link
  pub complete : (place : ℕ) → place < length pool → slice_index_or removed place false ≡ false
      → HasLinks pool links place
  pub remain : (place : ℕ) (member : Posted) → At pool place member → slice_index_or removed place false ≡ false
      → IsInRemainder pool member
  pub gone : (place : ℕ) (member : Posted) → At pool place member → IsMarked removed place
      → IsInRemainder pool member → ⊥
