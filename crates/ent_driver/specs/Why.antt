-- What keeps a transaction from moving, told in a line.
use Rattle.std.specs.Prelude.{◌≡◌, ◌⊎◌, ◌+◌, ℕ, Bool, true, false, List, [], ◌∷◌, ◌++◌, Option, Some, None}
use Rattle.std.specs.Prelude.{codes, slice_get}
use Rattle.std.specs.List.{filter}
use Rattle.std.specs.Fmt.{decimal}
use Rattle.ent_value.specs.declared.value.Value.{Value}
use Rattle.ent_tree.specs.declared.declaration.Create.{Create}
use Rattle.ent_tree.specs.declared.declaration.Opening.{Opening}
use Rattle.ent_lock.specs.declared.mode.Mode.{Mode}
use Rattle.ent_lock.specs.declared.mode.Mode.TheVariants.{Shared, Exclusive}
use Rattle.ent_semantics.specs.declared.entangled.Atom.{Atom}
use Rattle.ent_semantics.specs.Pool.{Posted, Unsafe}
use Rattle.ent_match.specs.Demand.{IsDemand}
use Rattle.ent_match.specs.declared.demand.Demand.{Demand}
use Rattle.ent_match.specs.declared.demand.Demand.TheVariants.{Met, Unmet}
use Rattle.ent_members.specs.declared.conflict.Conflict.{Conflict}
use Rattle.ent_reasons.specs.Demand.{demand_text, known_value}
use Rattle.ent_book.specs.Report.{after_text, fate_text, line}
use Rattle.ent_core.specs.Obstacle.{IsBetween, IsObstacle, IsOf}
use Rattle.ent_core.specs.declared.obstacle.Obstacle.{Obstacle}
use Rattle.ent_core.specs.declared.obstacle.Obstacle.TheVariants as obstacles
use Rattle.ent_protocol.specs.Lookup.{Standing, Dormant, Prepared, Finished}
use Rattle.ent_protocol.specs.Lookup.{group_of, standing}
use Rattle.ent_protocol.specs.Member.{pool}
use Rattle.ent_protocol.specs.State.{State}
use Rattle.ent_driver.specs.Drives.{OfOpen}
use Rattle.ent_driver.specs.declared.driver.Driver.{Driver}
use Rattle.ent_driver.specs.declared.driver.Driver.TheVariants as drivers
use Rattle.ent_driver.specs.declared.fault.DriverFault.{DriverFault}
use Rattle.ent_driver.specs.declared.fault.DriverFault.TheVariants.{Memory, Absent}

-- ---- transactions and tables

abbrev pub tx_text : ℕ → List ℕ
tx_text tx = codes "tx " ++ decimal tx

-- transactions after the first, each behind a comma and a space
abbrev pub more_txs_text : List ℕ → List ℕ
more_txs_text [] = []
more_txs_text (tx ∷ more) = codes ", " ++ (tx_text tx ++ more_txs_text more)

abbrev pub txs_text : List ℕ → List ℕ
txs_text [] = []
txs_text (tx ∷ more) = tx_text tx ++ more_txs_text more

abbrev pub mode_text : Mode → List ℕ
mode_text Shared = codes "shared"
mode_text Exclusive = codes "exclusively"

abbrev pub name_text : Option Create → List ℕ
name_text (Some create) = create.name.name
name_text None = codes ".."

-- the name of the table of a number
abbrev pub table_name : Opening → ℕ → List ℕ
table_name opening table = name_text (slice_get opening.tables table)

-- ---- obstacles

-- the demand of an index, which counts from 0, by its number and as it is written
abbrev pub numbered_demand : ℕ → Option (Atom Value) → List ℕ
numbered_demand index (Some post) =
    decimal (index + 1) ++ (codes ", " ++ demand_text known_value post.relation post.terms)
numbered_demand index None = codes ".."

-- a demand that nobody offers, or who offers each
abbrev pub posted_text : Posted → Demand → List ℕ
posted_text query (Unmet index) =
    codes "posted, and nobody offers a match for its demand "
    ++ numbered_demand index (slice_get query.statement.posts index)
posted_text query (Met []) = codes "posted, and it demands nothing"
posted_text query (Met (tx ∷ more)) = codes "posted, and each of its demands is offered, by " ++ txs_text (tx ∷ more)

-- which table is held in conflict, and how it is wanted
abbrev pub held_text : Opening → Option Conflict → List ℕ
held_text opening (Some between) =
    table_name opening between.table
    ++ (codes " " ++ (mode_text between.held ++ (codes "; the statement uses it " ++ mode_text between.asked)))
held_text opening None = codes "a table that it uses"

abbrev pub blocked_text : Opening → ℕ → Option Conflict → List ℕ
blocked_text opening holder between =
    codes "blocked by " ++ (tx_text holder ++ (codes ", which holds " ++ held_text opening between))

-- the number of a post, and whose it is
abbrev pub post_text : Unsafe → List ℕ
post_text fault = decimal (fault.index + 1) ++ (codes " of " ++ tx_text fault.asker)

abbrev pub both_text : ℕ → ℕ → List ℕ
both_text first second = tx_text first ++ (codes " and " ++ tx_text second)

-- the two that offer what it demands
abbrev pub offers_text : ℕ → ℕ → List ℕ
offers_text first second = codes " would meet offers of two, " ++ both_text first second

abbrev pub held_back_text : Unsafe → List ℕ
held_back_text fault = codes "held back, since demand " ++ (post_text fault ++ offers_text fault.first fault.second)

abbrev pub isnt_prepared : Option Standing → Bool
isnt_prepared (Some Prepared) = false
isnt_prepared other = true

-- those of a member's group that aren't prepared
abbrev pub waited_for : State → ℕ → List ℕ
waited_for s tx = filter (λ other. isnt_prepared (standing s other)) (group_of s tx)

abbrev pub dormant_text : ℕ → List ℕ
dormant_text runs = codes "dormant" ++ (after_text runs ++ codes ", and waits for a run")

-- where a transaction stands that is no member of a run
abbrev pub SaysOutside : Option Standing → List ℕ → Type 0
SaysOutside (Some (Dormant runs)) words = words ≡ dormant_text runs
SaysOutside (Some (Finished fate)) words = words ≡ fate_text fate
SaysOutside other words = ⊥

-- what is said of an obstacle; there is none where a begin of the member would get on
abbrev pub Says : State → ℕ → Option Obstacle → List ℕ → Type 0
Says s tx (Some obstacles.Absent) words = SaysOutside (standing s tx) words
Says s tx (Some (obstacles.Posted demand)) words =
    (query : Posted) × IsOf (pool s) tx query × IsDemand (pool s) query demand × (words ≡ posted_text query demand)
Says s tx (Some obstacles.Out) words = words ≡ codes "out, and the result of its job is awaited"
Says s tx (Some obstacles.Prepared) words = words ≡ codes "prepared, and waits for " ++ txs_text (waited_for s tx)
Says s tx (Some (obstacles.Blocked holder)) words =
    (between : Option Conflict) × IsBetween s tx holder between × (words ≡ blocked_text s.opening holder between)
Says s tx (Some (obstacles.HeldBack fault)) words = words ≡ held_back_text fault
Says s tx None words = words ≡ codes "ready, and nothing blocks it"

-- What keeps a transaction from moving, and the line that says it.
pub record TellsWhy (s : State) (tx : ℕ) (text : List ℕ) : Type 0 where
  pub obstacle : Option Obstacle
  pub is : IsObstacle s tx obstacle
  pub words : List ℕ
  pub says : Says s tx obstacle words
  pub is_line : text ≡ line words

-- memory ran out, or no script has the number
abbrev pub IsUntold : State → ℕ → DriverFault → Type 0
IsUntold s tx fault = (fault ≡ Memory) ⊎ ((fault ≡ Absent) × (standing s tx ≡ None))

-- ---- of a driver

abbrev pub Explains : Driver → ℕ → List ℕ → Type 0
Explains driver tx text = (s : State) × (driver ≡ drivers.Open s) × TellsWhy s tx text

abbrev pub IsUnexplained : Driver → ℕ → DriverFault → Type 0
IsUnexplained driver tx fault = OfOpen driver fault (λ s. IsUntold s tx fault)
