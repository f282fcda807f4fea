-- What may happen to a store and its claimants.
use Rattle.std.specs.Prelude.{◌≡◌, ◌≢◌, ◌+◌, ◌<◌, ℕ, List, [], ◌∷◌, ◌++◌, Some, None}
use Rattle.ent_lists.specs.Elements.{In}
use Rattle.ent_waiting.specs.Store.{Ended, Write, Version, Waits, Fits, version, claimed, written}
use Rattle.ent_waiting.specs.World.{World, Claimant, Standing, Free, Saving, Taken, created, begun, after_put}
use Rattle.ent_waiting.specs.World.{after_end, after_commit, MayEnd, asked, after_write}
use Rattle.ent_waiting.specs.World.{with_claimant, told}

module _ {T C S E : Type 0} where
  -- a process has this claim, and stands so
  pub record Stands (world : World T C S E) (claim : ℕ) (own : Claimant T C S E) (standing : Standing) : Type 0 where
    pub is : world.claimants claim ≡ Some own
    pub so : own.standing ≡ standing

  abbrev pub loaded : World T C S E → World T C S E
  loaded world =
      let store = claimed world.store in
      record (with_claimant store.claim (Some (begun store)) world) {
        store = store;
        versions = world.versions ++ version store ∷ [];
      }

  abbrev pub sending : ℕ → Claimant T C S E → World T C S E → World T C S E
  sending claim own world =
      record (with_claimant claim (Some (record own { standing = Saving })) world) {
        sent = world.sent ++ asked claim own ∷ [];
      }

  abbrev pub arrived : (C → T → T) → Write C S E → World T C S E → World T C S E
  arrived changed write world =
      let store = written changed write world.store in
      record world {
        store = store;
        versions = world.versions ++ version store ∷ [];
        history = world.history ++ write ∷ [];
      }

  abbrev pub acknowledging : ℕ → Claimant T C S E → World T C S E → World T C S E
  acknowledging claim own world =
      let known = told own.given own.ended (with_claimant claim (Some (after_write own)) world) in
      record known { acknowledged = world.acknowledged ++ record { claim = claim; write = own.write + 1 } ∷ [] }

  pub data Step (changed : C → T → T) (old : World T C S E) : World T C S E → Type 0 where
    -- a process claims the store, and begins from what it holds
    load : Step changed old (loaded old)
    -- a process ends at any time, and leaves what the store holds
    crash : (claim : ℕ) → Step changed old (with_claimant claim None old)
    -- somebody is told what stands in the store
    look : Step changed old (told old.store.waiting old.store.ended old)
    -- a room goes on in memory: a script is put, a ticket ends, or a group commits and with it end its members' tickets
    put : (claim : ℕ) (own : Claimant T C S E) (script : S) → Stands old claim own Free
        → Step changed old (with_claimant claim (Some (after_put script own)) old)
    end : (claim : ℕ) (own : Claimant T C S E) (one : Ended E) → Stands old claim own Free
        → Waits own.waiting one.ticket
        → Step changed old (with_claimant claim (Some (after_end one own)) old)
    commit : (claim : ℕ) (own : Claimant T C S E) (change : C) (members : List (Ended E)) → Stands old claim own Free
        → MayEnd members own.waiting
        → Step changed old (with_claimant claim (Some (after_commit changed change members own)) old)
    -- a claimant sends its write, for the first time or again
    send : (claim : ℕ) (own : Claimant T C S E) → old.claimants claim ≡ Some own → own.standing ≢ Taken
        → Step changed old (sending claim own old)
    -- a write that was sent at some time comes to the store and goes through; one that doesn't fit changes nothing
    arrive : (write : Write C S E) → In write old.sent → Fits old.store write
        → Step changed old (arrived changed write old)
    -- a claimant learns that the store came to its claim and the write that it sent: it tells what was written
    acknowledge : (claim : ℕ) (own : Claimant T C S E) → Stands old claim own Saving
        → In (record { claim = claim; write = own.write + 1 }) old.versions
        → Step changed old (acknowledging claim own old)
    -- it learns of a later claim, and stops
    fence : (claim : ℕ) (own : Claimant T C S E) (later : Version) → old.claimants claim ≡ Some own
        → In later old.versions
        → claim < later.claim
        → Step changed old (with_claimant claim (Some (record own { standing = Taken })) old)

  -- steps lead from one world to another
  pub data Leads (changed : C → T → T) (first : World T C S E) : World T C S E → Type 0 where
    stay : Leads changed first first
    onward : {mid last : World T C S E} → Leads changed first mid → Step changed mid last → Leads changed first last

  -- steps lead to it from an empty store, over these tables
  abbrev pub IsReached : (C → T → T) → T → World T C S E → Type 0
  IsReached changed tables world = (next : ℕ) × Leads changed (created tables next) world
