-- What may happen to a store and its claimants.
use Rattle.std.specs.Prelude.{◌≡◌, ◌⊎◌, ◌+◌, ℕ, List, [], ◌∷◌, ◌++◌, Option, Some, None}
use Rattle.ent_lists.specs.Elements.{In}
use Rattle.ent_claim_laws.specs.Claims.{Claimant, Held, World, created, with_claimant, written}

module _ {X : Type 0} where
  -- a process claims the store, and begins from what it holds
  abbrev pub loaded : ℕ → World X → World X
  loaded token world =
      let held = written token world.store.version.number world.store.content in
      let own : Claimant X = record {
        number = world.store.version.number;
        content = world.store.content;
        pending = None;
      } in
      record world {
        store = held;
        was = held ∷ world.was;
        drawn = token ∷ world.drawn;
        claimants = with_claimant token (Some own) world.claimants;
      }

  -- the write that it sent last, again; or another one, where it knows what became of that
  abbrev pub MaySend : Claimant X → X → Type 0
  MaySend own content = (own.pending ≡ None) ⊎ (own.pending ≡ Some content)

  abbrev pub sending : ℕ → Claimant X → X → World X → World X
  sending token own content world =
      record world {
        sent = written token (own.number + 1) content ∷ world.sent;
        claimants = with_claimant token (Some (record own { pending = Some content })) world.claimants;
      }

  -- a write goes through if the store has its token, and the write before
  pub record Fits (store write : Held X) : Type 0 where
    pub token : write.version.token ≡ store.version.token
    pub number : write.version.number ≡ store.version.number + 1

  -- it knows that its write went through
  abbrev pub learning : ℕ → Claimant X → X → World X → World X
  learning token own content world =
      let knows : Claimant X = record { number = own.number + 1; content = content; pending = None } in
      record world { claimants = with_claimant token (Some knows) world.claimants }

  pub data Step (old : World X) : World X → Type 0 where
    -- nobody drew this token before
    load : (token : ℕ) → (In token old.drawn → ⊥) → Step old (loaded token old)
    -- a process ends at any time
    crash : (token : ℕ) → Step old (record old { claimants = with_claimant token None old.claimants })
    send : (token : ℕ) (own : Claimant X) (content : X) → old.claimants token ≡ Some own → MaySend own content
        → Step old (sending token own content old)
    -- a write that was sent at some time comes to the store
    arrive : (write : Held X) → In write old.sent → Fits old.store write
        → Step old (record old { store = write; was = write ∷ old.was })
    -- a process learns that the store came to the version of the write that it sent
    learn : (token : ℕ) (own : Claimant X) (content : X) (held : Held X) → old.claimants token ≡ Some own
        → own.pending ≡ Some content
        → In held old.was
        → held.version ≡ record { token = token; number = own.number + 1 }
        → Step old (learning token own content old)
    -- the store goes back to what it held once
    back : (held : Held X) → In held old.was → Step old (record old { store = held })

  -- steps lead from one world to another
  pub data Leads (first : World X) : World X → Type 0 where
    stay : Leads first first
    onward : {mid last : World X} → Leads first mid → Step mid last → Leads first last

  -- steps lead to it from a store that nobody claimed
  abbrev pub IsReached : X → World X → Type 0
  IsReached content world = Leads (created content) world
