-- What a store holds, and the processes that claimed it.
use Rattle.std.specs.Prelude.{◌==◌, ℕ, List, [], ◌∷◌, ◌++◌, Option, Some, None, if◌then◌else◌}

-- who claimed the store, by a random token, and how many writes went through
pub record Version : Type 0 where
  pub token : ℕ
  pub number : ℕ

-- what the store holds under a version: its tables, who waits, how tickets ended
pub record Held (X : Type 0) : Type 0 where
  pub version : Version
  pub content : X

-- a process that claimed the store: the last write that it knows of, what the store held then, and what the write that
-- it sent since would make of it
pub record Claimant (X : Type 0) : Type 0 where
  pub number : ℕ
  pub content : X
  pub pending : Option X

pub record World (X : Type 0) : Type 0 where
  pub store : Held X
  -- all that the store ever held
  pub was : List (Held X)
  -- each write that was ever sent, by what it would make of the store
  pub sent : List (Held X)
  -- the tokens that were drawn
  pub drawn : List ℕ
  -- by their tokens, but for those whose process has crashed
  pub claimants : ℕ → Option (Claimant X)

-- what a write of a claimant makes of the store
abbrev pub written : {X : Type 0} → ℕ → ℕ → X → Held X
written token number content = record { version = record { token = token; number = number }; content = content }

-- a token's process has this in memory from now on
abbrev pub with_claimant : {X : Type 0} → ℕ → Option (Claimant X) → (ℕ → Option (Claimant X)) → ℕ → Option (Claimant X)
with_claimant token own others other = if other == token then own else others other

-- nobody has claimed the store yet
abbrev pub created : {X : Type 0} → X → World X
created content =
    record {
      store = written 0 0 content;
      was = written 0 0 content ∷ [];
      sent = [];
      drawn = 0 ∷ [];
      claimants = λ token. None;
    }
