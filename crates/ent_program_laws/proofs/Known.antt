-- What the laws of the crates below say of reading, as the laws here need it.
use Rattle.std.proofs.Common.{◌≡◌, ◌≢◌, ℕ, List, [], Ok}
use Rattle.std.specs.List.{AllByRecursion}
use Rattle.ent_tree.specs.declared.declaration.Create.{Create}
use Rattle.ent_semantics.specs.declared.answer.Fact.{Fact}
use Rattle.ent_semantics.specs.declared.book.Fate.{Fate}
use Rattle.ent_history.specs.Fates.{transaction_at, transaction_text}
use Rattle.ent_history.specs.Heads.{heads_at, heads_line}
use Rattle.ent_history.specs.JointLines.{joint_at, joint_text}
use Rattle.ent_history.specs.Openings.{opening_at, opening_text}
use Rattle.ent_history.specs.Answers.{IsFact, IsFate}
use Rattle.ent_history.specs.Joints.{PlacesRise}
use Rattle.ent_history.specs.Opening.{IsDeclaration}
use Rattle.ent_history.specs.Parts.{IsNumber}
use Rattle.ent_history.proofs.Alone.{IsReadAgain}

-- scripts and lines that are written so are read again
pub record Known : Type 0 where
  pub scripts : IsReadAgain
  pub transactions : (tx : ℕ) (fate : Fate) → IsNumber tx → IsFate fate
      → transaction_at (transaction_text tx fate) ≡ Ok (tx, fate)
  pub openings : (create : Create) (count : ℕ) → IsDeclaration create → IsNumber count
      → opening_at (opening_text create count) ≡ Ok (create, count)
  pub heads : (place : ℕ) (facts : List Fact) → IsNumber place → facts ≢ [] → AllByRecursion IsFact facts
      → heads_at (heads_line place facts) ≡ Ok (place, facts)
  pub joints : (number : ℕ) (places : List (ℕ × ℕ)) → IsNumber number → places ≢ [] → PlacesRise places
      → joint_at (joint_text number places) ≡ Ok (number, places)
