-- The books of an input.
use Rattle.ent_tree.specs.declared.script.Input.{Input}
use Rattle.ent_semantics.specs.Book.{IsLegal}
use Rattle.ent_semantics.specs.Database.{Database}
use Rattle.ent_semantics.specs.declared.book.Book.{Book}
use Rattle.ent_protocol.specs.Reached.{IsFinishedBook, IsGathered}
use Rattle.ent_protocol_laws.specs.Fates.{HaveFates}
use Rattle.ent_headline.specs.Resolved.{resolved_forms}

-- A gathered finished book of an input: all its scripts were submitted, in order, before anything else, and events led
-- from there to a state in which no run is on and nobody waits for one. Each script has a fate, and the book is legal.
pub record IsBookOf (input : Input) (book : Book Database) : Type 0 where
  pub finished : IsFinishedBook resolved_forms input.opening input.scripts book
  pub gathered : IsGathered resolved_forms finished.last
  pub fates : HaveFates book
  pub legal : IsLegal book
