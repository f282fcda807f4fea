-- what a core is after an input's scripts were submitted, and what a book of an input is, passed on to those who run it
pub use Rattle.ent_core.specs.Book.{IsBookOf}
pub use Rattle.ent_core.specs.Play.{AreSubmitted}
