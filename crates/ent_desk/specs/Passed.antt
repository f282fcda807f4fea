-- what is passed on, of the crates below, to those that stand on this one
pub use Rattle.ent_core.specs.Passed.{resolved_forms}
pub use Rattle.ent_core.specs.Book.{IsBookOf}
