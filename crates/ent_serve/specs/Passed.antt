-- what is passed on, of the crates below, to those that stand on this one
pub use Rattle.ent_desk.specs.Passed.{IsBookOf}
