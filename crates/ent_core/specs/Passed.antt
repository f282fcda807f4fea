-- what is passed on, of the crates below, to those that stand on this one
pub use Rattle.ent_headline.specs.Resolved.{resolved_forms}
