-- what is passed on, of the crates below, to those that stand on this one
pub use Rattle.ent_core.specs.Reply.{reply_seen}
pub use Rattle.ent_core.specs.Standing.{standing_seen}
pub use Rattle.ent_core.specs.declared.standing.Standing.{Standing}
