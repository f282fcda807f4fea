-- what is passed on, of the crates below, to those that stand on this one
pub use Rattle.ent_core.specs.Passed.{resolved_forms}
pub use Rattle.ent_core.specs.Kinds.{kinds_of_table}
pub use Rattle.ent_core.specs.Reply.{numbered_from, reply_seen}
pub use Rattle.ent_core.specs.declared.closing.NotDone.{NotDone}
