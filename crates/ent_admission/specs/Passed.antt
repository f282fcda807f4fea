-- what is passed on, of the crates below, to those that stand on this one
pub use Rattle.ent_epoch.specs.Passed.{IsRenewed, drained, kinds_of_table, resolved_forms, rows_together}
pub use Rattle.ent_epoch.specs.Epoch.{Epoch, begun, carried_over}
pub use Rattle.ent_epoch.specs.declared.turn.NotTurned.TheVariants.{Busy, NoNumber, TooManyRows}
