-- what is passed on, of the crates below, to those that stand on this one
pub use Rattle.ent_sched.specs.Passed.{kinds_of_table, resolved_forms}
pub use Rattle.ent_sched.specs.Onward.{LeadsOn}
pub use Rattle.ent_renewal.specs.Renewal.{IsRenewed, drained, rows_together}
