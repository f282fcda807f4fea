-- what is passed on, of the crates below, to those that stand on this one
pub use Rattle.ent_admission.specs.Passed.{IsRenewed, begun, carried_over, rows_together}
pub use Rattle.ent_admission.specs.Admission.{IsAtRest}
