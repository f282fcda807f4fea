-- what is said of the plans that a search is given, passed on to those who search
pub use Rattle.ent_plan.specs.Plan.{AreKindedFor, HaveDistinctHeads, HaveNoPlan, Plan}
pub use Rattle.ent_plan.specs.Tables.{sources_of, source_tables}
