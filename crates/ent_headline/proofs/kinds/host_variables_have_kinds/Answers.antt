use Rattle.ent_headline.proofs.kinds.host_variables_have_kinds.Goals as goal

pub returns : goal.returns
returns c s member e reached there = (c.resolved_runs_keep_kinds.ensures s e reached).variables member there
