use Rattle.ent_match.proofs.offers.fault_if.Goals as goal

pub returns-else-is_contested : goal.returns-else-is_contested
returns-else-is_contested c = c.requires.uncontested c.if-is_contested.false
