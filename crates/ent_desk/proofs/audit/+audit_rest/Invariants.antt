use Rattle.std.proofs.Common.{length}
use Rattle.ent_desk.proofs.audit.+audit_rest.Given as goal

abbrev pub decreases-audit_rest : goal.decreases-audit_rest
decreases-audit_rest g l = length l.rest.now
