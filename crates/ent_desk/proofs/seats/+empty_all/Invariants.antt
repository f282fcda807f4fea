use Rattle.std.proofs.Common.{length}
use Rattle.ent_desk.proofs.seats.+empty_all.Given as goal

abbrev pub decreases-empty_all : goal.decreases-empty_all
decreases-empty_all g l = length l.sessions.now
