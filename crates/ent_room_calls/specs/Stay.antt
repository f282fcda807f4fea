-- How long a script waits, by numbers.
use Rattle.std.specs.Prelude.{◌≡◌, ◌⊎◌, ◌<ℤ◌, ℤ, pos, negsuc}
use Rattle.ent_room.specs.declared.putting.Stay.{Stay}
use Rattle.ent_room.specs.declared.putting.Stay.TheVariants.{AsWritten, Batches, UntilWithdrawn}
use Rattle.ent_tree.specs.declared.limits.TheConstants.{MOST_RUNS}

-- -1: as it is written; 0: until it is withdrawn; else in so many batches
abbrev pub IsStay : ℤ → Stay → Type 0
IsStay number AsWritten = number ≡ negsuc 0
IsStay number UntilWithdrawn = number ≡ pos 0
IsStay number (Batches most) = number ≡ pos most

-- below -1, or more than the runs that a WITHIN may ask for
abbrev pub IsNoStay : ℤ → Type 0
IsNoStay number = (number <ℤ negsuc 0) ⊎ (pos MOST_RUNS <ℤ number)
