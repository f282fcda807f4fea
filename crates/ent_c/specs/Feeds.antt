-- What C's calls do with the feed of a room.
use Rattle.std.specs.Prelude.{◌≡◌, ℕ}
use Rattle.ent_feed.specs.Feed.{behind}
use Rattle.ent_room.specs.Room.{Room}

-- the groups up to this number are kept no longer, and nothing else changes
pub record SettlesThrough (number : ℕ) (old new : Room) : Type 0 where
  pub groups : new.admission.feed.groups ≡ behind number old.admission.feed.groups
  pub next : new.admission.feed.next ≡ old.admission.feed.next
  pub rest : new ≡ record old { admission = record old.admission { feed = new.admission.feed } }
