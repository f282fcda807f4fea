-- What an index keeps.
use Rattle.std.specs.Prelude.{◌<◌, ◌^◌, All}
use Rattle.std.specs.Map.{keys_of}
use Rattle.ent_meetings.specs.Postings.{IsPosted, Postings}
use Rattle.ent_meetings.specs.Waiting.{Waiting}

-- each who waits is posted with all offers and all demands, and nobody else is
pub record IsIndexed (waiting : Waiting) (offers demands : Postings) : Type 0 where
  pub by_offers : IsPosted (λ party. party.offers) waiting offers
  pub by_demands : IsPosted (λ party. party.demands) waiting demands
  pub tickets : All (λ ticket. ticket < 2 ^ 64) (keys_of waiting)
