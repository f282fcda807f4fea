-- What look-ups and receipts tell of fates.
use Rattle.std.specs.Prelude.{Option, Some, None}
use Rattle.ent_semantics.specs.declared.book.Fate.{Fate}
use Rattle.ent_semantics.specs.declared.book.Fate.TheVariants as fates
use Rattle.ent_protocol.specs.Lookup.{Standing, Finished}
use Rattle.ent_desk.specs.declared.ticket.Receipt.{Receipt}

-- the fate of a transaction that is finished
abbrev pub fate_in : Option Standing → Option Fate
fate_in (Some (Finished fate)) = Some fate
fate_in (Some other) = None
fate_in None = None

-- the fate that a receipt tells of
abbrev pub fate_of : Receipt → Fate
fate_of receipt = fates.Committed receipt.number receipt.runs
