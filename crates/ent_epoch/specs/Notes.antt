-- What is noted of the commits of a core, and the groups that are made of it.
use Rattle.std.specs.Prelude.{◌≡◌, ℕ, Bool, true, List, [], ◌∷◌, ◌++◌}
use Rattle.std.specs.List.{flat_map}
use Rattle.ent_semantics.specs.Form.{Tables}
use Rattle.ent_form.specs.declared.fault.FormFault.{FormFault}
use Rattle.ent_protocol.specs.Event.{Reply}
use Rattle.ent_protocol.specs.Event as replies
use Rattle.ent_protocol.specs.Reached.{settled}
use Rattle.ent_sched.specs.Watching.{Heard}

-- a commit: the numbers of its entries in the journal, each with its transaction; and the settled tables behind it
pub record Note : Type 0 where
  pub entries : List (ℕ × ℕ)
  pub tables : Tables

-- what was noted, and whether it is all that there was
pub record Notes : Type 0 where
  pub notes : List Note
  pub is_whole : Bool

-- what is noted of an event and its reply
abbrev pub noted_of : Reply FormFault → Tables → List Note
noted_of (replies.Committed entries) tables = record { entries = entries; tables = tables } ∷ []
noted_of other tables = []

abbrev pub noted : Heard → List Note
noted heard = noted_of heard.one.1 (settled heard.after)

abbrev pub all_noted : List Heard → List Note
all_noted told = flat_map noted told

-- notes that are whole were so before, and go on by what is noted
abbrev pub Hears : Notes → Heard → Notes → Type 0
Hears old heard new = new.is_whole ≡ true → (old.is_whole ≡ true) × (new.notes ≡ old.notes ++ noted heard)
