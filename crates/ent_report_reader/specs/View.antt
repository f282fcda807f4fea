-- What is due, as the definition has it.
use Rattle.std.specs.Prelude.{◌≡◌, ℕ, ◌+◌, ◌<◌, List, [], reverse}
use Rattle.std.specs.List.{AllByRecursion}
use Rattle.ent_tree.specs.declared.limits.TheConstants.{MOST_OPENING_ROWS}
use Rattle.ent_report_reader.specs.declared.due.Due.{Due as Held}
use Rattle.ent_report_reader.specs.declared.due.Due.TheVariants as held
use Rattle.ent_report_reader.specs.Members.{AreNumbers}
use Rattle.ent_history.specs.Draft.{Due, Heading, Free, OpeningRows, AnswerRows, Members, TableRows, Ended}

abbrev pub due_of : Held → Due
due_of held.Heading = Heading
due_of held.Free = Free
due_of (held.OpeningRows more) = OpeningRows more
due_of (held.AnswerRows more) = AnswerRows more
due_of (held.Members tx place more) = Members tx place (reverse more.items)
due_of (held.TableRows more) = TableRows more
due_of held.Ended = Ended

-- how many rows are due of an opening that has so many, no more than it may have; and the places of members are numbers
abbrev pub HasRoom : Due → ℕ → Type 0
HasRoom (OpeningRows more) rows = rows + more < MOST_OPENING_ROWS
HasRoom (Members tx place more) rows = AreNumbers (tx, place) × AllByRecursion AreNumbers more
HasRoom other rows = Unit {0}

-- the member at this place is due
abbrev pub IsMemberAt : Due → ℕ × ℕ → Type 0
IsMemberAt (Members tx place more) at = (at.0 ≡ tx) × (at.1 ≡ place)
IsMemberAt other at = ⊥

abbrev pub NoMember : Due → Type 0
NoMember (Members tx place more) = ⊥
NoMember other = Unit {0}

-- the members behind the one that is due
abbrev pub members_behind : Due → List (ℕ × ℕ)
members_behind (Members tx place more) = more
members_behind other = []
