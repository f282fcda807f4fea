-- What the text of a script knows at each of its places, and where that is so.
use Rattle.std.specs.Prelude.{◌≡◌, ℕ, zero, suc, List, [], ◌∷◌, Option, Some, None, take}
use Rattle.std.specs.List.{flat_map}
use Rattle.ent_value.specs.declared.value.Value.{Value}
use Rattle.ent_tree.specs.declared.script.Script.{Script}
use Rattle.ent_tree.specs.declared.script.Statement.{Statement}
use Rattle.ent_tree.specs.declared.script.Statement.TheVariants.{Entangled}
use Rattle.ent_semantics.specs.Database.{Name, Environment, nothing_bound}
use Rattle.ent_semantics.specs.Serial.{ReadView, numbered}
use Rattle.ent_meetings.specs.Known.{known_after}
use Rattle.ent_meetings.specs.Party.{TextView, text_view, view_demands, view_offers}
use Rattle.ent_meetings.specs.declared.pattern.Pattern.{Pattern}

-- each host variable that is known has that value
abbrev pub Agrees : Environment → Environment → Type 0
Agrees known environment =
    (variable : Name) (value : Value) → known variable ≡ Some value → environment variable ≡ Some value

abbrev pub known_after_all : Environment → List Statement → Environment
known_after_all known [] = known
known_after_all known (statement ∷ more) = known_after_all (known_after known statement) more

-- what is known before the statement of a place; places count from 1
abbrev pub known_before : Script → ℕ → Environment
known_before script zero = nothing_bound
known_before script (suc earlier) = known_after_all nothing_bound (take earlier script.statements)

abbrev pub viewed : Environment → Option Statement → List TextView
viewed known (Some statement) = text_view known statement
viewed known None = []

-- the statement of a place, where it is an entangled one, with what is known before it
abbrev pub view_at : Script → ℕ → List TextView
view_at script place = viewed (known_before script place) (numbered script.statements place)

-- what it offers
abbrev pub offers_at : Script → ℕ → List Pattern
offers_at script place = flat_map view_offers (view_at script place)

-- what it demands
abbrev pub demands_at : Script → ℕ → List Pattern
demands_at script place = flat_map view_demands (view_at script place)

-- what a script sees at the place of an entangled statement agrees with what its text knows there
pub record IsKnownThere (script : Script) (read_view : ReadView) : Type 0 where
  pub statement : numbered script.statements read_view.place ≡ Some (Entangled read_view.entangled)
  pub agrees : Agrees (known_before script read_view.place) read_view.environment
