-- The entangled statements of a text, by place.
use Rattle.std.proofs.Common.{◌↔◌, ℕ, zero, suc, List, [], ◌∷◌, Contains, take, inl, inr, slice_get}
use Rattle.std.specs.List.{flat_map}
use Rattle.ent_lists.specs.Elements.{In, contains_in, in_contains, in_either, in_first, in_second, in_flat, to_flat}
use Rattle.ent_tree.specs.declared.script.Script.{Script}
use Rattle.ent_tree.specs.declared.script.Statement.{Statement}
use Rattle.ent_semantics.specs.Database.{Environment, nothing_bound}
use Rattle.ent_meetings.specs.Known.{known_after}
use Rattle.ent_meetings.specs.Party.{TextView, text_view, text_views}
use Rattle.ent_meetings.specs.declared.pattern.Pattern.{Pattern}
use Rattle.ent_program_laws.specs.Known.{known_after_all, view_at, viewed}

-- the statement behind so many others, with what is known before it
abbrev view_behind : Environment → List Statement → ℕ → List TextView
view_behind known statements earlier =
    viewed (known_after_all known (take earlier statements)) (slice_get statements earlier)

has_place : (known : Environment) (statements : List Statement) (view : TextView)
    → In view (text_views known statements) → (earlier : ℕ) × In view (view_behind known statements earlier)
has_place known [] view at = absurd at
has_place known (statement ∷ more) view at =
    elim (in_either (text_view known statement) (text_views (known_after known statement) more) view at) [
      | inl here ↦ (0, here)
      | inr later ↦ let r = has_place (known_after known statement) more view later in (suc r.0, r.1)
    ]

stands : (known : Environment) (statements : List Statement) (view : TextView) (earlier : ℕ)
    → In view (view_behind known statements earlier) → In view (text_views known statements)
stands known [] view earlier at = absurd at
stands known (statement ∷ more) view zero at =
    in_first (text_view known statement) (text_views (known_after known statement) more) view at
stands known (statement ∷ more) view (suc earlier) at =
    in_second (text_view known statement) (text_views (known_after known statement) more) view
    (stands (known_after known statement) more view earlier at)

-- what each entangled statement gives by its text
module _ (given : TextView → List Pattern) (script : Script) (pattern : Pattern) where
  pub of_place : Contains (flat_map given (text_views nothing_bound script.statements)) pattern
      → (place : ℕ) × Contains (flat_map given (view_at script place)) pattern
  of_place has =
      let from = in_flat given (text_views nothing_bound script.statements) pattern
      (contains_in (flat_map given (text_views nothing_bound script.statements)) pattern has) in
      let there = has_place nothing_bound script.statements from.0 from.1 in (
        suc there.0,
        in_contains (flat_map given (view_at script (suc there.0))) pattern
            (to_flat given (view_at script (suc there.0)) from.0 pattern there.1 from.2),
      )

  pub of_script : (place : ℕ) → Contains (flat_map given (view_at script place)) pattern
      → Contains (flat_map given (text_views nothing_bound script.statements)) pattern
  of_script zero has = absurd (contains_in (flat_map given (view_at script zero)) pattern has)
  of_script (suc earlier) has =
      let from = in_flat given (view_at script (suc earlier)) pattern
      (contains_in (flat_map given (view_at script (suc earlier))) pattern has) in
      in_contains (flat_map given (text_views nothing_bound script.statements)) pattern
      (to_flat given (text_views nothing_bound script.statements) from.0 pattern
      (stands nothing_bound script.statements from.0 earlier from.1) from.2)

  pub given_by_places : Contains (flat_map given (text_views nothing_bound script.statements)) pattern
      ↔ ((place : ℕ) × Contains (flat_map given (view_at script place)) pattern)
  given_by_places = (of_place, λ at. of_script at.0 at.1)
