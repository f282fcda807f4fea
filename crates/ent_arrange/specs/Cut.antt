-- The pieces of a text.
use Rattle.std.specs.Prelude.{ℕ, ◌++◌, List}
use Rattle.std.specs.List.{flat_map}
use denote.Ref.{Bor}
use Rattle.ent_arrange.specs.declared.cut.Cut.{Cut}

-- pieces, one behind the other
abbrev pub side_by_side : List (Bor (List ℕ)) → List ℕ
side_by_side pieces = flat_map (λ piece. piece.now) pieces

-- the text of which these are the pieces
abbrev pub joined : Cut → List ℕ
joined cut = cut.opening.now ++ (side_by_side cut.scripts.items ++ cut.rest.now)
