-- Under which keys a pattern is posted: one for each place, of what is known there, and one that all patterns of its
-- relation and length share. That a key is a hash of these matters for speed alone.
use Rattle.std.specs.Prelude.{ℕ, zero, suc, ◌==◌, Bool, false, ◌||◌, List, [], ◌∷◌, ◌++◌, length, slice_index_or}
use Rattle.std.specs.Prelude.{Option, Some, None, fold}
use Rattle.std.specs.Hash as fed
use Rattle.std.specs.Hash.FoldHasher as folding
use Rattle.std.specs.List.{list_any}
use Rattle.ent_value.specs.declared.value.Value.{Value}
use Rattle.ent_value.specs.declared.value.Value.TheVariants.{Int, Text}
use Rattle.ent_semantics.specs.Database.{Name}
use Rattle.ent_meetings.specs.declared.pattern.Pattern.{Pattern}

-- the bytes that are hashed for what is known of a term
abbrev pub hashed_term : Option Value → List (List ℕ)
hashed_term None = fed.u8 0
hashed_term (Some (Int number)) = fed.u8 1 ++ fed.i64 number
hashed_term (Some (Text bytes)) = fed.u8 2 ++ bytes ∷ []

-- the key of what is known at a place of a pattern of a relation and a length
unfoldable pub key : Name → ℕ → ℕ → Option Value → ℕ
key relation length place term = folding.finish
    (fold folding.write folding.initial (relation ∷ (fed.usize length ++ fed.usize place ++ hashed_term term)))

-- the key of a place of the pattern; behind its last term nothing is known, so all of its relation and length have
-- one key there
abbrev pub key_at : Pattern → ℕ → ℕ
key_at pattern place =
    key pattern.relation (length pattern.terms) place (slice_index_or pattern.terms place None)

-- the key of the place where nothing is known of it
abbrev pub unknown_at : Pattern → ℕ → ℕ
unknown_at pattern place = key pattern.relation (length pattern.terms) place None

-- one of the first places of the pattern, this many, has the key
abbrev pub has_key_below : Pattern → ℕ → ℕ → Bool
has_key_below pattern zero key = false
has_key_below pattern (suc place) key = (key_at pattern place == key) || has_key_below pattern place key

-- the pattern is posted under the key
abbrev pub has_key : ℕ → Pattern → Bool
has_key key pattern = has_key_below pattern (suc (length pattern.terms)) key

-- one of the patterns is
abbrev pub have_key : List Pattern → ℕ → Bool
have_key patterns key = list_any (has_key key) patterns
