-- The uses of tables, and who is in conflict.
use Rattle.std.specs.Prelude.{ℕ, Bool, not, ◌&&◌, ◌==◌, List, [], ◌∷◌, ◌++◌, map, Option, Some, None, nat_lt}
use Rattle.std.specs.Prelude.{if◌then◌else◌}
use Rattle.std.specs.List.{filter, flat_map, list_any}
use Rattle.ent_lock.specs.declared.mode.Mode.TheVariants.{Shared, Exclusive}
use Rattle.ent_lock.specs.Mode.{in_conflict}
use Rattle.ent_semantics.specs.declared.entangled.Entangled.{Entangled}
use Rattle.ent_semantics.specs.declared.entangled.Membership.{Membership}
use Rattle.ent_semantics.specs.declared.statement.Statement.{Statement}
use Rattle.ent_semantics.specs.declared.statement.Statement.TheVariants as statements
use Rattle.ent_protocol.specs.State.{State, Member, Use}

abbrev pub shared : ℕ → Use
shared table = record { table = table; mode = Shared }

abbrev pub exclusive : ℕ → Use
exclusive table = record { table = table; mode = Exclusive }

abbrev pub membership_uses : {K : Type 0} → Membership K → List Use
membership_uses membership = map shared membership.select.sources

-- an entangled statement uses the sources of its sub-selects shared
abbrev pub entangled_uses : {K : Type 0} → Entangled K → List Use
entangled_uses entangled = flat_map membership_uses entangled.atoms

-- a SELECT uses its sources shared; INSERT, DELETE and UPDATE their table exclusively; a SET nothing; whatever its
-- operands are
abbrev pub statement_uses : {K : Type 0} → Statement K → List Use
statement_uses (statements.Select select) = map shared select.sources
statement_uses (statements.Entangled entangled) = entangled_uses entangled
statement_uses (statements.Insert table values) = exclusive table ∷ []
statement_uses (statements.Delete table tests) = exclusive table ∷ []
statement_uses (statements.Update table image tests) = exclusive table ∷ []
statement_uses (statements.Set variable expression) = []

-- two uses of one table conflict where one is exclusive
abbrev pub uses_conflict : Use → Use → Bool
uses_conflict one other = (one.table == other.table) && in_conflict one.mode other.mode

-- some use conflicts with one that a member holds
abbrev pub is_conflicting : List Use → Member → Bool
is_conflicting asked holder = list_any (λ own. list_any (uses_conflict own) holder.uses) asked

-- all members but the asker and the prepared ones of its own group, which it may pass
abbrev pub not_passed : State → Member → List Member
not_passed s asker =
    filter (λ holder. not (holder.group == asker.group)) s.prepared
    ++ filter (λ holder. not (holder.tx == asker.tx)) s.active

-- those of them that hold a conflicting use
abbrev pub conflicting : State → Member → List Use → List Member
conflicting s asker asked = filter (is_conflicting asked) (not_passed s asker)

-- the least of some numbers
abbrev pub least : List ℕ → Option ℕ
least [] = None
least (n ∷ ns) = Some (lesser n (least ns))
  where
    lesser : ℕ → Option ℕ → ℕ
    lesser n None = n
    lesser n (Some m) = if nat_lt n m then n else m

-- the least transaction that is in conflict
abbrev pub blocker : State → Member → List Use → Option ℕ
blocker s asker asked = least (map (λ holder. holder.tx) (conflicting s asker asked))
