-- A member prepares, and its group commits.
use Rattle.std.specs.Prelude.{ℕ, suc, Bool, not, List, [], ◌∷◌, ◌++◌, map, length}
use Rattle.std.specs.List.{filter, list_any}
use Rattle.ent_semantics.specs.declared.book.Entry.{Entry}
use Rattle.ent_semantics.specs.declared.book.Fate.TheVariants.{Committed}
use Rattle.ent_semantics.specs.declared.book.Fated.{Fated}
use Rattle.ent_protocol.specs.Member.{is_of, is_tx}
use Rattle.ent_protocol.specs.Rollback.{is_among}
use Rattle.ent_protocol.specs.State.{State, Member}

-- a member is prepared, the last so far
abbrev pub preparing : State → Member → State
preparing s member =
    record s {
      prepared = s.prepared ++ member ∷ [];
      active = filter (λ other. not (is_tx member.tx other)) s.active;
    }

-- every member of a group is prepared
abbrev pub is_ready : State → ℕ → Bool
is_ready s group = not (list_any (is_of group) s.active)

abbrev pub entry_of : Member → Entry
entry_of member = record { tx = member.tx; answers = member.answers }

-- the fates of members that commit, the first entry having this number
abbrev pub commit_fates : ℕ → List Member → List Fated
commit_fates number [] = []
commit_fates number (member ∷ more) =
    record { tx = member.tx; fate = Committed number member.attempt } ∷ commit_fates (suc number) more

-- the numbers of the entries, and whose they are
abbrev pub commit_numbers : ℕ → List Member → List (ℕ × ℕ)
commit_numbers number [] = []
commit_numbers number (member ∷ more) = (number, member.tx) ∷ commit_numbers (suc number) more

-- the prepared members of a group, in order of preparing
abbrev pub committing_members : State → ℕ → List Member
committing_members s group = filter (is_of group) s.prepared

-- A group commits: its members get their journal entries in order of preparing, with consecutive numbers; its uses are
-- dropped. Its joint answers stay where they stand, and are live no more, since their members are no members any more.
abbrev pub committing : State → ℕ → State
committing s group =
    let gone = committing_members s group in
    record s {
      prepared = filter (λ member. not (is_of group member)) s.prepared;
      changes = filter (λ change. not (is_among gone change.tx)) s.changes;
      journal = s.journal ++ map entry_of gone;
      fates = s.fates ++ commit_fates (suc (length s.journal)) gone;
    }
