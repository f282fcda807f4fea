-- Members that are apart have no uses in conflict.
use Rattle.std.proofs.Common.{◌≡◌, ◌⊎◌, ◌==◌, Bool, true, false, ◌&&◌, ap, ◌∙◌, refl, inl, inr, Contains}
use Rattle.ent_lock.specs.Mode.{in_conflict, mode_rank}
use Rattle.ent_lock.specs.declared.mode.Mode.{Mode}
use Rattle.ent_lock.specs.declared.mode.Mode.TheVariants.{Shared, Exclusive}
use Rattle.ent_protocol.specs.State.{State, Member, Use, members}
use Rattle.ent_protocol_laws.specs.Faithful.{is_used}
use Rattle.ent_protocol_laws.specs.Present.{AreApart, UsesAreApart}
use Rattle.ent_protocol_laws.specs.Conflicts.{AreInConflict, ConflictsStandInGroups}
use Rattle.ent_lists.specs.Elements.{any_in, clash, in_either}
use Rattle.ent_lists.specs.Elements.{contains_in, in_contains, same_number, number_itself, and_both}

-- of two uses in conflict one is exclusive
one_exclusive : (one other : Mode) → in_conflict one other ≡ true
    → ((mode_rank one == 1) ≡ true) ⊎ ((mode_rank other == 1) ≡ true)
one_exclusive Shared Shared e = cc (e)
one_exclusive Shared Exclusive e = inr refl
one_exclusive Exclusive other e = inl refl

no_conflict : (one other : Member) → AreApart one other → AreInConflict one other → ⊥
no_conflict one other apart conflict =
    let two = and_both (conflict.first.table == conflict.second.table)
    (in_conflict conflict.first.mode conflict.second.mode) conflict.conflict in
    let table = conflict.first.table in
    let same : (conflict.second.table == table) ≡ true =
    ap (λ n. conflict.second.table == n) (same_number table conflict.second.table two.0)
    ∙ number_itself conflict.second.table in
    let here = contains_in one.uses conflict.first conflict.of_one in
    let there = contains_in other.uses conflict.second conflict.of_other in
    elim (one_exclusive conflict.first.mode conflict.second.mode two.1) [
      | inl owned ↦ clash (is_used other.uses table)
          (any_in (λ (own : Use). own.table == table) other.uses conflict.second there same)
          ((apart table).0 (any_in (λ (own : Use). (own.table == table) && (mode_rank own.mode == 1)) one.uses
          conflict.first here ((λ i. number_itself table i && (mode_rank conflict.first.mode == 1)) ∙ owned)))
      | inr owned ↦ clash (is_used one.uses table)
          (any_in (λ (own : Use). own.table == table) one.uses conflict.first here (number_itself table))
          ((apart table).1 (any_in (λ (own : Use). (own.table == table) && (mode_rank own.mode == 1)) other.uses
          conflict.second there ((λ i. same i && (mode_rank conflict.second.mode == 1)) ∙ owned)))
    ]

module _ (s : State) (apart : UsesAreApart s) where
  one_group : (one other : Member) → Contains (members s) one → Contains (members s) other
      → AreInConflict one other → one.group ≡ other.group
  one_group one other at bt conflict = by (one.group == other.group) refl
    where
      by : (b : Bool) → (one.group == other.group) ≡ b → one.group ≡ other.group
      by true is = same_number one.group other.group is
      by false is =
          absurd (no_conflict one other (apart.groups one other at bt (λ e.
          clash (one.group == other.group) (ap (λ n. n == other.group) e ∙ number_itself other.group) is)) conflict)

  pub conflicts_stand : ConflictsStandInGroups s
  conflicts_stand =
      record {
        one_group = one_group;
        prepared = λ one other at bt differs conflict.
            elim (in_either s.prepared s.active one (contains_in (members s) one at)) [
              | inl p ↦ inl (in_contains s.prepared one p)
              | inr a ↦ elim (in_either s.prepared s.active other (contains_in (members s) other bt)) [
                | inl q ↦ inr (in_contains s.prepared other q)
                | inr b ↦ absurd (no_conflict one other
                    (apart.active one other (in_contains s.active one a) (in_contains s.active other b) differs)
                    conflict)
              ]
            ];
      }
