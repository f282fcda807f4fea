-- Members whose groups become one: their labels by the groups.
use Rattle.std.proofs.Common.{◌≡◌, ℕ, List, ◌++◌, map, refl, sym, ap, subst, ◌∙◌}
use Rattle.std.specs.Prelude.{Contains, Option, None, Some, IsSome, is_some, filter}
use Rattle.std.proofs.lemmas.List.{map-append}
use Rattle.ent_group.specs.declared.groups.Membership.{Membership}
use Rattle.ent_group.specs.Groups.{group_of}
use Rattle.ent_lock.specs.Use.{Uses}
use Rattle.ent_members.specs.InRun.{in_run, label_or}
use Rattle.ent_members.specs.Order.{tx_of}
use Rattle.ent_members.proofs.InRun.{numbers_in_run}
use Rattle.ent_protocol.specs.State.{Member}
use Rattle.ent_run.specs.Grouped.{AreGrouped}
use Rattle.ent_run.specs.InRuns.{in_runs}
use Rattle.ent_run.specs.Joined.{is_one_of}
use Rattle.ent_run.proofs.Grouped.{label_of}
use Rattle.ent_run.proofs.InRuns.{filter_mapped}
use Rattle.ent_run.proofs.Lists.{into_map, out_of_map}
use Rattle.ent_run.proofs.Merged.{numbers_among}

some_label : (o : Option ℕ) (tx : ℕ) → IsSome o → o ≡ Some (label_or tx o)
some_label None tx none = let e : Option ℕ = None in cc
some_label (Some group) tx some = refl

module _ (locks : Uses) (groups : List Membership) where
  -- members that have labels have theirs in the run
  pub known_in_runs : (xs : List Member) → ((tx : ℕ) → Contains (map tx_of xs) tx → IsSome (group_of groups tx))
      → (m : Member) → Contains (in_runs locks groups xs) m → group_of groups m.tx ≡ Some m.group
  known_in_runs xs members m there =
      let one = out_of_map (in_run locks groups) xs m there in
      let own = one.0 in
      let label = some_label (group_of groups own.tx) own.tx (members own.tx (into_map tx_of xs own one.1)) in
      subst (λ (k : Member). group_of groups k.tx ≡ Some k.group) one.2 label

  pub numbers_seen : (numbers : List ℕ) (xs : List Member)
      → numbers_among numbers xs ≡ numbers_among numbers (in_runs locks groups xs)
  numbers_seen numbers xs =
      sym (ap (map tx_of)
      (filter_mapped (in_run locks groups) (is_one_of numbers) (is_one_of numbers) (λ m. refl) xs)
      ∙ numbers_in_run locks groups (filter (is_one_of numbers) xs))

  pub both_in_runs : (xs ys : List Member)
      → in_runs locks groups (xs ++ ys) ≡ in_runs locks groups xs ++ in_runs locks groups ys
  both_in_runs xs ys = map-append (in_run locks groups) xs ys

  -- each member of a run has a label
  pub each_has : (xs ys : List Member) → AreGrouped groups (in_runs locks groups xs ++ in_runs locks groups ys)
      → (m : Member) → Contains (xs ++ ys) m → group_of groups m.tx ≡ Some (in_run locks groups m).group
  each_has xs ys grouped m there =
      label_of groups (in_runs locks groups xs ++ in_runs locks groups ys) (in_run locks groups m) grouped
      (subst (λ ms. Contains ms (in_run locks groups m)) (both_in_runs xs ys)
      (into_map (in_run locks groups) (xs ++ ys) m there))

  pub each_number_has : (xs ys : List Member) → AreGrouped groups (in_runs locks groups xs ++ in_runs locks groups ys)
      → (tx : ℕ) → Contains (map tx_of (xs ++ ys)) tx → IsSome (group_of groups tx)
  each_number_has xs ys grouped tx there =
      let one = out_of_map tx_of (xs ++ ys) tx there in
      subst (λ (n : ℕ). IsSome (group_of groups n)) one.2 (ap is_some (each_has xs ys grouped one.0 one.1))
