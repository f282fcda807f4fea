-- Members that leave a run: the others keep what they have, their locks and their labels.
use Rattle.std.proofs.Common.{◌≡◌, ℕ, true, false, not, ◌==◌, if◌then◌else◌, List, [], ◌∷◌, ◌++◌, map}
use Rattle.std.proofs.Common.{refl, sym, ap, subst, ◌∙◌}
use Rattle.std.specs.Prelude.{Contains, Option, None, Some, filter}
use Rattle.std.specs.List.{list_any}
use Rattle.std.proofs.lemmas.List.Elements.{Contains-append_left, Contains-append_right}
use Rattle.ent_group.specs.declared.groups.Membership.{Membership}
use Rattle.ent_group.specs.Groups.{group_of}
use Rattle.ent_lists.specs.Elements.{clash, not_so, turned}
use Rattle.ent_lock.specs.Use.{DropsUses, Uses}
use Rattle.ent_members.specs.InRun.{in_run, label_or}
use Rattle.ent_members.specs.Order.{tx_of}
use Rattle.ent_members.specs.RunAttempts.{is_within, numbers_in, run_attempts_in}
use Rattle.ent_protocol.specs.Member.{is_of}
use Rattle.ent_protocol.specs.State.{Member}
use Rattle.ent_run.specs.Grouped.{AreGrouped, IsRunOf, IsRunWith, unless_gone}
use Rattle.ent_run.specs.InRuns.{in_runs, is_labelled, is_otherwise_labelled}
use Rattle.ent_run.specs.Moves.{is_not_of, is_of_another}
use Rattle.ent_run.proofs.Grouped.{label_of}
use Rattle.ent_run.proofs.InRuns.{dropped_by_number, filter_mapped, stays_in_runs}
use Rattle.ent_run.proofs.JoinedRuns.{each_has}
use Rattle.ent_run.proofs.Lists.{any_of, into_among, into_filter, into_map, out_of_filter, out_of_map}
use Rattle.ent_run.proofs.RunWith.{committed_with, leaving_told, left_with}

-- what doesn't look at locks and labels is told alike of members and of what they have themselves
pub told_of : {X : Type 0} (tell : Member → X) (locks : Uses) (groups : List Membership)
    → ((m : Member) → tell (in_run locks groups m) ≡ tell m) → (xs : List Member)
    → map tell xs ≡ map tell (in_runs locks groups xs)
told_of tell locks groups same [] = refl
told_of tell locks groups same (x ∷ xs) = λ i. sym (same x) i ∷ told_of tell locks groups same xs i

-- ---- a group commits

pub record Committing : Type 0 where
  pub group : ℕ
  pub locks : Uses
  pub next : Uses
  pub groups : List Membership
  pub left : List Membership
  pub prepared : List Member
  pub active : List Member
  pub run : IsRunOf locks groups prepared active
  pub none : list_any (is_of group) (in_runs locks groups active) ≡ false
  pub drops : DropsUses locks next (map tx_of (filter (is_of group) (in_runs locks groups prepared)))
  pub leaves : (x : ℕ) → group_of left x ≡ unless_gone group (group_of groups x)

module _ (k : Committing) where
  abbrev shown : List Member → List Member
  shown xs = in_runs k.locks k.groups xs

  -- one of another label has none of the numbers of those who leave
  apart : (m : Member) → is_labelled k.groups k.group m ≡ false
      → ¬ Contains (map tx_of (filter (is_of k.group) (shown k.prepared))) m.tx
  apart m other there =
      let one = out_of_map tx_of (filter (is_of k.group) (shown k.prepared)) m.tx there in
      let from = out_of_filter (is_of k.group) (shown k.prepared) one.0 one.1 in
      let own = out_of_map (in_run k.locks k.groups) k.prepared one.0 from.0 in
      clash (is_labelled k.groups k.group m)
      (ap (λ (tx : ℕ). label_or tx (group_of k.groups tx) == k.group) (sym (ap tx_of own.2 ∙ one.2))
      ∙ ap (is_of k.group) own.2 ∙ from.1) other

  kept_label : (m : Member) → is_labelled k.groups k.group m ≡ false
      → group_of k.groups m.tx ≡ Some (in_run k.locks k.groups m).group → group_of k.left m.tx ≡ group_of k.groups m.tx
  kept_label m other has =
      k.leaves m.tx ∙ ap (unless_gone k.group) has
      ∙ ap (λ b. if b then None else Some (in_run k.locks k.groups m).group) other ∙ sym has

  stays : (xs : List Member) → ((m : Member) → Contains xs m → is_labelled k.groups k.group m ≡ false)
      → ((m : Member) → Contains xs m → Contains (k.prepared ++ k.active) m)
      → in_runs k.next k.left xs ≡ shown xs
  stays xs other inside =
      stays_in_runs k.locks k.next k.run.1 (dropped_by_number k.locks k.next _ k.drops k.run.1) k.groups k.left _
      k.drops
      xs (λ m there. apart m (other m there))
      (λ m there. kept_label m (other m there)
      (each_has k.locks k.groups k.prepared k.active k.run.0.1 m (inside m there)))

  pub committed_prepared : in_runs k.next k.left (filter (is_otherwise_labelled k.groups k.group) k.prepared)
      ≡ filter (is_of_another k.group) (shown k.prepared)
  committed_prepared =
      stays (filter (is_otherwise_labelled k.groups k.group) k.prepared)
      (λ m there. turned (is_labelled k.groups k.group m)
      (out_of_filter (is_otherwise_labelled k.groups k.group) k.prepared m there).1)
      (λ m there. Contains-append_left k.prepared k.active m
      (out_of_filter (is_otherwise_labelled k.groups k.group) k.prepared m there).0)
      ∙ sym (filter_mapped (in_run k.locks k.groups) (is_of_another k.group) (is_otherwise_labelled k.groups k.group)
      (λ m. refl) k.prepared)

  pub committed_active : in_runs k.next k.left k.active ≡ shown k.active
  committed_active =
      stays k.active
      (λ m there. not_so (is_labelled k.groups k.group m) (λ own. clash (list_any (is_of k.group) (shown k.active))
      (any_of (is_of k.group) (shown k.active) (in_run k.locks k.groups m)
      (into_map (in_run k.locks k.groups) k.active m there) own) k.none))
      (λ m there. Contains-append_right k.prepared k.active m there)

  pub committed_run : IsRunOf k.next k.left (filter (is_otherwise_labelled k.groups k.group) k.prepared) k.active
  committed_run = (
    subst (λ ms. IsRunWith k.next k.left ms (in_runs k.next k.left k.active)) (sym committed_prepared)
        (subst (IsRunWith k.next k.left (filter (is_of_another k.group) (shown k.prepared))) (sym committed_active)
        (committed_with k.group k.locks k.next k.groups k.left (shown k.prepared) (shown k.active) k.none k.drops
        k.leaves k.run.0)),
    dropped_by_number k.locks k.next _ k.drops k.run.1,
  )

-- ---- members of some numbers leave

pub record Leaving : Type 0 where
  pub group : Option ℕ
  pub numbers : List ℕ
  pub locks : Uses
  pub next : Uses
  pub groups : List Membership
  pub left : List Membership
  pub prepared : List Member
  pub active : List Member
  pub run : IsRunOf locks groups prepared active
  pub are : numbers ≡ numbers_in
      (run_attempts_in group (in_runs locks groups prepared ++ in_runs locks groups active))
  pub drops : DropsUses locks next numbers
  pub leaves : (members : List Member) → AreGrouped groups members
      → AreGrouped left (filter (λ member. not (is_within group member)) members)

module _ (l : Leaving) where
  abbrev all : List Member
  all = in_runs l.locks l.groups l.prepared ++ in_runs l.locks l.groups l.active

  kept_of : (m : Member) → Contains all (in_run l.locks l.groups m) → is_not_of l.numbers m ≡ true
      → group_of l.left m.tx ≡ group_of l.groups m.tx
  kept_of m there stays =
      let one = in_run l.locks l.groups m in
      let outside : not (is_within l.group one) ≡ true =
      sym (leaving_told l.group l.numbers l.groups all one l.are l.run.0.1 there) ∙ stays in
      label_of l.left (filter (λ member. not (is_within l.group member)) all) one (l.leaves all l.run.0.1)
      (into_filter (λ member. not (is_within l.group member)) all one there outside)
      ∙ sym (label_of l.groups all one l.run.0.1 there)

  stay : (xs : List Member) → ((m : Member) → Contains xs m → Contains all (in_run l.locks l.groups m))
      → in_runs l.next l.left (filter (is_not_of l.numbers) xs)
      ≡ filter (is_not_of l.numbers) (in_runs l.locks l.groups xs)
  stay xs inside =
      stays_in_runs l.locks l.next l.run.1 (dropped_by_number l.locks l.next l.numbers l.drops l.run.1) l.groups l.left
      l.numbers l.drops (filter (is_not_of l.numbers) xs)
      (λ m there gone. clash (list_any (λ n. n == m.tx) l.numbers) (into_among l.numbers m.tx gone)
      (turned (list_any (λ n. n == m.tx) l.numbers) (out_of_filter (is_not_of l.numbers) xs m there).1))
      (λ m there. kept_of m (inside m (out_of_filter (is_not_of l.numbers) xs m there).0)
      (out_of_filter (is_not_of l.numbers) xs m there).1)
      ∙ sym (filter_mapped (in_run l.locks l.groups) (is_not_of l.numbers) (is_not_of l.numbers) (λ m. refl) xs)

  pub left_prepared : in_runs l.next l.left (filter (is_not_of l.numbers) l.prepared)
      ≡ filter (is_not_of l.numbers) (in_runs l.locks l.groups l.prepared)
  left_prepared = stay l.prepared (λ m there. Contains-append_left (in_runs l.locks l.groups l.prepared)
      (in_runs l.locks l.groups l.active) (in_run l.locks l.groups m)
      (into_map (in_run l.locks l.groups) l.prepared m there))

  pub left_active : in_runs l.next l.left (filter (is_not_of l.numbers) l.active)
      ≡ filter (is_not_of l.numbers) (in_runs l.locks l.groups l.active)
  left_active = stay l.active (λ m there. Contains-append_right (in_runs l.locks l.groups l.prepared)
      (in_runs l.locks l.groups l.active) (in_run l.locks l.groups m)
      (into_map (in_run l.locks l.groups) l.active m there))

  pub left_run : IsRunOf l.next l.left (filter (is_not_of l.numbers) l.prepared)
      (filter (is_not_of l.numbers) l.active)
  left_run = (
    subst (λ ms. IsRunWith l.next l.left ms (in_runs l.next l.left (filter (is_not_of l.numbers) l.active)))
        (sym left_prepared)
        (subst (IsRunWith l.next l.left (filter (is_not_of l.numbers) (in_runs l.locks l.groups l.prepared)))
        (sym left_active)
        (left_with l.group l.numbers l.locks l.next l.groups l.left (in_runs l.locks l.groups l.prepared)
        (in_runs l.locks l.groups l.active) l.are l.drops l.leaves l.run.0)),
    dropped_by_number l.locks l.next l.numbers l.drops l.run.1,
  )
