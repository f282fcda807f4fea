-- A member that isn't prepared is granted uses, and maybe its statement is posted.
use Rattle.std.proofs.Common.{◌≡◌, ℕ, ◌<◌, Bool, true, false, ◌==◌, if◌then◌else◌, nat_eq, List, [], ◌∷◌, length, map}
use Rattle.std.proofs.Common.{get_or, refl, sym, ap, subst, ◌∙◌}
use Rattle.std.specs.Prelude.{Contains, Some, is_some, Result, Ok, Err, OnErr, OnOk}
use Rattle.std.specs.List.{IsDistinct}
use Rattle.std.proofs.lemmas.List.{get_or_default}
use Rattle.ent_group.specs.declared.groups.Membership.{Membership}
use Rattle.ent_lists.specs.Elements.{number_itself}
use Rattle.ent_lock.specs.Use.{Uses}
use Rattle.ent_members.specs.Changes.{posted, posting}
use Rattle.ent_members.specs.InRun.{AreByNumber, in_run}
use Rattle.ent_members.specs.Order.{tx_of}
use Rattle.ent_members.proofs.InRun.{numbers_in_run}
use Rattle.ent_protocol.specs.Begin.{holding, replaced}
use Rattle.ent_protocol.specs.State.{Member, Use}
use Rattle.ent_run.specs.Grouped.{IsRunOf, IsRunWith}
use Rattle.ent_run.specs.InRuns.{in_runs}
use Rattle.ent_run.specs.Locks.{Locks}
use Rattle.ent_run.specs.Places.{Changes, IsAt, found}
use Rattle.ent_run.proofs.HeldUses.{into_with_uses, out_of_with_uses}
use Rattle.ent_run.proofs.InOrder.{found_here}
use Rattle.ent_run.proofs.InRuns.{changes_in_runs, one_holds, others_hold, own_in_run}
use Rattle.ent_run.proofs.Lists.{into_map}
use Rattle.ent_run.proofs.Locked.{run_changed}
use Rattle.ent_run.proofs.Lookups.{at_in_runs, get_in_runs, own_ascending, own_distinct}
use Rattle.ent_run.proofs.OneMember.{found_at}
use Rattle.ent_run.proofs.RunWith.{grouped_changed, stepped_with}

-- the member at a place is granted uses
pub record Granting : Type 0 where
  pub locks : Uses
  pub next : Uses
  pub groups : List Membership
  pub prepared : List Member
  pub active : List Member
  pub place : ℕ
  pub asked : List Use
  pub member : Member
  pub run : IsRunOf locks groups prepared active
  pub within : place < length active
  pub is : member ≡ get_or active place member
  pub more : Locks member.tx asked locks next
  pub still : AreByNumber next

module _ (g : Granting) where
  abbrev before : List Member
  before = in_runs g.locks g.groups g.active

  abbrev after : List Member
  after = in_runs g.next g.groups g.active

  abbrev one : Member
  one = in_run g.locks g.groups g.member

  there : Contains g.active g.member
  there = (g.place, g.within, sym g.is)

  distinct : IsDistinct nat_eq (map tx_of g.active)
  distinct = own_distinct g.locks g.groups g.active g.run.0.0.run.distinct

  pub granted_active : after ≡ map (replaced (holding one g.asked)) before
  granted_active = one_holds g.locks g.next g.run.1 g.still g.groups g.member.tx g.asked g.more g.active g.member
      distinct there refl

  pub granted_prepared : in_runs g.next g.groups g.prepared ≡ in_runs g.locks g.groups g.prepared
  granted_prepared =
      others_hold g.locks g.next g.run.1 g.still g.groups g.member.tx g.asked g.more g.prepared
      (λ m inside same. g.run.0.0.apart m.tx
      (subst (λ ns. Contains ns m.tx) (sym (numbers_in_run g.locks g.groups g.prepared))
      (into_map tx_of g.prepared m inside))
      (subst (λ ns. Contains ns m.tx) (sym (numbers_in_run g.locks g.groups g.active))
      (subst (Contains (map tx_of g.active)) (sym same) (into_map tx_of g.active g.member there))))

  at_place : IsAt before g.member.tx g.place
  at_place =
      at_in_runs g.locks g.groups g.active g.member.tx g.place (record {
        in_range = g.within;
        first = λ d. found_here g.active g.place g.member.tx d
            (own_ascending g.locks g.groups g.active g.run.0.0.run.ascending) g.within
            (sym (ap tx_of (g.is ∙ get_or_default g.active g.place g.member d g.within)));
      })

  found_one : found before g.member.tx ≡ Some one
  found_one = at_place.first one ∙ ap Some (get_in_runs g.locks g.groups g.active g.place one g.member g.within
      ∙ ap (in_run g.locks g.groups) (sym g.is))

  -- whoever is found at the place is this one
  found_is : (tx : ℕ) → IsAt before tx g.place → (other : Member) → found before tx ≡ Some other → other ≡ one
  found_is tx at other is =
      sym (found_at before tx g.place one other at is)
      ∙ get_in_runs g.locks g.groups g.active g.place one g.member g.within
      ∙ ap (in_run g.locks g.groups) (sym g.is)

  pub granted_changes : (tx : ℕ) → IsAt before tx g.place → Changes (λ m. holding m g.asked) tx before after
  granted_changes tx at other is =
      granted_active ∙ ap (λ m. map (replaced (holding m g.asked)) before) (sym (found_is tx at other is))

  own_changes : Changes (λ m. holding m g.asked) g.member.tx before after
  own_changes = granted_changes g.member.tx at_place

  pub granted_run : IsRunOf g.next g.groups g.prepared g.active
  granted_run = (
    subst (λ ms. IsRunWith g.next g.groups ms after) (sym granted_prepared) (
      run_changed g.locks g.next (in_runs g.locks g.groups g.prepared) before after (λ m. holding m g.asked) g.asked
          g.member.tx one g.run.0.0 found_one own_changes
          (numbers_in_run g.next g.groups g.active ∙ sym (numbers_in_run g.locks g.groups g.active))
          (record {
            same = refl;
            into = λ own h. into_with_uses g.asked one.uses own h;
            out_of = λ own h. out_of_with_uses g.asked one.uses own h;
          })
          g.more,
      grouped_changed g.groups (in_runs g.locks g.groups g.prepared) before after (λ m. holding m g.asked) g.member.tx
          (λ m. refl) (λ m. refl) (ap is_some found_one) own_changes g.run.0.1,
    ),
    g.still,
  )

  -- ---- and its statement is posted

  module _ (last : List Member) (posts : (tx : ℕ) → IsAt g.active tx g.place → Changes posted tx g.active last)
      (numbers : map tx_of last ≡ map tx_of g.active) where
    own_at : IsAt g.active g.member.tx g.place
    own_at = record {
      in_range = g.within;
      first = λ d. found_here g.active g.place g.member.tx d
          (own_ascending g.locks g.groups g.active g.run.0.0.run.ascending) g.within
          (sym (ap tx_of (g.is ∙ get_or_default g.active g.place g.member d g.within)));
    }

    posts_after : Changes posted g.member.tx after (in_runs g.next g.groups last)
    posts_after = changes_in_runs g.next g.groups posted posted (λ m. refl) g.member.tx g.active last
        (posts g.member.tx own_at)

    own_after : in_run g.next g.groups g.member ≡ holding one g.asked
    own_after = own_in_run g.locks g.next g.run.1 g.still g.groups g.member.tx g.asked g.more g.member refl

    found_after : found after g.member.tx ≡ Some (in_run g.next g.groups g.member)
    found_after =
        (at_in_runs g.next g.groups g.active g.member.tx g.place own_at).first (in_run g.next g.groups g.member)
        ∙ ap Some (get_in_runs g.next g.groups g.active g.place (in_run g.next g.groups g.member) g.member g.within
        ∙ ap (in_run g.next g.groups) (sym g.is))

    replaced_twice : (h y : Member) → replaced (posted h) (replaced h y) ≡ replaced (posted h) y
    replaced_twice h y = by_test (y.tx == h.tx) refl
      where
        by_test : (b : Bool) → (y.tx == h.tx) ≡ b → replaced (posted h) (replaced h y) ≡ replaced (posted h) y
        by_test true is = ap (λ b. replaced (posted h) (if b then h else y)) is
            ∙ ap (λ b. if b then posted h else h) (number_itself h.tx) ∙ sym (ap (λ b. if b then posted h else y) is)
        by_test false is = ap (λ b. replaced (posted h) (if b then h else y)) is

    each_twice : (h : Member) (xs : List Member)
        → map (replaced (posted h)) (map (replaced h) xs) ≡ map (replaced (posted h)) xs
    each_twice h [] = refl
    each_twice h (x ∷ xs) = λ i. replaced_twice h x i ∷ each_twice h xs i

    pub posted_changes : (tx : ℕ) → IsAt before tx g.place
        → Changes (posting g.asked) tx before (in_runs g.next g.groups last)
    posted_changes tx at other is =
        posts_after (in_run g.next g.groups g.member) found_after
        ∙ ap (λ m. map (replaced (posted m)) after) own_after
        ∙ ap (map (replaced (posted (holding one g.asked)))) granted_active
        ∙ each_twice (holding one g.asked) before
        ∙ ap (λ m. map (replaced (posting g.asked m)) before) (sym (found_is tx at other is))

    pub posted_carried : (seen : List Member) → before ≡ seen → (tx : ℕ) → IsAt seen tx g.place
        → Changes (posting g.asked) tx seen (in_runs g.next g.groups last)
    posted_carried seen shows tx at =
        subst (λ ms. IsAt ms tx g.place → Changes (posting g.asked) tx ms (in_runs g.next g.groups last)) shows
        (posted_changes tx) at

    pub posted_run : IsRunOf g.next g.groups g.prepared last
    posted_run = let done : Result ℕ ℕ = Ok 0 in (
      stepped_with done g.next g.groups (in_runs g.next g.groups g.prepared) after (in_runs g.next g.groups last)
          posted (λ m. refl) (λ m. refl) (λ m. refl) g.member.tx granted_run.0 (ap is_some found_after) posts_after tt
          (numbers_in_run g.next g.groups last ∙ numbers ∙ sym (numbers_in_run g.next g.groups g.active)),
      g.still,
    )

-- ---- or memory runs out

pub record Trying : Type 0 where
  pub locks : Uses
  pub next : Uses
  pub groups : List Membership
  pub prepared : List Member
  pub active : List Member
  pub place : ℕ
  pub asked : List Use
  pub member : Member
  pub run : IsRunOf locks groups prepared active
  pub within : place < length active
  pub is : member ≡ get_or active place member

module _ (t : Trying) where
  abbrev granting : Locks t.member.tx t.asked t.locks t.next → (AreByNumber t.locks → AreByNumber t.next) → Granting
  granting more still = record {
    locks = t.locks;
    next = t.next;
    groups = t.groups;
    prepared = t.prepared;
    active = t.active;
    place = t.place;
    asked = t.asked;
    member = t.member;
    run = t.run;
    within = t.within;
    is = t.is;
    more = more;
    still = still t.run.1;
  }

  pub tried_run : {T E : Type 0} (r : Result T E) → OnOk r (Locks t.member.tx t.asked t.locks t.next)
      → OnOk r (AreByNumber t.locks → AreByNumber t.next) → OnErr r (t.next ≡ t.locks)
      → IsRunOf t.next t.groups t.prepared t.active
  tried_run (Ok x) more still same = granted_run (granting more still)
  tried_run (Err e) more still same = subst (λ ls. IsRunOf ls t.groups t.prepared t.active) (sym same) t.run

  pub tried_changes : {T E : Type 0} (r : Result T E) → OnOk r (Locks t.member.tx t.asked t.locks t.next)
      → OnOk r (AreByNumber t.locks → AreByNumber t.next) → (tx : ℕ)
      → IsAt (in_runs t.locks t.groups t.active) tx t.place
      → OnOk r (Changes (λ m. holding m t.asked) tx (in_runs t.locks t.groups t.active)
      (in_runs t.next t.groups t.active))
  tried_changes (Ok x) more still tx at = granted_changes (granting more still) tx at
  tried_changes (Err e) more still tx at = tt

  pub tried_prepared : {T E : Type 0} (r : Result T E) → OnOk r (Locks t.member.tx t.asked t.locks t.next)
      → OnOk r (AreByNumber t.locks → AreByNumber t.next) → OnErr r (t.next ≡ t.locks)
      → in_runs t.next t.groups t.prepared ≡ in_runs t.locks t.groups t.prepared
  tried_prepared (Ok x) more still same = granted_prepared (granting more still)
  tried_prepared (Err e) more still same = ap (λ ls. in_runs ls t.groups t.prepared) same
