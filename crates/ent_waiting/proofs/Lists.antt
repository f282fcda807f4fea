-- Waiting lists go on as a claimant's memory does.
use Rattle.std.proofs.Common.{◌≡◌, ◌<◌, ℕ, ◌==◌, Bool, true, false, cond, not, List, [], ◌∷◌, ◌++◌, map, Some}
use Rattle.std.proofs.Common.{refl, sym, ap, ◌∙◌, arith}
use Rattle.std.proofs.lemmas.Grind.{common_steps}
use Rattle.std.specs.BTreeMap.{insert_entry, is_at}
use Rattle.std.specs.List.{AllByRecursion}
use Rattle.std.specs.Map.{lookup, remove_entry, set_value}
use Rattle.std.specs.Ordering.{match_ordering, nat_cmp}
use Rattle.std.specs.declared.cmp.Ordering.{Ordering}
use Rattle.ent_lists.specs.Elements.{Pairs, of_all, of_map, filter_whole, map_joined, other_number, number_itself}
use Rattle.ent_lists.proofs.Numbers.{cmp_above}
use Rattle.ent_waiting.specs.WaitingList.{WaitingList, admitted, changed, ending_as, waiter_of}
use Rattle.ent_waiting.specs.declared.ended.Ending.{Ending}
use Rattle.ent_waiting.specs.declared.waiter.Waiter.{Waiter as Entry}
use Rattle.ent_waiting.specs.Room.{StandByTicket, IsBefore, IsBelow, WasPut, waiter_at, waiting_in, was_put}
use Rattle.ent_waiting.specs.Store.{Waiter}
use Rattle.ent_waiting.specs.World.{without}
use Rattle.ent_waiting.proofs.Keeping.{at}

-- ---- numbers

at_other : (k n : ℕ) → is_at (nat_cmp k) n ≡ false → n ≡ k → ⊥
at_other k n e = grind (arith, common_steps)

-- ---- lists

behind : (es : List (ℕ × Entry)) (k : ℕ) (v : Entry) → AllByRecursion (IsBelow k) es
    → insert_entry nat_cmp es k v ≡ es ++ (k, v) ∷ []
behind [] k v all = refl
behind (e ∷ es) k v all =
    ap (λ (o : Ordering). match_ordering o ((k, v) ∷ e ∷ es) ((e.0, v) ∷ es) (e ∷ insert_entry nat_cmp es k v))
    (cmp_above k e.0 all.0)
    ∙ ap (λ (more : List (ℕ × Entry)). e ∷ more) (behind es k v all.1)

pub one_more : (list : WaitingList) (entry : Entry) → StandByTicket list
    → waiting_in (admitted list.next entry list)
    ≡ waiting_in list ++ record { ticket = list.next; script = was_put entry } ∷ []
one_more list entry h =
    ap (map waiter_at) (behind list.waiters list.next entry h.given)
    ∙ map_joined waiter_at list.waiters ((list.next, entry) ∷ [])

abbrev stays : ℕ → Waiter WasPut → Bool
stays k waiter = not (waiter.ticket == k)

removed : (k : ℕ) (es : List (ℕ × Entry)) → Pairs IsBefore es
    → map waiter_at (remove_entry (is_at (nat_cmp k)) es) ≡ without k (map waiter_at es)
removed k [] ascend = refl
removed k (e ∷ es) ascend = by (is_at (nat_cmp k) e.0) refl (removed k es ascend.1)
  where
    others : k ≡ e.0 → without k (map waiter_at es) ≡ map waiter_at es
    others same = filter_whole (stays k) (map waiter_at es) (λ w there.
        let r = of_map waiter_at es w there in
        let low : e.0 < r.0.0 = of_all (IsBefore e) es r.0 ascend.0 r.1 in
        let is : w.ticket ≡ r.0.0 = ap (λ (v : Waiter WasPut). v.ticket) r.2 in
        ap not (other_number w.ticket k (λ here. absurd (omega (arith, low, is, here, same)))))

    by : (b : Bool) → is_at (nat_cmp k) e.0 ≡ b
        → map waiter_at (remove_entry (is_at (nat_cmp k)) es) ≡ without k (map waiter_at es)
        → map waiter_at (cond b es (e ∷ remove_entry (is_at (nat_cmp k)) es))
        ≡ cond (not (e.0 == k)) (waiter_at e ∷ without k (map waiter_at es)) (without k (map waiter_at es))
    by true is rest =
        let same = at k e.0 is in
        sym (others same)
        ∙ sym (ap (λ b. cond (not b) (waiter_at e ∷ without k (map waiter_at es)) (without k (map waiter_at es)))
        (ap (λ (n : ℕ). n == k) (sym same) ∙ number_itself k))
    by false is rest =
        ap (λ (more : List (Waiter WasPut)). waiter_at e ∷ more) rest
        ∙ sym (ap (λ b. cond (not b) (waiter_at e ∷ without k (map waiter_at es)) (without k (map waiter_at es)))
        (other_number e.0 k (at_other k e.0 is)))

pub one_less : (list : WaitingList) (ticket : ℕ) (ending : Ending) (counts : Bool) (entry : Entry)
    → StandByTicket list
    → waiting_in (ending_as ticket ending counts entry list) ≡ without ticket (waiting_in list)
one_less list ticket ending counts entry h = removed ticket list.waiters h.ascend

module _ (test : ℕ → Bool) (old new : Entry) (alike : was_put new ≡ was_put old) where
  replaced : (es : List (ℕ × Entry)) → lookup test es ≡ Some old
      → map waiter_at (set_value test es new) ≡ map waiter_at es
  replaced [] found = refl
  replaced (e ∷ es) found = by (test e.0) found (replaced es)
    where
      own : Some e.1 ≡ Some old → waiter_at (e.0, new) ≡ waiter_at e
      own is =
          let same : e.1 ≡ old = cc in
          let put : was_put new ≡ was_put e.1 = alike ∙ ap was_put (sym same) in
          ap (λ (s : WasPut). record { ticket = e.0; script = s }) put

      by : (b : Bool) → cond b (Some e.1) (lookup test es) ≡ Some old
          → (lookup test es ≡ Some old → map waiter_at (set_value test es new) ≡ map waiter_at es)
          → map waiter_at (cond b ((e.0, new) ∷ es) (e ∷ set_value test es new)) ≡ waiter_at e ∷ map waiter_at es
      by true is rest = ap (λ (w : Waiter WasPut). w ∷ map waiter_at es) (own is)
      by false is rest = ap (λ (more : List (Waiter WasPut)). waiter_at e ∷ more) (rest is)

pub none_more : (list : WaitingList) (ticket : ℕ) (old new : Entry) → waiter_of list ticket ≡ Some old
    → was_put new ≡ was_put old
    → waiting_in (changed ticket new list) ≡ waiting_in list
none_more list ticket old new found alike = replaced (is_at (nat_cmp ticket)) old new alike list.waiters found
