-- What a change under one number leaves of the others.
use Rattle.std.proofs.Common.{◌≡◌, ◌≢◌, ℕ, ◌+◌, ◌-◌, ◌<◌, ◌≤◌, ◌==◌, Bool, true, false, cond, ◌||◌, List, [], ◌∷◌, ◌++◌}
use Rattle.std.proofs.Common.{length, map, drop, reverse, slice_get, swap, take, position, get_or, Option, None, Some}
use Rattle.std.proofs.Common.{IsSome, is_some, refl, sym, ap, ◌∙◌, inl, inr, arith}
use Rattle.std.proofs.lemmas.List.{drop-map, map-append, drop-append-le, length-drop, length-map, take-map}
use Rattle.std.proofs.lemmas.List.Quantifiers.{position-Some}
use Rattle.std.proofs.lemmas.Option.{slice_get-get_or, slice_get-map}
use Rattle.std.specs.Option.{option_map}
use Rattle.std.specs.Map.{keys_of, values_of, lookup}
use Rattle.indexmap.proofs.MapLemmas.{Found-position}
use Rattle.indexmap.proofs.ReorderLemmas.{map-reverse}
use Rattle.std.specs.Prelude.{nat_eq}
use Rattle.std.specs.List.{list_any}
use Rattle.std.proofs.lemmas.Bool.{cases_eq}
use Rattle.std.proofs.lemmas.List.Sums.{sum_by-set}
use Rattle.slab.specs.Slab.{Slab, ContainsKey, Updates, get as value_at, slab_len, with_value}
use Rattle.slab.proofs.SlabLemmas.{ContainsKey-within}
use Rattle.indexmap.specs.IndexMap.{IndexMap, keys, get, Updates as Puts}
use Rattle.ent_lists.specs.Elements.{number_itself}
use Rattle.ent_protocol.specs.State.{Dormant}
use Rattle.ent_members.specs.TransactionOrder.{first_behind}
use Rattle.ent_members.specs.TransactionTable.{Stand, entrant_of, runs_at, runs_of, waiting, is_dormant}
use Rattle.ent_members.proofs.Lists.{map_agree, list_any-map, drop-swap, before, none_behind}

-- what is written over something leaves as many there
pub slab_len-with_value : (s : Slab Dormant) (key : ℕ) (own : Dormant) → ContainsKey s key
    → slab_len (with_value s key own) ≡ slab_len s
slab_len-with_value s key own there =
    let sums : slab_len (with_value s key own) + cond (is_some (value_at s key)) 1 0 ≡ slab_len s + 1 =
    sum_by-set (λ slot. cond (is_some slot) 1 0) s.slots key (Some own) None (ContainsKey-within s key there) in
    let one : ◌≡◌ {A = ℕ} (cond (is_some (value_at s key)) 1 0) 1 = ap (λ b. cond b 1 0) there in
    omega (arith, sums, one)

pub length_waiting : {S : Type 0} (live : Slab Dormant) (order : IndexMap ℕ ℕ S) (r : ℕ)
    → length (waiting live order r) ≡ length order.entries - r
length_waiting live order r =
    length-map (drop r (keys order)) (entrant_of live order)
    ∙ length-drop r (keys order)
    ∙ ap (λ (n : ℕ). n - r) (length-map order.entries (λ (e : ℕ × ℕ). e.0))

-- two numbers have two keys
pub keys_apart : {S : Type 0} (live : Slab Dormant) (order : IndexMap ℕ ℕ S) → Stand live order → (tx key : ℕ)
    → get nat_eq order tx ≡ Some key → (k other : ℕ) → k ≢ tx → get nat_eq order k ≡ Some other → other ≢ key
keys_apart live order stand tx key here k other ne at same =
    let one = stand k other at in
    let two = stand tx key here in
    let e : Some one.0 ≡ Some two.0 = sym one.1 ∙ ap (value_at live) same ∙ two.1 in
    let f : one.0 ≡ two.0 = cc in
    ne (sym one.2 ∙ ap (λ (own : Dormant). own.tx) f ∙ two.2)

-- a number that has no entry at all
pub free_apart : {S : Type 0} (live : Slab Dormant) (order : IndexMap ℕ ℕ S) → Stand live order → (key : ℕ)
    → value_at live key ≡ None → (k other : ℕ) → get nat_eq order k ≡ Some other → other ≢ key
free_apart live order stand key free k other at same =
    let one = stand k other at in
    let e : Some one.0 ≡ None = sym one.1 ∙ ap (value_at live) same ∙ free in
    cc

module _ {S : Type 0} (live new : Slab Dormant) (order after : IndexMap ℕ ℕ S) (tx key : ℕ) (slot : Option Dormant)
    (stand : Stand live order) (update : Updates live new key slot)
    (same : (k : ℕ) → k ≢ tx → get nat_eq after k ≡ get nat_eq order k)
    (apart : (k other : ℕ) → k ≢ tx → get nat_eq order k ≡ Some other → other ≢ key) where
  pub entrant_same : (k : ℕ) → k ≢ tx → entrant_of new after k ≡ entrant_of live order k
  entrant_same k ne =
      ap (λ (runs : ℕ). record { tx = k; runs = runs }) (ap (runs_at new) (same k ne) ∙ by (get nat_eq order k) refl)
    where
      by : (o : Option ℕ) → get nat_eq order k ≡ o → runs_at new o ≡ runs_at live o
      by None e = refl
      by (Some other) e = ap runs_of (update.others other (apart k other ne e))

  pub waiting_same : (r : ℕ) → is_dormant tx (waiting live order r) ≡ false
      → map (entrant_of new after) (drop r (keys order)) ≡ waiting live order r
  waiting_same r none =
      map_agree tx (entrant_of new after) (entrant_of live order) entrant_same (drop r (keys order))
      (sym (list_any-map (entrant_of live order) (λ (own : Dormant). own.tx == tx) (drop r (keys order))) ∙ none)

  pub stand_others : (k other : ℕ) → k ≢ tx → get nat_eq after k ≡ Some other
      → (own : Dormant) × (value_at new other ≡ Some own) × (own.tx ≡ k)
  stand_others k other ne at =
      let was : get nat_eq order k ≡ Some other = sym (same k ne) ∙ at in
      let s = stand k other was in
      (s.0, update.others other (apart k other ne was) ∙ s.1, s.2)

  -- it stands under its key
  pub stand_with : (own : Dormant) → slot ≡ Some own → own.tx ≡ tx → get nat_eq after tx ≡ Some key → Stand new after
  stand_with own is number here k other at =
      elim (cases_eq k tx) [
        | inl e ↦
            let f : Some other ≡ Some key = sym at ∙ ap (get nat_eq after) e ∙ here in
            let g : other ≡ key = cc in
            (own, ap (value_at new) g ∙ update.changed ∙ is, number ∙ sym e)
        | inr ne ↦ stand_others k other ne at
      ]

  -- it stands nowhere
  pub stand_without : get nat_eq after tx ≡ None → Stand new after
  stand_without gone k other at =
      elim (cases_eq k tx) [
        | inl e ↦
            let f : Some other ≡ None = sym at ∙ ap (get nat_eq after) e ∙ gone in
            cc
        | inr ne ↦ stand_others k other ne at
      ]

both_parts : (o : Option (ℕ × ℕ)) (tx key : ℕ) → option_map (λ (e : ℕ × ℕ). e.0) o ≡ Some tx
    → option_map (λ (e : ℕ × ℕ). e.1) o ≡ Some key → o ≡ Some (tx, key)
both_parts None tx key k v = cc
both_parts (Some e) tx key k v =
    let f : e.0 ≡ tx = cc in
    let g : e.1 ≡ key = cc in
    λ i. Some (f i, g i)

-- a number that has none
pub lacks : (tx : ℕ) (es : List (ℕ × ℕ)) → lookup (nat_eq tx) es ≡ None → list_any (λ k. k == tx) (keys_of es) ≡ false
lacks tx [] none = refl
lacks tx (e ∷ es) none = by (nat_eq tx e.0) refl none (lacks tx es)
  where
    by : (b : Bool) → nat_eq tx e.0 ≡ b → cond b (Some e.1) (lookup (nat_eq tx) es) ≡ None
        → (lookup (nat_eq tx) es ≡ None → list_any (λ k. k == tx) (keys_of es) ≡ false)
        → list_any (λ k. k == tx) (keys_of (e ∷ es)) ≡ false
    by true is absent rest = cc
    by false is absent rest =
        let other : (e.0 == tx) ≡ false = grind (arith, is) in
        λ i. other i || rest absent i

-- one that waits for nothing, since it is in the run: it stands in front
module _ {S : Type 0} (live : Slab Dormant) (order : IndexMap ℕ ℕ S) (r tx at key : ℕ)
    (found : position (nat_eq tx) (keys order) ≡ Some at) (value : slice_get (values_of order.entries) at ≡ Some key)
    (away : is_dormant tx (waiting live order r) ≡ false) where
  pub key_here : get nat_eq order tx ≡ Some key
  key_here = (Found-position (nat_eq tx) order.entries at found).value ∙ value

  key_at : slice_get (keys order) at ≡ Some tx
  key_at =
      let q = position-Some (nat_eq tx) (keys order) at 0 found in
      let n : get_or (keys order) at 0 ≡ tx = grind (arith, q.1) in
      slice_get-get_or (keys order) at 0 q.0 ∙ ap Some n

  pub entry_at : slice_get order.entries at ≡ Some (tx, key)
  entry_at =
      both_parts (slice_get order.entries at) tx key
      (sym (slice_get-map (λ (e : ℕ × ℕ). e.0) order.entries at) ∙ key_at)
      (sym (slice_get-map (λ (e : ℕ × ℕ). e.1) order.entries at) ∙ value)

  pub in_front : at < r
  in_front =
      before (λ k. k == tx) (keys order) at r tx key_at (number_itself tx)
      (sym (list_any-map (entrant_of live order) (λ (own : Dormant). own.tx == tx) (drop r (keys order))) ∙ away)

  module _ (new : Slab Dormant) (after : IndexMap ℕ ℕ S) (members : r ≤ length order.entries)
      (stand : Stand live order) where
    -- it is the first that waits
    pub waiting_first : (runs : ℕ) → Updates live new key (Some (record { tx = tx; runs = runs }))
        → ((k : ℕ) → get nat_eq after k ≡ get nat_eq order k)
        → after.entries ≡ swap order.entries at (r - 1)
        → waiting new after (r - 1) ≡ record { tx = tx; runs = runs } ∷ waiting live order r
    waiting_first runs update same moved =
        let f = entrant_of new after in
        let tail : drop (r - 1) (keys after) ≡ tx ∷ drop r (keys order) =
        ap (λ (es : List (ℕ × ℕ)). drop (r - 1) (keys_of es)) moved
        ∙ drop-map (λ (e : ℕ × ℕ). e.0) (r - 1) (swap order.entries at (r - 1))
        ∙ ap keys_of (drop-swap order.entries at r (tx, key) entry_at in_front members)
        ∙ ap (λ (l : List ℕ). tx ∷ l) (sym (drop-map (λ (e : ℕ × ℕ). e.0) r order.entries)) in
        let own : f tx ≡ record { tx = tx; runs = runs } =
        ap (λ (n : ℕ). record { tx = tx; runs = n })
        (ap (runs_at new) (same tx ∙ key_here) ∙ ap runs_of update.changed) in
        let rest : map f (drop r (keys order)) ≡ waiting live order r =
        waiting_same live new order after tx key (Some (record { tx = tx; runs = runs })) stand update (λ k ne. same k)
        (keys_apart live order stand tx key key_here) r away in
        ap (map f) tail ∙ (λ i. own i ∷ rest i)

map_behind : {X Y : Type 0} (f : X → Y) (count : ℕ) (xs : List X)
    → map f (first_behind count xs) ≡ first_behind count (map f xs)
map_behind f count xs =
    map-append f (drop count xs) (reverse (take count xs))
    ∙ (λ i. sym (drop-map f count xs) i ++ (map-reverse f (take count xs) ∙ ap reverse (sym (take-map f count xs))) i)

-- the first go behind the others
pub waiting_behind : {S : Type 0} (live : Slab Dormant) (order after : IndexMap ℕ ℕ S) (r count : ℕ)
    → ((k : ℕ) → get nat_eq after k ≡ get nat_eq order k)
    → drop r after.entries ≡ first_behind count (drop r order.entries)
    → waiting live after r ≡ first_behind count (waiting live order r)
waiting_behind live order after r count same moved =
    let number = λ (e : ℕ × ℕ). e.0 in
    let f = entrant_of live order in
    let tail : drop r (keys after) ≡ first_behind count (drop r (keys order)) =
    drop-map number r after.entries ∙ ap keys_of moved
    ∙ map_behind number count (drop r order.entries)
    ∙ ap (first_behind count) (sym (drop-map number r order.entries)) in
    ap (map (entrant_of live after)) tail
    ∙ (λ i. map (λ (tx : ℕ). record { tx = tx; runs = runs_at live (same tx i) })
    (first_behind count (drop r (keys order))))
    ∙ map_behind f count (drop r (keys order))

-- one that is new stands last
pub waiting_new : {S : Type 0} (live new : Slab Dormant) (order after : IndexMap ℕ ℕ S) (r tx key : ℕ)
    → Stand live order
    → get nat_eq order tx ≡ None → value_at live key ≡ None → Updates live new key (Some (record { tx = tx; runs = 0 }))
    → ((k : ℕ) → k ≢ tx → get nat_eq after k ≡ get nat_eq order k) → get nat_eq after tx ≡ Some key
    → after.entries ≡ order.entries ++ (tx, key) ∷ [] → r ≤ length order.entries
    → waiting new after r ≡ waiting live order r ++ record { tx = tx; runs = 0 } ∷ []
waiting_new live new order after r tx key stand none free update same here moved members =
    let f = entrant_of new after in
    let lack : list_any (λ k. k == tx) (drop r (keys order)) ≡ false =
    none_behind (λ k. k == tx) (keys order) r (lacks tx order.entries none) in
    let away : is_dormant tx (waiting live order r) ≡ false =
    list_any-map (entrant_of live order) (λ (own : Dormant). own.tx == tx) (drop r (keys order)) ∙ lack in
    let tail : drop r (keys after) ≡ drop r (keys order) ++ tx ∷ [] =
    ap (λ (es : List (ℕ × ℕ)). drop r (keys_of es)) moved
    ∙ ap (drop r) (map-append (λ (e : ℕ × ℕ). e.0) order.entries ((tx, key) ∷ []))
    ∙ drop-append-le r (keys order) (tx ∷ []) (omega (arith, length-map order.entries (λ (e : ℕ × ℕ). e.0))) in
    let own : f tx ≡ record { tx = tx; runs = 0 } =
    ap (λ (n : ℕ). record { tx = tx; runs = n }) (ap (runs_at new) here ∙ ap runs_of update.changed) in
    let rest : map f (drop r (keys order)) ≡ waiting live order r =
    waiting_same live new order after tx key (Some (record { tx = tx; runs = 0 })) stand update same
    (λ k other ne. free_apart live order stand key free k other) r away in
    ap (map f) tail ∙ map-append f (drop r (keys order)) (tx ∷ []) ∙ (λ i. rest i ++ own i ∷ [])

-- a change of the map under one number leaves the others
pub map_others : {S : Type 0} (order after : IndexMap ℕ ℕ S) (tx n : ℕ) (slot : Option ℕ) → n ≡ tx
    → Puts nat_eq order after n slot
    → (k : ℕ) → k ≢ tx → get nat_eq after k ≡ get nat_eq order k
map_others order after tx n slot is update k ne =
    let other : nat_eq n k ≡ false = grind (arith, is, ne) in
    update.2 k other

pub none_from : (o : Option ℕ) → (IsSome o → ⊥) → o ≡ None
none_from None never = refl
none_from (Some n) never = absurd (never refl)

-- the entry that was taken out at a number's place is its own
pub taken : {S : Type 0} (order : IndexMap ℕ ℕ S) (tx at : ℕ) (p : ℕ × ℕ) → position (nat_eq tx) (keys order) ≡ Some at
    → slice_get order.entries at ≡ Some p → (slice_get (values_of order.entries) at ≡ Some p.1) × (p.0 ≡ tx)
taken order tx at p found entry =
    let q = position-Some (nat_eq tx) (keys order) at 0 found in
    let n : get_or (keys order) at 0 ≡ tx = grind (arith, q.1) in
    let k : slice_get (keys order) at ≡ Some tx = slice_get-get_or (keys order) at 0 q.0 ∙ ap Some n in
    let e : Some p.0 ≡ Some tx =
    sym (slice_get-map (λ (e : ℕ × ℕ). e.0) order.entries at ∙ ap (option_map (λ (e : ℕ × ℕ). e.0)) entry) ∙ k in
    let f : p.0 ≡ tx = cc in
    (slice_get-map (λ (e : ℕ × ℕ). e.1) order.entries at ∙ ap (option_map (λ (e : ℕ × ℕ). e.1)) entry, f)
