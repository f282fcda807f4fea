-- The keys of a run's members: who stands in the slab has its key in one of two lists.
use Rattle.std.proofs.Common.{◌≡◌, ℕ, zero, suc, ◌<◌, Bool, List, [], ◌∷◌, ◌++◌, length, map, take, drop, get_or}
use Rattle.std.proofs.Common.{is_some}
use Rattle.std.proofs.Common.{refl, sym, ap, subst, ◌∙◌, inl, inr, arith, set}
use Rattle.std.specs.Prelude.{Contains, None, Option, Some, IsSome, filter}
use Rattle.std.specs.List.{insert, remove}
use Rattle.std.proofs.lemmas.Bool.{cases_eq}
use Rattle.std.proofs.lemmas.List.{get_or_default, length-map, set-get_or}
use Rattle.std.proofs.Math.Seq.{map-set_same}
use Rattle.std.proofs.lemmas.List.Elements.{Contains-append_left, Contains-append_right, Contains-append_cases}
use Rattle.slab.specs.Slab.{ContainsKey, Slab, Updates, get as value_at, with_value}
use Rattle.ent_protocol.specs.State.{Member}
use Rattle.ent_members.specs.Order.{tx_of}
use Rattle.ent_run.specs.MemberSlab.{AreDistinct, AreKeys}
use Rattle.ent_run.specs.Moves.{run_of}
use Rattle.ent_run.specs.Run.{Run}
use Rattle.ent_run.specs.UnderKeys.{AreThere, if_passing, member_under, members_under, or_nobody}
use Rattle.ent_run.proofs.InSlab.{apart_keys, at_under, filtered_under, if_passing_less, second_distinct, under_same}
use Rattle.ent_run.proofs.InSlab.{written_apart, written_at}
use Rattle.ent_run.proofs.Lists.{contains_cases, contains_later, contains_none, into_filter, out_of_filter}

module _ (live : Slab Member) (prepared active : List ℕ) (keys : AreKeys live prepared active) where
  pub prepared_there : AreThere live prepared
  prepared_there key there = (keys key).1 (Contains-append_left prepared active key there)

  pub active_there : AreThere live active
  active_there key there = (keys key).1 (Contains-append_right prepared active key there)

  abbrev pub shown : Run
  shown = run_of (members_under live prepared) (members_under live active)

  -- ---- members leave
  module _ (left : Slab Member) (passes : Member → Bool)
      (leave : (key : ℕ) → value_at left key ≡ if_passing passes (value_at live key)) where
    abbrev stays : ℕ → Bool
    stays key = is_some (value_at left key)

    was_there : (key : ℕ) → ContainsKey left key → ContainsKey live key
    was_there key there =
        if_passing_less passes (value_at live key) (subst (λ (o : Option Member). IsSome o) (leave key) there)

    pub left_keys : AreKeys left (filter stays prepared) (filter stays active)
    left_keys key = (
      λ there. elim (Contains-append_cases prepared active key ((keys key).0 (was_there key there))) [
        | inl first ↦ Contains-append_left (filter stays prepared) (filter stays active) key
            (into_filter stays prepared key first there)
        | inr second ↦ Contains-append_right (filter stays prepared) (filter stays active) key
            (into_filter stays active key second there)
      ],
      λ within. elim (Contains-append_cases (filter stays prepared) (filter stays active) key within) [
        | inl first ↦ (out_of_filter stays prepared key first).1
        | inr second ↦ (out_of_filter stays active key second).1
      ],
    )

    pub left_prepared : members_under left (filter stays prepared) ≡ filter passes (members_under live prepared)
    left_prepared = filtered_under live left passes prepared prepared_there (λ key _. leave key)

    pub left_active : members_under left (filter stays active) ≡ filter passes (members_under live active)
    left_active = filtered_under live left passes active active_there (λ key _. leave key)

-- ---- some of those that are prepared leave

pub record Leaving : Type 0 where
  pub live : Slab Member
  pub prepared : List ℕ
  pub active : List ℕ
  pub keys : AreKeys live prepared active
  pub distinct : AreDistinct (run_of (members_under live prepared) (members_under live active))
  pub left : Slab Member
  pub passes : Member → Bool
  pub leave : (key : ℕ) → Contains prepared key → value_at left key ≡ if_passing passes (value_at live key)
  pub others : (key : ℕ) → (Contains prepared key → ⊥) → value_at left key ≡ value_at live key
  pub fewer : (key : ℕ) → ContainsKey left key → ContainsKey live key

module _ (l : Leaving) where
  abbrev still : ℕ → Bool
  still key = is_some (value_at l.left key)

  same_active : (key : ℕ) → Contains l.active key → value_at l.left key ≡ value_at l.live key
  same_active key within =
      l.others key (λ first. apart_keys l.live l.prepared l.active l.distinct key first within)

  pub taken_keys : AreKeys l.left (filter still l.prepared) l.active
  taken_keys key = (
    λ there. elim (Contains-append_cases l.prepared l.active key ((l.keys key).0 (l.fewer key there))) [
      | inl first ↦ Contains-append_left (filter still l.prepared) l.active key
          (into_filter still l.prepared key first there)
      | inr second ↦ Contains-append_right (filter still l.prepared) l.active key second
    ],
    λ within. elim (Contains-append_cases (filter still l.prepared) l.active key within) [
      | inl first ↦ (out_of_filter still l.prepared key first).1
      | inr second ↦ subst (λ (o : Option Member). IsSome o) (sym (same_active key second))
          (active_there l.live l.prepared l.active l.keys key second)
    ],
  )

  pub taken_prepared : members_under l.left (filter still l.prepared)
      ≡ filter l.passes (members_under l.live l.prepared)
  taken_prepared =
      filtered_under l.live l.left l.passes l.prepared (prepared_there l.live l.prepared l.active l.keys) l.leave

  pub taken_active : members_under l.left l.active ≡ members_under l.live l.active
  taken_active = under_same l.live l.left l.active same_active

-- ---- a key goes from the one list to the other

-- a list, with the element at a place apart
parted : (xs : List ℕ) (i d : ℕ) → i < length xs → xs ≡ take i xs ++ (get_or xs i d ∷ drop (suc i) xs)
parted [] i d lt = absurd (omega (arith, lt))
parted (x ∷ xs) zero d lt = refl
parted (x ∷ xs) (suc i) d lt = ap (λ ys. x ∷ ys) (parted xs i d (omega (arith, lt)))

pub under_remove : (live : Slab Member) (xs : List ℕ) (i : ℕ)
    → members_under live (remove xs i) ≡ remove (members_under live xs) i
under_remove live [] zero = refl
under_remove live [] (suc i) = refl
under_remove live (x ∷ xs) zero = refl
under_remove live (x ∷ xs) (suc i) = ap (λ ms. member_under live x ∷ ms) (under_remove live xs i)

pub moved_keys : (live : Slab Member) (prepared active : List ℕ) (i key : ℕ) → i < length active
    → key ≡ get_or active i key → AreKeys live prepared active
    → AreKeys live (prepared ++ key ∷ []) (remove active i)
moved_keys live prepared active i key lt is keys k = (
  λ there. elim (Contains-append_cases prepared active k ((keys k).0 there)) [
    | inl first ↦ to_first (Contains-append_left prepared (key ∷ []) k first)
    | inr second ↦ elim (Contains-append_cases (take i active) (get_or active i key ∷ drop (suc i) active) k
        (subst (λ ks. Contains ks k) (parted active i key lt) second)) [
          | inl before ↦ to_second (Contains-append_left (take i active) (drop (suc i) active) k before)
          | inr later ↦ elim (contains_cases (get_or active i key) k (drop (suc i) active) later) [
            | inl same ↦ to_first (Contains-append_right prepared (key ∷ []) k (0, omega arith, is ∙ same))
            | inr behind ↦ to_second (Contains-append_right (take i active) (drop (suc i) active) k behind)
          ]
        ]
  ],
  λ within. (keys k).1 (elim (Contains-append_cases (prepared ++ key ∷ []) (remove active i) k within) [
    | inl first ↦ elim (Contains-append_cases prepared (key ∷ []) k first) [
      | inl own ↦ Contains-append_left prepared active k own
      | inr one ↦ elim (contains_cases key k [] one) [
        | inl same ↦ Contains-append_right prepared active k
            (i, lt, get_or_default active i k key lt ∙ sym is ∙ same)
        | inr none ↦ absurd (contains_none k none)
      ]
    ]
    | inr second ↦ Contains-append_right prepared active k (subst (λ ks. Contains ks k) (sym (parted active i key lt))
        (elim (Contains-append_cases (take i active) (drop (suc i) active) k second) [
          | inl before ↦ Contains-append_left (take i active) (get_or active i key ∷ drop (suc i) active) k before
          | inr behind ↦ Contains-append_right (take i active) (get_or active i key ∷ drop (suc i) active) k
              (contains_later (get_or active i key) k (drop (suc i) active) behind)
        ]))
  ]),
)
  where
    to_first : Contains (prepared ++ key ∷ []) k → Contains ((prepared ++ key ∷ []) ++ remove active i) k
    to_first = Contains-append_left (prepared ++ key ∷ []) (remove active i) k

    to_second : Contains (remove active i) k → Contains ((prepared ++ key ∷ []) ++ remove active i) k
    to_second = Contains-append_right (prepared ++ key ∷ []) (remove active i) k

-- ---- a key comes in

taken_apart : (xs : List ℕ) (i : ℕ) → xs ≡ take i xs ++ drop i xs
taken_apart xs zero = refl
taken_apart [] (suc i) = refl
taken_apart (x ∷ xs) (suc i) = ap (λ ys. x ∷ ys) (taken_apart xs i)

under_insert : (live : Slab Member) (xs : List ℕ) (i key : ℕ)
    → members_under live (insert xs i key) ≡ insert (members_under live xs) i (member_under live key)
under_insert live xs zero key = refl
under_insert live [] (suc i) key = refl
under_insert live (x ∷ xs) (suc i) key =
    ap (λ ms. member_under live x ∷ ms) (under_insert live xs i key)

module _ (live new : Slab Member) (prepared active : List ℕ) (keys : AreKeys live prepared active) (place key : ℕ)
    (v : Member) (vacant : value_at live key ≡ None) (update : Updates live new key (Some v)) where
  not_there : (k : ℕ) → Contains (prepared ++ active) k → k ≡ key → ⊥
  not_there k within same =
      let some = (keys k).1 within in
      let none : value_at live k ≡ None = ap (value_at live) same ∙ vacant in
      absurd (some_none (value_at live k) none some)
    where
      some_none : (o : Option Member) → o ≡ None → IsSome o → ⊥
      some_none None none some = cc
      some_none (Some m) none some = cc

  same_under : (ks : List ℕ) → ((k : ℕ) → Contains ks k → Contains (prepared ++ active) k)
      → members_under new ks ≡ members_under live ks
  same_under ks into = under_same live new ks (λ k within. update.others k (not_there k (into k within)))

  pub more_keys : AreKeys new prepared (insert active place key)
  more_keys k = elim (cases_eq k key) [
    | inl same ↦ (
      λ _. Contains-append_right prepared (insert active place key) k
          (Contains-append_right (take place active) (key ∷ drop place active) k (0, omega arith, sym same)),
      λ _. subst (ContainsKey new) (sym same) (ap is_some update.changed),
    )
    | inr differs ↦ (
      λ there. elim (Contains-append_cases prepared active k
          ((keys k).0 (subst (λ (o : Option Member). IsSome o) (update.others k differs) there))) [
            | inl first ↦ Contains-append_left prepared (insert active place key) k first
            | inr second ↦ Contains-append_right prepared (insert active place key) k (inserted k second)
          ],
      λ within. subst (λ (o : Option Member). IsSome o) (sym (update.others k differs))
          ((keys k).1 (elim (Contains-append_cases prepared (insert active place key) k within) [
            | inl first ↦ Contains-append_left prepared active k first
            | inr second ↦ Contains-append_right prepared active k (was_in k differs second)
          ])),
    )
  ]
    where
      inserted : (n : ℕ) → Contains active n → Contains (insert active place key) n
      inserted n within = elim (Contains-append_cases (take place active) (drop place active) n
          (subst (λ ks. Contains ks n) (taken_apart active place) within)) [
            | inl before ↦ Contains-append_left (take place active) (key ∷ drop place active) n before
            | inr behind ↦ Contains-append_right (take place active) (key ∷ drop place active) n
                (contains_later key n (drop place active) behind)
          ]

      was_in : (n : ℕ) → (n ≡ key → ⊥) → Contains (insert active place key) n → Contains active n
      was_in n differs within = subst (λ ks. Contains ks n) (sym (taken_apart active place))
          (elim (Contains-append_cases (take place active) (key ∷ drop place active) n within) [
            | inl before ↦ Contains-append_left (take place active) (drop place active) n before
            | inr rest ↦ elim (contains_cases key n (drop place active) rest) [
              | inl same ↦ absurd (differs (sym same))
              | inr behind ↦ Contains-append_right (take place active) (drop place active) n behind
            ]
          ])

  pub more_prepared : members_under new prepared ≡ members_under live prepared
  more_prepared = same_under prepared (Contains-append_left prepared active)

  pub more_active : members_under new (insert active place key) ≡ insert (members_under live active) place v
  more_active =
      under_insert new active place key
      ∙ (λ i. insert (same_under active (Contains-append_right prepared active) i) place (or_nobody (update.changed i)))

-- ---- one that isn't prepared is written

module _ (live : Slab Member) (prepared active : List ℕ) (keys : AreKeys live prepared active) (old : Run)
    (seen : run_of (members_under live prepared) (members_under live active) ≡ old) (distinct : AreDistinct old)
    (place : ℕ) (within : place < length old.active) (given : List ℕ) (same : given ≡ active) where
  abbrev key : ℕ
  key = get_or given place 0

  low : place < length active
  low =
      subst (λ (n : ℕ). place < n) (length-map active (member_under live))
      (subst (λ (run : Run). place < length run.active) (sym seen) within)

  here : get_or active place key ≡ key
  here = get_or_default active place key 0 low ∙ ap (λ (ks : List ℕ). get_or ks place 0) (sym same)

  pub written_there : ContainsKey live key
  written_there = active_there live prepared active keys key (place, low, here)

  -- who stands under the key stands at the place
  pub own_is : (m : Member) → value_at live key ≡ Some m → (d : Member) → m ≡ get_or old.active place d
  own_is m is d =
      sym (ap or_nobody is)
      ∙ ap (member_under live) (sym here)
      ∙ sym (at_under live active place key d low)
      ∙ ap (λ (run : Run). get_or run.active place d) seen

  still_distinct : AreDistinct (run_of (members_under live prepared) (members_under live active))
  still_distinct = subst AreDistinct (sym seen) distinct

  pub written : (v w : Member) → v ≡ w
      → run_of (members_under (with_value live key v) prepared) (members_under (with_value live key v) active)
      ≡ record old { active = set old.active place w }
  written v w is =
      (λ i. run_of (apart i) (at i))
      ∙ ap (λ (run : Run). record run { active = set run.active place w }) seen
    where
      apart : members_under (with_value live key v) prepared ≡ members_under live prepared
      apart =
          written_apart live key v written_there prepared
          (λ first. apart_keys live prepared active still_distinct key first (place, low, here))

      at : members_under (with_value live key v) active ≡ set (members_under live active) place w
      at =
          written_at live key v written_there active place
          (second_distinct (members_under live prepared) (members_under live active) still_distinct) low here
          ∙ ap (set (members_under live active) place) is

  -- or nothing is
  pub unwritten : (v m : Member) → value_at live key ≡ Some m → v ≡ m
      → run_of (members_under (with_value live key v) prepared) (members_under (with_value live key v) active) ≡ old
  unwritten v m is same_member =
      written v (get_or old.active place m) (same_member ∙ own_is m is m)
      ∙ ap (λ (ms : List Member). record old { active = ms }) (set-get_or old.active place m)

  pub same_numbers : (v m : Member) → value_at live key ≡ Some m → v.tx ≡ m.tx
      → map tx_of (members_under (with_value live key v) active) ≡ map tx_of old.active
  same_numbers v m is tx =
      ap (λ (run : Run). map tx_of run.active) (written v v refl)
      ∙ map-set_same tx_of old.active place v m (tx ∙ ap tx_of (own_is m is m))
