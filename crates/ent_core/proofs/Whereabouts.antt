-- Where a transaction stands: as a member, else as it is dormant, else by its fate.
use Rattle.std.proofs.Common.{◌≡◌, ℕ, ◌==◌, Bool, true, false, cond, ◌||◌, List, [], ◌∷◌, ◌++◌, map, refl, sym, ap, ◌∙◌}
use Rattle.std.proofs.Common.{Some, None, if◌then◌else◌}
use Rattle.std.specs.List.{filter, list_any}
use Rattle.ent_semantics.specs.declared.book.Fated.{Fated}
use Rattle.ent_protocol.specs.Lookup.{Standing, active_standing, standing, turn_of}
use Rattle.ent_protocol.specs.Lookup as lookups
use Rattle.ent_protocol.specs.Member.{active_member, is_lent, is_tx, next_of}
use Rattle.ent_protocol.specs.State.{State, Dormant, Member, first_of}
use Rattle.ent_protocol_laws.specs.Standing.{StandOnce}
use Rattle.ent_waits.specs.Free.{IsIdle}
use Rattle.ent_core.proofs.OnePlace.{active_has_no_fate, active_is_not_dormant, active_is_not_prepared}
use Rattle.ent_core.proofs.OnePlace.{fated_not_dormant}
use Rattle.ent_core.proofs.OnePlace.{prepared_has_no_fate, prepared_is_not_dormant}

pub nobody : {A : Type 0} (xs : List A) → None ≡ first_of xs → xs ≡ []
nobody [] e = refl
nobody (x ∷ xs) e = absurd cc

seen : {A B : Type 0} (f : A → B) (xs : List A) (x : A) → Some x ≡ first_of xs → Some (f x) ≡ first_of (map f xs)
seen f [] x e = absurd cc
seen f (y ∷ ys) x e = let same : x ≡ y = cc in ap (λ z. Some (f z)) same

in_front : {A : Type 0} (x : A) (xs rest : List A) → Some x ≡ first_of xs → Some x ≡ first_of (xs ++ rest)
in_front x [] rest e = absurd cc
in_front x (y ∷ ys) rest e = e

pub none_of : {A : Type 0} (p : A → Bool) (xs : List A) → list_any p xs ≡ false → filter p xs ≡ []
none_of p [] e = refl
none_of {A} p (x ∷ xs) e = by (p x) e (λ h. none_of p xs h)
  where
    by : (b : Bool) → (b || list_any p xs) ≡ false → (list_any p xs ≡ false → filter p xs ≡ [])
        → cond b (x ∷ filter p xs) (filter p xs) ≡ []
    by true h more = absurd cc
    by false h more = more h

some_of : {A B : Type 0} (p : A → Bool) (f : B) (xs : List A) (rest : List B) → list_any p xs ≡ true
    → Some f ≡ first_of (map (λ x. f) (filter p xs) ++ rest)
some_of p f [] rest e = absurd cc
some_of {A} {B} p f (x ∷ xs) rest e = by (p x) e (λ h. some_of p f xs rest h)
  where
    by : (b : Bool) → (b || list_any p xs) ≡ true
        → (list_any p xs ≡ true → Some f ≡ first_of (map (λ (y : A). f) (filter p xs) ++ rest))
        → Some f ≡ first_of (map (λ (y : A). f) (cond b (x ∷ filter p xs) (filter p xs)) ++ rest)
    by true h more = refl
    by false h more = more h

module _ (s : State) (tx : ℕ) where
  abbrev fated : List Fated
  fated = filter (λ one. one.tx == tx) s.fates

  abbrev waiting : List Dormant
  waiting = filter (λ one. one.tx == tx) s.dormant

  abbrev as_active : List Standing
  as_active = map (active_standing s) (filter (is_tx tx) s.active)

  abbrev as_prepared : List Standing
  as_prepared = map (λ member. lookups.Prepared) (filter (is_tx tx) s.prepared)

  abbrev by_fate : Fated → Standing
  by_fate one = lookups.Finished one.fate

  abbrev by_runs : Dormant → Standing
  by_runs own = lookups.Dormant own.runs

  unfated : fated ≡ [] → first_of (map by_runs waiting ++ as_prepared ++ as_active) ≡ standing s tx
  unfated no_fate = λ i. first_of (map by_fate (sym no_fate i) ++ map by_runs waiting ++ as_prepared ++ as_active)

  neither : fated ≡ [] → waiting ≡ [] → first_of (as_prepared ++ as_active) ≡ standing s tx
  neither no_fate not_dormant =
      (λ i. first_of (map by_runs (sym not_dormant i) ++ as_prepared ++ as_active)) ∙ unfated no_fate

  unprepared : list_any (is_tx tx) s.prepared ≡ false → first_of as_active ≡ first_of (as_prepared ++ as_active)
  unprepared e =
      λ i. first_of (map (λ (member : Member). lookups.Prepared) (sym (none_of (is_tx tx) s.prepared e) i) ++ as_active)

  pub stands_prepared : StandOnce s → list_any (is_tx tx) s.prepared ≡ true → Some lookups.Prepared ≡ standing s tx
  stands_prepared stand prepared =
      some_of (is_tx tx) lookups.Prepared s.prepared as_active prepared
      ∙ neither (prepared_has_no_fate s tx stand prepared) (prepared_is_not_dormant s tx stand prepared)

  pub stands_active : StandOnce s → list_any (is_tx tx) s.prepared ≡ false
      → (member : Member) → Some member ≡ first_of (filter (is_tx tx) s.active)
      → Some (active_standing s member) ≡ standing s tx
  stands_active stand not_prepared member there =
      seen (active_standing s) (filter (is_tx tx) s.active) member there ∙ unprepared not_prepared
      ∙ neither (active_has_no_fate s tx stand member there) (active_is_not_dormant s tx stand member there)

  pub stands_dormant : StandOnce s → (own : Dormant) → Some own ≡ first_of waiting
      → Some (lookups.Dormant own.runs) ≡ standing s tx
  stands_dormant stand own there =
      in_front (by_runs own) (map by_runs waiting ++ as_prepared) as_active
      (in_front (by_runs own) (map by_runs waiting) as_prepared (seen by_runs waiting own there))
      ∙ unfated (fated_not_dormant s tx stand own there)

  pub stands_finished : (one : Fated) → Some one ≡ first_of fated → Some (lookups.Finished one.fate) ≡ standing s tx
  stands_finished one there =
      in_front (by_fate one) (map by_fate fated ++ map by_runs waiting ++ as_prepared) as_active
      (in_front (by_fate one) (map by_fate fated ++ map by_runs waiting) as_prepared
      (in_front (by_fate one) (map by_fate fated) (map by_runs waiting) (seen by_fate fated one there)))

  pub stands_nowhere : None ≡ first_of fated → None ≡ first_of waiting → list_any (is_tx tx) s.prepared ≡ false
      → None ≡ first_of (filter (is_tx tx) s.active) → None ≡ standing s tx
  stands_nowhere no_fate not_dormant not_prepared not_active =
      (λ i. first_of (map (active_standing s) (sym (nobody (filter (is_tx tx) s.active) not_active) i)))
      ∙ unprepared not_prepared ∙ neither (nobody fated no_fate) (nobody waiting not_dormant)

  -- who isn't prepared and is at its turn is ready
  pub stands_ready : StandOnce s → (member : Member) → active_member s tx ≡ Some member → IsIdle s member
      → standing s tx ≡ Some (lookups.Ready (turn_of (next_of s member)))
  stands_ready stand member there idle =
      let turn = turn_of (next_of s member) in
      let free = active_is_not_prepared s tx stand member (sym there) in
      let is = ready member.posted (is_lent s member.tx) (lookups.Ready turn) idle in
      sym (stands_active stand free member (sym there)) ∙ ap (λ (x : Standing). Some x) is
    where
      ready : (posted out : Bool) (other : Standing) → (posted || out) ≡ false
          → (if posted then lookups.Posted else (if out then lookups.Out else other)) ≡ other
      ready true out other off = absurd cc
      ready false true other off = absurd cc
      ready false false other off = refl
