-- Tickets that wait and tickets that ended, as a claimant's room goes on.
use Rattle.std.proofs.Common.{◌≡◌, ◌⊎◌, ◌≤◌, ◌<◌, ◌+◌, ℕ, ◌==◌, Bool, true, false, cond, not, List, [], ◌∷◌, ◌++◌}
use Rattle.std.proofs.Common.{refl, sym, ap, subst, ◌∙◌, inl, inr, arith}
use Rattle.std.proofs.lemmas.Bool.{cases_lt, cases_eq}
use Rattle.ent_lists.specs.Elements.{In, in_first, in_second, of_map, to_map, to_filter, same_number, other_number}
use Rattle.ent_lists.specs.Elements.{filter_joined}
use Rattle.ent_waiting.specs.Store.{Waiter, Ended, Waits, HasEnded}
use Rattle.ent_waiting.specs.World.{without, left_by}
use Rattle.ent_waiting.proofs.Times.{times, times_joined, times_same, times_other, times_in, times_gone, times_left}

abbrev pub waiter_of : {S : Type 0} → Waiter S → ℕ
waiter_of waiter = waiter.ticket

abbrev pub ticket_of : {E : Type 0} → Ended E → ℕ
ticket_of one = one.ticket

module _ {E : Type 0} where
  pub ended_on : (t : ℕ) (ended more : List (Ended E)) → HasEnded ended t → HasEnded (ended ++ more) t
  ended_on t ended more at =
      let r = of_map ticket_of ended t at in
      subst (HasEnded (ended ++ more)) (sym r.2) (to_map ticket_of (ended ++ more) r.0 (in_first ended more r.0 r.1))

  pub ended_behind : (t : ℕ) (ended more : List (Ended E)) → HasEnded more t → HasEnded (ended ++ more) t
  ended_behind t ended more at =
      let r = of_map ticket_of more t at in
      subst (HasEnded (ended ++ more)) (sym r.2) (to_map ticket_of (ended ++ more) r.0 (in_second ended more r.0 r.1))

module _ {S E : Type 0} where
  -- it waits with its script, or has ended
  abbrev pub Stays : List (Waiter S) → List (Ended E) → Waiter S → Type 0
  Stays waiting ended waiter = In waiter waiting ⊎ HasEnded ended waiter.ticket

  pub stays_put : (waiting more : List (Waiter S)) (ended : List (Ended E)) (waiter : Waiter S)
      → Stays waiting ended waiter → Stays (waiting ++ more) ended waiter
  stays_put waiting more ended waiter (inl at) = inl (in_first waiting more waiter at)
  stays_put waiting more ended waiter (inr at) = inr at

  pub stays_end : (waiting : List (Waiter S)) (ended : List (Ended E)) (one : Ended E) (waiter : Waiter S)
      → Stays waiting ended waiter → Stays (without one.ticket waiting) (ended ++ one ∷ []) waiter
  stays_end waiting ended one waiter (inr at) = inr (ended_on waiter.ticket ended (one ∷ []) at)
  stays_end waiting ended one waiter (inl at) = by (waiter.ticket == one.ticket) refl
    where
      by : (b : Bool) → (waiter.ticket == one.ticket) ≡ b
          → Stays (without one.ticket waiting) (ended ++ one ∷ []) waiter
      by true is =
          inr (ended_behind waiter.ticket ended (one ∷ []) (inl (same_number waiter.ticket one.ticket is)))
      by false is =
          inl (to_filter (λ (w : Waiter S). not (w.ticket == one.ticket)) waiting waiter at (ap not is))

  -- how often a ticket waits or ended
  abbrev pub counts : ℕ → List (Waiter S) → List (Ended E) → ℕ
  counts t waiting ended = times waiter_of t waiting + times ticket_of t ended

  -- no ticket twice, and none that wasn't given out
  pub record AreOnce (waiting : List (Waiter S)) (ended : List (Ended E)) (next : ℕ) : Type 0 where
    pub once : (t : ℕ) → counts t waiting ended ≤ 1
    pub none : (t : ℕ) → next ≤ t → counts t waiting ended ≡ 0

  -- who waited then, waits or ended since; so do the tickets that were given out since
  pub record Goes (before : List (Waiter S)) (first : ℕ) (waiting : List (Waiter S)) (ended : List (Ended E))
      (next : ℕ) : Type 0 where
    pub later : first ≤ next
    pub keeps : (waiter : Waiter S) → In waiter before → Stays waiting ended waiter
    pub old : (t : ℕ) → t < first → counts t waiting ended ≡ times waiter_of t before
    pub new : (t : ℕ) → first ≤ t → t < next → counts t waiting ended ≡ 1
    pub none : (t : ℕ) → next ≤ t → counts t waiting ended ≡ 0

  -- where one ticket more is given out
  pub goes_put : (before : List (Waiter S)) (first : ℕ) (waiting : List (Waiter S)) (ended : List (Ended E)) (next : ℕ)
      (script : S)
      → Goes before first waiting ended next
      → Goes before first (waiting ++ record { ticket = next; script = script } ∷ []) ended (next + 1)
  goes_put before first waiting ended next script h =
      let later = h.later in
      record {
        later = omega (arith, later);
        keeps = λ w at. stays_put waiting (waiter ∷ []) ended w (h.keeps w at);
        old = λ t low. other t (λ same. absurd (omega (arith, same, low, later))) (h.old t low);
        new = λ t from low. elim (cases_lt t next) [
          | inl less ↦ other t (λ same. absurd (omega (arith, same, less))) (h.new t from less)
          | inr more ↦ own t (omega (arith, more, low)) (h.none t more)
        ];
        none = λ t from. other t (λ same. absurd (omega (arith, same, from))) (h.none t (omega (arith, from)));
      }
    where
      waiter : Waiter S
      waiter = record { ticket = next; script = script }

      other : (t : ℕ) → (next ≡ t → ⊥) → {n : ℕ} → counts t waiting ended ≡ n
          → counts t (waiting ++ record { ticket = next; script = script } ∷ []) ended ≡ n
      other t apart e =
          ap (λ k. k + times ticket_of t ended)
          (times_other waiter_of t waiting (record { ticket = next; script = script }) apart)
          ∙ e

      own : (t : ℕ) → next ≡ t → counts t waiting ended ≡ 0
          → counts t (waiting ++ record { ticket = next; script = script } ∷ []) ended ≡ 1
      own t same e =
          let more = times_same waiter_of t waiting (record { ticket = next; script = script }) same in
          omega (arith, more, e)

  -- a ticket that waits once, and then ended once
  pub moved_over : (waiting : List (Waiter S)) (ended : List (Ended E)) (one : Ended E)
      → counts one.ticket waiting ended ≤ 1 → Waits waiting one.ticket → (t : ℕ)
      → counts t (without one.ticket waiting) (ended ++ one ∷ []) ≡ counts t waiting ended
  moved_over waiting ended one low at t = elim (cases_eq one.ticket t) [
    | inl same ↦ subst (λ (n : ℕ). counts n (without one.ticket waiting) (ended ++ one ∷ []) ≡ counts n waiting ended)
        same here
    | inr apart ↦ λ i. times_left waiter_of one.ticket t apart waiting i + times_other ticket_of t ended one apart i
  ]
    where
      here : counts one.ticket (without one.ticket waiting) (ended ++ one ∷ []) ≡ counts one.ticket waiting ended
      here =
          let gone = times_gone waiter_of one.ticket waiting in
          let more = times_same ticket_of one.ticket ended one refl in
          let r = of_map waiter_of waiting one.ticket at in
          let there = times_in waiter_of one.ticket waiting r.0 r.1 (sym r.2) in
          omega (arith, gone, more, there, low)

  pub goes_end : (before : List (Waiter S)) (first : ℕ) (waiting : List (Waiter S)) (ended : List (Ended E)) (next : ℕ)
      (one : Ended E)
      → counts one.ticket waiting ended ≤ 1 → Waits waiting one.ticket
      → Goes before first waiting ended next
      → Goes before first (without one.ticket waiting) (ended ++ one ∷ []) next
  goes_end before first waiting ended next one low at h =
      let over = moved_over waiting ended one low at in
      record {
        later = h.later;
        keeps = λ w there. stays_end waiting ended one w (h.keeps w there);
        old = λ t below. over t ∙ h.old t below;
        new = λ t from below. over t ∙ h.new t from below;
        none = λ t from. over t ∙ h.none t from;
      }

  -- where nothing happened yet
  pub goes_nowhere : (waiting : List (Waiter S)) (ended : List (Ended E)) (next : ℕ) → AreOnce waiting ended next
      → Goes waiting next waiting [] next
  goes_nowhere waiting ended next h =
      record {
        later = omega arith;
        keeps = λ w at. inl at;
        old = λ t low. omega arith;
        new = λ t from low. absurd (omega (arith, from, low));
        none = λ t from. let e = h.none t from in omega (arith, e);
      }

  module _ (before : List (Waiter S)) (past : List (Ended E)) (first : ℕ) (waiting : List (Waiter S))
      (ended : List (Ended E)) (next : ℕ) where
    -- no ticket twice
    pub goes_once : AreOnce before past first → Goes before first waiting ended next → (t : ℕ)
        → counts t waiting ended ≤ 1
    goes_once h goes t = elim (cases_lt t first) [
      | inl less ↦ let e = goes.old t less in let low = h.once t in omega (arith, e, low)
      | inr from ↦ elim (cases_lt t next) [
        | inl less ↦ let e = goes.new t from less in omega (arith, e)
        | inr more ↦ let e = goes.none t more in omega (arith, e)
      ]
    ]

    joined : (t : ℕ) → counts t waiting (past ++ ended) ≡ counts t waiting ended + times ticket_of t past
    joined t = let e = times_joined ticket_of t past ended in omega (arith, e)

    -- what was, and what came behind
    pub once_behind : AreOnce before past first → Goes before first waiting ended next
        → AreOnce waiting (past ++ ended) next
    once_behind h goes =
        record {
          once = λ t. elim (cases_lt t first) [
            | inl less ↦
                let e = goes.old t less in let low = h.once t in let j = joined t in omega (arith, e, low, j)
            | inr from ↦
                let e = h.none t from in let low = goes_once h goes t in let j = joined t in omega (arith, e, low, j)
          ];
          none = λ t from.
              let later = goes.later in
              let e = h.none t (omega (arith, later, from)) in
              let f = goes.none t from in
              let j = joined t in
              omega (arith, e, f, j);
        }

    -- whoever stands in what was written stands there behind what was before
    pub stays_behind : (waiter : Waiter S) → Stays waiting ended waiter → Stays waiting (past ++ ended) waiter
    stays_behind waiter (inl at) = inl at
    stays_behind waiter (inr at) = inr (ended_behind waiter.ticket past ended at)

    -- whoever stood there stands there still
    pub stays_on : Goes before first waiting ended next → (waiter : Waiter S) → Stays before past waiter
        → Stays waiting (past ++ ended) waiter
    stays_on goes waiter (inl at) = stays_behind waiter (goes.keeps waiter at)
    stays_on goes waiter (inr at) = inr (ended_on waiter.ticket past ended at)

-- ---- who is left

module _ {S E : Type 0} where
  pub left_end : (ended : List (Ended E)) (one : Ended E) (waiting : List (Waiter S))
      → left_by (ended ++ one ∷ []) waiting ≡ without one.ticket (left_by ended waiting)
  left_end [] one waiting = refl
  left_end (other ∷ ended) one waiting = left_end ended one (without other.ticket waiting)

  -- one more waits, who hasn't ended
  pub left_put : (ended : List (Ended E)) (waiter : Waiter S) → (HasEnded ended waiter.ticket → ⊥)
      → (waiting : List (Waiter S))
      → left_by ended (waiting ++ waiter ∷ []) ≡ left_by ended waiting ++ waiter ∷ []
  left_put [] waiter fresh waiting = refl
  left_put (one ∷ ended) waiter fresh waiting =
      ap (left_by ended) stays ∙ left_put ended waiter (λ at. fresh (inr at)) (without one.ticket waiting)
    where
      stays : without one.ticket (waiting ++ waiter ∷ []) ≡ without one.ticket waiting ++ waiter ∷ []
      stays =
          filter_joined (λ (w : Waiter S). not (w.ticket == one.ticket)) waiting (waiter ∷ [])
          ∙ ap (λ b. without one.ticket waiting ++ cond (not b) (waiter ∷ []) [])
          (other_number waiter.ticket one.ticket (λ same. fresh (inl same)))

  -- a ticket that is given out next hasn't ended
  pub is_fresh : (before : List (Waiter S)) (first : ℕ) (waiting : List (Waiter S)) (ended : List (Ended E)) (next : ℕ)
      → Goes before first waiting ended next → HasEnded ended next → ⊥
  is_fresh before first waiting ended next h at =
      let r = of_map ticket_of ended next at in
      let there = times_in ticket_of next ended r.0 r.1 (sym r.2) in
      let none = h.none next (omega arith) in
      absurd (omega (arith, there, none))
