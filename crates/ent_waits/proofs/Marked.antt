-- The rows that are made mark each pair of a waiter and one that it waits for.
use Rattle.std.proofs.Common.{◌≡◌, ◌≢◌, inl, inr, ℕ, ◌+◌, ◌<◌, Bool, true, false}
use Rattle.std.proofs.Common.{if◌then◌else◌, List, [], ◌∷◌, length, map, get_or, set, take, refl, sym, ap, subst}
use Rattle.std.proofs.Common.{◌∙◌, arith}
use Rattle.std.specs.Prelude.{All, slice_index}
use Rattle.std.specs.List.{flat_map}
use Rattle.std.proofs.lemmas.List.{get_or_default, get_or-map, get_or-set_other, get_or-take, length-map}
use Rattle.std.proofs.lemmas.Grind.{get_or-set_at}
use Rattle.std.proofs.lemmas.List.Elements.{All-cons, All-nil}
use Rattle.std.proofs.lemmas.Bool.{cases_lt}
use Rattle.ent_lists.specs.Elements.{both_and}
use Rattle.ent_group.specs.Reach.{IsAt}
use Rattle.ent_semantics.specs.Serial.{numbered}
use Rattle.ent_members.specs.Order.{tx_of}
use Rattle.ent_run.specs.Run.{Run, with_run}
use Rattle.ent_run.specs.Waits.{is_awaited}
use Rattle.ent_protocol.specs.Job.{Job}
use Rattle.ent_protocol.specs.Member.{next_in}
use Rattle.ent_protocol.specs.State.{Member, Submitted}
use Rattle.ent_protocol.specs.Waits.{is_waiting, next_uses}
use Rattle.ent_waits.specs.Rows.{IsMarkedPair, MarksAll, StandsAt}
use Rattle.ent_waits.specs.Waits.{awaits_now, gathered, nothing, pair_if_awaited, pairs_while_waiting, state_with}
use Rattle.ent_waits.proofs.OnCycles.{all_of_flat_map}

-- the element at a place, whatever is read beyond the end
abbrev pub IsElement : List Member → ℕ → Member → Type 0
IsElement members at here = (d : Member) → get_or members at d ≡ here

element_is : (members : List Member) (at place : ℕ) (here member : Member) → IsElement members at here → place ≡ at
    → StandsAt members place member → here ≡ member
element_is members at place here member is same stands =
    sym (is member) ∙ ap (λ (k : ℕ). get_or members k member) (sym same) ∙ stands.1

abbrev pub AreRows : Run → List Submitted → List Job → List ℕ → Type 0
AreRows run submitted lent rows =
    (place : ℕ) (asker : Member) → StandsAt run.active place asker
    → MarksAll run.active (awaits_now run submitted lent asker) (slice_index rows place)

-- those at the places of members are left when the others go
pub first_rows : (run : Run) (submitted : List Submitted) (lent : List Job) (rows : List ℕ)
    → AreRows run submitted lent rows → AreRows run submitted lent (take (length run.active) rows)
first_rows run submitted lent rows are = λ place asker stands.
    subst (λ (row : ℕ). MarksAll run.active (awaits_now run submitted lent asker) row)
    (sym (get_or-take (length run.active) rows place 0 stands.0)) (are place asker stands)

abbrev pub AreRowsUpto : Run → List Submitted → List Job → ℕ → List ℕ → Type 0
AreRowsUpto run submitted lent count rows =
    (place : ℕ) (asker : Member) → place < count → StandsAt run.active place asker
    → MarksAll run.active (awaits_now run submitted lent asker) (slice_index rows place)

pub rows_more : (run : Run) (submitted : List Submitted) (lent : List Job) (rows : List ℕ) (at row : ℕ) (here : Member)
    → IsElement run.active at here → at < length rows → MarksAll run.active (awaits_now run submitted lent here) row
    → AreRowsUpto run submitted lent at rows → AreRowsUpto run submitted lent (at + 1) (set rows at row)
rows_more run submitted lent rows at row here is room marks upto = λ place asker below stands.
    let P : ℕ → Type 0 = λ own. MarksAll run.active (awaits_now run submitted lent asker) own in
    elim (cases_lt place at) [
      | inl before ↦
          let other : place ≢ at = λ same. absurd (omega (arith, before, same)) in
          subst P (sym (get_or-set_other rows at place row 0 other)) (upto place asker before stands)
      | inr past ↦
          let same : place ≡ at = omega arith in
          subst P (sym (get_or-set_at rows at place row 0 same room))
          (subst (λ (member : Member). MarksAll run.active (awaits_now run submitted lent member) row)
          (element_is run.active at place here asker is same stands) marks)
    ]

place_of : (members : List Member) (k : ℕ) (d : Member) → k < length members
    → IsAt (map tx_of members) (tx_of (get_or members k d)) k
place_of members k d within =
    (omega (arith, length-map members tx_of, within), get_or-map tx_of members k d 0 within)

stands : (members : List Member) (k : ℕ) (d : Member) → k < length members → StandsAt members k (get_or members k d)
stands members k d within = (within, get_or_default members k (get_or members k d) d within)

all_if : (P : ℕ × ℕ → Type 0) (b : Bool) (pairs : List (ℕ × ℕ)) → (b ≡ true → All P pairs)
    → All P (if b then pairs else [])
all_if P true pairs all = all refl
all_if P false pairs all = All-nil P

pub marked_pairs : (run : Run) (submitted : List Submitted) (lent : List Job) (rows : List ℕ)
    → AreRows run submitted lent rows
    → All (IsMarkedPair (map tx_of run.active) rows) (gathered run submitted lent)
marked_pairs run submitted lent rows are =
    let active = run.active in
    let P : ℕ × ℕ → Type 0 = IsMarkedPair (map tx_of active) rows in
    all_of_flat_map P (pairs_while_waiting run submitted lent) active (λ k d within.
    let asker = get_or active k d in
    let asked = next_uses (next_in (numbered submitted asker.tx) asker) in
    let now = is_waiting (state_with run submitted lent nothing) asker in
    all_if P now (flat_map (pair_if_awaited run asker asked) active) (λ waiting.
    all_of_flat_map P (pair_if_awaited run asker asked) active (λ j e below.
    let other = get_or active j e in
    let test = is_awaited (with_run run nothing) asker asked other in
    all_if P test ((asker.tx, other.tx) ∷ []) (λ awaited.
    All-cons P (asker.tx, other.tx) [] (record {
      waiter = k;
      awaited = j;
      waits = place_of active k d within;
      other = place_of active j e below;
      marked = are k asker (stands active k d within) j other (stands active j e below)
          (both_and now test waiting awaited);
    }) (All-nil P)))))
