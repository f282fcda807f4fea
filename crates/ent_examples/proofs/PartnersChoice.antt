-- The partners' least choice is flight 122 for both.
use Rattle.std.proofs.Common.{◌≡◌, ◌⊎◌, inl, inr, ℕ, suc, Bool, true, false, ◌&&◌, ◌||◌, List, [], ◌∷◌, ◌++◌, map}
use Rattle.std.proofs.Common.{refl, sym, ap, subst, ◌∙◌, arith, rules, length}
use Rattle.std.specs.Prelude.{pos, codes, Contains, ◌==◌}
use Rattle.std.specs.Cmp.{Equal-is}
use Rattle.std.specs.List.{filter, flat_map, list_any}
use Rattle.std.specs.Ordering.{eq_by_cmp}
use Rattle.std.specs.declared.cmp.Ordering.TheVariants.{Less, Equal, Greater}
use Rattle.ent_lists.specs.Laws.{ascending-from_list, contains-from_list}
use Rattle.ent_lists.specs.Sets as set
use Rattle.ent_value.specs.Order.{rows_total, exact_rows}
use Rattle.ent_value.specs.Value.{row_cmp}
use Rattle.ent_value.specs.declared.value.Value.{Value}
use Rattle.ent_value.specs.declared.value.Value.TheVariants.{Int, Text}
use Rattle.ent_tree.specs.declared.operand.Comparison.TheVariants.{Equal as EqualTo}
use Rattle.ent_semantics.specs.declared.answer.Fact.{Fact}
use Rattle.ent_semantics.specs.Database.{opening_database}
use Rattle.ent_semantics.specs.Entangled.{Valuation}
use Rattle.ent_semantics.specs.Selection.{meets}
use Rattle.ent_semantics.specs.declared.operand.Operand.TheVariants as operands
use Rattle.ent_semantics.specs.declared.statement.Select.{Select}
use Rattle.ent_semantics.specs.Form.{Tables, form_rows, is_form_grounding, operand_worth}
use Rattle.ent_semantics.specs.Choice.{IsChoice, IsLeastChoice, all_heads, all_posts, choice_cmp}
use Rattle.ent_protocol.specs.Job.{tables_of}
use Rattle.ent_examples.specs.Partners.{partners_opening, Mickey, Minnie, LA, flight_122, pair, pair_job, query}
use Rattle.ent_examples.proofs.PartnersPool.{two_cases}

abbrev pub seen : Tables
seen = tables_of (pair_job 1 2).tables

abbrev pub flight_123 : Value
flight_123 = Int (pos 123)

abbrev flights : List (List Value)
flights = (flight_122 ∷ LA ∷ []) ∷ (flight_123 ∷ LA ∷ []) ∷ (Int (pos 136) ∷ Text (codes "Paris") ∷ []) ∷ []

sorted : set.ascending (opening_database partners_opening (codes "Flights")) ≡ flights
sorted = ascending-from_list rows_total exact_rows flights tt

abbrev pub LA_flights : List (List Value)
LA_flights = (flight_122 ∷ []) ∷ (flight_123 ∷ []) ∷ []

-- FROM Flights WHERE dest = 'LA'
abbrev to_LA : Select Value
to_LA =
    record {
      sources = 0 ∷ [];
      items = operands.Column 0 ∷ [];
      tests = record { left = operands.Column 1; comparison = EqualTo; right = operands.Known LA } ∷ [];
    }

rows_to_LA : form_rows (λ value. value) seen to_LA ≡ set.from_list LA_flights
rows_to_LA =
    ap (λ (rows : List (List Value)).
    set.from_list (map (λ row. map (operand_worth (λ value. value) row) to_LA.items)
    (filter (meets (operand_worth (λ value. value)) to_LA.tests)
    (flat_map (λ row. map (λ others. row ++ others) ([] ∷ [])) rows)))) sorted

abbrev pub goes : Value → Bool
goes x = list_any (eq_by_cmp row_cmp (x ∷ [])) LA_flights

pub grounds : (tx : ℕ) (own partner x : Value)
    → is_form_grounding (λ value. value) seen (query tx own partner).statement (x ∷ []) ≡ ((goes x && true) && true)
grounds tx own partner x =
    ap (λ rows. (set.contains rows (x ∷ []) && true) && true) rows_to_LA
    ∙ ap (λ b. (b && true) && true) (contains-from_list rows_total exact_rows LA_flights (x ∷ []))

-- ---- a choice

abbrev pub taken : List Valuation
taken = (flight_122 ∷ []) ∷ (flight_122 ∷ []) ∷ []

met : (one two : ℕ) (post : Fact) → Contains (all_posts (pair one two) taken) post
    → Contains (all_heads (pair one two) taken) post
met one two post there = of (two_cases _ _ post there)
  where
    of : (post ≡ record { relation = codes "R"; values = Minnie ∷ flight_122 ∷ [] })
        ⊎ (post ≡ record { relation = codes "R"; values = Mickey ∷ flight_122 ∷ [] })
        → Contains (all_heads (pair one two) taken) post
    of (inl e) = subst (λ fact. Contains (all_heads (pair one two) taken) fact) (sym e) (1, omega arith, refl)
    of (inr e) = subst (λ fact. Contains (all_heads (pair one two) taken) fact) (sym e) (0, omega arith, refl)

-- ---- the least one

same_value : (x y : Value) → x ∷ [] ≡ y ∷ [] → x ≡ y
same_value x y e = cc

is_flight : (x y : Value) → eq_by_cmp row_cmp (x ∷ []) (y ∷ []) ≡ true → x ≡ y
is_flight x y e =
    same_value x y (exact_rows (x ∷ []) (y ∷ []) ((Equal-is (row_cmp (x ∷ []) (y ∷ []))).0 e))

either : (a b : Bool) → (((a || (b || false)) && true) && true) ≡ true → (a ≡ true) ⊎ (b ≡ true)
either true b h = inl refl
either false true h = inr refl
either false false h = cc

one_of_two : (tx : ℕ) (own partner x : Value)
    → is_form_grounding (λ value. value) seen (query tx own partner).statement (x ∷ []) ≡ true
    → (x ≡ flight_122) ⊎ (x ≡ flight_123)
one_of_two tx own partner x h =
    of (either (eq_by_cmp row_cmp (x ∷ []) (flight_122 ∷ [])) (eq_by_cmp row_cmp (x ∷ []) (flight_123 ∷ []))
    (sym (grounds tx own partner x) ∙ h))
  where
    of : (eq_by_cmp row_cmp (x ∷ []) (flight_122 ∷ []) ≡ true) ⊎ (eq_by_cmp row_cmp (x ∷ []) (flight_123 ∷ []) ≡ true)
        → (x ≡ flight_122) ⊎ (x ≡ flight_123)
    of (inl e) = inl (is_flight x flight_122 e)
    of (inr e) = inr (is_flight x flight_123 e)

no_false : (c b : Bool) → c ≡ false → (c && b) ≡ true → ⊥
no_false true b e h = cc
no_false false b e h = cc

not_one : (n : ℕ) → (suc (suc n) == 1) ≡ false
not_one n = grind (arith, rules)

too_long : (n : ℕ) (b : Bool) → ((suc (suc n) == 1) && b) ≡ true → ⊥
too_long n b h = no_false (suc (suc n) == 1) b (not_one n) h

pub one_value : (tx : ℕ) (own partner : Value) (values : Valuation)
    → is_form_grounding (λ value. value) seen (query tx own partner).statement values ≡ true
    → (x : Value) × (values ≡ x ∷ []) × ((x ≡ flight_122) ⊎ (x ≡ flight_123))
one_value tx own partner [] h = cc
one_value tx own partner (x ∷ []) h = (x, refl, one_of_two tx own partner x h)
one_value tx own partner (x ∷ y ∷ more) h = absurd (too_long (length more) _ h)

not_less : (x y : Value) → (x ≡ flight_122) ⊎ (x ≡ flight_123) → (y ≡ flight_122) ⊎ (y ≡ flight_123)
    → choice_cmp ((x ∷ []) ∷ (y ∷ []) ∷ []) taken ≡ Less → ⊥
not_less x y (inl e) (inl f) h = equal (sym (λ i. choice_cmp ((e i ∷ []) ∷ (f i ∷ []) ∷ []) taken) ∙ h)
  where
    equal : Equal ≡ Less → ⊥
    equal z = cc
not_less x y (inl e) (inr f) h = greater (sym (λ i. choice_cmp ((e i ∷ []) ∷ (f i ∷ []) ∷ []) taken) ∙ h)
  where
    greater : Greater ≡ Less → ⊥
    greater z = cc
not_less x y (inr e) f h = greater (sym (ap (λ z. choice_cmp ((z ∷ []) ∷ (y ∷ []) ∷ []) taken) e) ∙ h)
  where
    greater : Greater ≡ Less → ⊥
    greater z = cc

least : (one two : ℕ) (others : List Valuation) → IsChoice seen (pair one two) others
    → choice_cmp others taken ≡ Less → ⊥
least one two [] h less = absurd h.grounded
least one two (v ∷ []) h less = absurd h.grounded.1
least one two (v ∷ w ∷ []) h less =
    let x = one_value one Mickey Minnie v h.grounded.0.grounds in
    let y = one_value two Minnie Mickey w h.grounded.1.0.grounds in
    not_less x.0 y.0 x.2 y.2 (sym (λ i. choice_cmp (x.1 i ∷ y.1 i ∷ []) taken) ∙ less)
least one two (v ∷ w ∷ u ∷ more) h less = absurd h.grounded.1.1

pub least_taken : (one two : ℕ) → IsLeastChoice seen (pair one two) taken
least_taken one two =
    record {
      choice = record {
        grounded = (
          record { kinds = refl; grounds = grounds one Mickey Minnie flight_122 },
          (record { kinds = refl; grounds = grounds two Minnie Mickey flight_122 }, tt),
        );
        met = met one two;
      };
      least = least one two;
    }
