-- The line of an answer of heads is read as it is written.
use Rattle.std.proofs.Common.{◌≡◌, ◌≢◌, ℕ, ◌<◌, Bool, not, eqb, List, [], ◌++◌, length, Ok, Result, refl, ap, sym, ◌∙◌}
use Rattle.std.proofs.Common.{subst, arith, append_assoc, length-append}
use Rattle.std.specs.Prelude.{codes, slice_index, ◌&&◌}
use Rattle.std.specs.List.{AllByRecursion}
use Rattle.std.specs.Fmt.{decimal}
use Rattle.std.proofs.lemmas.Bool.{and_parts}
use Rattle.std.proofs.lemmas.List.{append-nil}
use Rattle.ent_value.specs.Refusal.{◌>>=◌}
use Rattle.ent_value.specs.Print.{row_text}
use Rattle.ent_value.specs.declared.value.Value.{Value}
use Rattle.ent_semantics.specs.Database.{Name}
use Rattle.ent_semantics.specs.declared.answer.Fact.{Fact}
use Rattle.ent_book.specs.Report.{fact_text, facts_text}
use Rattle.ent_history.specs.Answers.{IsFact}
use Rattle.ent_history.specs.Parts.{IsNumber}
use Rattle.ent_text.specs.declared.line_fault.LineFault.{LineFault}
use Rattle.ent_text.specs.Pieces.{behind, number_at, row_at, wanted}
use Rattle.ent_text.proofs.Numbers.{chosen, read_of, is_first, is_rest, number_found, number_again}
use Rattle.ent_text.proofs.Values.{bind_ok}
use Rattle.ent_text.proofs.Rows.{behind_found, behind_again, row_found, row_again}
use Rattle.ent_history.proofs.Steps.{bind_with, same_ok, no_bytes}
use Rattle.ent_history.specs.Heads.{fact_of, fact_at, facts_at, heads_at, heads_line}
use Rattle.ent_history.specs.Listing.{listed_at}
use Rattle.ent_history.specs.Names.{name_at}
use Rattle.ent_history.proofs.Listing.{listed_found, listed_again, shorter_than_text, nonempty, is_nonempty}
use Rattle.ent_history.proofs.Names.{name_found, name_again}

-- ---- a head

regrouped : (relation : Name) (values : List Value) (rest : List ℕ)
    → (codes " " ++ (relation ++ row_text values)) ++ rest ≡ codes " " ++ (relation ++ (row_text values ++ rest))
regrouped relation values rest = ap (λ r. codes " " ++ r) (append_assoc relation (row_text values) rest)

pub fact_found : (bytes rest : List ℕ) (fact : Fact) → fact_at bytes ≡ Ok (fact, rest)
    → (bytes ≡ fact_text fact ++ rest) × IsFact fact
unfolding fact_at
fact_found bytes rest fact h =
    let space = bind_ok (behind (codes " ") bytes)
    (λ rest. name_at rest >>= λ relation. row_at relation.1 >>= λ row. read_of (fact_of relation.0 row.0) row.1)
    (fact, rest) h in
    let relation = bind_ok (name_at space.0)
    (λ relation. row_at relation.1 >>= λ row. read_of (fact_of relation.0 row.0) row.1) (fact, rest) space.2 in
    let name = relation.0.0 in
    let row = bind_ok (row_at relation.0.1) (λ row. read_of (fact_of name row.0) row.1) (fact, rest) relation.2 in
    let values = row.0.0 in
    let same : fact_of name values ≡ fact = is_first (fact_of name values) fact row.0.1 rest row.2 in
    let end : row.0.1 ≡ rest = is_rest (fact_of name values) fact row.0.1 rest row.2 in
    let named = name_found space.0 relation.0.1 name relation.1 in
    let valued = row_found relation.0.1 row.0.1 values row.1 in
    subst (λ one. (bytes ≡ fact_text one ++ rest) × IsFact one) same (
      behind_found (codes " ") bytes space.0 space.1
          ∙ ap (λ r. codes " " ++ r)
          (named.0 ∙ ap (λ r. name ++ r) (valued.0 ∙ ap (λ r. row_text values ++ r) end))
          ∙ sym (regrouped name values rest),
      (named.1, valued.1),
    )

pub fact_shorter : (bytes rest : List ℕ) (fact : Fact) → fact_at bytes ≡ Ok (fact, rest) → length rest < length bytes
fact_shorter bytes rest fact h =
    omega (arith, ap length (fact_found bytes rest fact h).0, length-append (fact_text fact) rest)

fact_again : (fact : Fact) (rest : List ℕ) → IsFact fact → Unit {0} → fact_at (fact_text fact ++ rest) ≡ Ok (fact, rest)
unfolding fact_at
fact_again fact rest is any =
    let row = row_text fact.values ++ rest in
    ap fact_at (regrouped fact.relation fact.values rest)
    ∙ bind_with (behind (codes " ") (codes " " ++ (fact.relation ++ row))) (fact.relation ++ row)
    (λ rest. name_at rest >>= λ relation. row_at relation.1 >>= λ row. read_of (fact_of relation.0 row.0) row.1)
    (behind_again (codes " ") (fact.relation ++ row))
    ∙ bind_with (name_at (fact.relation ++ row)) (fact.relation, row)
    (λ relation. row_at relation.1 >>= λ row. read_of (fact_of relation.0 row.0) row.1)
    (name_again fact.relation row is.0 refl)
    ∙ bind_with (row_at row) (fact.values, rest) (λ row. read_of (fact_of fact.relation row.0) row.1)
    (row_again fact.values rest is.1)

-- ---- the line

abbrev whole_line : ℕ → List Fact × List ℕ → Result (ℕ × List Fact) LineFault
whole_line place facts =
    wanted (eqb (length facts.1) 0 && not (eqb (length facts.0) 0)) (place, facts.0)

pub heads_found : (line : List ℕ) (place : ℕ) (facts : List Fact) → heads_at line ≡ Ok (place, facts)
    → (line ≡ heads_line place facts) × IsNumber place × (facts ≢ []) × AllByRecursion IsFact facts
unfolding heads_at facts_at
heads_found line place facts h =
    let first = bind_ok (number_at line)
    (λ place. behind (codes " answer") place.1 >>= λ rest. facts_at rest >>= λ facts. whole_line place.0 facts)
    (place, facts) h in
    let n = first.0.0 in
    let word = bind_ok (behind (codes " answer") first.0.1)
    (λ rest. facts_at rest >>= λ facts. whole_line n facts) (place, facts) first.2 in
    let found = bind_ok (facts_at word.0) (λ facts. whole_line n facts) (place, facts) word.2 in
    let those = found.0.0 in
    let test = chosen (eqb (length found.0.1) 0 && not (eqb (length those) 0)) _ _ _ found.2 in
    let tests = and_parts (eqb (length found.0.1) 0) (not (eqb (length those) 0)) test.0 in
    let same = same_ok (n, those) (place, facts) test.1 in
    let one = number_found 9223372036854775807 line first.0.1 n (omega arith) first.1 in
    let listed = listed_found 32 fact_at fact_text IsFact fact_found (length word.0) word.0 found.0.1 those found.1 in
    subst (λ told. (line ≡ heads_line told.0 told.1) × IsNumber told.0 × (told.1 ≢ []) × AllByRecursion IsFact told.1)
    same (
      one.0
          ∙ ap (λ r. decimal n ++ r)
          (behind_found (codes " answer") first.0.1 word.0 word.1
          ∙ ap (λ r. codes " answer" ++ r)
          (listed.text_is ∙ ap (λ r. facts_text those ++ r) (no_bytes found.0.1 tests.0)
          ∙ append-nil (facts_text those))),
      one.1,
      nonempty those tests.1,
      listed.are,
    )

all_facts : (facts : List Fact) → AllByRecursion IsFact facts → facts_at (facts_text facts) ≡ Ok (facts, [])
unfolding facts_at
all_facts facts are =
    ap (λ (r : List ℕ). listed_at 32 fact_at (length (facts_text facts)) r) (sym (append-nil (facts_text facts)))
    ∙ listed_again 32 fact_at fact_text IsFact (λ rest. Unit {0}) fact_again (λ x rest. tt) (λ x rest. refl)
    (length (facts_text facts)) facts [] are (shorter_than_text fact_text (λ x. omega arith) facts) tt no_space
  where
    no_space : slice_index [] 0 ≡ 32 → ⊥
    no_space e = absurd (omega (arith, e))

pub heads_again : (place : ℕ) (facts : List Fact) → IsNumber place → facts ≢ [] → AllByRecursion IsFact facts
    → heads_at (heads_line place facts) ≡ Ok (place, facts)
unfolding heads_at
heads_again place facts small some are =
    let rest = codes " answer" ++ facts_text facts in
    bind_with (number_at (decimal place ++ rest)) (place, rest)
    (λ place. behind (codes " answer") place.1 >>= λ rest. facts_at rest >>= λ facts. whole_line place.0 facts)
    (number_again 9223372036854775807 place rest (omega arith) small refl)
    ∙ bind_with (behind (codes " answer") rest) (facts_text facts)
    (λ rest. facts_at rest >>= λ facts. whole_line place facts)
    (behind_again (codes " answer") (facts_text facts))
    ∙ bind_with (facts_at (facts_text facts)) (facts, []) (λ facts. whole_line place facts) (all_facts facts are)
    ∙ ap (λ (t : Bool). wanted t (place, facts)) (is_nonempty facts some)
