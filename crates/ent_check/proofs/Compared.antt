-- What is found of a closed statement.
use Rattle.std.proofs.Common.{◌≡◌, ℕ, Bool, true, false, List, [], ◌∷◌, ◌++◌, sym, ap, ◌∙◌, subst, Option, Some}
use Rattle.std.proofs.Common.{None, Result, Ok, Err, IfOk, length, ◌<◌}
use Rattle.std.proofs.lemmas.Option.{same_Some}
use Rattle.std.specs.List.{AllByRecursion, flat_map}
use Rattle.std.specs.Option.{option_map}
use Rattle.ent_lists.proofs.Lists.{all_parts}
use Rattle.ent_value.specs.declared.value.Value.{Value}
use Rattle.ent_semantics.specs.declared.answer.Answer.{Answer}
use Rattle.ent_semantics.specs.Database.{Environment}
use Rattle.ent_semantics.specs.Entangled.{Valuation}
use Rattle.ent_semantics.specs.Form.{Tables, closed_worth, form_meaning, is_form_grounding}
use Rattle.ent_semantics.specs.declared.entangled.Entangled.{Entangled}
use Rattle.ent_semantics.specs.FormKinds.{tables_named}
use Rattle.ent_semantics.specs.declared.statement.Statement.{Statement}
use Rattle.ent_semantics.specs.declared.statement.Statement.TheVariants as statements
use Rattle.ent_history.specs.Journal.{unless}
use Rattle.ent_history.specs.Placed.{Placed, grounding_of}
use Rattle.ent_history.specs.Replay.{ground_finding}
use Rattle.ent_history.specs.Verdict.{first_of}
use Rattle.ent_history.specs.declared.finding.Finding.{Finding}
use Rattle.ent_history.specs.declared.finding.Rule.TheVariants as rules
use Rattle.ent_history.specs.declared.finding.Thing.TheVariants as things
use Rattle.ent_check.specs.Told.{told_seat}
use Rattle.ent_ordinary.specs.Worth.{itself}
use Rattle.ent_check.specs.Closed.{answer_in, closed_findings, is_told}

-- ---- the tables of an entangled statement

all_inside : {X Y : Type 0} (P : Y → Type 0) (f : X → List Y) (xs : List X) → AllByRecursion P (flat_map f xs)
    → AllByRecursion (λ x. AllByRecursion P (f x)) xs
all_inside P f [] all = tt
all_inside P f (x ∷ xs) all =
    let parts = all_parts P (f x) (flat_map f xs) all in
    (parts.0, all_inside P f xs parts.1)

pub tables_there : {T : Type 0} (seen tables : List T) (statement : Statement Value) (entangled : Entangled Value)
    → seen ≡ tables → statement ≡ statements.Entangled entangled
    → AllByRecursion (λ number. number < length tables) (tables_named statement)
    → AllByRecursion (λ membership. AllByRecursion (λ number. number < length seen) membership.select.sources)
    entangled.atoms
tables_there {T = T} seen tables statement entangled same is there =
    all_inside (λ number. number < length seen) (λ membership. membership.select.sources) entangled.atoms
    (subst (λ (s : Statement Value). AllByRecursion (λ number. number < length seen) (tables_named s)) is
    (subst (λ (known : List T). AllByRecursion (λ number. number < length known) (tables_named statement)) (sym same)
    there))

-- ---- what is found of it

if_ok_same : {A E : Type 0} (result : Result A E) (x y : A) → x ≡ y → IfOk result (λ found. found ≡ x)
    → IfOk result (λ found. found ≡ y)
if_ok_same (Ok found) x y same is = is ∙ same
if_ok_same (Err failure) x y same is = tt

abbrev Told : Type 0
Told = ℕ × ℕ × Valuation

told_or_nothing : (x : Told) → Some x ≡ None → ⊥
told_or_nothing x is = cc

module _ (joint number : ℕ) (grounding : Valuation) where
  abbrev here : Told
  here = (joint, number, grounding)

  pub grounding_is : (seat : Option Placed) → Some here ≡ option_map {U = Told} told_seat seat
      → grounding_of seat ≡ grounding
  grounding_is (Some one) at = sym (ap (λ (told : Told). told.2) (same_Some here (told_seat one) at))
  grounding_is None at = absurd (told_or_nothing here at)

  pub ground_is : (seat : Option Placed) → Some here ≡ option_map {U = Told} told_seat seat → (b : Bool)
      → ground_finding seat b ≡ unless b rules.Ground (things.Member joint number)
  ground_is (Some one) at b =
      let same = same_Some here (told_seat one) at in
      λ i. unless b rules.Ground (things.Member (sym same i).0 (sym same i).1)
  ground_is None at b = absurd (told_or_nothing here at)

  module _ (tx place : ℕ) (seat : Option Placed) (at : Some here ≡ option_map {U = Told} told_seat seat)
      (entangled : Entangled Value) (told : Option Answer) (tables : Tables) (environment : Environment) where
    abbrev is_one : Valuation → Bool
    is_one valuation = is_form_grounding itself tables entangled valuation

    abbrev answer : Valuation → List Finding
    answer valuation =
        unless (is_told (answer_in (form_meaning closed_worth (statements.Entangled entangled) valuation tables
        environment)) told) rules.Answer (things.Answer tx place)

    found_is : first_of (closed_findings tx place seat (statements.Entangled entangled) told tables environment)
        ≡ first_of (unless (is_one grounding) rules.Ground (things.Member joint number) ++ answer grounding)
    found_is =
        ap (λ (found : List Finding). first_of (found ++ answer (grounding_of seat)))
        (ground_is seat at (is_one (grounding_of seat)))
        ∙ ap (λ (valuation : Valuation). first_of (unless (is_one valuation) rules.Ground (things.Member joint number)
        ++ answer valuation)) (grounding_is seat at)

    pub wrong_ground : is_one grounding ≡ false
        → Some (record { rule = rules.Ground; thing = things.Member joint number })
        ≡ first_of (closed_findings tx place seat (statements.Entangled entangled) told tables environment)
    wrong_ground is =
        sym (found_is ∙ ap (λ b. first_of (unless b rules.Ground (things.Member joint number) ++ answer grounding)) is)

    pub right_ground : is_one grounding ≡ true
        → first_of (answer grounding)
        ≡ first_of (closed_findings tx place seat (statements.Entangled entangled) told tables environment)
    right_ground is =
        sym (found_is ∙ ap (λ b. first_of (unless b rules.Ground (things.Member joint number) ++ answer grounding)) is)

  pub right_finding : {E : Type 0} (tx place : ℕ) (seat : Option Placed)
      → Some here ≡ option_map {U = Told} told_seat seat → (entangled : Entangled Value) (statement : Statement Value)
      → statement ≡ statements.Entangled entangled → (told : Option Answer) (seen tables : Tables)
      (environment : Environment) → seen ≡ tables → (holds : Bool)
      → holds ≡ is_form_grounding itself seen entangled grounding → holds ≡ true
      → (result : Result (Option Finding) E)
      → IfOk result (λ finding. finding ≡ first_of (unless (is_told (answer_in (form_meaning closed_worth statement
      grounding tables environment)) told) rules.Answer (things.Answer tx place)))
      → IfOk result (λ finding. finding ≡ first_of (closed_findings tx place seat statement told tables environment))
  right_finding tx place seat at entangled statement is told seen tables environment same holds says right result =
      subst (λ (s : Statement Value). IfOk result (λ finding. finding ≡ first_of (unless (is_told (answer_in
      (form_meaning closed_worth s grounding tables environment)) told) rules.Answer (things.Answer tx place)))
      → IfOk result (λ finding. finding ≡ first_of (closed_findings tx place seat s told tables environment)))
      (sym is)
      (λ known. if_ok_same result (first_of (answer tx place seat at entangled told tables environment grounding))
      (first_of (closed_findings tx place seat (statements.Entangled entangled) told tables environment))
      (right_ground tx place seat at entangled told tables environment
      (ap (λ (t : Tables). is_form_grounding itself t entangled grounding) (sym same) ∙ sym says ∙ right))
      known)
