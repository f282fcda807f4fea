-- The lines of members.
use Rattle.std.proofs.Common.{◌≡◌, ℕ, List, [], ◌∷◌, length, Option, Some, None, Result, Ok, Err, refl, ap, sym, ◌∙◌}
use Rattle.std.proofs.Common.{subst, arith}
use Rattle.std.specs.List.{AllByRecursion}
use Rattle.std.proofs.lemmas.Option.{same_Some}
use Rattle.ent_value.specs.Value.{kinds_of}
use Rattle.ent_value.specs.declared.refusal.Refusal.{Refusal}
use Rattle.ent_value.specs.declared.refusal.Refusal.TheVariants.{Memory, Fault}
use Rattle.ent_value.specs.declared.value.Value.{Value}
use Rattle.ent_tree.specs.declared.entangled.Entangled.{Entangled}
use Rattle.ent_tree.specs.declared.script.Script.{Script}
use Rattle.ent_tree.specs.declared.script.Statement.{Statement}
use Rattle.ent_tree.specs.declared.script.Statement.TheVariants as statements
use Rattle.ent_semantics.specs.declared.entangled.Entangled.{Entangled as ResolvedEntangled}
use Rattle.ent_semantics.specs.declared.operand.Known.{Known}
use Rattle.ent_semantics.specs.declared.statement.Statement.{Statement as Resolved}
use Rattle.ent_semantics.specs.declared.statement.Statement.TheVariants as resolved
use Rattle.ent_form.specs.declared.fault.FormFault.{FormFault}
use Rattle.ent_form.specs.declared.script.Plain.{Plain}
use Rattle.ent_form.specs.Catalogue.{schemas_of}
use Rattle.ent_form.specs.Form.{script_in}
use Rattle.ent_text.specs.declared.line_fault.LineFault.{LineFault}
use Rattle.ent_semantics.specs.Database.{Name}
use Rattle.ent_semantics.specs.Entangled.{written_variables}
use Rattle.ent_semantics.specs.Serial.{numbered}
use Rattle.ent_book.specs.Report.{line}
use Rattle.ent_history.specs.declared.history.History.{History}
use Rattle.ent_history.specs.declared.history.ToldJoint.{ToldJoint}
use Rattle.ent_history.specs.declared.history.ToldMember.{ToldMember}
use Rattle.ent_history.specs.Draft.{AnswerRows, Draft, Due, Ended, Free, Heading, Members, OpeningRows, TableRows}
use Rattle.ent_history.specs.Draft.{members_due, on_last}
use Rattle.ent_history.specs.Joints.{Binds, MemberStands, PlacesRise, binds_of, member_binds, member_told}
use Rattle.ent_history.specs.Joints.{resolved_at, script_binds, with_member}
use Rattle.ent_history.specs.Parts.{IsName, IsValue}
use Rattle.ent_history.specs.Bindings.{member_line}
use Rattle.ent_report_reader.specs.Bindings.{IsAnyMember, IsKnownMember, bound_of, values_of, variables_of}
use Rattle.ent_report_reader.specs.declared.bindings.Bound.{Bound}
use Rattle.ent_report_reader.specs.Judging.{Finds, Judges, Unless}
use Rattle.ent_report_reader.specs.Members.{AreNumbers, BindsWords, IsMemberLine, entangled_of, form_of}
use Rattle.ent_report_reader.specs.Reading.{Reads}
use Rattle.ent_report_reader.specs.View.{HasRoom, IsMemberAt, NoMember, members_behind}
use Rattle.ent_report_reader.proofs.Steps.{refusing, same_line}

-- ---- places

pub are_numbers : (places : List (ℕ × ℕ)) → PlacesRise places → AllByRecursion AreNumbers places
are_numbers [] h = tt
are_numbers (place ∷ []) h = (h, tt)
are_numbers (place ∷ next ∷ more) h = ((h.0, h.1), are_numbers (next ∷ more) h.3)

pub place_due : (due : Due) (place : ℕ × ℕ) → IsMemberAt due place → due ≡ Members place.0 place.1 (members_behind due)
place_due (Members tx own more) place at = λ i. Members (sym at.0 i) (sym at.1 i) more
place_due Heading place at = absurd at
place_due Free place at = absurd at
place_due (OpeningRows more) place at = absurd at
place_due (AnswerRows more) place at = absurd at
place_due (TableRows more) place at = absurd at
place_due Ended place at = absurd at

pub numbers_due : (due : Due) (rows : ℕ) (place : ℕ × ℕ) → IsMemberAt due place → HasRoom due rows
    → AreNumbers place × AllByRecursion AreNumbers (members_behind due)
numbers_due due rows place at room = subst (λ d. HasRoom d rows) (place_due due place at) room

pub no_member_due : (due : Due) → NoMember due → (tx place : ℕ) (more : List (ℕ × ℕ)) → due ≡ Members tx place more → ⊥
no_member_due (Members x y others) none tx place more is = none
no_member_due Heading none tx place more is = cc
no_member_due Free none tx place more is = cc
no_member_due (OpeningRows rows) none tx place more is = cc
no_member_due (AnswerRows rows) none tx place more is = cc
no_member_due (TableRows rows) none tx place more is = cc
no_member_due Ended none tx place more is = cc

-- ---- the line

pub known_has : (binds : Binds) (tx place : ℕ) (text : List ℕ) (told : ToldMember) → AreNumbers (tx, place)
    → (is : IsMemberLine (Some binds) tx place text told)
    → IsKnownMember binds.0 text (tx, place, is.values)
known_has binds tx place text told numbers is = (
  same_line text (member_line tx place binds.0 is.values)
      (is.text_is ∙ ap (λ names. line (member_line tx place names is.values)) is.right.0),
  numbers.0,
  numbers.1,
  is.are_values,
  ap length (sym is.right.0) ∙ is.paired,
)

pub known_stands : (binds : Binds) (tx place : ℕ) (text : List ℕ) (values : List Value) (told : ToldMember)
    → IsKnownMember binds.0 text (tx, place, values) → kinds_of values ≡ binds.1
    → told ≡ member_told tx place binds.0 values
    → IsMemberLine (Some binds) tx place text told
known_stands binds tx place text values told is kinds told_is = record {
  variables = binds.0;
  values = values;
  told_is = told_is;
  text_is = ap line is.0;
  paired = is.4;
  are_values = is.3;
  right = (refl, kinds);
}

-- variables and values, one each
zipped : (variables : List Name) (values : List Value) → length variables ≡ length values
    → (all : List Bound) × (variables_of all ≡ variables) × (values_of all ≡ values)
zipped [] [] h = ([], refl, refl)
zipped [] (value ∷ values) h = absurd (omega (arith, h))
zipped (variable ∷ variables) [] h = absurd (omega (arith, h))
zipped (variable ∷ variables) (value ∷ values) h =
    let more = zipped variables values (omega (arith, h)) in (
      bound_of variable value ∷ more.0,
      ap (λ names. variable ∷ names) more.1,
      ap (λ others. value ∷ others) more.2,
    )

abbrev IsAny : Bound → Type 0
IsAny bound = IsName bound.variable × IsValue bound.value

all_any : (all : List Bound) → AllByRecursion IsName (variables_of all) → AllByRecursion IsValue (values_of all)
    → AllByRecursion IsAny all
all_any [] names values = tt
all_any (bound ∷ all) names values = ((names.0, values.0), all_any all names.1 values.1)

any_names : (all : List Bound) → AllByRecursion IsAny all → AllByRecursion IsName (variables_of all)
any_names [] h = tt
any_names (bound ∷ all) h = (h.0.0, any_names all h.1)

any_values : (all : List Bound) → AllByRecursion IsAny all → AllByRecursion IsValue (values_of all)
any_values [] h = tt
any_values (bound ∷ all) h = (h.0.1, any_values all h.1)

any_paired : (all : List Bound) → length (variables_of all) ≡ length (values_of all)
any_paired [] = refl
any_paired (bound ∷ all) = let more = any_paired all in omega (arith, more)

pub any_has : (tx place : ℕ) (text : List ℕ) (told : ToldMember) → AreNumbers (tx, place)
    → (is : IsMemberLine None tx place text told) → (all : List Bound) × IsAnyMember text (tx, place, all)
any_has tx place text told numbers is =
    let all = zipped is.variables is.values is.paired in (
      all.0,
      (
        same_line text (member_line tx place (variables_of all.0) (values_of all.0))
            (is.text_is
            ∙ (λ i. line (member_line tx place (sym all.1 i) (sym all.2 i)))),
        numbers.0,
        numbers.1,
        all_any all.0 (subst (AllByRecursion IsName) (sym all.1) is.right)
            (subst (AllByRecursion IsValue) (sym all.2) is.are_values),
      ),
    )

pub any_stands : (tx place : ℕ) (text : List ℕ) (all : List Bound) (variables : List Name) (values : List Value)
    → (told : ToldMember) → IsAnyMember text (tx, place, all) → variables ≡ variables_of all → values ≡ values_of all
    → told ≡ member_told tx place variables values
    → IsMemberLine None tx place text told
any_stands tx place text all variables values told is names worth told_is = record {
  variables = variables_of all;
  values = values_of all;
  told_is = told_is ∙ (λ i. member_told tx place (names i) (worth i));
  text_is = ap line is.0;
  paired = any_paired all;
  are_values = any_values all is.3;
  right = any_names all is.3;
}

pub any_found : (place : ℕ × ℕ) (text : List ℕ) (tx own : ℕ) (all : List Bound) (variables : List Name)
    → (values : List Value) (told : ToldMember) → IsAnyMember text (tx, own, all) → tx ≡ place.0 → own ≡ place.1
    → variables ≡ variables_of all → values ≡ values_of all → told ≡ member_told place.0 place.1 variables values
    → IsMemberLine None place.0 place.1 text told
any_found place text tx own all variables values told is txs owns names worth told_is =
    any_stands place.0 place.1 text all variables values told
    (subst (λ (x : ℕ). IsAnyMember text (x, place.1, all)) txs
    (subst (λ (y : ℕ). IsAnyMember text (tx, y, all)) owns is))
    names worth told_is

abbrev pub OnlyAny : List ℕ → ℕ × ℕ × List Bound → Type 0
OnlyAny text x = (y : ℕ × ℕ × List Bound) → IsAnyMember text y → y ≡ x

-- what stands there is at this place
pub any_at : (place : ℕ × ℕ) (text : List ℕ) (tx own : ℕ) (all : List Bound) (told : ToldMember) → AreNumbers place
    → OnlyAny text (tx, own, all) → IsMemberLine None place.0 place.1 text told → (tx ≡ place.0) × (own ≡ place.1)
any_at place text tx own all told numbers only is =
    let has = any_has place.0 place.1 text told numbers is in
    let e = only (place.0, place.1, has.0) has.1 in
    (sym (ap (λ (z : ℕ × ℕ × List Bound). z.0) e), sym (ap (λ (z : ℕ × ℕ × List Bound). z.1) e))

pub any_refused : (place : ℕ × ℕ) (text : List ℕ) (refusal : Refusal LineFault) → AreNumbers place
    → Reads (IsAnyMember text) (refusing refusal) → Finds (IsMemberLine None place.0 place.1 text) (refusing refusal)
any_refused place text Memory numbers reads = tt
any_refused place text (Fault fault) numbers reads =
    λ told is. let has = any_has place.0 place.1 text told numbers is in reads (place.0, place.1, has.0) has.1

pub known_found : (binds : Binds) (names : List Name) → names ≡ binds.0
    → (place : ℕ × ℕ) (text : List ℕ) (tx own : ℕ) (values : List Value)
    → (told : ToldMember) → IsKnownMember names text (tx, own, values) → tx ≡ place.0 → own ≡ place.1
    → kinds_of values ≡ binds.1 → told ≡ member_told place.0 place.1 binds.0 values
    → IsMemberLine (Some binds) place.0 place.1 text told
known_found binds names same place text tx own values told is txs owns kinds told_is =
    known_stands binds place.0 place.1 text values told
    (subst (λ (n : List Name). IsKnownMember n text (place.0, place.1, values)) same
    (subst (λ (x : ℕ). IsKnownMember names text (x, place.1, values)) txs
    (subst (λ (y : ℕ). IsKnownMember names text (tx, y, values)) owns is)))
    kinds told_is

abbrev pub OnlyKnown : List Name → List ℕ → ℕ × ℕ × List Value → Type 0
OnlyKnown names text x = (y : ℕ × ℕ × List Value) → IsKnownMember names text y → y ≡ x

pub record KnownAt (binds : Binds) (place : ℕ × ℕ) (tx own : ℕ) (values : List Value) : Type 0 where
  pub at : (tx ≡ place.0) × (own ≡ place.1)
  pub kinds : kinds_of values ≡ binds.1

-- what stands there is at this place, and of these kinds
pub known_at : (binds : Binds) (names : List Name) → names ≡ binds.0
    → (place : ℕ × ℕ) (text : List ℕ) (tx own : ℕ) (values : List Value) (told : ToldMember)
    → AreNumbers place → OnlyKnown names text (tx, own, values)
    → IsMemberLine (Some binds) place.0 place.1 text told → KnownAt binds place tx own values
known_at binds names same place text tx own values told numbers only is =
    let has = subst (λ (n : List Name). IsKnownMember n text (place.0, place.1, is.values)) (sym same)
    (known_has binds place.0 place.1 text told numbers is) in
    let e = only (place.0, place.1, is.values) has in
    record {
      at = (sym (ap (λ (z : ℕ × ℕ × List Value). z.0) e), sym (ap (λ (z : ℕ × ℕ × List Value). z.1) e));
      kinds = ap kinds_of (sym (ap (λ (z : ℕ × ℕ × List Value). z.2) e)) ∙ is.right.1;
    }

pub known_refused : (binds : Binds) (names : List Name) → names ≡ binds.0
    → (place : ℕ × ℕ) (text : List ℕ) (refusal : Refusal LineFault) → AreNumbers place
    → Reads (IsKnownMember names text) (refusing refusal)
    → Finds (IsMemberLine (Some binds) place.0 place.1 text) (refusing refusal)
known_refused binds names same place text Memory numbers reads = tt
known_refused binds names same place text (Fault fault) numbers reads = λ told is.
    reads (place.0, place.1, is.values)
    (subst (λ (n : List Name). IsKnownMember n text (place.0, place.1, is.values)) (sym same)
    (known_has binds place.0 place.1 text told numbers is))

-- ---- what is bound

pub unless : {A : Type 0} (fact : Type 0) (read : Result A (Refusal LineFault)) → fact → Unless fact read
unless fact (Ok x) h = h
unless fact (Err Memory) h = tt
unless fact (Err (Fault fault)) h = h

pub no_form : (statement : Option Statement) → binds_of statement None ≡ None
no_form None = refl
no_form (Some (statements.Entangled s)) = refl
no_form (Some (statements.Set s)) = refl
no_form (Some (statements.Insert s)) = refl
no_form (Some (statements.Delete s)) = refl
no_form (Some (statements.Update s)) = refl
no_form (Some (statements.Select s)) = refl

pub no_entangled : (statement : Option Statement) (form : Option (Resolved Known)) → entangled_of statement ≡ None
    → None ≡ binds_of statement form
no_entangled None form is = refl
no_entangled (Some (statements.Entangled s)) form is = cc
no_entangled (Some (statements.Set s)) form is = refl
no_entangled (Some (statements.Insert s)) form is = refl
no_entangled (Some (statements.Delete s)) form is = refl
no_entangled (Some (statements.Update s)) form is = refl
no_entangled (Some (statements.Select s)) form is = refl

not_bound : (entangled : Entangled) (form : Option (Resolved Known)) → form_of form ≡ None
    → None ≡ binds_of (Some (statements.Entangled entangled)) form
not_bound entangled None is = refl
not_bound entangled (Some (resolved.Entangled form)) is = cc
not_bound entangled (Some (resolved.Select select)) is = refl
not_bound entangled (Some (resolved.Insert table values)) is = refl
not_bound entangled (Some (resolved.Delete table tests)) is = refl
not_bound entangled (Some (resolved.Update table image tests)) is = refl
not_bound entangled (Some (resolved.Set variable expression)) is = refl

pub no_entangled_form : (statement : Option Statement) (form : Option (Resolved Known)) → form_of form ≡ None
    → None ≡ binds_of statement form
no_entangled_form None form is = refl
no_entangled_form (Some (statements.Entangled s)) form is = not_bound s form is
no_entangled_form (Some (statements.Set s)) form is = refl
no_entangled_form (Some (statements.Insert s)) form is = refl
no_entangled_form (Some (statements.Delete s)) form is = refl
no_entangled_form (Some (statements.Update s)) form is = refl
no_entangled_form (Some (statements.Select s)) form is = refl

abbrev pub some_binds : Entangled → ResolvedEntangled Known → Option Binds
some_binds entangled form = Some (written_variables entangled, form.variables)

form_binds : (entangled : Entangled) (form : Option (Resolved Known)) (own : ResolvedEntangled Known)
    → Some own ≡ form_of form → some_binds entangled own ≡ binds_of (Some (statements.Entangled entangled)) form
form_binds entangled None own is = cc
form_binds entangled (Some (resolved.Entangled form)) own is = ap (some_binds entangled) (same_Some own form is)
form_binds entangled (Some (resolved.Select select)) own is = cc
form_binds entangled (Some (resolved.Insert table values)) own is = cc
form_binds entangled (Some (resolved.Delete table tests)) own is = cc
form_binds entangled (Some (resolved.Update table image tests)) own is = cc
form_binds entangled (Some (resolved.Set variable expression)) own is = cc

pub bound_both : (statement : Option Statement) (form : Option (Resolved Known)) (entangled : Entangled)
    → (own : ResolvedEntangled Known) → Some entangled ≡ entangled_of statement → Some own ≡ form_of form
    → some_binds entangled own ≡ binds_of statement form
bound_both None form entangled own is of = cc
bound_both (Some (statements.Entangled s)) form entangled own is of =
    ap (λ (e : Entangled). some_binds e own) (same_Some entangled s is) ∙ form_binds s form own of
bound_both (Some (statements.Set s)) form entangled own is of = cc
bound_both (Some (statements.Insert s)) form entangled own is of = cc
bound_both (Some (statements.Delete s)) form entangled own is of = cc
bound_both (Some (statements.Update s)) form entangled own is of = cc
bound_both (Some (statements.Select s)) form entangled own is of = cc

pub binds_are : (told : History) (tx place : ℕ) (script : Script) (plain : Plain) (statement : Option Statement)
    → (form : Option (Resolved Known)) → Some script ≡ numbered told.scripts tx
    → script_in (schemas_of told.opening.tables) script ≡ Ok plain → statement ≡ numbered script.statements place
    → form ≡ numbered plain.statements place → binds_of statement form ≡ member_binds told tx place
binds_are told tx place script plain statement form is resolves one other =
    (λ i. binds_of (one i) (other i))
    ∙ ap (λ r. binds_of (numbered script.statements place) (resolved_at r place)) (sym resolves)
    ∙ ap (λ s. script_binds (schemas_of told.opening.tables) s place) is

pub no_script : (told : History) (tx place : ℕ) → None ≡ numbered told.scripts tx → None ≡ member_binds told tx place
no_script told tx place is = ap (λ s. script_binds (schemas_of told.opening.tables) s place) is

pub not_resolved : (told : History) (tx place : ℕ) (script : Script) (fault : FormFault)
    → Some script ≡ numbered told.scripts tx → script_in (schemas_of told.opening.tables) script ≡ Err fault
    → None ≡ member_binds told tx place
not_resolved told tx place script fault is resolves =
    sym (no_form (numbered script.statements place))
    ∙ ap (λ r. binds_of (numbered script.statements place) (resolved_at r place)) (sym resolves)
    ∙ ap (λ s. script_binds (schemas_of told.opening.tables) s place) is

-- the line of what binds the same
pub bound_so : (one other : Option Binds) (tx place : ℕ) (text : List ℕ)
    → (read : Result ToldMember (Refusal LineFault)) → one ≡ other
    → Finds (IsMemberLine one tx place text) read → Finds (IsMemberLine other tx place text) read
bound_so one other tx place text read same found =
    subst (λ b. Finds (IsMemberLine b tx place text) read) same found

pub words_so : {A : Type 0} (one other : Option Binds) (read : Result A (Refusal LineFault)) → one ≡ other
    → Unless (BindsWords one) read → Unless (BindsWords other) read
words_so one other read same found = subst (λ b. Unless (BindsWords b) read) same found

-- ---- the step

pub member_has : (old : Draft) (text : List ℕ) (tx place : ℕ) (more : List (ℕ × ℕ)) → old.due ≡ Members tx place more
    → (next : Draft) → MemberStands old (line text) next
    → (told : ToldMember) × IsMemberLine (member_binds old.told tx place) tx place text told
member_has old text tx place more is next stands =
    let same : Members stands.tx stands.place stands.more ≡ Members tx place more = sym stands.due ∙ is in
    let txs : stands.tx ≡ tx = cc in
    let places : stands.place ≡ place = cc in
    subst (λ (x : ℕ). (told : ToldMember) × IsMemberLine (member_binds old.told x place) x place text told) txs
    (subst (λ (y : ℕ). (told : ToldMember) × IsMemberLine (member_binds old.told stands.tx y) stands.tx y text told)
    places (
      member_told stands.tx stands.place stands.variables stands.values,
      record {
        variables = stands.variables;
        values = stands.values;
        told_is = refl;
        text_is = stands.text_is;
        paired = stands.paired;
        are_values = stands.are_values;
        right = stands.binds;
      },
    ))

pub member_stands : (old : Draft) (text : List ℕ) (tx place : ℕ) (more : List (ℕ × ℕ)) (told : ToldMember)
    → old.due ≡ Members tx place more → IsMemberLine (member_binds old.told tx place) tx place text told
    → (joint_answers : List ToldJoint) → joint_answers ≡ on_last (with_member told) old.told.joint_answers
    → (due : Due) → due ≡ members_due more
    → MemberStands old (line text) (record { told = record old.told { joint_answers = joint_answers }; due = due })
member_stands old text tx place more told is_due is joint_answers grown due left = record {
  tx = tx;
  place = place;
  more = more;
  variables = is.variables;
  values = is.values;
  due = is_due;
  text_is = is.text_is;
  paired = is.paired;
  are_values = is.are_values;
  binds = is.right;
  next_is = λ i. record {
    told = record old.told {
      joint_answers = (grown ∙ ap (λ m. on_last (with_member m) old.told.joint_answers) is.told_is) i;
    };
    due = left i;
  };
}

pub member_refused : (B : Type 0) (old : Draft) (text : List ℕ) (place : ℕ × ℕ) (more : List (ℕ × ℕ))
    → (refusal : Refusal LineFault) → old.due ≡ Members place.0 place.1 more
    → Finds (IsMemberLine (member_binds old.told place.0 place.1) place.0 place.1 text) (refusing refusal)
    → Judges (MemberStands old (line text)) old (refusing {A = B} refusal) old
member_refused B old text place more Memory is found = tt
member_refused B old text place more (Fault fault) is found = (
  λ next s. let has = member_has old text place.0 place.1 more is next s in found has.0 has.1,
  refl,
)
