-- Settled tables have the kinds that are declared, and where members that aren't prepared stand, their host variables
-- have values of the kinds that resolving knows there.
use Rattle.std.proofs.Common.{◌≡◌, List, [], ◌∷◌, ◌++◌, length, map, take, Some, Ok}
use Rattle.std.proofs.Common.{refl, sym, ap, subst, ◌∙◌, Contains}
use Rattle.std.specs.List.{AllByRecursion}
use Rattle.ent_tree.specs.declared.declaration.Create.{Create}
use Rattle.ent_semantics.specs.Database.{Database, nothing_bound, opening_database}
use Rattle.ent_semantics.specs.Serial.{Operation, numbered}
use Rattle.ent_semantics.specs.declared.operand.Known.{Known}
use Rattle.ent_semantics.specs.declared.statement.Statement.{Statement}
use Rattle.ent_form.specs.Catalogue.{schemas_of}
use Rattle.ent_form.specs.Form.{statements_from, script_in}
use Rattle.ent_form.specs.Kinds.{Bound, none_bound}
use Rattle.ent_form.specs.declared.script.Plain.{Plain}
use Rattle.ent_form.proofs.Heads.{found_of}
use Rattle.ent_form.specs.TableKinds.{AreKinded, HasKinds}
use Rattle.ent_form.specs.Opened.{opening_tables}
use Rattle.ent_protocol_laws.specs.History.{History, Replays, AreSerial}
use Rattle.ent_protocol_laws.specs.SerialState.{IsSerialState, Follows, IsWhole}
use Rattle.ent_form.specs.Tables.{database_of, HaveDistinctColumns}
use Rattle.ent_form.proofs.ResolvedSteps.{one_answer}
use Rattle.ent_protocol.specs.Member.{environment_of}
use Rattle.ent_protocol.specs.Reached.{IsReached, settled}
use Rattle.ent_protocol.specs.State.{State, Submitted, Member}
use Rattle.ent_headline.specs.Resolved.{resolved_forms}
use Rattle.ent_headline.specs.Kinds.{bound_behind, HasKindsThere, HoldsKinds}
use Rattle.ent_lists.specs.Elements.{In, of_all, contains_in, in_contains, of_map, all_joined, all_by}
use Rattle.ent_lists.proofs.Lists.{all_parts}
use Rattle.ent_headline.proofs.Lists.{numbered_in}
use Rattle.ent_headline.proofs.Posted.{plain_given}
use Rattle.ent_headline.proofs.Replayed.{Laws, Stands, run_kept}
use Rattle.ent_headline.proofs.Submitted.{submitted_resolved}

no_kinds : HasKinds none_bound nothing_bound
no_kinds name kind e = cc

all_taken : {A B : Type 0} (f : A → B) (xs : List A) → map f xs ≡ take (length xs) (map f xs)
all_taken f [] = refl
all_taken f (x ∷ xs) = ap (λ more. f x ∷ more) (all_taken f xs)

-- what was done is a beginning of a script that was submitted
record Begins (all : List Submitted) (history : History) : Type 0 where
  own : Submitted
  submitted : numbered all history.member.tx ≡ Some own
  beginning : map (λ operation. operation.statement) history.operations ≡ take (length history.operations)
      own.script.statements

of_whole : (all : List Submitted) (history : History) → IsWhole all history → Begins all history
of_whole all history whole =
    record {
      own = whole.own;
      submitted = whole.submitted;
      beginning = all_taken (λ (operation : Operation). operation.statement) history.operations
          ∙ ap (take (length history.operations)) whole.whole;
    }

of_follow : (all : List Submitted) (history : History) → Follows all history → Begins all history
of_follow all history follows =
    record { own = follows.own; submitted = follows.submitted; beginning = follows.beginning }

module _ (laws : Laws) (creates : List Create) (apart : HaveDistinctColumns creates) (all : List Submitted)
    (resolved : (own : Submitted) → In own all
    → (out : List (Statement Known))
    × (statements_from (schemas_of creates) none_bound [] own.script.statements ≡ Ok out))
  where
    -- what a member did has left its host variables in the kinds that are known
    record IsKnown (history : History) : Type 0 where
      own : Submitted
      submitted : numbered all history.member.tx ≡ Some own
      left : Bound
      known : bound_behind (schemas_of creates) none_bound own.script.statements (length history.operations) ≡ Ok left
      kinds : HasKinds left (environment_of history.member)

    replayed : (history : History) (first last : Database) → Begins all history → Stands laws creates apart first
        → Replays creates history first last → Stands laws creates apart last × IsKnown history
    replayed history first last begins stands replays =
        let own = begins.own in
        let out = resolved own (numbered_in all history.member.tx own begins.submitted) in
        let left = run_kept laws creates apart own.script.statements history.operations begins.beginning none_bound []
        out.0
        out.1 first nothing_bound stands no_kinds history.member.tx 1
        (record { database = last; environment = environment_of history.member; answers = history.member.answers })
        replays.runs replays.grounded in (
          left.0,
          record {
            own = own;
            submitted = begins.submitted;
            left = left.1.0;
            known = left.1.1;
            kinds = left.1.2;
          },
        )

    serial : (histories : List History) (first last : Database) → AllByRecursion (Begins all) histories
        → Stands laws creates apart first → AreSerial creates histories first last
        → Stands laws creates apart last × AllByRecursion IsKnown histories
    serial [] first last begin stands runs = (subst (Stands laws creates apart) runs stands, tt)
    serial (history ∷ more) first last begin stands runs =
        let here = replayed history first runs.0 begin.0 stands runs.1 in
        let rest = serial more runs.0 last begin.1 here.0 runs.2 in
        (rest.0, (here.1, rest.1))

-- what is known of an opening without a fault
pub record Opens (s : State) : Type 0 where
  pub apart : HaveDistinctColumns s.opening.tables
  pub kinded : AreKinded (schemas_of s.opening.tables) (opening_tables s.opening)
  pub is : database_of s.opening.tables (opening_tables s.opening) ≡ opening_database s.opening

pub statements_given : (s : State) → IsReached resolved_forms s → (own : Submitted) → In own s.submitted
    → statements_from (schemas_of s.opening.tables) none_bound [] own.script.statements ≡ Ok own.form
statements_given s reached own there =
    let creates = s.opening.tables in
    let resolved = submitted_resolved resolved_forms s own reached (in_contains s.submitted own there) in
    let plain = plain_given (script_in (schemas_of creates) own.script) own.form resolved in
    let out = found_of (statements_from (schemas_of creates) none_bound [] own.script.statements) _ plain.0 plain.1
    in
    out.1 ∙ ap (λ (all : List (Statement Known)). Ok all)
    (ap (λ (p : Plain). p.statements) (one_answer _ plain.0 out.2) ∙ plain.2)

pub kinded_state : (laws : Laws) (s : State) → Opens s → IsReached resolved_forms s → IsSerialState s
    → HoldsKinds s
kinded_state laws s opens reached state =
    let creates = s.opening.tables in
    let resolved : (own : Submitted) → In own s.submitted → (out : List (Statement Known))
    × (statements_from (schemas_of creates) none_bound [] own.script.statements ≡ Ok out) =
    λ own at. (own.form, statements_given s reached own at) in
    let whole = all_parts (IsWhole s.submitted) state.committed state.prepared state.whole in
    let committed =
    all_by (IsWhole s.submitted) (Begins s.submitted) state.committed (of_whole s.submitted) whole.0 in
    let prepared = all_by (IsWhole s.submitted) (Begins s.submitted) state.prepared (of_whole s.submitted) whole.1 in
    let others = all_by (Follows s.submitted) (Begins s.submitted) state.others (of_follow s.submitted) state.follow in
    let earlier = serial laws creates opens.apart s.submitted resolved state.committed (opening_database s.opening)
    (database_of creates (settled s)) committed
    (record { tables = opening_tables s.opening; kinded = opens.kinded; is = sym opens.is }) state.settles in
    let now = serial laws creates opens.apart s.submitted resolved (state.prepared ++ state.others)
    (database_of creates (settled s)) (database_of creates s.tables)
    (all_joined (Begins s.submitted) state.prepared state.others prepared others) earlier.0
    state.stands in
    let known =
    (all_parts (IsKnown laws creates opens.apart s.submitted resolved) state.prepared state.others now.1).1 in
    record {
      tables = record { tables = earlier.0.tables; kinded = earlier.0.kinded; same = earlier.0.is };
      variables = λ member there.
          let at = of_map (λ (history : History). history.member) state.others member
          (contains_in (map (λ (history : History). history.member) state.others) member
          ((state.of_others member).1 there)) in
          let k = of_all (IsKnown laws creates opens.apart s.submitted resolved) state.others at.0 known at.1 in
          let follows = of_all (Follows s.submitted) state.others at.0 state.follow at.1 in
          subst (HasKindsThere s) (sym at.2)
          (record {
            own = k.own;
            submitted = k.submitted;
            passed = length at.0.operations;
            place = follows.place;
            bound = k.left;
            known = k.known;
            kinds = k.kinds;
          });
    }
