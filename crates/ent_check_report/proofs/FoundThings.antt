-- The things that findings name are told.
use Rattle.std.proofs.Common.{◌≡◌, ℕ, suc, ◌+◌, ◌-◌, ◌≤◌, Bool, true, false, List, [], ◌∷◌, ◌++◌, length, map}
use Rattle.std.proofs.Common.{refl, sym, ap, ◌∙◌, subst, arith, append_assoc, Option, Some, None, Result, Ok, Err}
use Rattle.std.proofs.Common.{flat_map, is_some}
use Rattle.std.specs.List.{AllByRecursion, cons_option, filter, find}
use Rattle.std.proofs.lemmas.List.{length-map}
use Rattle.ent_lists.specs.Elements.{In, all_joined, in_contains, in_flat, of_all, of_filter, to_all}
use Rattle.ent_tree.specs.declared.declaration.Create.{Create}
use Rattle.ent_tree.specs.declared.script.Script.{Script}
use Rattle.ent_tree.specs.declared.script.Statement.{Statement}
use Rattle.ent_semantics.specs.declared.answer.Answer.{Answer}
use Rattle.ent_semantics.specs.declared.answer.Failure.{Failure}
use Rattle.ent_semantics.specs.declared.book.JointAnswer.{JointAnswer}
use Rattle.ent_semantics.specs.declared.book.Member.{Member}
use Rattle.ent_semantics.specs.Database.{Database, Environment, nothing_bound, opening_database}
use Rattle.ent_semantics.specs.Book.{all_members}
use Rattle.ent_semantics.specs.Effect.{Effect}
use Rattle.ent_semantics.specs.Serial.{Operation, Run, ReadView, seen}
use Rattle.ent_semantics.specs.Statement.{statement_meaning}
use Rattle.ent_history.specs.declared.history.History.{History}
use Rattle.ent_history.specs.declared.history.Shown.{Shown}
use Rattle.ent_history.specs.declared.history.Told.{Told}
use Rattle.ent_history.specs.declared.history.ToldJoint.{ToldJoint}
use Rattle.ent_history.specs.Told.{joint_answer_of}
use Rattle.ent_history.specs.Account.{Account, accounts, accounts_from, commit_count, commit_number, committed_as}
use Rattle.ent_history.specs.Account.{has_committed, in_commit_order, is_number, numbers_from}
use Rattle.ent_history.specs.Findings.{findings}
use Rattle.ent_history.specs.Formed.{IsFormed}
use Rattle.ent_history.specs.Joint.{left_out, left_out_findings, members_findings}
use Rattle.ent_history.specs.Journal.{journal_from, number_finding, unless}
use Rattle.ent_history.specs.Placed.{Placed, members_from, placed, placed_from, told_operations}
use Rattle.ent_history.specs.Post.{post_findings}
use Rattle.ent_history.specs.Replay.{account_operations, account_run, operations_findings, found_after, found_from}
use Rattle.ent_history.specs.Replay.{ground_finding, is_answered, later, replay_findings, told_read_views, ungrounded}
use Rattle.ent_history.specs.Replay.{told_end}
use Rattle.ent_history.specs.Table.{end_findings, tables_findings}
use Rattle.ent_history.specs.Verdict.{first_of}
use Rattle.ent_history.specs.declared.finding.Finding.{Finding}
use Rattle.ent_history.specs.declared.finding.Rule.{Rule}
use Rattle.ent_history.specs.declared.finding.Rule.TheVariants as rules
use Rattle.ent_history.specs.declared.finding.Thing.{Thing}
use Rattle.ent_history.specs.declared.finding.Thing.TheVariants as things
use Rattle.ent_report_reader.specs.Located.{IsPart, TellsOf, answer_counts, member_counts, number_at}

-- ---- counts by index

at_middle : (front more : List ℕ) (count : ℕ) → number_at (front ++ count ∷ more) (length front) ≡ count
at_middle [] more count = refl
at_middle (first ∷ front) more count = at_middle front more count

map_joined : {X : Type 0} (count : X → ℕ) (xs ys : List X) → map count (xs ++ ys) ≡ map count xs ++ map count ys
map_joined count [] ys = refl
map_joined count (x ∷ xs) ys = ap (λ more. count x ∷ more) (map_joined count xs ys)

-- that of the element behind so many
at_element : {X : Type 0} (count : X → ℕ) (all front more : List X) (x : X) (index : ℕ) → all ≡ front ++ x ∷ more
    → index ≡ length front → number_at (map count all) index ≡ count x
at_element count all front more x index is here =
    (λ i. number_at ((ap (map count) is ∙ map_joined count front (x ∷ more)) i)
    ((here ∙ sym (length-map front count)) i))
    ∙ at_middle (map count front) (map count more) (count x)

length_behind : {X : Type 0} (front more : List X) (x : X) → length (front ++ x ∷ more)
    ≡ suc (length front + length more)
length_behind [] more x = omega arith
length_behind (y ∷ front) more x = omega (arith, length_behind front more x)

module _ (history : History) where
  abbrev AreTold : List Finding → Type 0
  AreTold = AllByRecursion (λ finding. TellsOf history finding.thing)

  both : (first second : List Finding) → AreTold first → AreTold second → AreTold (first ++ second)
  both first second a b = all_joined (λ finding. TellsOf history finding.thing) first second a b

  flat : {X : Type 0} (f : X → List Finding) (xs : List X) → ((x : X) → In x xs → AreTold (f x))
      → AreTold (flat_map f xs)
  flat f xs each =
      to_all (λ finding. TellsOf history finding.thing) (flat_map f xs) (λ finding at.
      let where_is = in_flat f xs finding at in
      of_all (λ one. TellsOf history one.thing) (f where_is.0) finding (each where_is.0 where_is.1) where_is.2)

  unless_told : (holds : Bool) (rule : Rule) (thing : Thing) → TellsOf history thing → AreTold (unless holds rule thing)
  unless_told true rule thing is = tt
  unless_told false rule thing is = (is, tt)

  -- ---- transactions

  pub record IsTold (account : Account) : Type 0 where
    pub some : 1 ≤ account.tx
    pub few : account.tx ≤ length (answer_counts history)
    pub answers : number_at (answer_counts history) (account.tx - 1) ≡ length account.answers

  accounts_told : (tx : ℕ) (scripts : List Script) (front told : List Told) → history.transactions ≡ front ++ told
      → tx ≡ suc (length front) → AllByRecursion IsTold (accounts_from tx scripts told)
  accounts_told tx [] front told is here = tt
  accounts_told tx (script ∷ scripts) front [] is here = tt
  accounts_told tx (script ∷ scripts) front (first ∷ more) is here = (
    record {
      some = omega (arith, here);
      few = omega (
        arith,
        here,
        length-map history.transactions (λ told. length told.answers),
        ap length is,
        length_behind front more first,
      );
      answers = at_element (λ told. length told.answers) history.transactions front more first (tx - 1) is
          (omega (arith, here));
    },
    accounts_told (suc tx) scripts (front ++ first ∷ []) more (is ∙ sym (append_assoc front (first ∷ []) more))
        (omega (arith, here, length_behind front [] first)),
  )

  number_told : (count : ℕ) (above : List ℕ) (account : Account) (number : Option ℕ) → IsTold account
      → AreTold (number_finding count above account number)
  number_told count above account None is = tt
  number_told count above account (Some number) is =
      unless_told _ _ (things.Transaction account.tx) (is.some, is.few)

  journal_told : (count : ℕ) (above : List ℕ) (all : List Account) → AllByRecursion IsTold all
      → AreTold (journal_from count above all)
  journal_told count above [] are = tt
  journal_told count above (account ∷ more) are =
      both (number_finding count above account (commit_number account.fate))
      (journal_from count (cons_option (commit_number account.fate) above) more)
      (number_told count above account (commit_number account.fate) are.0)
      (journal_told count (cons_option (commit_number account.fate) above) more are.1)

  left_out_told : (members : List Member) (all : List Account) → AllByRecursion IsTold all
      → AreTold (left_out_findings members all)
  left_out_told members all are =
      flat (left_out members) all (λ account at.
      let is = of_all IsTold all account are at in
      unless_told _ rules.Joint (things.Transaction account.tx) (is.some, is.few))

  -- ---- joint answers and tables

  members_told : (all : List Account) (number : ℕ) (before : List Member) (joints : List JointAnswer) → 1 ≤ number
      → number + length joints ≤ suc (length (member_counts history))
      → AreTold (members_findings all number before joints)
  members_told all number before [] some few = tt
  members_told all number before (joint ∷ more) some few =
      both _ (members_findings all (suc number) (before ++ joint.members) more)
      (unless_told _ rules.Joint (things.Joint number) (some, omega (arith, few)))
      (members_told all (suc number) (before ++ joint.members) more (omega arith) (omega (arith, few)))

  posts_told : (run : List ReadView) (number : ℕ) (joints : List JointAnswer) → 1 ≤ number
      → number + length joints ≤ suc (length (member_counts history)) → AreTold (post_findings run number joints)
  posts_told run number [] some few = tt
  posts_told run number (joint ∷ more) some few =
      both _ (post_findings run (suc number) more)
      (unless_told _ rules.Post (things.Joint number) (some, omega (arith, few)))
      (posts_told run (suc number) more (omega arith) (omega (arith, few)))

  tables_told : (number : ℕ) (database : Database) (tables : List Shown) → 1 ≤ number
      → number + length tables ≤ suc (length history.tables) → AreTold (tables_findings number database tables)
  tables_told number database [] some few = tt
  tables_told number database (shown ∷ more) some few =
      both _ (tables_findings (suc number) database more)
      (unless_told _ rules.Table (things.Table number) (some, omega (arith, few)))
      (tables_told (suc number) database more (omega arith) (omega (arith, few)))

  end_told : (database : Option Database) → AreTold (end_findings database history.tables)
  end_told None = tt
  end_told (Some database) = tables_told 1 database history.tables (omega arith) (omega arith)

  -- ---- members

  abbrev ArePlaced : List Placed → Type 0
  ArePlaced = AllByRecursion (λ one. IsPart (member_counts history) one.joint one.number)

  members_placed : (joint number : ℕ) (members : List Member) → 1 ≤ joint → 1 ≤ number
      → number + length members ≤ suc (number_at (member_counts history) (joint - 1))
      → ArePlaced (members_from joint number members)
  members_placed joint number [] first some few = tt
  members_placed joint number (member ∷ more) first some few = (
    (first, some, omega (arith, few)),
    members_placed joint (suc number) more first (omega arith) (omega (arith, few)),
  )

  joints_placed : (joint : ℕ) (front joints : List ToldJoint) → history.joint_answers ≡ front ++ joints
      → joint ≡ suc (length front) → ArePlaced (placed_from joint (map joint_answer_of joints))
  joints_placed joint front [] is here = tt
  joints_placed joint front (told ∷ more) is here =
      let counted : number_at (member_counts history) (joint - 1) ≡ length told.members =
      at_element (λ joint. length joint.members) history.joint_answers front more told (joint - 1) is
      (omega (arith, here)) in
      all_joined (λ one. IsPart (member_counts history) one.joint one.number)
      (members_from joint 1 (joint_answer_of told).members) (placed_from (suc joint) (map joint_answer_of more))
      (members_placed joint 1 (joint_answer_of told).members (omega (arith, here)) (omega arith)
      (omega (arith, counted, length-map told.members (λ one. one.member))))
      (joints_placed (suc joint) (front ++ told ∷ []) more (is ∙ sym (append_assoc front (told ∷ []) more))
      (omega (arith, here, length_behind front [] told)))

  -- ---- the replay

  found_told : (test : Placed → Bool) (members : List Placed) → ArePlaced members → (holds : Bool)
      → AreTold (ground_finding (find test members) holds)
  found_told test [] so holds = tt
  found_told test (one ∷ more) so holds = by (test one) refl (found_told test more so.1 holds)
    where
      by : (b : Bool) → test one ≡ b → AreTold (ground_finding (find test more) holds)
          → AreTold (ground_finding (find test (one ∷ more)) holds)
      by true e rest = rw e (unless_told holds rules.Ground (things.Member one.joint one.number) so.0)
      by false e rest = rw e rest

  operations_length : (members : List Placed) (tx place : ℕ) (statements : List Statement)
      → length (told_operations members tx place statements) ≡ length statements
  operations_length members tx place [] = refl
  operations_length members tx place (statement ∷ more) =
      ap (λ n. suc n) (operations_length members tx (suc place) more)

  module _ (declared : List Create) (members : List Placed) (so : ArePlaced members) where
    after_told : (meaning : Result (Effect Database) Failure) (more : Database → Environment → List Finding)
        → ((database : Database) (environment : Environment) → AreTold (more database environment))
        → AreTold (found_after meaning more)
    after_told (Ok effect) more each = each effect.database effect.environment
    after_told (Err failure) more each = tt

    from_told : (run : Option Run) (more : Database → List Finding)
        → ((database : Database) → AreTold (more database)) → AreTold (found_from run more)
    from_told (Some run) more each = each run.database
    from_told None more each = tt

    operations_told : (tx place : ℕ) (operations : List Operation) (answers : List Answer) (database : Database)
        (environment : Environment) → 1 ≤ tx → 1 ≤ place
        → place + length operations ≤ suc (number_at (answer_counts history) (tx - 1))
        → AreTold (operations_findings declared members tx place operations answers database environment)
    operations_told tx place [] answers database environment first some few = tt
    operations_told tx place (operation ∷ more) answers database environment first some few =
        let meaning = statement_meaning declared operation.statement operation.valuation database environment in
        let answer = unless (is_answered meaning answers) rules.Answer (things.Answer tx place) in
        let rest = found_after meaning (operations_findings declared members tx (suc place) more (later answers)) in
        both (flat_map (ungrounded declared members) (seen tx place operation database environment)) (answer ++ rest)
        (flat (ungrounded declared members) (seen tx place operation database environment)
        (λ read_view at. found_told _ members so _))
        (both answer rest
        (unless_told (is_answered meaning answers) rules.Answer (things.Answer tx place)
        (first, some, omega (arith, few)))
        (after_told meaning (operations_findings declared members tx (suc place) more (later answers))
        (λ database environment. operations_told tx (suc place) more (later answers) database environment first
        (omega arith) (omega (arith, few)))))

    abbrev IsRun : Account → Type 0
    IsRun account = IsTold account × (length account.answers ≡ length account.script.statements)

    replay_told : (all : List Account) (database : Database) → AllByRecursion IsRun all
        → AreTold (replay_findings declared members all database)
    replay_told [] database are = tt
    replay_told (account ∷ more) database are =
        both
        (operations_findings declared members account.tx 1 (account_operations declared members account)
        account.answers database nothing_bound)
        (found_from (account_run declared members account database) (replay_findings declared members more))
        (operations_told account.tx 1 (account_operations declared members account) account.answers database
        nothing_bound are.0.0.some (omega arith)
        (omega (
          arith,
          operations_length members account.tx 1 account.script.statements,
          are.0.1,
          are.0.0.answers,
        )))
        (from_told (account_run declared members account database) (replay_findings declared members more)
        (λ database. replay_told more database are.1))

  -- ---- what has committed

  is_committed : (number : ℕ) (account : Account) → committed_as number account ≡ true
      → has_committed account ≡ true
  is_committed number account is = by (commit_number account.fate) is
    where
      by : (own : Option ℕ) → is_number number own ≡ true → is_some own ≡ true
      by (Some other) e = refl
      by None e = cc

  order_run : IsFormed history → AllByRecursion IsTold (accounts history)
      → AllByRecursion (λ account. IsTold account × (length account.answers ≡ length account.script.statements))
      (in_commit_order (accounts history))
  order_run formed are =
      to_all (λ account. IsTold account × (length account.answers ≡ length account.script.statements))
      (in_commit_order (accounts history)) (λ account at.
      let by_number = in_flat (λ number. filter (committed_as number) (accounts history))
      (numbers_from 1 (commit_count (accounts history))) account at in
      let kept = of_filter (committed_as by_number.0) (accounts history) account by_number.2 in (
        of_all IsTold (accounts history) account are kept.0,
        formed.answers account (in_contains (accounts history) account kept.0)
            (is_committed by_number.0 account kept.1),
      ))

  findings_told : IsFormed history → AreTold (findings history)
  findings_told formed =
      both _ _ (journal_told (commit_count all) [] all are)
      (both _ _ (members_told all 1 [] joints (omega arith) few)
      (both _ _ (left_out_told (all_members joints) all are)
      (both _ _
      (replay_told declared members (joints_placed 1 [] history.joint_answers refl refl) (in_commit_order all) first
      (order_run formed are))
      (both _ _ (posts_told (told_read_views declared members (in_commit_order all) first) 1 joints (omega arith) few)
      (end_told (told_end declared members (in_commit_order all) first))))))
    where
      declared : List Create
      declared = history.opening.tables

      all : List Account
      all = accounts history

      joints : List JointAnswer
      joints = map joint_answer_of history.joint_answers

      members : List Placed
      members = placed joints

      first : Database
      first = opening_database history.opening

      are : AllByRecursion IsTold (accounts history)
      are = accounts_told 1 history.scripts [] history.transactions refl refl

      few : 1 + length (map joint_answer_of history.joint_answers) ≤ suc (length (member_counts history))
      few = omega (
        arith,
        length-map history.joint_answers joint_answer_of,
        length-map history.joint_answers (λ joint. length joint.members),
      )

first_told : (history : History) (found : List Finding) (finding : Finding)
    → AllByRecursion (λ finding. TellsOf history finding.thing) found → first_of found ≡ Some finding
    → TellsOf history finding.thing
first_told history [] finding so e = cc (e)
first_told history (one ∷ more) finding so e =
    subst (λ (f : Finding). TellsOf history f.thing) (same one finding e) so.0
  where
    same : (a b : Finding) → Some a ≡ Some b → a ≡ b
    same a b e = cc

-- what is found first is told
pub found_thing_told : (history : History) (finding : Finding) → IsFormed history
    → first_of (findings history) ≡ Some finding → TellsOf history finding.thing
found_thing_told history finding formed found =
    first_told history (findings history) finding (findings_told history formed) found
