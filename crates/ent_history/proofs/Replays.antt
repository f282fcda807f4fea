-- Transactions that run alone, in the order of their commits.
use Rattle.std.proofs.Common.{◌≡◌, ℕ, ◌+◌, true, List, [], ◌∷◌, ◌++◌, map, length, refl, sym, ap}
use Rattle.std.proofs.Common.{subst, ◌∙◌, inl, inr, Option, Some, None, slice_get}
use Rattle.std.specs.List.{AllByRecursion}
use Rattle.std.specs.Option.{option_map, option_and_then}
use Rattle.ent_tree.specs.declared.declaration.Create.{Create}
use Rattle.ent_tree.specs.declared.script.End.{End}
use Rattle.ent_tree.specs.declared.script.End.TheVariants.{Commit, Rollback}
use Rattle.ent_tree.specs.declared.script.Script.{Script}
use Rattle.ent_tree.specs.declared.script.Statement.{Statement}
use Rattle.ent_semantics.specs.Database.{Database, nothing_bound}
use Rattle.ent_semantics.specs.Joint.{IsGrounded}
use Rattle.ent_semantics.specs.Serial.{Operation, Run, Runs, ReadView, Turn, operations_of, ended, is_entangled}
use Rattle.ent_semantics.specs.Serial.{ran_first, run}
use Rattle.ent_semantics.specs.Serial.{script_run, script_read_views, scripts_run, scripts_read_views, seen_from}
use Rattle.ent_semantics.specs.Serial.{read_views}
use Rattle.ent_history.specs.Account.{Account}
use Rattle.ent_history.specs.Journal.{commits}
use Rattle.ent_history.specs.Placed.{Placed, told_operations}
use Rattle.ent_history.specs.Replay.{operations_findings, found_from, account_run, replay_findings, told_read_views}
use Rattle.ent_history.specs.Replay.{told_end}
use Rattle.ent_history.proofs.Operations.{AllStand, AreTold, SeenTold, IsClean, clean_operations, operations_are_told}
use Rattle.ent_history.proofs.Operations.{operations_told}
use Rattle.ent_history.proofs.Operations.{mapped_some, oracle_of, right_operations, read_view_told, then_some}
use Rattle.ent_history.proofs.Operations.{told_read_view}
use Rattle.ent_lists.specs.Elements.{In, all_joined, in_first, in_second, in_either}
use Rattle.ent_lists.proofs.Lists.{same_first}
use Rattle.ent_history.proofs.RuleLists.{both_none, none_first, none_second}

commits_is : (end : End) → commits end ≡ true → end ≡ Commit
commits_is Commit e = refl
commits_is Rollback e = cc

ended_some : (end : End) (o : Option Run) (r : Run) → ended end o ≡ Some r → (commits end ≡ true) × (o ≡ Some r)
ended_some Commit o r e = (refl, e)
ended_some Rollback o r e = cc (e)

in_from : (o : Option Run) (f : Database → List ReadView) (s : ReadView) → In s (seen_from o f)
    → (r : Run) × In s (f r.database)
in_from (Some r) f s at = (r, at)
in_from None f s at = absurd at

same_tail : {X : Type 0} (x y : X) (xs ys : List X) → x ∷ xs ≡ y ∷ ys → xs ≡ ys
same_tail x y xs ys e = cc

module _ (declared : List Create) (members : List Placed) where
  abbrev pub turn_told : Account → Turn
  turn_told a =
      record { tx = a.tx; script = a.script; oracle = oracle_of (told_operations members a.tx 1 a.script.statements) }

  told_script : (a : Account) (d : Database) → commits a.script.end ≡ true
      → script_run declared a.script (oracle_of (told_operations members a.tx 1 a.script.statements)) d
      ≡ account_run declared members a d
  told_script a d ends =
      ap (λ end. ended end (option_and_then (λ operations. run declared operations d nothing_bound)
      (operations_of a.script.statements (oracle_of (told_operations members a.tx 1 a.script.statements)))))
      (commits_is a.script.end ends)
      ∙ ap (option_and_then (λ operations. run declared operations d nothing_bound))
      (operations_told declared members a.tx 1 a.script.statements)

  told_script_read_views : (a : Account) (d : Database) → script_read_views declared (turn_told a) d
      ≡ read_views declared a.tx 1 (told_operations members a.tx 1 a.script.statements) d nothing_bound
  told_script_read_views a d = rw (operations_told declared members a.tx 1 a.script.statements) refl

  -- ---- where nothing is found

  pub record IsReady (a : Account) : Type 0 where
    pub counts : length a.answers ≡ length a.script.statements
    pub stands : AllStand declared members a.tx 1 a.script.statements
    pub ends : commits a.script.end ≡ true

  pub record IsReplayed (xs : List Account) (d : Database) : Type 0 where
    pub left : Database
    pub ends : told_end declared members xs d ≡ Some left
    pub gives : scripts_run declared (map turn_told xs) d
        ≡ Some (record { database = left; answers = map (λ (a : Account). a.answers) xs })
    pub grounded : AllByRecursion (IsGrounded declared) (told_read_views declared members xs d)
    pub same : scripts_read_views declared (map turn_told xs) d ≡ told_read_views declared members xs d

  pub replayed : (xs : List Account) (d : Database) → ((a : Account) → In a xs → IsReady a)
      → replay_findings declared members xs d ≡ [] → IsReplayed xs d
  replayed [] d ready none = record { left = d; ends = refl; gives = refl; grounded = tt; same = refl }
  replayed (a ∷ xs) d ready none =
      let own = ready a (inl refl) in
      let first = operations_findings declared members a.tx 1 (told_operations members a.tx 1 a.script.statements)
      a.answers d
      nothing_bound in
      let rest = found_from (account_run declared members a d) (replay_findings declared members xs) in
      let clean : IsClean declared members a.tx 1 (told_operations members a.tx 1 a.script.statements) a.answers d
      nothing_bound =
      clean_operations declared members a.tx 1 a.script.statements a.answers d nothing_bound
      (none_first first rest none)
      own.counts own.stands in
      let more = replayed xs clean.left.database (λ b bt. ready b (inr bt))
      (ap (λ o. found_from o (replay_findings declared members xs)) (sym clean.runs) ∙ none_second first rest none) in
      let script = told_script a d own.ends ∙ clean.runs in
      record {
        left = more.left;
        ends = ap (option_and_then (λ (r : Run). told_end declared members xs r.database)) clean.runs ∙ more.ends;
        gives = ap (option_and_then (λ (r : Run). option_map (ran_first r.answers)
            (scripts_run declared (map turn_told xs) r.database))) script
            ∙ ap (option_map (ran_first clean.left.answers)) more.gives
            ∙ (λ i. Some (record {
              database = more.left;
              answers = clean.same i ∷ map (λ (a : Account). a.answers) xs;
            }));
        grounded = all_joined (IsGrounded declared)
            (read_views declared a.tx 1 (told_operations members a.tx 1 a.script.statements) d nothing_bound)
            (seen_from (account_run declared members a d) (told_read_views declared members xs)) clean.grounded
            (subst (λ o. AllByRecursion (IsGrounded declared) (seen_from o (told_read_views declared members xs)))
            (sym clean.runs) more.grounded);
        same =
            let later = ap (λ o. seen_from o (scripts_read_views declared (map turn_told xs))) script
            ∙ more.same
            ∙ ap (λ o. seen_from o (told_read_views declared members xs)) (sym clean.runs) in
            λ i. told_script_read_views a d i ++ later i;
      }

  -- ---- what is seen

  pub read_view_account : (xs : List Account) (d : Database) (s : ReadView)
      → In s (told_read_views declared members xs d)
      → (a : Account) × In a xs × SeenTold declared members a.tx 1 a.script.statements s
  read_view_account [] d s at = absurd at
  read_view_account (a ∷ xs) d s at =
      elim (in_either (read_views declared a.tx 1 (told_operations members a.tx 1 a.script.statements) d nothing_bound)
      (seen_from (account_run declared members a d) (told_read_views declared members xs)) s at) [
        | inl here ↦ (a, inl refl, read_view_told declared members a.tx 1 a.script.statements d nothing_bound s here)
        | inr there ↦
            let next = in_from (account_run declared members a d) (told_read_views declared members xs) s there in
            let r = read_view_account xs next.0.database s next.1 in
            (r.0, inr r.1, r.2)
      ]

  -- an account's statement sees something
  abbrev pub SeesOf : List Account → Database → Account → ℕ → Type 0
  SeesOf xs d a k = (s : ReadView) × In s (told_read_views declared members xs d) × (s.tx ≡ a.tx) × (s.place ≡ 1 + k)

  pub account_read_view : (xs : List Account) (d left : Database) → told_end declared members xs d ≡ Some left
      → (a : Account) → In a xs → (k : ℕ) (st : Statement) → slice_get a.script.statements k ≡ Some st
      → is_entangled st ≡ true → SeesOf xs d a k
  account_read_view [] d left ends a at k st is entangled = absurd at
  account_read_view (x ∷ xs) d left ends a (inl same) k st is entangled =
      let first = then_some (λ (r : Run). told_end declared members xs r.database) (account_run declared members x d)
      left ends in
      let s = told_read_view declared members x.tx 1 x.script.statements d nothing_bound first.0 first.1 k st
      (ap (λ (b : Account). slice_get b.script.statements k) (sym same) ∙ is) entangled in (
        s.0,
        in_first (read_views declared x.tx 1 (told_operations members x.tx 1 x.script.statements) d nothing_bound)
            (seen_from (account_run declared members x d) (told_read_views declared members xs)) s.0 s.1,
        s.2 ∙ ap (λ (b : Account). b.tx) (sym same),
        s.3,
      )
  account_read_view (x ∷ xs) d left ends a (inr at) k st is entangled =
      let first = then_some (λ (r : Run). told_end declared members xs r.database) (account_run declared members x d)
      left ends in
      let s = account_read_view xs first.0.database left first.2 a at k st is entangled in (
        s.0,
        in_second (read_views declared x.tx 1 (told_operations members x.tx 1 x.script.statements) d nothing_bound)
            (seen_from (account_run declared members x d) (told_read_views declared members xs)) s.0
            (subst (λ o. In s.0 (seen_from o (told_read_views declared members xs))) (sym first.1) s.1),
        s.2,
        s.3,
      )

  -- ---- turns whose oracle gives what is told

  abbrev pub OwnScripts : List Turn → List Account → Type 0
  OwnScripts turns xs = (t : Turn) (a : Account) → In t turns → In a xs → t.tx ≡ a.tx → t.script ≡ a.script

  pub record IsTold (turns : List Turn) (xs : List Account) (d : Database) (all : Runs) : Type 0 where
    pub same : scripts_read_views declared turns d ≡ told_read_views declared members xs d
    pub ends : told_end declared members xs d ≡ Some all.database
    pub commit : AllByRecursion (λ (a : Account). commits a.script.end ≡ true) xs
    pub none : all.answers ≡ map (λ (a : Account). a.answers) xs
        → AllByRecursion (IsGrounded declared) (told_read_views declared members xs d)
        → replay_findings declared members xs d ≡ []

  all_parts : (P : ReadView → Type 0) (xs ys : List ReadView) → AllByRecursion P (xs ++ ys)
      → AllByRecursion P xs × AllByRecursion P ys
  all_parts P [] ys all = (tt, all)
  all_parts P (x ∷ xs) ys all = let r = all_parts P xs ys all.1 in ((all.0, r.0), r.1)

  turn_read_views : (t : Turn) (d : Database) (operations : List Operation)
      → operations_of t.script.statements t.oracle ≡ Some operations
      → script_read_views declared t d ≡ read_views declared t.tx 1 operations d nothing_bound
  turn_read_views t d operations e = rw e refl

  one_runs : (one all : Runs) → Some one ≡ Some all → one ≡ all
  one_runs one all e = cc

  pub told : (turns : List Turn) (xs : List Account) (d : Database) (all : Runs)
      → map (λ (t : Turn). t.tx) turns ≡ map (λ (a : Account). a.tx) xs → OwnScripts turns xs
      → scripts_run declared turns d ≡ Some all → AreTold declared members (scripts_read_views declared turns d)
      → IsTold turns xs d all
  told [] [] d all txs own runs are =
      let e = one_runs (record { database = d; answers = [] }) all runs in
      record { same = refl; ends = ap (λ (x : Runs). Some x.database) e; commit = tt; none = λ answers grounded. refl }
  told [] (a ∷ xs) d all txs own runs are = cc (txs)
  told (t ∷ ts) [] d all txs own runs are = cc (txs)
  told (t ∷ ts) (a ∷ xs) d all txs own runs are =
      let tx = same_first t.tx a.tx (map (λ (t : Turn). t.tx) ts) (map (λ (a : Account). a.tx) xs) txs in
      let later_txs = same_tail t.tx a.tx (map (λ (t : Turn). t.tx) ts) (map (λ (a : Account). a.tx) xs) txs in
      let script = own t a (inl refl) (inl refl) tx in
      let first = then_some (λ (r : Run). option_map (ran_first r.answers) (scripts_run declared ts r.database))
      (script_run declared t.script t.oracle d) all runs in
      let second = mapped_some (ran_first first.0.answers) (scripts_run declared ts first.0.database) all first.2 in
      let ended = ended_some t.script.end
      (option_and_then (λ operations. run declared operations d nothing_bound)
      (operations_of t.script.statements t.oracle)) first.0
      first.1 in
      let third = then_some (λ operations. run declared operations d nothing_bound)
      (operations_of t.script.statements t.oracle)
      first.0 ended.1 in
      let here = turn_read_views t d third.0 third.1 in
      let now : AreTold declared members (read_views declared t.tx 1 third.0 d nothing_bound) =
      λ s at. are s (in_first (script_read_views declared t d)
      (seen_from (script_run declared t.script t.oracle d) (scripts_read_views declared ts)) s
      (subst (In s) (sym here) at)) in
      let operations = operations_are_told declared members t.tx 1 t.script.statements t.oracle third.0 d nothing_bound
      first.0
      third.1 third.2 now
      ∙ (λ i. told_operations members (tx i) 1 (script i).statements) in
      let alone : account_run declared members a d ≡ Some first.0 =
      ap (λ ds. run declared ds d nothing_bound) (sym operations) ∙ third.2 in
      let more = told ts xs first.0.database second.0 later_txs (λ u b ut bt. own u b (inr ut) (inr bt)) second.1
      (λ s at. are s (in_second (script_read_views declared t d)
      (seen_from (script_run declared t.script t.oracle d) (scripts_read_views declared ts)) s
      (subst (λ o. In s (seen_from o (scripts_read_views declared ts))) (sym first.1) at))) in
      record {
        same =
            let now = here ∙ (λ i. read_views declared (tx i) 1 (operations i) d nothing_bound) in
            let later = ap (λ o. seen_from o (scripts_read_views declared ts)) first.1
            ∙ more.same
            ∙ ap (λ o. seen_from o (told_read_views declared members xs)) (sym alone) in
            λ i. now i ++ later i;
        ends = ap (option_and_then (λ (r : Run). told_end declared members xs r.database)) alone
            ∙ more.ends
            ∙ ap (λ (x : Runs). Some x.database) (sym second.2);
        commit = (ap (λ (x : Script). commits x.end) (sym script) ∙ ended.0, more.commit);
        none = λ answers grounded.
            let both = ap (λ (x : Runs). x.answers) (sym second.2) ∙ answers in
            let parts = all_parts (IsGrounded declared)
            (read_views declared a.tx 1 (told_operations members a.tx 1 a.script.statements) d nothing_bound)
            (seen_from (account_run declared members a d) (told_read_views declared members xs)) grounded in
            both_none
            (operations_findings declared members a.tx 1 (told_operations members a.tx 1 a.script.statements) a.answers
            d
            nothing_bound)
            (found_from (account_run declared members a d) (replay_findings declared members xs))
            (right_operations declared members a.tx 1 (told_operations members a.tx 1 a.script.statements) a.answers d
            nothing_bound first.0 alone
            (same_first first.0.answers a.answers second.0.answers (map (λ (a : Account). a.answers) xs) both) parts.0)
            (ap (λ o. found_from o (replay_findings declared members xs)) alone
            ∙ more.none
            (same_tail first.0.answers a.answers second.0.answers (map (λ (a : Account). a.answers) xs) both)
            (subst (λ o. AllByRecursion (IsGrounded declared) (seen_from o (told_read_views declared members xs))) alone
            parts.1));
      }
