-- Where nothing breaks the rule of joint answers, each entangled statement of what has committed is a member.
use Rattle.std.proofs.Common.{◌≡◌, ℕ, suc, Bool, true, false, not, ◌||◌, cond, List, [], ◌∷◌, ◌++◌, refl}
use Rattle.std.proofs.Common.{sym, ap, ◌∙◌, Option, Some, None, is_some, inl, inr}
use Rattle.std.specs.List.{AllByRecursion, filter, flat_map}
use Rattle.ent_lists.specs.Elements.{In, and_both, in_flat, of_filter, to_all}
use Rattle.ent_tree.specs.declared.script.Statement.{Statement}
use Rattle.ent_tree.specs.declared.script.Statement.TheVariants as statements
use Rattle.ent_semantics.specs.Book.{all_members}
use Rattle.ent_semantics.specs.Serial.{is_entangled}
use Rattle.ent_semantics.specs.declared.book.JointAnswer.{JointAnswer}
use Rattle.ent_semantics.specs.declared.book.Member.{Member}
use Rattle.ent_history.specs.Account.{Account, commit_count, commit_number, committed_as, has_committed}
use Rattle.ent_history.specs.Account.{in_commit_order}
use Rattle.ent_history.specs.Account.{is_number, numbers_from}
use Rattle.ent_history.specs.Joint.{all_stand, left_out, left_out_findings, members_findings, stands_among}
use Rattle.ent_history.specs.Placed.{Placed, member_at, placed, stands_at}
use Rattle.ent_history.specs.Verdict.{first_of}
use Rattle.ent_history.specs.declared.finding.Finding.{Finding}
use Rattle.ent_history.specs.declared.finding.Rule.TheVariants as rule
use Rattle.ent_history.specs.declared.finding.Thing.TheVariants as thing
use Rattle.ent_history.proofs.Found.{unless_holds}
use Rattle.ent_history.proofs.RuleLists.{none_first, none_second}
use Rattle.ent_check.proofs.Joints.{members_in, members_placed}
use Rattle.ent_check.specs.Alone.{AreSeated, IsSeatedWhole}
use Rattle.ent_check.specs.Closed.{IsSeated}

module _ (members : List Placed) (tx : ℕ) where
  seat_there : (some : List Placed) (place : ℕ)
      → stands_among tx place (members_in some) ≡ is_some (member_at some tx place)
  seat_there [] place = refl
  seat_there (x ∷ xs) place = by (stands_at tx place x.member) (seat_there xs place)
    where
      by : (b : Bool) → stands_among tx place (members_in xs) ≡ is_some (member_at xs tx place)
          → (b || stands_among tx place (members_in xs)) ≡ is_some (cond b (Some x) (member_at xs tx place))
      by true rest = refl
      by false rest = rest

  one_seated : (place : ℕ) (statement : Statement)
      → (not (is_entangled statement) || stands_among tx place (members_in members)) ≡ true
      → IsSeated (member_at members tx place) statement
  one_seated place (statements.Entangled entangled) is = sym (seat_there members place) ∙ is
  one_seated place (statements.Select select) is = tt
  one_seated place (statements.Insert insert) is = tt
  one_seated place (statements.Delete delete) is = tt
  one_seated place (statements.Update update) is = tt
  one_seated place (statements.Set setting) is = tt

  all_seated : (place : ℕ) (some : List Statement) → all_stand (members_in members) tx place some ≡ true
      → AreSeated members tx place some
  all_seated place [] is = tt
  all_seated place (statement ∷ more) is =
      let both = and_both (not (is_entangled statement) || stands_among tx place (members_in members))
      (all_stand (members_in members) tx (suc place) more) is in
      (one_seated place statement both.0, all_seated (suc place) more both.1)

-- ---- what has committed

pub nothing_found : (findings : List Finding) → first_of findings ≡ None → findings ≡ []
nothing_found [] is = refl
nothing_found (finding ∷ more) is = cc (is)

nothing_of : (f : Account → List Finding) (all : List Account) → flat_map f all ≡ [] → (account : Account)
    → In account all → f account ≡ []
nothing_of f [] none account at = absurd at
nothing_of f (x ∷ xs) none account (inl same) = ap f same ∙ none_first (f x) (flat_map f xs) none
nothing_of f (x ∷ xs) none account (inr at) = nothing_of f xs (none_second (f x) (flat_map f xs) none) account at

stands_whole : (committed stands : Bool) → committed ≡ true → (not committed || stands) ≡ true → stands ≡ true
stands_whole true stands is holds = holds
stands_whole false stands is holds = cc (is)

has_number : (number : ℕ) (own : Option ℕ) → is_number number own ≡ true → is_some own ≡ true
has_number number (Some other) is = refl
has_number number None is = is

module _ (all : List Account) (joints : List JointAnswer)
    (none : first_of (members_findings all 1 [] joints ++ left_out_findings (all_members joints) all) ≡ None) where
  nobody_left_out : left_out_findings (all_members joints) all ≡ []
  nobody_left_out =
      none_second (members_findings all 1 [] joints) (left_out_findings (all_members joints) all)
      (nothing_found (members_findings all 1 [] joints ++ left_out_findings (all_members joints) all) none)

  account_seated : (account : Account) → In account all → has_committed account ≡ true
      → IsSeatedWhole (placed joints) account
  account_seated account at committed =
      let stand = all_stand (all_members joints) account.tx 1 account.script.statements in
      let holds : stand ≡ true = stands_whole (has_committed account) stand committed
      (unless_holds (not (has_committed account) || stand) rule.Joint (thing.Transaction account.tx)
      (nothing_of (left_out (all_members joints)) all nobody_left_out account at)) in
      all_seated (placed joints) account.tx 1 account.script.statements
      (ap (λ (some : List Member). all_stand some account.tx 1 account.script.statements) (members_placed 1 joints)
      ∙ holds)

  pub commits_seated : AllByRecursion (IsSeatedWhole (placed joints)) (in_commit_order all)
  commits_seated =
      to_all (IsSeatedWhole (placed joints)) (in_commit_order all) (λ account at.
      let r = in_flat (λ number. filter (committed_as number) all) (numbers_from 1 (commit_count all)) account at in
      let passed = of_filter (committed_as r.0) all account r.2 in
      account_seated account passed.0 (has_number r.0 (commit_number account.fate) passed.1))
