-- What is asked of a history beside the rules: what its text already tells.
use Rattle.std.specs.Prelude.{◌≡◌, ◌≢◌, ◌<◌, true, false, Bool, List, [], length, map, AllPairs, Contains}
use Rattle.std.specs.List.{list_any}
use Rattle.ent_lists.specs.Sets as set
use Rattle.ent_value.specs.Value.{row_cmp}
use Rattle.ent_tree.specs.declared.declaration.Create.{Create}
use Rattle.ent_tree.specs.declared.script.Script.{Script}
use Rattle.ent_tree.specs.declared.script.Statement.{Statement}
use Rattle.ent_semantics.specs.declared.book.JointAnswer.{JointAnswer}
use Rattle.ent_semantics.specs.declared.book.Member.{Member}
use Rattle.ent_semantics.specs.Database.{Name, opening_database, same_name}
use Rattle.ent_semantics.specs.Uses.{changes}
use Rattle.ent_history.specs.declared.history.History.{History}
use Rattle.ent_history.specs.declared.history.Shown.{Shown}
use Rattle.ent_history.specs.Told.{joint_answer_of}
use Rattle.ent_history.specs.Account.{Account, accounts, has_committed}

-- a table of this name is declared
abbrev pub is_declared : List Create → Name → Bool
is_declared creates name = list_any (λ create. same_name create.name.name name) creates

-- a table of this name is shown
abbrev pub is_shown : List Shown → Name → Bool
is_shown tables name = list_any (λ shown. same_name shown.name name) tables

pub record IsFormed (history : History) : Type 0 where
  -- each script has a fate
  pub told : length history.transactions ≡ length history.scripts
  -- each statement of a transaction that has committed has an answer
  pub answers : (account : Account) → Contains (accounts history) account → has_committed account ≡ true
      → length account.answers ≡ length account.script.statements
  -- each joint answer has members, by rising number of their transactions
  pub some : (joint : JointAnswer) → Contains (map joint_answer_of history.joint_answers) joint → joint.members ≢ []
  pub rising : (joint : JointAnswer) → Contains (map joint_answer_of history.joint_answers) joint
      → AllPairs (λ (first second : Member). first.tx < second.tx) joint.members
  -- each table is shown once, its rows ascending
  pub shown : (name : Name) → is_declared history.opening.tables name ≡ true → is_shown history.tables name ≡ true
  pub once : AllPairs (λ (first second : Shown). first.name ≢ second.name) history.tables
  pub ascending : (shown : Shown) → Contains history.tables shown
      → set.ascending (set.from_list {R = row_cmp} shown.rows) ≡ shown.rows
  -- opening rows stand in declared tables, and scripts change no others
  pub opens : (name : Name) → is_declared history.opening.tables name ≡ false
      → opening_database history.opening name ≡ set.empty
  pub within : (script : Script) → Contains history.scripts script → (statement : Statement)
      → Contains script.statements statement → (name : Name) → changes statement name ≡ true
      → is_declared history.opening.tables name ≡ true
