-- The rule of joint answers: their members are the entangled statements of what has committed, each once.
use Rattle.std.specs.Prelude.{ℕ, suc, Bool, true, false, not, ◌==◌, ◌&&◌, ◌||◌, List, [], ◌∷◌, ◌++◌, Option, Some, None}
use Rattle.std.specs.List.{flat_map, list_all, list_any}
use Rattle.ent_tree.specs.declared.script.Statement.{Statement}
use Rattle.ent_semantics.specs.declared.book.JointAnswer.{JointAnswer}
use Rattle.ent_semantics.specs.declared.book.Member.{Member}
use Rattle.ent_semantics.specs.Serial.{is_entangled, numbered}
use Rattle.ent_history.specs.Account.{Account, has_committed}
use Rattle.ent_history.specs.Journal.{unless}
use Rattle.ent_history.specs.Placed.{stands_at}
use Rattle.ent_history.specs.declared.finding.Finding.{Finding}
use Rattle.ent_history.specs.declared.finding.Rule.TheVariants as rules
use Rattle.ent_history.specs.declared.finding.Thing.TheVariants as things

abbrev pub is_entangled_one : Option Statement → Bool
is_entangled_one (Some statement) = is_entangled statement
is_entangled_one None = false

-- a member is an entangled statement of this transaction, which has committed
abbrev pub is_statement_of : Member → Account → Bool
is_statement_of member account =
    (account.tx == member.tx)
    && (has_committed account && is_entangled_one (numbered account.script.statements member.place))

-- one of them is the statement of this place
abbrev pub stands_among : ℕ → ℕ → List Member → Bool
stands_among tx place members = list_any (stands_at tx place) members

-- a member is an entangled statement of what has committed, and stands in no place before
abbrev pub is_right : List Account → List Member → Member → Bool
is_right all before member =
    list_any (is_statement_of member) all && not (stands_among member.tx member.place before)

-- joint answers, the first of this number, behind these members
abbrev pub members_findings : List Account → ℕ → List Member → List JointAnswer → List Finding
members_findings all number before [] = []
members_findings all number before (joint ∷ more) =
    unless (list_all (is_right all before) joint.members) rules.Joint (things.Joint number)
    ++ members_findings all (suc number) (before ++ joint.members) more

-- the entangled ones of a transaction's statements, the first having this place, are members
abbrev pub all_stand : List Member → ℕ → ℕ → List Statement → Bool
all_stand members tx place [] = true
all_stand members tx place (statement ∷ more) =
    (not (is_entangled statement) || stands_among tx place members) && all_stand members tx (suc place) more

-- a transaction that has committed, and an entangled statement of which stands in no joint answer
abbrev pub left_out : List Member → Account → List Finding
left_out members account =
    unless (not (has_committed account) || all_stand members account.tx 1 account.script.statements) rules.Joint
    (things.Transaction account.tx)

abbrev pub left_out_findings : List Member → List Account → List Finding
left_out_findings members all = flat_map (left_out members) all
