-- The rule of the journal: commits are numbered from 1 on, each once, and no script that ends with ROLLBACK committed.
use Rattle.std.specs.Prelude.{ℕ, Bool, true, false, not, ◌==◌, ◌&&◌, List, [], ◌∷◌, ◌++◌, Option}
use Rattle.std.specs.Prelude.{Some, None, nat_lt, nat_le}
use Rattle.std.specs.Prelude.{if◌then◌else◌}
use Rattle.std.specs.List.{cons_option, list_any}
use Rattle.ent_tree.specs.declared.script.End.{End}
use Rattle.ent_tree.specs.declared.script.End.TheVariants.{Commit, Rollback}
use Rattle.ent_history.specs.Account.{Account, commit_number, commit_count}
use Rattle.ent_history.specs.declared.finding.Finding.{Finding}
use Rattle.ent_history.specs.declared.finding.Rule.{Rule}
use Rattle.ent_history.specs.declared.finding.Rule.TheVariants as rules
use Rattle.ent_history.specs.declared.finding.Thing.{Thing}
use Rattle.ent_history.specs.declared.finding.Thing.TheVariants as things

-- nothing where a fact holds, else that a thing breaks a rule
abbrev pub unless : Bool → Rule → Thing → List Finding
unless holds rule thing = if holds then [] else record { rule = rule; thing = thing } ∷ []

abbrev pub commits : End → Bool
commits Commit = true
commits Rollback = false

-- a number of a commit among so many, behind those that stand above
abbrev pub is_next : ℕ → List ℕ → ℕ → Bool
is_next count above number =
    (nat_lt 0 number && nat_le number count) && not (list_any (λ other. other == number) above)

-- what is found of a transaction, behind those whose numbers stand above
abbrev pub number_finding : ℕ → List ℕ → Account → Option ℕ → List Finding
number_finding count above account None = []
number_finding count above account (Some number) =
    unless (is_next count above number && commits account.script.end) rules.Journal (things.Transaction account.tx)

-- transactions among so many commits, behind those whose numbers stand above
abbrev pub journal_from : ℕ → List ℕ → List Account → List Finding
journal_from count above [] = []
journal_from count above (account ∷ more) =
    number_finding count above account (commit_number account.fate)
    ++ journal_from count (cons_option (commit_number account.fate) above) more

abbrev pub journal_findings : List Account → List Finding
journal_findings all = journal_from (commit_count all) [] all
