-- The transactions that a report tells, in order of the scripts: all but the last have all their answers.
use Rattle.std.proofs.Common.{◌≡◌, ℕ, zero, suc, ◌≤◌, ◌<◌, Bool, true, false, cond, List, [], ◌∷◌, ◌++◌, length}
use Rattle.std.proofs.Common.{sym, ap, subst, ◌∙◌, arith, inl, inr, Some, None, slice_get}
use Rattle.ent_tree.specs.declared.script.Script.{Script}
use Rattle.ent_tree.specs.declared.script.Statement.{Statement}
use Rattle.ent_semantics.specs.declared.answer.Answer.{Answer}
use Rattle.ent_semantics.specs.declared.book.Fate.{Fate}
use Rattle.ent_history.specs.declared.history.Told.{Told}
use Rattle.ent_history.specs.Told.{has_committed as is_said_to_have}
use Rattle.ent_history.specs.Answers.{with_answer}
use Rattle.ent_history.specs.Draft.{answer_due, on_last, unanswered}
use Rattle.ent_lists.specs.Elements.{In}
use Rattle.ent_lists.proofs.Lists.{got_none}
use Rattle.ent_history.specs.Account.{Account, accounts_from, has_committed}
use Rattle.ent_history.proofs.Bridge.{committed_same}
use Rattle.ent_report_laws.proofs.Begun.{told_of}
use Rattle.ent_report_laws.proofs.Lists.{longer}

-- each of its statements has an answer, where it is said to have committed
abbrev pub IsComplete : Script → Told → Type 0
IsComplete script told = is_said_to_have told.fate ≡ true → length told.answers ≡ length script.statements

abbrev pub AreAnswered : List Script → List Told → Type 0
AreAnswered scripts [] = Unit {0}
AreAnswered [] (told ∷ more) = ⊥
AreAnswered (script ∷ scripts) (told ∷ []) = length told.answers ≤ length script.statements
AreAnswered (script ∷ scripts) (told ∷ next ∷ more) = IsComplete script told × AreAnswered scripts (next ∷ more)

pub none_answered : (scripts : List Script) → AreAnswered scripts []
none_answered [] = tt
none_answered (script ∷ scripts) = tt

-- ---- what is due

pub got_some : {X : Type 0} (xs : List X) (n : ℕ) (x : X) → slice_get xs n ≡ Some x → n < length xs
got_some [] n x e = cc (e)
got_some (y ∷ xs) zero x e = omega arith
got_some (y ∷ xs) (suc n) x e = let rest : n < length xs = got_some xs n x e in omega arith

complete : (script : Script) (told : Told) → length told.answers ≤ length script.statements
    → unanswered script told ≡ None → IsComplete script told
complete script told few due committed =
    let enough : length script.statements ≤ length told.answers =
    got_none script.statements (length told.answers)
    (ap (λ (b : Bool). cond b (slice_get script.statements (length told.answers)) None) (sym committed) ∙ due) in
    omega arith

room : (script : Script) (told : Told) (statement : Statement) → unanswered script told ≡ Some statement
    → length told.answers < length script.statements
room script told statement due = by (is_said_to_have told.fate) due
  where
    by : (b : Bool) → cond b (slice_get script.statements (length told.answers)) None ≡ Some statement
        → length told.answers < length script.statements
    by true e = got_some script.statements (length told.answers) statement e
    by false e = cc (e)

-- ---- what each line keeps

pub tx_answered : (scripts : List Script) (told : List Told) (fate : Fate) → AreAnswered scripts told
    → answer_due scripts told ≡ None → length told < length scripts
    → AreAnswered scripts (told ++ told_of fate [] ∷ [])
tx_answered [] told fate so due few = absurd (omega arith)
tx_answered (script ∷ scripts) [] fate so due few = omega arith
tx_answered (script ∷ []) (told ∷ []) fate so due few = absurd (omega arith)
tx_answered (script ∷ other ∷ scripts) (told ∷ []) fate so due few = (complete script told so due, omega arith)
tx_answered (script ∷ scripts) (told ∷ next ∷ more) fate so due few =
    let fewer : length (next ∷ more) < length scripts = omega arith in
    (so.0, tx_answered scripts (next ∷ more) fate so.1 due fewer)

pub answer_answered : (scripts : List Script) (told : List Told) (answer : Answer) (statement : Statement)
    → AreAnswered scripts told → answer_due scripts told ≡ Some statement
    → AreAnswered scripts (on_last (with_answer answer) told)
answer_answered [] told answer statement so due = cc (due)
answer_answered (script ∷ scripts) [] answer statement so due = cc
answer_answered (script ∷ scripts) (told ∷ []) answer statement so due =
    let fits : length told.answers < length script.statements = room script told statement due in
    omega (arith, longer told.answers answer)
answer_answered (script ∷ scripts) (told ∷ next ∷ []) answer statement so due =
    (so.0, answer_answered scripts (next ∷ []) answer statement so.1 due)
answer_answered (script ∷ scripts) (told ∷ next ∷ other ∷ more) answer statement so due =
    (so.0, answer_answered scripts (next ∷ other ∷ more) answer statement so.1 due)

pub kept_answered : (change : Told → Told) → ((told : Told) → length (change told).answers ≡ length told.answers)
    → (scripts : List Script) (told : List Told) → AreAnswered scripts told → AreAnswered scripts (on_last change told)
kept_answered change same [] [] so = tt
kept_answered change same (script ∷ scripts) [] so = tt
kept_answered change same [] (told ∷ more) so = absurd so
kept_answered change same (script ∷ scripts) (told ∷ []) so =
    subst (λ (n : ℕ). n ≤ length script.statements) (sym (same told)) so
kept_answered change same (script ∷ scripts) (told ∷ next ∷ []) so =
    (so.0, kept_answered change same scripts (next ∷ []) so.1)
kept_answered change same (script ∷ scripts) (told ∷ next ∷ other ∷ more) so =
    (so.0, kept_answered change same scripts (next ∷ other ∷ more) so.1)

-- ---- where no answer is due

no_account : (tx : ℕ) (scripts : List Script) (account : Account) → In account (accounts_from tx scripts []) → ⊥
no_account tx [] account at = at
no_account tx (script ∷ scripts) account at = at

abbrev IsWhole : Account → Type 0
IsWhole account = has_committed account ≡ true → length account.answers ≡ length account.script.statements

whole_account : (tx : ℕ) (script : Script) (told : Told) (account : Account)
    → account ≡ record { tx = tx; script = script; fate = told.fate; answers = told.answers } → IsComplete script told
    → IsWhole account
whole_account tx script told account same is =
    subst IsWhole (sym same) (λ committed. is (committed_same told.fate ∙ committed))

pub all_answered : (tx : ℕ) (scripts : List Script) (told : List Told) → AreAnswered scripts told
    → answer_due scripts told ≡ None → (account : Account) → In account (accounts_from tx scripts told)
    → has_committed account ≡ true → length account.answers ≡ length account.script.statements
all_answered tx [] told so due account at = absurd at
all_answered tx (script ∷ scripts) [] so due account at = absurd at
all_answered tx (script ∷ scripts) (told ∷ []) so due account (inl same) =
    whole_account tx script told account same (complete script told so due)
all_answered tx (script ∷ scripts) (told ∷ []) so due account (inr at) =
    absurd (no_account (suc tx) scripts account at)
all_answered tx (script ∷ scripts) (told ∷ next ∷ more) so due account (inl same) =
    whole_account tx script told account same so.0
all_answered tx (script ∷ scripts) (told ∷ next ∷ more) so due account (inr at) =
    all_answered (suc tx) scripts (next ∷ more) so.1 due account at
