-- Lists from their end.
use Rattle.std.proofs.Common.{◌≡◌, suc, Bool, true, ◌+◌, ◌-◌, List, [], ◌∷◌, ◌++◌, length, Some, None, Option, refl}
use Rattle.std.proofs.Common.{sym, ap, subst, ◌∙◌, arith}
use Rattle.std.specs.Prelude.{slice_get}
use Rattle.std.proofs.lemmas.Option.{same_Some}
use Rattle.std.specs.Cmp.Lexicographic.{slice_cmp}
use Rattle.std.specs.Ordering.{is_lt, nat_cmp}
use Rattle.std.specs.declared.cmp.Ordering.{Ordering}
use Rattle.std.specs.declared.cmp.Ordering.TheVariants.{Less, Equal, Greater}
use Rattle.std.proofs.lemmas.List.{append-nil}
use Rattle.ent_value.specs.Value.{row_cmp}
use Rattle.ent_value.specs.declared.value.Value.{Value}
use Rattle.ent_tree.specs.declared.declaration.Create.{Create}
use Rattle.ent_tree.specs.declared.script.Script.{Script}
use Rattle.ent_tree.specs.declared.script.Statement.{Statement}
use Rattle.ent_history.specs.declared.history.Told.{Told}
use Rattle.ent_history.specs.Opening.{NamesAscend}
use Rattle.ent_history.specs.Parts.{Ascends}
use Rattle.ent_history.specs.Draft.{answer_due, last_of, on_last, unanswered}
use Rattle.ent_semantics.specs.declared.answer.Answer.{Answer}
use Rattle.ent_history.specs.Answers.{answers_so_far, rows_of}
use Rattle.ent_history.proofs.Lists.{last_of-push}
use Rattle.ent_report_reader.specs.Due.{AnswerTakes}
use Rattle.ent_report_reader.specs.Opened.{EndsBelow}

pub last_of_get : {X : Type 0} (xs : List X) → slice_get xs (length xs - 1) ≡ last_of xs
last_of_get [] = refl
last_of_get (x ∷ []) = refl
last_of_get (x ∷ y ∷ more) =
    let at : length (x ∷ y ∷ more) - 1 ≡ suc (length (y ∷ more) - 1) = omega arith in
    ap (slice_get (x ∷ y ∷ more)) at ∙ last_of_get (y ∷ more)

pub on_last-push : {X : Type 0} (f : X → X) (xs : List X) (x : X) → on_last f (xs ++ x ∷ []) ≡ xs ++ f x ∷ []
on_last-push f [] x = refl
on_last-push f (y ∷ []) x = refl
on_last-push f (y ∷ z ∷ more) x = ap (λ rest. y ∷ rest) (on_last-push f (z ∷ more) x)

pub last_split : {X : Type 0} (xs : List X) (x : X) → last_of xs ≡ Some x → (front : List X) × (xs ≡ front ++ x ∷ [])
last_split [] x h = cc
last_split (y ∷ []) x h = ([], ap (λ z. z ∷ []) (same_Some y x h))
last_split (y ∷ z ∷ more) x h =
    let rest = last_split (z ∷ more) x h in (y ∷ rest.0, ap (λ l. y ∷ l) rest.1)

pub last_none : {X : Type 0} (xs : List X) → last_of xs ≡ None → xs ≡ []
last_none [] h = refl
last_none (x ∷ []) h = cc
last_none (x ∷ y ∷ more) h = let e = last_none (y ∷ more) h in cc

-- ---- rows that ascend

pub ascends_if : (rows : List (List Value)) (row : List Value) → EndsBelow (last_of rows) row → Ascends rows row
ascends_if rows row h front last e = subst (λ o. EndsBelow o row) (ap last_of e ∙ last_of-push front last) h

pub ends_below_if : (rows : List (List Value)) (row : List Value) → Ascends rows row → EndsBelow (last_of rows) row
ends_below_if rows row h = by (last_of rows) refl
  where
    by : (last : Option (List Value)) → last_of rows ≡ last → EndsBelow last row
    by None e = tt
    by (Some last) e = let s = last_split rows last e in h s.0 last s.1

pub ascends_behind : (rows : List (List Value)) (row last : List Value) → last_of rows ≡ Some last
    → row_cmp last row ≡ Less → Ascends rows row
ascends_behind rows row last e h = ascends_if rows row (subst (λ o. EndsBelow o row) (sym e) h)

pub ascends_first : (rows : List (List Value)) (row : List Value) → last_of rows ≡ None → Ascends rows row
ascends_first rows row e = ascends_if rows row (subst (λ o. EndsBelow o row) (sym e) tt)

pub is_behind_last : (rows : List (List Value)) (row last : List Value) → last_of rows ≡ Some last → Ascends rows row
    → row_cmp last row ≡ Less
is_behind_last rows row last e h = let s = last_split rows last e in h s.0 last s.1

less_if : (o : Ordering) → is_lt o ≡ true → o ≡ Less
less_if Less h = refl
less_if Equal h = cc
less_if Greater h = cc

if_less : (o : Ordering) → o ≡ Less → is_lt o ≡ true
if_less o e = ap is_lt e

-- the test says whether the row comes behind the last one
pub is_behind_if : (rows : List (List Value)) (row last : List Value) (o : Ordering) (test : Bool)
    → Some last ≡ last_of rows → o ≡ row_cmp last row → test ≡ is_lt o
    → (test ≡ true → Ascends rows row) × (Ascends rows row → test ≡ true)
is_behind_if rows row last o test there compared tested = (
  λ t. ascends_behind rows row last (sym there) (sym compared ∙ less_if o (sym tested ∙ t)),
  λ a. tested ∙ if_less o (compared ∙ is_behind_last rows row last (sym there) a),
)

-- the test says whether the name comes behind that of the last table
pub comes_behind_if : (tables : List Create) (create last : Create) (o : Ordering) (test : Bool)
    → Some last ≡ last_of tables → o ≡ slice_cmp nat_cmp last.name.name create.name.name → test ≡ is_lt o
    → (test ≡ true → NamesAscend tables create) × (NamesAscend tables create → test ≡ true)
comes_behind_if tables create last o test there compared tested = (
  λ t front own e.
      let same : last ≡ own = same_Some last own (there ∙ ap last_of e ∙ last_of-push front own) in
      subst (λ (c : Create). slice_cmp nat_cmp c.name.name create.name.name ≡ Less) same
      (sym compared ∙ less_if o (sym tested ∙ t)),
  λ a. let s = last_split tables last (sym there) in tested ∙ if_less o (compared ∙ a s.0 last s.1),
)

pub nothing_before : (tables : List Create) (create : Create) → last_of tables ≡ None → NamesAscend tables create
nothing_before tables create e front own h =
    let both : Some own ≡ None = sym (last_of-push front own) ∙ sym (ap last_of h) ∙ e in cc

pub nothing_above : (row : List Value) → Ascends [] row
nothing_above row = ascends_first [] row refl

-- ---- what is changed at the end

pub put_last : {X : Type 0} (f : X → X) (old new front : List X) (x : X) → old ≡ front ++ x ∷ []
    → new ≡ front ++ f x ∷ [] → new ≡ on_last f old
put_last f old new front x is grown = grown ∙ sym (ap (on_last f) is ∙ on_last-push f front x)

pub put_none : {X : Type 0} (f : X → X) (old new : List X) → old ≡ new ++ [] → length old ≡ 0 → new ≡ on_last f old
put_none f [] new is none = sym (append-nil new) ∙ sym is
put_none f (x ∷ old) new is none = absurd (omega (arith, none))

-- ---- the last transaction

abbrev pub of_script : Option Script → Told → Option Statement
of_script None told = None
of_script (Some script) told = unanswered script told

pub answer_due_last : (scripts : List Script) (transactions : List Told) (told : Told)
    → last_of transactions ≡ Some told
    → answer_due scripts transactions ≡ of_script (slice_get scripts (length transactions - 1)) told
answer_due_last scripts [] told h = cc
answer_due_last [] (one ∷ more) told h = refl
answer_due_last (script ∷ scripts) (one ∷ []) told h = ap (unanswered script) (same_Some one told h)
answer_due_last (script ∷ scripts) (one ∷ next ∷ more) told h =
    let at : length (one ∷ next ∷ more) - 1 ≡ suc (length (next ∷ more) - 1) = omega arith in
    answer_due_last scripts (next ∷ more) told h
    ∙ ap (λ n. of_script (slice_get (script ∷ scripts) n) told) (sym at)

pub answer_due_none : (scripts : List Script) (transactions : List Told) → last_of transactions ≡ None
    → answer_due scripts transactions ≡ None
answer_due_none scripts transactions h = ap (answer_due scripts) (last_none transactions h) ∙ nothing scripts
  where
    nothing : (scripts : List Script) → answer_due scripts [] ≡ None
    nothing [] = refl
    nothing (script ∷ scripts) = refl

pub answers_so_far_last : (transactions : List Told) (told : Told) → last_of transactions ≡ Some told
    → length told.answers ≡ answers_so_far transactions
answers_so_far_last [] told h = cc
answers_so_far_last (one ∷ []) told h = ap (λ t. length t.answers) (sym (same_Some one told h))
answers_so_far_last (one ∷ next ∷ more) told h = answers_so_far_last (next ∷ more) told h

pub answers_so_far_none : (transactions : List Told) → last_of transactions ≡ None → answers_so_far transactions ≡ 0
answers_so_far_none transactions h = ap answers_so_far (last_none transactions h)

pub answer_takes_if : (transactions : List Told) (row : List Value) (told : Told) (answer : Answer) (test : Bool)
    → Some told ≡ last_of transactions → Some answer ≡ last_of told.answers
    → (test ≡ true → Ascends (rows_of answer) row) × (Ascends (rows_of answer) row → test ≡ true)
    → (test ≡ true → AnswerTakes transactions row) × (AnswerTakes transactions row → test ≡ true)
answer_takes_if transactions row told answer test there answered tested = (
  λ t. record {
    last = told;
    answer = answer;
    last_is = sym there;
    answer_is = sym answered;
    ascends = tested.0 t;
  },
  λ takes.
      let same : takes.last ≡ told = same_Some takes.last told (sym takes.last_is ∙ sym there) in
      let own : takes.answer ≡ answer =
      same_Some takes.answer answer
      (sym takes.answer_is ∙ ap (λ (t : Told). last_of t.answers) same ∙ sym answered) in
      tested.1 (subst (λ a. Ascends (rows_of a) row) own takes.ascends),
)
