-- Entangled statements that stand in no joint answer, on the way through transactions.
use Rattle.std.proofs.Common.{◌≡◌, ℕ, suc, ◌+◌, ◌<◌, ◌≤◌, Bool, true, false, not, ◌||◌, ◌&&◌, cond, List, [], ◌∷◌}
use Rattle.std.proofs.Common.{◌++◌, length, drop, refl, sym, ap, subst, ◌∙◌, arith, Option, Some, None}
use Rattle.std.proofs.Common.{slice_index_or, is_some, min}
use Rattle.std.specs.BTreeMap.{get}
use Rattle.std.specs.Option.{option_map}
use Rattle.ent_tree.specs.declared.script.Script.{Script}
use Rattle.ent_tree.specs.declared.script.Statement.{Statement}
use Rattle.ent_semantics.specs.declared.book.Member.{Member}
use Rattle.ent_semantics.specs.Serial.{is_entangled}
use Rattle.ent_history.specs.declared.history.Told.{Told}
use Rattle.ent_history.specs.Account.{Account, accounts_from, has_committed}
use Rattle.ent_history.specs.Joint.{all_stand, left_out, left_out_findings, stands_among}
use Rattle.ent_history.specs.Journal.{unless}
use Rattle.ent_history.specs.Placed.{Placed, member_at, stands_at}
use Rattle.ent_history.specs.Verdict.{first_of}
use Rattle.ent_history.specs.declared.finding.Finding.{Finding}
use Rattle.ent_history.specs.declared.finding.Rule.TheVariants as rule
use Rattle.ent_history.specs.declared.finding.Thing.TheVariants as thing
use Rattle.ent_check.specs.Seats.{AreSeatsOf, place_cmp, seat_of}
use Rattle.ent_check.proofs.Accounts.{account_of, accounts_behind, behind_here, nothing_behind}
use Rattle.ent_check.proofs.Joints.{members_in}
use Rattle.ent_check.proofs.Lists.{here, none_behind}
use Rattle.ent_check.proofs.Numbers.{first_none}
use Rattle.ent_check.proofs.Taken.{SeatMap}

-- ---- the statements of a transaction

has_seat : (tx place : ℕ) (all : List Placed)
    → is_some (option_map seat_of (member_at all tx place)) ≡ stands_among tx place (members_in all)
has_seat tx place [] = refl
has_seat tx place (x ∷ xs) = by (stands_at tx place x.member) (has_seat tx place xs)
  where
    by : (b : Bool) → is_some (option_map seat_of (member_at xs tx place)) ≡ stands_among tx place (members_in xs)
        → is_some (option_map seat_of (cond b (Some x) (member_at xs tx place)))
        ≡ (b || stands_among tx place (members_in xs))
    by true rest = refl
    by false rest = rest

-- a statement isn't entangled, or has a seat
abbrev pub seems_standing : SeatMap → ℕ → ℕ → Statement → Bool
seems_standing seats tx place statement =
    not (is_entangled statement) || is_some (get place_cmp seats (tx, place))

-- the statements before an index stand
abbrev pub StandBehind : List Member → ℕ → List Statement → ℕ → Type 0
StandBehind members tx statements i =
    all_stand members tx 1 statements ≡ all_stand members tx (i + 1) (drop i statements)

module _ (all : List Placed) (seats : SeatMap) (are : AreSeatsOf all seats) (tx : ℕ) (statements : List Statement)
    (i : ℕ) where
  abbrev one_stands : Statement → Bool
  one_stands statement = not (is_entangled statement) || stands_among tx (i + 1) (members_in all)

  standing : (statement : Statement) → seems_standing seats tx (i + 1) statement ≡ one_stands statement
  standing statement =
      ap (λ b. not (is_entangled statement) || b) (ap is_some (are tx (i + 1)) ∙ has_seat tx (i + 1) all)

  parted : (statement : Statement) → i < length statements → statement ≡ slice_index_or statements i statement
      → StandBehind (members_in all) tx statements i
      → all_stand (members_in all) tx 1 statements
      ≡ (seems_standing seats tx (i + 1) statement
      && all_stand (members_in all) tx (suc (i + 1)) (drop (suc i) statements))
  parted statement low at behind =
      behind
      ∙ ap (all_stand (members_in all) tx (i + 1)) (here statements i statement low at)
      ∙ ap (λ b. b && all_stand (members_in all) tx (suc (i + 1)) (drop (suc i) statements)) (sym (standing statement))

  pub stands_more : (statement : Statement) → i < length statements
      → statement ≡ slice_index_or statements i statement → seems_standing seats tx (i + 1) statement ≡ true
      → StandBehind (members_in all) tx statements i → StandBehind (members_in all) tx statements (i + 1)
  stands_more statement low at is behind =
      let n : suc i ≡ i + 1 = omega arith in
      let m : suc (i + 1) ≡ suc i + 1 = omega arith in
      subst (StandBehind (members_in all) tx statements) n
      (parted statement low at behind
      ∙ ap (λ b. b && all_stand (members_in all) tx (suc (i + 1)) (drop (suc i) statements)) is
      ∙ ap (λ k. all_stand (members_in all) tx k (drop (suc i) statements)) m)

  pub stands_not : (statement : Statement) → i < length statements
      → statement ≡ slice_index_or statements i statement → seems_standing seats tx (i + 1) statement ≡ false
      → StandBehind (members_in all) tx statements i → all_stand (members_in all) tx 1 statements ≡ false
  stands_not statement low at is behind =
      parted statement low at behind
      ∙ ap (λ b. b && all_stand (members_in all) tx (suc (i + 1)) (drop (suc i) statements)) is

pub stand_all : (members : List Member) (tx : ℕ) (statements : List Statement) (i : ℕ) → length statements ≤ i
    → StandBehind members tx statements i → all_stand members tx 1 statements ≡ true
stand_all members tx statements i over behind =
    behind ∙ ap (all_stand members tx (i + 1)) (none_behind statements i over)

-- ---- a transaction

module _ (members : List Member) (a : Account) where
  abbrev complete : Bool
  complete = all_stand members a.tx 1 a.script.statements

  pub out_of_none : has_committed a ≡ false → first_of (left_out members a) ≡ None
  out_of_none is =
      ap (λ b. first_of (unless (not b || complete) rule.Joint (thing.Transaction a.tx))) is

  pub none_left_out : complete ≡ true → first_of (left_out members a) ≡ None
  none_left_out is =
      ap (λ b. first_of (unless (not (has_committed a) || b) rule.Joint (thing.Transaction a.tx))) is
      ∙ by (has_committed a)
    where
      by : (b : Bool) → first_of (unless (not b || true) rule.Joint (thing.Transaction a.tx)) ≡ None
      by true = refl
      by false = refl

  pub some_left_out : has_committed a ≡ true → complete ≡ false
      → first_of (left_out members a) ≡ Some (record { rule = rule.Joint; thing = thing.Transaction a.tx })
  some_left_out is not_all =
      ap (λ b. first_of (unless (not b || complete) rule.Joint (thing.Transaction a.tx))) is
      ∙ ap (λ b. first_of (unless b rule.Joint (thing.Transaction a.tx))) not_all

-- ---- transactions from an index on

abbrev pub LeftBehind : List Member → List Script → List Told → ℕ → Type 0
LeftBehind members scripts told i =
    first_of (left_out_findings members (accounts_from 1 scripts told))
    ≡ first_of (left_out_findings members (accounts_behind scripts told i))

no_finding : (finding : Option Finding) → is_some finding ≡ false → finding ≡ None
no_finding None is = refl
no_finding (Some finding) is = absurd (true_false is)
  where
    true_false : true ≡ false → ⊥
    true_false is = cc

pub first_kept : (xs ys : List Finding) → is_some (first_of xs) ≡ true → first_of (xs ++ ys) ≡ first_of xs
first_kept [] ys is = absurd (false_true is)
  where
    false_true : false ≡ true → ⊥
    false_true is = cc
first_kept (x ∷ xs) ys is = refl

pub first_skipped : (xs ys : List Finding) → is_some (first_of xs) ≡ false → first_of (xs ++ ys) ≡ first_of ys
first_skipped xs ys is = first_none xs ys (no_finding (first_of xs) is)

module _ (members : List Member) (scripts : List Script) (told : List Told) (i : ℕ) (s : Script) (t : Told)
    (low : i < length scripts) (low_told : i < length told) (at_s : s ≡ slice_index_or scripts i s)
    (at_t : t ≡ slice_index_or told i t) (behind : LeftBehind members scripts told i) where
  abbrev own : Account
  own = account_of (i + 1) s t

  abbrev more : List Account
  more = accounts_behind scripts told (suc i)

  parted_here : first_of (left_out_findings members (accounts_from 1 scripts told))
      ≡ first_of (left_out members own ++ left_out_findings members more)
  parted_here =
      let n : suc i ≡ i + 1 = omega arith in
      behind
      ∙ ap (λ xs. first_of (left_out_findings members xs)) (behind_here scripts told i s t low low_told)
      ∙ ap (λ x. first_of (left_out members (account_of (suc i) x (slice_index_or told i t))
      ++ left_out_findings members more)) (sym at_s)
      ∙ ap (λ x. first_of (left_out members (account_of (suc i) s x) ++ left_out_findings members more)) (sym at_t)
      ∙ ap (λ k. first_of (left_out members (account_of k s t) ++ left_out_findings members more)) n

  pub left_more : (finding : Option Finding) → finding ≡ first_of (left_out members own) → is_some finding ≡ false
      → LeftBehind members scripts told (i + 1)
  left_more finding found is =
      let n : suc i ≡ i + 1 = omega arith in
      subst (LeftBehind members scripts told) n
      (parted_here
      ∙ first_skipped (left_out members own) (left_out_findings members more) (ap is_some (sym found) ∙ is))

  pub left_here : (finding : Option Finding) → finding ≡ first_of (left_out members own) → is_some finding ≡ true
      → finding ≡ first_of (left_out_findings members (accounts_from 1 scripts told))
  left_here finding found is =
      found
      ∙ sym (parted_here
      ∙ first_kept (left_out members own) (left_out_findings members more) (ap is_some (sym found) ∙ is))

pub left_all : (members : List Member) (scripts : List Script) (told : List Told) (i : ℕ)
    → min (length scripts) (length told) ≤ i → LeftBehind members scripts told i
    → first_of (left_out_findings members (accounts_from 1 scripts told)) ≡ None
left_all members scripts told i over behind =
    behind ∙ ap (λ xs. first_of (left_out_findings members xs)) (nothing_behind scripts told i over)
