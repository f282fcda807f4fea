-- Transactions one after the other.
use Rattle.std.proofs.Common.{◌≡◌, ℕ, zero, suc, ◌+◌, ◌<◌, List, [], ◌∷◌, ◌++◌, map, length, take, drop, get_or}
use Rattle.std.proofs.Common.{refl, sym, ap, ◌∙◌, subst, arith, Option, Some, None, append-nil, append_assoc, min}
use Rattle.std.proofs.Common.{inl, inr, is_some, true, IfOk, Result, Ok, Err}
use Rattle.std.specs.Prelude.{slice_get}
use Rattle.std.specs.List.{AllByRecursion, cons_option}
use Rattle.std.proofs.lemmas.Grind.{flat_map-append}
use Rattle.std.proofs.lemmas.Option.{slice_get_read}
use Rattle.std.specs.Option.{option_and_then}
use Rattle.std.proofs.lemmas.List.{length-map, map-append, take-append-drop, take_more}
use Rattle.ent_lists.specs.Elements.{In, in_flat, nth_in, of_all, to_all, to_flat}
use Rattle.ent_tree.specs.declared.declaration.Create.{Create}
use Rattle.ent_tree.specs.declared.script.Script.{Script}
use Rattle.ent_form.specs.Catalogue.{schemas_of, table_schema}
use Rattle.ent_form.specs.TableKinds.{column_kinds}
use Rattle.ent_rel.specs.Relation.{Relation}
use Rattle.ent_semantics.specs.Database.{Database, nothing_bound}
use Rattle.ent_semantics.specs.Serial.{Run, ReadView, seen_from, read_views}
use Rattle.ent_history.specs.declared.history.Told.{Told}
use Rattle.ent_history.specs.Account.{Account, accounts_from}
use Rattle.ent_history.specs.Placed.{Placed}
use Rattle.ent_history.specs.Replay.{account_operations, account_run, operations_findings, found_from, replay_findings}
use Rattle.ent_history.specs.Replay.{told_end}
use Rattle.ent_history.specs.Replay.{told_read_views}
use Rattle.ent_history.specs.Verdict.{first_of}
use Rattle.ent_history.specs.declared.finding.Finding.{Finding}
use Rattle.ent_check.specs.Alone.{AreReplayed, IsReplayed, StandAsDeclared, account_at}
use Rattle.ent_check.specs.Offers.{offer_of}
use Rattle.ent_check.specs.Order.{accounts_at}
use Rattle.ent_check.specs.declared.offer.StatementOffer.{StatementOffer}
use Rattle.ent_check.proofs.Numbers.{first_none, first_some}

module _ (creates : List Create) (members : List Placed) where
  abbrev findings : List Account → Database → List Finding
  findings turns database = replay_findings creates members turns database

  abbrev end : List Account → Database → Option Database
  end turns database = told_end creates members turns database

  abbrev seen : List Account → Database → List ReadView
  seen turns database = told_read_views creates members turns database

  -- ---- behind others

  abbrev findings_behind : Option Database → (Database → List Finding) → List Finding
  findings_behind (Some database) more = more database
  findings_behind None more = []

  abbrev seen_behind : Option Database → (Database → List ReadView) → List ReadView
  seen_behind (Some database) more = more database
  seen_behind None more = []

  found_split : (left : Option Run) (first more : Database → List Finding) (behind : Database → Option Database)
      → found_from left (λ database. first database ++ findings_behind (behind database) more)
      ≡ found_from left first ++ findings_behind (option_and_then (λ (of : Run). behind of.database) left) more
  found_split (Some of) first more behind = refl
  found_split None first more behind = refl

  seen_split : (left : Option Run) (first more : Database → List ReadView) (behind : Database → Option Database)
      → seen_from left (λ database. first database ++ seen_behind (behind database) more)
      ≡ seen_from left first ++ seen_behind (option_and_then (λ (of : Run). behind of.database) left) more
  seen_split (Some of) first more behind = refl
  seen_split None first more behind = refl

  end_split : (left : Option Run) (more : Database → Option Database) (behind : Database → Option Database)
      → option_and_then (λ (of : Run). option_and_then more (behind of.database)) left
      ≡ option_and_then more (option_and_then (λ (of : Run). behind of.database) left)
  end_split (Some of) more behind = refl
  end_split None more behind = refl

  findings_joined : (first more : List Account) (database : Database)
      → findings (first ++ more) database
      ≡ findings first database ++ findings_behind (end first database) (findings more)
  findings_joined [] more database = refl
  findings_joined (account ∷ first) more database =
      let left = account_run creates members account database in
      let own = operations_findings creates members account.tx 1 (account_operations creates members account)
      account.answers
      database nothing_bound in
      (λ i. own ++ found_from left (λ d. findings_joined first more d i))
      ∙ ap (λ (xs : List Finding). own ++ xs) (found_split left (findings first) (findings more) (end first))
      ∙ sym (append_assoc own (found_from left (findings first))
      (findings_behind (end (account ∷ first) database) (findings more)))

  seen_joined : (first more : List Account) (database : Database)
      → seen (first ++ more) database ≡ seen first database ++ seen_behind (end first database) (seen more)
  seen_joined [] more database = refl
  seen_joined (account ∷ first) more database =
      let left = account_run creates members account database in
      let own = read_views creates account.tx 1 (account_operations creates members account) database nothing_bound in
      (λ i. own ++ seen_from left (λ d. seen_joined first more d i))
      ∙ ap (λ (xs : List ReadView). own ++ xs) (seen_split left (seen first) (seen more) (end first))
      ∙ sym (append_assoc own (seen_from left (seen first)) (seen_behind (end (account ∷ first) database) (seen more)))

  end_joined : (first more : List Account) (database : Database)
      → end (first ++ more) database ≡ option_and_then (end more) (end first database)
  end_joined [] more database = refl
  end_joined (account ∷ first) more database =
      let left = account_run creates members account database in
      (λ i. option_and_then (λ (of : Run). end_joined first more of.database i) left)
      ∙ end_split left (end more) (end first)

  -- ---- what is replayed

  abbrev Replayed : List Account → Database → Option Finding → Database → List StatementOffer → List StatementOffer
      → Type 0
  Replayed turns before finding after offers made =
      AreReplayed creates members turns before finding after offers made

  pub nothing_replayed : (before : Database) (offers : List StatementOffer)
      → Replayed [] before None before offers offers
  nothing_replayed before offers =
      record { found = refl; left = λ none. refl; offered = λ none. sym (append-nil offers) }

  pub one_replayed : (account : Account) (before : Database) (finding : Option Finding) (after : Database)
      (offers made : List StatementOffer) → IsReplayed creates members account before finding after offers made
      → Replayed (account ∷ []) before finding after offers made
  one_replayed account before finding after offers made is =
      record {
        found = is.found ∙ sym (ap first_of
            (ap (λ (xs : List Finding). own ++ xs) (nothing_more left) ∙ append-nil own));
        left = λ none. let of = is.left none in
            ap (option_and_then (λ (x : Run). Some x.database)) of.1 ∙ ap (λ d. Some d) of.2;
        offered = λ none. is.offered none
            ∙ ap (λ (xs : List ReadView). offers ++ map offer_of xs)
            (sym (ap (λ (xs : List ReadView). read_view ++ xs) (none_seen left) ∙ append-nil read_view));
      }
    where
      left : Option Run
      left = account_run creates members account before

      own : List Finding
      own = operations_findings creates members account.tx 1 (account_operations creates members account)
          account.answers before
          nothing_bound

      read_view : List ReadView
      read_view = read_views creates account.tx 1 (account_operations creates members account) before nothing_bound

      nothing_more : (of : Option Run) → found_from of (findings []) ≡ []
      nothing_more (Some of) = refl
      nothing_more None = refl

      none_seen : (of : Option Run) → seen_from of (seen []) ≡ []
      none_seen (Some of) = refl
      none_seen None = refl

  -- those behind transactions of which nothing is found
  pub more_replayed : (first more : List Account) (before between after : Database) (finding : Option Finding)
      (offers made later : List StatementOffer) → Replayed first before None between offers made
      → Replayed more between finding after made later
      → Replayed (first ++ more) before finding after offers later
  more_replayed first more before between after finding offers made later is next =
      let end_is : end first before ≡ Some between = is.left refl in
      record {
        found = next.found ∙ sym (ap first_of (findings_joined first more before)
            ∙ ap (λ (o : Option Database). first_of (findings first before ++ findings_behind o (findings more))) end_is
            ∙ first_none (findings first before) (findings more between) (sym is.found));
        left = λ none. end_joined first more before ∙ ap (option_and_then (end more)) end_is ∙ next.left none;
        offered = λ none. next.offered none
            ∙ ap (λ (xs : List StatementOffer). xs ++ map offer_of (seen more between)) (is.offered refl)
            ∙ append_assoc offers (map offer_of (seen first before)) (map offer_of (seen more between))
            ∙ ap (λ (xs : List StatementOffer). offers ++ xs)
            (sym (map-append offer_of (seen first before) (seen more between)))
            ∙ ap (λ (xs : List ReadView). offers ++ map offer_of xs)
            (sym (seen_joined first more before
            ∙ ap (λ (o : Option Database). seen first before ++ seen_behind o (seen more)) end_is));
      }

  -- where something is found of transactions it is found first of all
  pub found_replayed : (first more : List Account) (before after : Database) (finding : Finding)
      (offers made : List StatementOffer) → Replayed first before (Some finding) after offers made
      → Replayed (first ++ more) before (Some finding) after offers made
  found_replayed first more before after finding offers made is =
      record {
        found = sym (ap first_of (findings_joined first more before)
            ∙ first_some (findings first before) (findings_behind (end first before) (findings more)) finding
            (sym is.found));
        left = λ none. cc (none);
        offered = λ none. cc (none);
      }

-- ---- transactions by index

pub account_there : (scripts : List Script) (told : List Told) (tx i : ℕ) (script : Script) (one : Told)
    → slice_get scripts i ≡ Some script → slice_get told i ≡ Some one
    → slice_get (accounts_from tx scripts told) i ≡ Some (account_at (tx + i) script one)
account_there [] told tx i script one s t = cc (s)
account_there (x ∷ xs) [] tx i script one s t = cc (t)
account_there (x ∷ xs) (y ∷ ys) tx zero script one s t =
    let a : x ≡ script = cc in
    let b : y ≡ one = cc in
    let n : tx ≡ tx + 0 = omega arith in
    λ i. Some (account_at (n i) (a i) (b i))
account_there (x ∷ xs) (y ∷ ys) tx (suc i) script one s t =
    let n : suc tx + i ≡ tx + suc i = omega arith in
    account_there xs ys (suc tx) i script one s t ∙ ap (λ k. Some (account_at k script one)) n

pub turn_there : (scripts : List Script) (told : List Told) (index : ℕ) (script : Script) (one : Told)
    → index < min (length scripts) (length told) → script ≡ get_or scripts index script → one ≡ get_or told index one
    → accounts_at (accounts_from 1 scripts told) (index ∷ []) ≡ account_at (index + 1) script one ∷ []
turn_there scripts told index script one low at_script at_told =
    let low_script : index < length scripts = omega (arith, low) in
    let low_told : index < length told = omega (arith, low) in
    let n : 1 + index ≡ index + 1 = omega arith in
    ap (λ (o : Option Account). cons_option o [] ++ [])
    (account_there scripts told 1 index script one (slice_get_read scripts (length scripts) index script refl low_script
    at_script)
    (slice_get_read told (length told) index one refl low_told at_told))
    ∙ ap (λ k. account_at k script one ∷ []) n

-- ---- turns

module _ (all : List Account) (order : List ℕ) (i index : ℕ) (low : i < length order)
    (at : index ≡ get_or order i index) where
  index_in : In index order
  index_in = subst (λ n. In n order) (sym at) (nth_in order i index low)

  pub turn_all : (P : ℕ → Type 0) → AllByRecursion P order → P index
  turn_all P so = of_all P order index so index_in

  pub turn_seated : (P : Account → Type 0) → AllByRecursion P (accounts_at all order)
      → AllByRecursion P (accounts_at all (index ∷ []))
  turn_seated P so =
      to_all P (accounts_at all (index ∷ [])) (λ account there.
      let r = in_flat at_index (index ∷ []) account there in
      of_all P (accounts_at all order) account so
      (to_flat at_index order r.0 account (only r.0 r.1) r.2))
    where
      at_index : ℕ → List Account
      at_index n = cons_option (slice_get all n) []

      only : (n : ℕ) → In n (index ∷ []) → In n order
      only n (inl same) = subst (λ k. In k order) (sym same) index_in
      only n (inr never) = absurd never

  pub turns_more : accounts_at all (take (i + 1) order)
      ≡ accounts_at all (take i order) ++ accounts_at all (index ∷ [])
  turns_more =
      ap (accounts_at all) (take_more order i index low ∙ ap (λ n. take i order ++ n ∷ []) (sym at))
      ∙ flat_map-append (λ n. cons_option (slice_get all n) []) (take i order) (index ∷ [])

pub turns_split : (all : List Account) (order : List ℕ) (i : ℕ)
    → accounts_at all (take i order) ++ accounts_at all (drop i order) ≡ accounts_at all order
turns_split all order i =
    sym (flat_map-append (λ n. cons_option (slice_get all n) []) (take i order) (drop i order))
    ∙ ap (accounts_at all) (take-append-drop i order)

module _ (creates : List Create) (members : List Placed) where
  -- what is found of a transaction is found of it as a turn
  pub turn_replayed : {E : Type 0} (turn : List Account) (account : Account) (before after : Database)
      (offers made : List StatementOffer) (result : Result (Option Finding) E) → turn ≡ account ∷ []
      → IfOk result (λ finding. IsReplayed creates members account before finding after offers made)
      → IfOk result (λ finding. AreReplayed creates members turn before finding after offers made)
  turn_replayed turn account before after offers made (Ok finding) are is =
      subst (λ turns. AreReplayed creates members turns before finding after offers made) (sym are)
      (one_replayed creates members account before finding after offers made is)
  turn_replayed turn account before after offers made (Err refused) are is = tt

  module _ (all : List Account) (order : List ℕ) (i index : ℕ) (low : i < length order)
      (at : index ≡ get_or order i index) (before between after : Database) (finding : Option Finding)
      (offers made later : List StatementOffer)
      (so_far : AreReplayed creates members (accounts_at all (take i order)) before None between offers made)
      (here : AreReplayed creates members (accounts_at all (index ∷ [])) between finding after made later) where
    abbrev After : List Account → Option Finding → Type 0
    After turns one = AreReplayed creates members turns before one after offers later

    behind : After (accounts_at all (take (i + 1) order)) finding
    behind =
        subst (λ turns. After turns finding) (sym (turns_more all order i index low at))
        (more_replayed creates members (accounts_at all (take i order)) (accounts_at all (index ∷ [])) before between
        after finding offers made later so_far here)

    pub turns_on : finding ≡ None → After (accounts_at all (take (i + 1) order)) None
    turns_on none = subst (After (accounts_at all (take (i + 1) order))) none behind

    pub turns_off : is_some finding ≡ true → After (accounts_at all order) finding
    turns_off some = by finding behind some
      where
        by : (one : Option Finding) → After (accounts_at all (take (i + 1) order)) one → is_some one ≡ true
            → After (accounts_at all order) one
        by (Some one) is is_one =
            subst (λ turns. After turns (Some one)) (turns_split all order (i + 1))
            (found_replayed creates members (accounts_at all (take (i + 1) order))
            (accounts_at all (drop (i + 1) order)) before after one offers later is)
        by None is is_one = cc (is_one)

-- as many tables stand as are declared
pub each_there : (creates : List Create) (tables : List Relation) → StandAsDeclared creates tables
    → length tables ≡ length creates
each_there creates tables stand =
    sym (length-map tables (λ (table : Relation). table.kinds))
    ∙ ap length stand.kinds
    ∙ length-map (schemas_of creates) column_kinds
    ∙ length-map creates table_schema
