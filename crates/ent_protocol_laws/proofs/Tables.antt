-- Tables that are put back, and changes that are noted.
use Rattle.std.proofs.Common.{◌≡◌, ◌⊎◌, ◌<◌, inl, inr, ℕ, zero, suc, Bool, true, false, cond, ◌&&◌, ◌==◌, List, [], ◌∷◌}
use Rattle.std.proofs.Common.{◌++◌, length, refl, sym, ap, ◌∙◌, arith, slice_index_or, slice_set}
use Rattle.std.specs.List.{filter, list_any}
use Rattle.ent_lists.specs.Sets as set
use Rattle.ent_value.specs.declared.value.Value.{Value}
use Rattle.ent_semantics.specs.Database.{Rows}
use Rattle.ent_semantics.specs.FormKinds.{changed_tables}
use Rattle.ent_semantics.specs.declared.statement.Statement.{Statement}
use Rattle.ent_semantics.specs.Form.{Tables}
use Rattle.ent_protocol.specs.Event.{Event, Reply}
use Rattle.ent_protocol.specs.Finish.{finished, noted, with_change}
use Rattle.ent_protocol.specs.Job.{Job, Outcome, Shown, Changed, Bound, Choice, Fault, applied}
use Rattle.ent_protocol.specs.Rollback.{Cause, group_members, is_among, put_back, rolled_back}
use Rattle.ent_protocol.specs.Run.{Forms}
use Rattle.ent_protocol.specs.State.{State, Change, Member}
use Rattle.ent_protocol.specs.Step.{Step}
use Rattle.ent_protocol_laws.specs.Restored.{HasNotChanged, IsFirstChange, IsNoted, rolls_back, rows_at}
use Rattle.ent_protocol_laws.proofs.Leaves.{Leaves, left_behind}
use Rattle.ent_lists.specs.Elements.{clash, neither, same_number, number_itself, and_both}

-- ---- one table

abbrev at : Tables → ℕ → Rows
at tables table = slice_index_or tables table set.empty

set_same : (tables : Tables) (table : ℕ) (rows : Rows) → table < length tables
    → at (slice_set tables table rows) table ≡ rows
set_same [] table rows low = absurd (omega (arith, low))
set_same (first ∷ more) zero rows low = refl
set_same (first ∷ more) (suc n) rows low = set_same more n rows (omega (arith, low))

set_other : (tables : Tables) (table other : ℕ) (rows : Rows) → (table ≡ other → ⊥)
    → at (slice_set tables table rows) other ≡ at tables other
set_other [] table other rows differ = refl
set_other (first ∷ more) zero zero rows differ = absurd (differ refl)
set_other (first ∷ more) zero (suc n) rows differ = refl
set_other (first ∷ more) (suc m) zero rows differ = refl
set_other (first ∷ more) (suc m) (suc n) rows differ = set_other more m n rows (λ e. differ (ap suc e))

set_long : (tables : Tables) (table : ℕ) (rows : Rows) → length (slice_set tables table rows) ≡ length tables
set_long [] table rows = refl
set_long (first ∷ more) zero rows = refl
set_long (first ∷ more) (suc n) rows = ap suc (set_long more n rows)

-- ---- changes that are put back

module _ (mine : Change → Bool) (table : ℕ) where
  abbrev own : Change → Bool
  own change = mine change && (change.table == table)

  untouched : (changes : List Change) (tables : Tables) → list_any own changes ≡ false
      → at (put_back (filter mine changes) tables) table ≡ at tables table
  untouched [] tables none = refl
  untouched (change ∷ more) tables none =
      let two = neither (own change) (list_any own more) none in
      by (mine change) refl two.0 (untouched more (slice_set tables change.table change.before) two.1)
      (untouched more tables two.1)
    where
      by : (b : Bool) → mine change ≡ b → own change ≡ false
          → at (put_back (filter mine more) (slice_set tables change.table change.before)) table
          ≡ at (slice_set tables change.table change.before) table
          → at (put_back (filter mine more) tables) table ≡ at tables table
          → at (put_back (cond b (change ∷ filter mine more) (filter mine more)) tables) table ≡ at tables table
      by true is not_own behind others =
          let other : (change.table == table) ≡ false = ap (λ b. b && (change.table == table)) (sym is) ∙ not_own in
          behind
          ∙ set_other tables change.table table change.before (λ same. clash (change.table == table)
          (ap (λ n. n == table) same ∙ number_itself table) other)
      by false is not_own behind others = others

  brought_back : (newer older : List Change) (change : Change) (tables : Tables) → own change ≡ true
      → list_any own older ≡ false → table < length tables
      → at (put_back (filter mine (newer ++ change ∷ older)) tables) table ≡ change.before
  brought_back [] older change tables is none low =
      let two = and_both (mine change) (change.table == table) is in
      ap (λ b. at (put_back (cond b (change ∷ filter mine older) (filter mine older)) tables) table) two.0
      ∙ untouched older (slice_set tables change.table change.before) none
      ∙ same_table (same_number change.table table two.1)
    where
      same_table : change.table ≡ table → at (slice_set tables change.table change.before) table ≡ change.before
      same_table same =
          ap (λ n. at (slice_set tables n change.before) table) same ∙ set_same tables table change.before low
  brought_back (x ∷ newer) older change tables is none low =
      by (mine x)
      (brought_back newer older change (slice_set tables x.table x.before) is none
      (let same = set_long tables x.table x.before in omega (arith, low, same)))
      (brought_back newer older change tables is none low)
    where
      by : (b : Bool)
          → at (put_back (filter mine (newer ++ change ∷ older)) (slice_set tables x.table x.before)) table
          ≡ change.before
          → at (put_back (filter mine (newer ++ change ∷ older)) tables) table ≡ change.before
          → at (put_back (cond b (x ∷ filter mine (newer ++ change ∷ older)) (filter mine (newer ++ change ∷ older)))
          tables) table ≡ change.before
      by true behind rest = behind
      by false behind rest = rest

pub restored : (s : State) (group table : ℕ) (cause : Cause) (change : Change) → table < length s.tables
    → IsFirstChange s group table change → rows_at (rolled_back group cause s) table ≡ change.before
restored s group table cause change low h =
    ap (λ changes. at (put_back (filter (λ (c : Change). is_among (group_members s group) c.tx) changes) s.tables)
    table) h.is_there
    ∙ brought_back (λ c. is_among (group_members s group) c.tx) table h.newer h.older change s.tables h.own h.first low

pub kept : (s : State) (group table : ℕ) (cause : Cause) → HasNotChanged s group table
    → rows_at (rolled_back group cause s) table ≡ rows_at s table
kept s group table cause none =
    untouched (λ c. is_among (group_members s group) c.tx) table s.changes s.tables none

-- ---- changes that are noted

abbrev IsNotedUnless : State → ℕ → Bool → Bool → List Job → State → Type 0
IsNotedUnless s table added rolled jobs new = rolled ≡ false → IsNoted s new table

changed : (s : State) (table tx : ℕ) (changes : List ℕ) (removed added : List (List Value))
    → (at (with_change changes removed added s.tables) table ≡ at s.tables table)
    ⊎ ((other : ℕ) × (noted tx changes s.tables s.changes
    ≡ record { tx = other; table = table; before = at s.tables table } ∷ s.changes))
changed s table tx [] removed added = inl refl
changed s table tx (first ∷ more) removed added = by (first == table) refl
  where
    by : (b : Bool) → (first == table) ≡ b
        → (at (slice_set s.tables first (applied removed added (at s.tables first))) table ≡ at s.tables table)
        ⊎ ((other : ℕ) × (record { tx = tx; table = first; before = at s.tables first } ∷ s.changes
        ≡ record { tx = other; table = table; before = at s.tables table } ∷ s.changes))
    by true is =
        inr (
          tx,
          ap (λ n. record { tx = tx; table = n; before = at s.tables n } ∷ s.changes)
              (same_number first table is),
        )
    by false is =
        inl (set_other s.tables first table _ (λ same. clash (first == table)
        (ap (λ n. n == table) same ∙ number_itself table) is))

finishes : (s : State) (table : ℕ) (member : Member) (statement : Statement Value) (outcome : Outcome)
    → IsNoted s (finished s member statement outcome) table
finishes s table member statement (Changed count removed added) =
    changed s table member.tx (changed_tables statement) removed added
finishes s table member statement (Bound value) = inl refl
finishes s table member statement (Shown rows) = inl refl
finishes s table member statement (Choice groundings) = inl refl
finishes s table member statement (Fault failure) = inl refl

leaves_noted : (s : State) (table : ℕ) → Leaves s (IsNotedUnless s table)
leaves_noted s table =
    record {
      same = λ none. inl refl;
      submits = λ script form none. inl refl;
      starts = λ first more off asleep none. inl refl;
      lends = λ m c there none. inl refl;
      posts = λ m c there none. inl refl;
      prepares = λ m there none. inl refl;
      commits = λ m there ready none. inl refl;
      rolls_back = λ group cause bad. clash true refl bad;
      fails = λ left group cause back bad. clash true refl bad;
      finishes = λ left m c outcome back there none. finishes (record s { lent = left }) table m c outcome;
      picks = λ asked none. inl refl;
      joins = λ left asked groundings back none. inl refl;
      tries = λ left asked back none. inl refl;
      ends = λ on bad. clash true refl bad;
      recalls = λ none. inl refl;
    }

pub all_noted : {F : Type 0} (forms : Forms F) (s : State) (event : Event) (reply : Reply F) (new : State) (table : ℕ)
    → Step forms s event reply new → rolls_back reply ≡ false → IsNoted s new table
all_noted forms s event reply new table step =
    left_behind s (IsNotedUnless s table) (leaves_noted s table) forms event reply new step
