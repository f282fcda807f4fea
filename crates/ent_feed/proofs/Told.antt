-- Groups that tell of the commits of a core.
use Rattle.std.proofs.Common.{◌≡◌, ℕ, zero, suc, ◌+◌, false, cond, List, [], ◌∷◌, ◌++◌, length, take}
use Rattle.std.proofs.Common.{refl, sym, ap, ◌∙◌, arith, append_assoc, append-nil, length-append}
use Rattle.std.specs.Prelude.{unwrap_or}
use Rattle.ent_lists.specs.Sets as set
use Rattle.ent_lists.specs.Elements.{neither}
use Rattle.ent_semantics.specs.Database.{Name, is_among, same_name}
use Rattle.ent_semantics.specs.Form.{Tables}
use Rattle.ent_semantics.specs.Serial.{numbered}
use Rattle.ent_semantics.specs.declared.book.Entry.{Entry}
use Rattle.ent_tree.specs.declared.declaration.Opening.{Opening}
use Rattle.ent_protocol.specs.Reached.{named_tables, settled, table_names}
use Rattle.ent_protocol.specs.State.{State}
use Rattle.ent_feed.specs.declared.group.Commit.{Commit}
use Rattle.ent_feed.specs.declared.group.Group.{Group}
use Rattle.ent_feed.specs.declared.group.TableChange.{TableChange}
use Rattle.ent_feed.specs.Group.{after_changes, after_groups}
use Rattle.ent_feed.specs.Telling.{AreTold, Tells, all_commits, commits_of, settled_database}
use Rattle.ent_feed.proofs.Databases.{database_after}

-- under a name that isn't declared nothing stands
nothing_beside : (names : List Name) (tables : Tables) (name : Name) → is_among names name ≡ false
    → named_tables names tables name ≡ set.empty
nothing_beside [] tables name none = refl
nothing_beside (first ∷ names) [] name none = refl
nothing_beside (first ∷ names) (rows ∷ tables) name none =
    let apart = neither (same_name first name) (is_among names name) none in
    ap (λ b. cond b rows (named_tables names tables name)) apart.0
    ∙ nothing_beside names tables name apart.1

group_applies : (tickets : List ℕ) (before behind : State) (group : Group) → Tells tickets before group behind
    → after_changes group.changes (settled_database before) ≡ settled_database behind
group_applies tickets before behind group tells =
    let names = table_names before.opening in
    let same : named_tables (table_names behind.opening) (settled behind) ≡ named_tables names (settled behind) =
    ap (λ (opening : Opening). named_tables (table_names opening) (settled behind)) tells.opening in
    ap (λ (changes : List TableChange). after_changes changes (settled_database before)) tells.changes
    ∙ database_after (settled_database before) (settled_database behind) names (λ name none.
    nothing_beside names (settled before) name none
    ∙ sym (nothing_beside names (settled behind) name none)
    ∙ (λ i. sym same i name))

pub all_applied : (tickets : List ℕ) (first last : State) (groups : List Group) → AreTold tickets first groups last
    → after_groups groups (settled_database first) ≡ settled_database last
all_applied tickets first last [] same = ap settled_database (sym same)
all_applied tickets first last (group ∷ more) told =
    ap (after_groups more) (group_applies tickets first told.0 group told.1)
    ∙ all_applied tickets told.0 last more told.2

-- the first groups tell of what happened up to some state
pub told_so_far : (tickets : List ℕ) (first last : State) (groups : List Group) (count : ℕ)
    → AreTold tickets first groups last
    → (behind : State) × AreTold tickets first (take count groups) behind
told_so_far tickets first last groups zero told = (first, refl)
told_so_far tickets first last [] (suc count) told = (last, told)
told_so_far tickets first last (group ∷ more) (suc count) told =
    let rest = told_so_far tickets told.0 last more count told.2 in
    (rest.0, (told.0, told.1, rest.1))

pub each_applied : (tickets : List ℕ) (first last : State) (groups : List Group) (count : ℕ)
    → AreTold tickets first groups last
    → (behind : State) × AreTold tickets first (take count groups) behind
    × (after_groups (take count groups) (settled_database first) ≡ settled_database behind)
each_applied tickets first last groups count told =
    let far = told_so_far tickets first last groups count told in
    (far.0, far.1, all_applied tickets first far.0 (take count groups) far.1)

-- ---- the journal

pub commits-append : (tickets : List ℕ) (number : ℕ) (entries more : List Entry)
    → commits_of tickets number (entries ++ more)
    ≡ commits_of tickets number entries ++ commits_of tickets (number + length entries) more
commits-append tickets number [] more =
    ap (λ n. commits_of tickets n more) (omega arith)
commits-append tickets number (entry ∷ entries) more =
    let next : suc number + length entries ≡ number + length (entry ∷ entries) = omega arith in
    let first : Commit =
    record { ticket = unwrap_or (numbered tickets entry.tx) 0; number = number; answers = entry.answers } in
    ap (λ (commits : List Commit). first ∷ commits)
    (commits-append tickets (suc number) entries more
    ∙ ap (λ n. commits_of tickets (suc number) entries ++ commits_of tickets n more) next)

pub told_journal : (tickets : List ℕ) (first last : State) (groups : List Group) → AreTold tickets first groups last
    → (entries : List Entry) × (last.journal ≡ first.journal ++ entries)
    × (all_commits groups ≡ commits_of tickets (suc (length first.journal)) entries)
told_journal tickets first last [] same =
    ([], ap (λ (s : State). s.journal) same ∙ sym (append-nil first.journal), refl)
told_journal tickets first last (group ∷ more) told =
    let behind = told.0 in
    let tells = told.1 in
    let rest = told_journal tickets behind last more told.2 in
    let longer : suc (length behind.journal) ≡ suc (length first.journal) + length tells.entries =
    omega (arith, ap length tells.journal, length-append first.journal tells.entries) in (
      tells.entries ++ rest.0,
      rest.1 ∙ ap (λ journal. journal ++ rest.0) tells.journal ∙ append_assoc first.journal tells.entries rest.0,
      (λ i. tells.commits i ++ rest.2 i)
          ∙ ap (λ n. commits_of tickets (suc (length first.journal)) tells.entries ++ commits_of tickets n
          rest.0) longer
          ∙ sym (commits-append tickets (suc (length first.journal)) tells.entries rest.0),
    )

pub whole_journal : (tickets : List ℕ) (first last : State) (groups : List Group) → first.journal ≡ []
    → AreTold tickets first groups last → all_commits groups ≡ commits_of tickets 1 last.journal
whole_journal tickets first last groups none told =
    let since = told_journal tickets first last groups told in
    since.2 ∙ (λ i. commits_of tickets (suc (length (none i))) since.0)
    ∙ ap (commits_of tickets 1) (sym (since.1 ∙ ap (λ journal. journal ++ since.0) none))
