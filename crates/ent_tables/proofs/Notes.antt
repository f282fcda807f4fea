-- Notes of changes, and what rollbacks make of them.
use Rattle.std.proofs.Common.{◌≡◌, Bool, true, false, cond, List, [], ◌∷◌, ◌++◌, map, refl, sym, ap, ◌∙◌}
use Rattle.std.specs.Prelude.{reverse, slice_set}
use Rattle.std.specs.List.{AllByRecursion, filter}
use Rattle.std.proofs.lemmas.List.{append-nil, map-append, map-set, reverse-append}
use Rattle.std.proofs.lemmas.List.Elements.{filter-append}
use Rattle.ent_value.specs.declared.value.Kind.{Kind}
use Rattle.ent_rel.specs.Relation.{Relation}
use Rattle.ent_undo.specs.Change.{Change as Noted, put_back as put_back_noted}
use Rattle.ent_semantics.specs.Form.{Tables}
use Rattle.ent_ordinary.specs.Tables.{kinds_in, rows_in}
use Rattle.ent_protocol.specs.Rollback.{put_back}
use Rattle.ent_protocol.specs.State.{Change}
use Rattle.ent_tables.specs.Stored.{AreOfTables, change_seen, changes_seen}
use Rattle.ent_tables.proofs.Places.{set_there}

-- ---- the newest first

seen_older : (oldest : Noted) (log : List Noted) → changes_seen (oldest ∷ log) ≡ changes_seen log
    ++ change_seen oldest ∷ []
seen_older oldest log = reverse-append (change_seen oldest ∷ []) (map change_seen log)

pub seen_newest : (log : List Noted) (newest : Noted)
    → changes_seen (log ++ newest ∷ []) ≡ change_seen newest ∷ changes_seen log
seen_newest log newest =
    ap reverse (map-append change_seen log (newest ∷ []))
    ∙ reverse-append (map change_seen log) (change_seen newest ∷ [])

pub filter_seen : (p : Change → Bool) (log : List Noted)
    → filter p (changes_seen log) ≡ changes_seen (filter (λ noted. p (change_seen noted)) log)
filter_seen p [] = refl
filter_seen p (oldest ∷ log) =
    ap (filter p) (seen_older oldest log) ∙ filter-append p (changes_seen log) (change_seen oldest ∷ [])
    ∙ by (p (change_seen oldest)) (filter_seen p log)
  where
    by : (b : Bool) → filter p (changes_seen log) ≡ changes_seen (filter (λ noted. p (change_seen noted)) log)
        → filter p (changes_seen log) ++ cond b (change_seen oldest ∷ []) []
        ≡ changes_seen (cond b (oldest ∷ filter (λ noted. p (change_seen noted)) log)
        (filter (λ noted. p (change_seen noted)) log))
    by true rest = ap (λ cs. cs ++ change_seen oldest ∷ []) rest
        ∙ sym (seen_older oldest (filter (λ noted. p (change_seen noted)) log))
    by false rest = append-nil (filter p (changes_seen log)) ∙ rest

-- ---- changes put back

put_back-append : (newer older : List Change) (tables : Tables)
    → put_back (newer ++ older) tables ≡ put_back older (put_back newer tables)
put_back-append [] older tables = refl
put_back-append (change ∷ newer) older tables =
    put_back-append newer older (slice_set tables change.table change.before)

-- the newest first, whichever list it is
pub rows_put_back : (log : List Noted) (tables : List Relation)
    → rows_in (put_back_noted log tables) ≡ put_back (changes_seen log) (rows_in tables)
rows_put_back [] tables = refl
rows_put_back (oldest ∷ log) tables =
    map-set (λ (t : Relation). t.rows) (put_back_noted log tables) oldest.table oldest.before
    ∙ ap (λ (ts : Tables). slice_set ts oldest.table oldest.before.rows) (rows_put_back log tables)
    ∙ sym (ap (λ cs. put_back cs (rows_in tables)) (seen_older oldest log)
    ∙ put_back-append (changes_seen log) (change_seen oldest ∷ []) (rows_in tables))

pub kinds_put_back : (kinds : List (List Kind)) (log : List Noted) (tables : List Relation) → AreOfTables kinds log
    → kinds_in tables ≡ kinds
    → kinds_in (put_back_noted log tables) ≡ kinds
kinds_put_back kinds [] tables all is = is
kinds_put_back kinds (oldest ∷ log) tables all is =
    map-set (λ (t : Relation). t.kinds) (put_back_noted log tables) oldest.table oldest.before
    ∙ ap (λ (ks : List (List Kind)). slice_set ks oldest.table oldest.before.kinds)
    (kinds_put_back kinds log tables all.1 is)
    ∙ set_there kinds oldest.table oldest.before.kinds all.0

-- ---- each note

pub all_filter : {A : Type 0} (P : A → Type 0) (p : A → Bool) (xs : List A) → AllByRecursion P xs
    → AllByRecursion P (filter p xs)
all_filter P p [] all = all
all_filter {A} P p (x ∷ xs) all = by (p x) (all_filter P p xs all.1)
  where
    by : (b : Bool) → AllByRecursion P (filter p xs) → AllByRecursion P (cond b (x ∷ filter p xs) (filter p xs))
    by true rest = (all.0, rest)
    by false rest = rest

pub all_pop : {A : Type 0} (P : A → Type 0) (xs : List A) (x : A) → AllByRecursion P (xs ++ x ∷ [])
    → AllByRecursion P xs × P x
all_pop P [] x all = (tt, all.0)
all_pop P (y ∷ xs) x all = let rest = all_pop P xs x all.1 in ((all.0, rest.0), rest.1)
