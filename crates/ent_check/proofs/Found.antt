-- What is found first, on the way through lists.
use Rattle.std.proofs.Common.{◌≡◌, ℕ, zero, suc, ◌+◌, ◌<◌, Bool, true, false, cond, List, [], ◌∷◌}
use Rattle.std.proofs.Common.{◌++◌, length, drop, refl, sym, ap, subst, ◌∙◌, arith, Some, None}
use Rattle.std.proofs.Common.{slice_index_or}
use Rattle.ent_lists.specs.Sets as set
use Rattle.ent_tree.specs.declared.declaration.Create.{Create}
use Rattle.ent_semantics.specs.Database.{Name, Database, Rows, same_name}
use Rattle.ent_form.specs.Tables.{database_of}
use Rattle.ent_history.specs.declared.history.Shown.{Shown}
use Rattle.ent_history.specs.Alike.{same_rows}
use Rattle.ent_history.specs.Journal.{unless}
use Rattle.ent_history.specs.Table.{tables_findings}
use Rattle.ent_history.specs.Verdict.{first_of}
use Rattle.ent_history.specs.declared.finding.Finding.{Finding}
use Rattle.ent_history.specs.declared.finding.Rule.{Rule}
use Rattle.ent_history.specs.declared.finding.Rule.TheVariants as rule
use Rattle.ent_history.specs.declared.finding.Thing.{Thing}
use Rattle.ent_history.specs.declared.finding.Thing.TheVariants as thing

-- ---- the table of a name, from the table of an index on

-- those before it have other names
abbrev pub NamedBehind : List Create → List Rows → Name → ℕ → Type 0
NamedBehind creates tables name i = database_of creates tables name ≡ database_of (drop i creates) (drop i tables) name

here : (creates : List Create) (tables : List Rows) (name : Name) (i : ℕ) (c : Create) (d : Rows) → i < length creates
    → length tables ≡ length creates
    → database_of (drop i creates) (drop i tables) name
    ≡ cond (same_name (slice_index_or creates i c).name.name name) (slice_index_or tables i d)
    (database_of (drop (suc i) creates) (drop (suc i) tables) name)
here [] tables name i c d low same = absurd (omega (arith, low))
here (x ∷ xs) [] name i c d low same = absurd (omega (arith, same))
here (x ∷ xs) (t ∷ ts) name zero c d low same = refl
here (x ∷ xs) (t ∷ ts) name (suc i) c d low same = here xs ts name i c d (omega (arith, low)) (omega (arith, same))

pub named_here : (creates : List Create) (tables : List Rows) (name : Name) (i : ℕ) (c : Create) (d : Rows)
    → i < length creates → length tables ≡ length creates → c ≡ slice_index_or creates i c
    → same_name c.name.name name ≡ true → NamedBehind creates tables name i
    → database_of creates tables name ≡ slice_index_or tables i d
named_here creates tables name i c d low same at is behind =
    behind
    ∙ here creates tables name i c d low same
    ∙ ap (λ b. cond b (slice_index_or tables i d) (database_of (drop (suc i) creates) (drop (suc i) tables) name))
    (ap (λ (x : Create). same_name x.name.name name) (sym at) ∙ is)

pub named_later : (creates : List Create) (tables : List Rows) (name : Name) (i : ℕ) (c : Create)
    → i < length creates → length tables ≡ length creates → c ≡ slice_index_or creates i c
    → same_name c.name.name name ≡ false → NamedBehind creates tables name i → NamedBehind creates tables name (i + 1)
named_later creates tables name i c low same at is behind =
    let n : suc i ≡ i + 1 = omega arith in
    subst (NamedBehind creates tables name) n
    (behind
    ∙ here creates tables name i c set.empty low same
    ∙ ap (λ b. cond b (slice_index_or tables i set.empty)
    (database_of (drop (suc i) creates) (drop (suc i) tables) name))
    (ap (λ (x : Create). same_name x.name.name name) (sym at) ∙ is))

pub named_nowhere : (creates : List Create) (tables : List Rows) (name : Name) → length tables ≡ length creates
    → NamedBehind creates tables name (length creates) → database_of creates tables name ≡ set.empty
named_nowhere creates tables name same behind = behind ∙ nothing creates tables same
  where
    nothing : (creates : List Create) (tables : List Rows) → length tables ≡ length creates
        → database_of (drop (length creates) creates) (drop (length creates) tables) name ≡ set.empty
    nothing [] tables same = refl
    nothing (x ∷ xs) [] same = absurd (omega (arith, same))
    nothing (x ∷ xs) (t ∷ ts) same = nothing xs ts (omega (arith, same))

-- ---- tables from an index on

pub first_behind : (holds : Bool) (r : Rule) (t : Thing) (more : List Finding) → holds ≡ true
    → first_of (unless holds r t ++ more) ≡ first_of more
first_behind true r t more is = refl
first_behind false r t more is = cc (is)

pub first_here : (holds : Bool) (r : Rule) (t : Thing) (more : List Finding) → holds ≡ false
    → first_of (unless holds r t ++ more) ≡ Some (record { rule = r; thing = t })
first_here true r t more is = cc (is)
first_here false r t more is = refl

module _ (database : Database) where
  abbrev pub rows_right : Shown → Bool
  rows_right shown = same_rows shown.rows (set.ascending (database shown.name))

  abbrev pub ShownBehind : List Shown → ℕ → Type 0
  ShownBehind shown i =
      first_of (tables_findings 1 database shown) ≡ first_of (tables_findings (1 + i) database (drop i shown))

  here_shown : (shown : List Shown) (number i : ℕ) (d : Shown) → i < length shown
      → tables_findings number database (drop i shown)
      ≡ unless (rows_right (slice_index_or shown i d)) rule.Table (thing.Table number)
      ++ tables_findings (suc number) database (drop (suc i) shown)
  here_shown [] number i d low = absurd (omega (arith, low))
  here_shown (x ∷ xs) number zero d low = refl
  here_shown (x ∷ xs) number (suc i) d low = here_shown xs number i d (omega (arith, low))

  pub shown_right : (shown : List Shown) (i : ℕ) (d : Shown) → i < length shown → d ≡ slice_index_or shown i d
      → rows_right d ≡ true → ShownBehind shown i → ShownBehind shown (i + 1)
  shown_right shown i d low at right behind =
      let is = ap rows_right (sym at) ∙ right in
      let n : suc i ≡ i + 1 = omega arith in
      let m : suc (1 + i) ≡ 1 + suc i = omega arith in
      subst (ShownBehind shown) n (behind
      ∙ ap first_of (here_shown shown (1 + i) i d low)
      ∙ first_behind (rows_right (slice_index_or shown i d)) rule.Table (thing.Table (1 + i))
      (tables_findings (suc (1 + i)) database (drop (suc i) shown)) is
      ∙ ap (λ k. first_of (tables_findings k database (drop (suc i) shown))) m)

  pub shown_wrong : (shown : List Shown) (i : ℕ) (d : Shown) → i < length shown → d ≡ slice_index_or shown i d
      → rows_right d ≡ false → ShownBehind shown i
      → first_of (tables_findings 1 database shown)
      ≡ Some (record { rule = rule.Table; thing = thing.Table (i + 1) })
  shown_wrong shown i d low at wrong behind =
      let is = ap rows_right (sym at) ∙ wrong in
      let n : 1 + i ≡ i + 1 = omega arith in
      behind
      ∙ ap first_of (here_shown shown (1 + i) i d low)
      ∙ first_here (rows_right (slice_index_or shown i d)) rule.Table (thing.Table (1 + i))
      (tables_findings (suc (1 + i)) database (drop (suc i) shown)) is
      ∙ ap (λ k. Some (record { rule = rule.Table; thing = thing.Table k })) n

  pub shown_whole : (shown : List Shown) → ShownBehind shown (length shown)
      → first_of (tables_findings 1 database shown) ≡ None
  shown_whole shown behind = behind ∙ nothing shown (1 + length shown)
    where
      nothing : (shown : List Shown) (n : ℕ) → first_of (tables_findings n database (drop (length shown) shown)) ≡ None
      nothing [] n = refl
      nothing (x ∷ xs) n = nothing xs n
