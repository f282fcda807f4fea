-- Members over the settled database, one after the other, give the present tables.
use Rattle.std.proofs.Common.{◌≡◌, ◌⊎◌, ◌<◌, ℕ, Bool, true, false, cond, not, ◌&&◌, List, [], ◌∷◌, ◌++◌, length}
use Rattle.std.proofs.Common.{refl, sym, ap}
use Rattle.std.proofs.Common.{subst, ◌∙◌, inl, inr, append_assoc, slice_set}
use Rattle.std.specs.List.{AllByRecursion, filter, list_any}
use Rattle.ent_tree.specs.declared.declaration.Create.{Create}
use Rattle.ent_semantics.specs.Database.{Name, Rows, Database}
use Rattle.ent_semantics.specs.Form.{Tables}
use Rattle.ent_form.specs.Tables.{database_of, AreWide}
use Rattle.ent_protocol.specs.Member.{is_tx}
use Rattle.ent_protocol.specs.Rollback.{put_back}
use Rattle.ent_protocol.specs.State.{Change}
use Rattle.ent_protocol_laws.specs.Faithful.{table_number, is_used, is_owned}
use Rattle.ent_protocol_laws.specs.History.{History, AreSerial}
use Rattle.ent_lists.specs.Elements.{In, Pairs, of_all, to_all, all_by, all_joined, all_filtered, of_filter, to_filter}
use Rattle.ent_lists.specs.Elements.{filter_empty, filter_joined, same_parted, pairs_of, pairs_filtered, pairs_joined}
use Rattle.ent_lists.specs.Elements.{pairs_first, pairs_second, pairs_across, pairs_parted, pairs_by, in_first}
use Rattle.ent_lists.specs.Elements.{in_second, in_either, all_first, all_second, any_none, any_some, clash, turned}
use Rattle.ent_lists.specs.Elements.{not_so, number_itself, other_number, and_both}
use Rattle.ent_protocol_laws.proofs.Frame.{Laws, IsCovered, Apart, apart_turned, owned, owned_used, gather}
use Rattle.ent_protocol_laws.proofs.Frame.{serial_joined}
use Rattle.ent_protocol_laws.proofs.Frame.{serial_parts, serial_kept}
use Rattle.ent_protocol_laws.proofs.Undo.{at_number, set_elsewhere, back, back_all}
use Rattle.ent_protocol_laws.proofs.Undo.{put_at, put_length, named_at, wide_length, declared_or_empty, WasWide}
use Rattle.ent_protocol_laws.proofs.Undo.{wide_back}

-- two members of one run
pub record Fit (one other : History) : Type 0 where
  pub distinct : one.member.tx ≡ other.member.tx → ⊥
  pub groups : (one.member.group ≡ other.member.group → ⊥) → Apart one.member other.member

pub fit_turned : (one other : History) → Fit one other → Fit other one
fit_turned one other fit =
    record {
      distinct = λ e. fit.distinct (sym e);
      groups = λ d. apart_turned one.member other.member (fit.groups (λ e. d (sym e)));
    }

abbrev pub AreApart : History → History → Type 0
AreApart one other = Apart one.member other.member

-- a change is of a member that holds its table exclusively
pub record IsOwner (all : List History) (change : Change) : Type 0 where
  pub by : History
  pub at : In by all
  pub tx : by.member.tx ≡ change.tx
  pub held : is_owned by.member.uses change.table ≡ true

pub record Sound (declared : List Create) (base : Database) (prepared others : List History) (tables : Tables)
    (changes : List Change) : Type 0 where
  pub serial : AreSerial declared (prepared ++ others) base (database_of declared tables)
  pub covered : AllByRecursion (IsCovered declared) (prepared ++ others)
  pub fit : Pairs Fit (prepared ++ others)
  pub apart : Pairs AreApart others
  pub undo : database_of declared (put_back changes tables) ≡ base
  pub owners : AllByRecursion (IsOwner (prepared ++ others)) changes
  pub wide : AreWide declared tables
  pub before : AllByRecursion (WasWide declared) changes

pub owners_among : (xs ys : List History) → ((x : History) → In x xs → In x ys) → (changes : List Change)
    → AllByRecursion (IsOwner xs) changes → AllByRecursion (IsOwner ys) changes
owners_among xs ys f changes owners =
    all_by (IsOwner xs) (IsOwner ys) changes
    (λ c o. record { by = o.by; at = f o.by o.at; tx = o.tx; held = o.held }) owners

abbrev pub has_tx : ℕ → History → Bool
has_tx tx history = is_tx tx history.member

-- the only member of a number
pub alone : (q : History → Bool) (x : History) (xs : List History) → Pairs Fit xs → In x xs → q x ≡ true
    → ((y : History) → (y.member.tx ≡ x.member.tx → ⊥) → q y ≡ false) → filter q xs ≡ x ∷ []
alone q x [] pairs at is out = absurd at
alone q x (y ∷ ys) pairs (inl same) is out =
    ap (λ b. cond b (y ∷ filter q ys) (filter q ys)) (ap q (sym same) ∙ is)
    ∙ ap (λ rest. y ∷ rest) (filter_empty q ys (λ z at. out z (λ e.
    (of_all (Fit y) ys z pairs.0 at).distinct (ap (λ (h : History). h.member.tx) (sym same) ∙ sym e))))
    ∙ ap (λ h. h ∷ []) (sym same)
alone q x (y ∷ ys) pairs (inr at) is out =
    ap (λ b. cond b (y ∷ filter q ys) (filter q ys)) (out y (of_all (Fit y) ys x pairs.0 at).distinct)
    ∙ alone q x ys pairs.1 at is out

module _ (declared : List Create) (laws : Laws) (base : Database) (ps us : List History) (tables : Tables)
    (changes : List Change) (sound : Sound declared base ps us tables changes) where
  -- ---- another order

  parted : (p : History → Bool)
      → Sound declared base ps (filter p us ++ filter (λ x. not (p x)) us) tables changes
  parted p =
      let vs = filter p us ++ filter (λ x. not (p x)) us in
      let parts = serial_parts declared laws ps us base (database_of declared tables) sound.serial in
      let same = same_parted p us in
      let into : (x : History) → In x (ps ++ us) → In x (ps ++ vs) =
      λ x at. elim (in_either ps us x at) [
        | inl a ↦ in_first ps vs x a
        | inr b ↦ in_second ps vs x ((same x).1 b)
      ] in
      record {
        serial = serial_joined declared laws ps vs base parts.0 (database_of declared tables) parts.1
            (gather declared laws p us parts.0 (database_of declared tables)
            (all_second (IsCovered declared) ps us sound.covered)
            (pairs_by AreApart (λ x y. p x ≡ false → p y ≡ true → Apart x.member y.member) us
            (λ x y apart a b. apart) sound.apart) parts.2);
        covered = all_joined (IsCovered declared) ps vs (all_first (IsCovered declared) ps us sound.covered)
            (to_all (IsCovered declared) vs (λ x at.
            of_all (IsCovered declared) us x (all_second (IsCovered declared) ps us sound.covered) ((same x).0 at)));
        fit = pairs_joined Fit ps vs (pairs_first Fit ps us sound.fit)
            (pairs_parted Fit fit_turned p us (pairs_second Fit ps us sound.fit))
            (λ x y at bt. pairs_across Fit ps us x y sound.fit at ((same y).0 bt));
        apart = pairs_parted AreApart (λ x y. apart_turned x.member y.member) p us sound.apart;
        undo = sound.undo;
        owners = owners_among (ps ++ us) (ps ++ vs) into changes sound.owners;
        wide = sound.wide;
        before = sound.before;
      }

  -- a member last
  pub last : (x : History) → In x us
      → Sound declared base ps (filter (λ y. not (has_tx x.member.tx y)) us ++ x ∷ []) tables changes
  last x at =
      let rest = filter (λ y. not (has_tx x.member.tx y)) us in
      subst (λ (end : List History). Sound declared base ps (rest ++ end) tables changes)
      (alone (λ y. not (not (has_tx x.member.tx y))) x us (pairs_second Fit ps us sound.fit) at
      (ap (λ b. not (not b)) (number_itself x.member.tx))
      (λ y differs. ap (λ b. not (not b)) (other_number y.member.tx x.member.tx differs)))
      (parted (λ y. not (has_tx x.member.tx y)))

  -- a member first, which prepares
  pub first : (x : History) → In x us
      → Sound declared base (ps ++ x ∷ []) (filter (λ y. not (has_tx x.member.tx y)) us) tables changes
  first x at =
      let rest = filter (λ y. not (has_tx x.member.tx y)) us in
      let moved : Sound declared base ps (x ∷ rest) tables changes =
      subst (λ (front : List History). Sound declared base ps (front ++ rest) tables changes)
      (alone (has_tx x.member.tx) x us (pairs_second Fit ps us sound.fit) at (number_itself x.member.tx)
      (λ y differs. other_number y.member.tx x.member.tx differs)) (parted (has_tx x.member.tx)) in
      let e : ps ++ x ∷ rest ≡ (ps ++ x ∷ []) ++ rest = sym (append_assoc ps (x ∷ []) rest) in
      record {
        serial = subst (λ (all : List History). AreSerial declared all base (database_of declared tables)) e
            moved.serial;
        covered = subst (AllByRecursion (IsCovered declared)) e moved.covered;
        fit = subst (Pairs Fit) e moved.fit;
        apart = moved.apart.1;
        undo = moved.undo;
        owners = subst (λ (all : List History). AllByRecursion (IsOwner all) changes) e moved.owners;
        wide = moved.wide;
        before = moved.before;
      }

-- ---- some members leave

abbrev pub leaves : (ℕ → Bool) → History → Bool
leaves gone history = gone history.member.tx

abbrev pub stays : (ℕ → Bool) → History → Bool
stays gone history = not (gone history.member.tx)

abbrev pub change_goes : (ℕ → Bool) → Change → Bool
change_goes gone change = gone change.tx

abbrev pub change_stays : (ℕ → Bool) → Change → Bool
change_stays gone change = not (gone change.tx)

-- those that leave ran first, and the others stand over what they left
pub record HaveLeft (declared : List Create) (base : Database) (ps us : List History) (tables : Tables)
    (changes : List Change) (gone : ℕ → Bool) : Type 0 where
  pub next : Database
  pub group : AreSerial declared (filter (leaves gone) ps) base next
  pub left : Sound declared next (filter (stays gone) ps) us tables (filter (change_stays gone) changes)

module _ (declared : List Create) (laws : Laws) (base : Database) (ps us : List History) (tables : Tables)
    (changes : List Change) (sound : Sound declared base ps us tables changes) (gone : ℕ → Bool)
    (divided : (x y : History) → In x (ps ++ us) → In y (ps ++ us) → gone x.member.tx ≡ true
    → gone y.member.tx ≡ false → Apart x.member y.member) where
  -- one that leaves owns the table of a name, or none does
  record IsChanged (name : Name) : Type 0 where
    pub by : History
    pub at : In by (ps ++ us)
    pub goes : gone by.member.tx ≡ true
    pub owns : owned declared by.member.uses name ≡ true

  abbrev IsKept : Name → Type 0
  IsKept name =
      (x : History) → In x (ps ++ us) → gone x.member.tx ≡ true → owned declared x.member.uses name ≡ false

  abbrev touches : Name → History → Bool
  touches name x = gone x.member.tx && owned declared x.member.uses name

  not_both : (a b : Bool) → (a && b) ≡ false → a ≡ true → b ≡ false
  not_both true b e is = e
  not_both false b e is = cc

  changed_or_kept : (name : Name) → IsChanged name ⊎ IsKept name
  changed_or_kept name = by (list_any (touches name) (ps ++ us)) refl
    where
      by : (b : Bool) → list_any (touches name) (ps ++ us) ≡ b → IsChanged name ⊎ IsKept name
      by true is =
          let r = any_some (touches name) (ps ++ us) is in
          let two = and_both (gone r.0.member.tx) (owned declared r.0.member.uses name) r.2 in
          inl (record { by = r.0; at = r.1; goes = two.0; owns = two.1 })
      by false is =
          inr (λ x at goes. not_both (gone x.member.tx) (owned declared x.member.uses name)
          (any_none (touches name) (ps ++ us) is x at) goes)

  -- one that stays doesn't own it then
  rest_keeps : (name : Name) → IsChanged name → (y : History) → In y (ps ++ us) → gone y.member.tx ≡ false
      → owned declared y.member.uses name ≡ false
  rest_keeps name changed y at no_matter =
      not_so (owned declared y.member.uses name) (λ is.
      clash (is_used y.member.uses (table_number declared name))
      (owned_used y.member.uses (table_number declared name) is)
      ((divided changed.by y changed.at at changed.goes no_matter (table_number declared name)).0 changed.owns))

  low : (name : Name) → IsChanged name → table_number declared name < length tables
  low name changed =
      subst (λ n. table_number declared name < n) (sym (wide_length declared tables sound.wide))
      ((of_all (IsCovered declared) (ps ++ us) changed.by sound.covered changed.at).within (table_number declared name)
      (owned_used changed.by.member.uses (table_number declared name) changed.owns))

  owner : (change : Change) → In change changes → IsOwner (ps ++ us) change
  owner change at = of_all (IsOwner (ps ++ us)) changes change sound.owners at

  -- the changes of a table are all of those that leave, or none is
  theirs : (name : Name) → IsChanged name → (change : Change) → In change changes
      → change.table ≡ table_number declared name → gone change.tx ≡ true
  theirs name changed change at same = by (gone change.tx) refl
    where
      by : (b : Bool) → gone change.tx ≡ b → b ≡ true
      by true is = refl
      by false is =
          let o = owner change at in
          clash (owned declared o.by.member.uses name)
          (subst (λ table. is_owned o.by.member.uses table ≡ true) same o.held)
          (rest_keeps name changed o.by o.at (ap gone o.tx ∙ is))

  not_theirs : (name : Name) → IsKept name → (change : Change) → In change changes
      → change.table ≡ table_number declared name → gone change.tx ≡ false
  not_theirs name kept change at same =
      not_so (gone change.tx) (λ is.
      let o = owner change at in
      clash (owned declared o.by.member.uses name)
      (subst (λ table. is_owned o.by.member.uses table ≡ true) same o.held)
      (kept o.by o.at (ap gone o.tx ∙ is)))

  -- what changes put back, by name
  put_named : (some : List Change) (there : Tables) (name : Name) → length there ≡ length declared
      → table_number declared name < length there
      → database_of declared (put_back some there) name
      ≡ back (table_number declared name) some (database_of declared there name)
  put_named some there name same is_low =
      named_at declared (put_back some there) name (put_length some there ∙ same)
      ∙ put_at some there (table_number declared name) is_low
      ∙ ap (back (table_number declared name) some) (sym (named_at declared there name same))

  long : length tables ≡ length declared
  long = wide_length declared tables sound.wide

  undone : (name : Name) → table_number declared name < length tables
      → back (table_number declared name) changes (database_of declared tables name) ≡ base name
  undone name is_low = sym (put_named changes tables name long is_low) ∙ ap (λ (d : Database). d name) sound.undo

  -- all that is put back of a table that is kept, or of one that isn't declared
  put_kept : (some : List Change) (there : Tables) (name : Name) → length there ≡ length declared
      → ((change : Change) → In change some → change.table ≡ table_number declared name → ⊥)
      → database_of declared (put_back some there) name ≡ database_of declared there name
  put_kept some there name same none_of =
      elim (declared_or_empty declared name) [
        | inl is_low ↦
            put_named some there name same (subst (λ n. table_number declared name < n) (sym same) is_low)
            ∙ untouched some (database_of declared there name) none_of
        | inr none ↦ none (put_back some there) ∙ sym (none there)
      ]
    where
      untouched : (some : List Change) (rows : Rows)
          → ((change : Change) → In change some → change.table ≡ table_number declared name → ⊥)
          → back (table_number declared name) some rows ≡ rows
      untouched [] rows f = refl
      untouched (change ∷ more) rows f =
          ap (λ b. back (table_number declared name) more (cond b change.before rows))
          (other_number change.table (table_number declared name) (f change (inl refl)))
          ∙ untouched more rows (λ c at. f c (inr at))

  abbrev pub restored : Tables
  restored = put_back (filter (change_goes gone) changes) tables

  long_restored : length restored ≡ length declared
  long_restored = put_length (filter (change_goes gone) changes) tables ∙ long

  was_changed : (name : Name) → IsChanged name → database_of declared restored name ≡ base name
  was_changed name changed =
      put_named (filter (change_goes gone) changes) tables name long (low name changed)
      ∙ back_all (change_goes gone) (table_number declared name) changes (database_of declared tables name)
      (theirs name changed)
      ∙ undone name (low name changed)

  was_kept : (name : Name) → IsKept name → database_of declared restored name ≡ database_of declared tables name
  was_kept name kept =
      put_kept (filter (change_goes gone) changes) tables name long (λ change at same.
      let r = of_filter (change_goes gone) changes change at in
      clash (gone change.tx) r.1 (not_theirs name kept change r.0 same))

  -- what stays is put back as all was
  others_kept : (there : Tables) (name : Name) → length there ≡ length declared → IsKept name
      → database_of declared there name ≡ database_of declared tables name
      → database_of declared (put_back (filter (change_stays gone) changes) there) name ≡ base name
  others_kept there name same kept alike =
      elim (declared_or_empty declared name) [
        | inl is_low ↦
            put_named (filter (change_stays gone) changes) there name same
            (subst (λ n. table_number declared name < n) (sym same) is_low)
            ∙ back_all (change_stays gone) (table_number declared name) changes (database_of declared there name)
            (λ change at e. ap not (not_theirs name kept change at e))
            ∙ ap (back (table_number declared name) changes) alike
            ∙ undone name (subst (λ n. table_number declared name < n) (sym long) is_low)
        | inr none ↦
            none (put_back (filter (change_stays gone) changes) there)
            ∙ sym (none (put_back changes tables)) ∙ ap (λ (d : Database). d name) sound.undo
      ]

  others_changed : (there : Tables) (name : Name) → length there ≡ length declared → IsChanged name
      → database_of declared (put_back (filter (change_stays gone) changes) there) name
      ≡ database_of declared there name
  others_changed there name same changed =
      put_kept (filter (change_stays gone) changes) there name same (λ change at e.
      let r = of_filter (change_stays gone) changes change at in
      clash (gone change.tx) (theirs name changed change r.0 e) (turned (gone change.tx) r.1))

  -- the changes that are left are of members that are left
  owners_left : (left : List History)
      → ((x : History) → In x (ps ++ us) → gone x.member.tx ≡ false → In x left)
      → AllByRecursion (IsOwner left) (filter (change_stays gone) changes)
  owners_left left f =
      to_all (IsOwner left) (filter (change_stays gone) changes) (λ change at.
      let r = of_filter (change_stays gone) changes change at in
      let o = owner change r.0 in
      record { by = o.by; at = f o.by o.at (ap gone o.tx ∙ turned (gone change.tx) r.1); tx = o.tx; held = o.held })

  -- ---- they are taken out

  taken : (both_parts : AreSerial declared (filter (stays gone) (ps ++ us)
      ++ filter (λ x. not (stays gone x)) (ps ++ us)) base (database_of declared tables))
      → AreSerial declared (filter (stays gone) (ps ++ us)) base (database_of declared restored)
  taken both_parts =
      let parts = serial_parts declared laws (filter (stays gone) (ps ++ us))
      (filter (λ x. not (stays gone x)) (ps ++ us)) base (database_of declared tables) both_parts in
      subst (AreSerial declared (filter (stays gone) (ps ++ us)) base)
      (λ i name. same parts.0 parts.1 parts.2 name i) parts.1
    where
      same : (middle : Database) → AreSerial declared (filter (stays gone) (ps ++ us)) base middle
          → AreSerial declared (filter (λ x. not (stays gone x)) (ps ++ us)) middle (database_of declared tables)
          → (name : Name) → middle name ≡ database_of declared restored name
      same middle before behind name =
          elim (changed_or_kept name) [
            | inl changed ↦
                serial_kept declared laws (filter (stays gone) (ps ++ us)) base middle name
                (all_filtered (IsCovered declared) (stays gone) (ps ++ us) sound.covered) before
                (λ x at.
                let r = of_filter (stays gone) (ps ++ us) x at in
                rest_keeps name changed x r.0 (turned (gone x.member.tx) r.1))
                ∙ sym (was_changed name changed)
            | inr kept ↦
                sym (serial_kept declared laws (filter (λ x. not (stays gone x)) (ps ++ us)) middle
                (database_of declared tables) name
                (all_filtered (IsCovered declared) (λ x. not (stays gone x)) (ps ++ us) sound.covered) behind
                (λ x at.
                let r = of_filter (λ x. not (stays gone x)) (ps ++ us) x at in
                kept x r.0 (twice (gone x.member.tx) r.1)))
                ∙ sym (was_kept name kept)
          ]
        where
          twice : (b : Bool) → not (not b) ≡ true → b ≡ true
          twice true e = refl
          twice false e = e

  undo_restored : database_of declared (put_back (filter (change_stays gone) changes) restored) ≡ base
  undo_restored = λ i name. each name i
    where
      each : (name : Name)
          → database_of declared (put_back (filter (change_stays gone) changes) restored) name ≡ base name
      each name =
          elim (changed_or_kept name) [
            | inl changed ↦ others_changed restored name long_restored changed ∙ was_changed name changed
            | inr kept ↦ others_kept restored name long_restored kept (was_kept name kept)
          ]

  pub sound_taken : Sound declared base (filter (stays gone) ps) (filter (stays gone) us) restored
      (filter (change_stays gone) changes)
  sound_taken =
      let e : filter (stays gone) (ps ++ us) ≡ filter (stays gone) ps ++ filter (stays gone) us =
      filter_joined (stays gone) ps us in
      record {
        serial = subst (λ (all : List History). AreSerial declared all base (database_of declared restored)) e
            (taken (gather declared laws (stays gone) (ps ++ us) base (database_of declared tables) sound.covered
            (pairs_of (λ x y. stays gone x ≡ false → stays gone y ≡ true → Apart x.member y.member) (ps ++ us)
            (λ x y at bt a b.
            divided x y at bt (once (gone x.member.tx) a) (turned (gone y.member.tx) b))) sound.serial));
        covered = subst (AllByRecursion (IsCovered declared)) e
            (all_filtered (IsCovered declared) (stays gone) (ps ++ us) sound.covered);
        fit = subst (Pairs Fit) e (pairs_filtered Fit (stays gone) (ps ++ us) sound.fit);
        apart = pairs_filtered AreApart (stays gone) us sound.apart;
        undo = undo_restored;
        owners = subst (λ (all : List History). AllByRecursion (IsOwner all) (filter (change_stays gone) changes)) e
            (owners_left (filter (stays gone) (ps ++ us)) (λ x at is.
            to_filter (stays gone) (ps ++ us) x at (ap not is)));
        wide = wide_back declared (filter (change_goes gone) changes) tables sound.wide
            (all_filtered (WasWide declared) (change_goes gone) changes sound.before);
        before = all_filtered (WasWide declared) (change_stays gone) changes sound.before;
      }
    where
      once : (b : Bool) → not b ≡ false → b ≡ true
      once true e = refl
      once false e = sym e

  -- what a member uses that stays is as it was
  pub restored_used : (y : History) → In y (ps ++ us) → gone y.member.tx ≡ false → (table : ℕ)
      → is_used y.member.uses table ≡ true → at_number restored table ≡ at_number tables table
  restored_used y at is table used = untouched (filter (change_goes gone) changes) tables
      (λ change ct same.
      let r = of_filter (change_goes gone) changes change ct in
      let o = owner change r.0 in
      clash (is_used y.member.uses table) used
      ((divided o.by y o.at at (ap gone o.tx ∙ r.1) is table).0
      (subst (λ t. is_owned o.by.member.uses t ≡ true) same o.held)))
    where
      untouched : (some : List Change) (there : Tables)
          → ((change : Change) → In change some → change.table ≡ table → ⊥)
          → at_number (put_back some there) table ≡ at_number there table
      untouched [] there f = refl
      untouched (change ∷ more) there f =
          untouched more (slice_set there change.table change.before) (λ c ct. f c (inr ct))
          ∙ set_elsewhere there change.table table change.before (other_number change.table table (f change (inl refl)))

  -- ---- they commit

  module _ (ready : (x : History) → In x us → gone x.member.tx ≡ false) where
    left_in : (x : History) → In x (filter (stays gone) ps ++ us)
        → In x (ps ++ us) × (gone x.member.tx ≡ false)
    left_in x at =
        elim (in_either (filter (stays gone) ps) us x at) [
          | inl a ↦
              let r = of_filter (stays gone) ps x a in
              (in_first ps us x r.0, turned (gone x.member.tx) r.1)
          | inr b ↦ (in_second ps us x b, ready x b)
        ]

    in_left : (x : History) → In x (ps ++ us) → gone x.member.tx ≡ false
        → In x (filter (stays gone) ps ++ us)
    in_left x at is =
        elim (in_either ps us x at) [
          | inl a ↦ in_first (filter (stays gone) ps) us x (to_filter (stays gone) ps x a (ap not is))
          | inr b ↦ in_second (filter (stays gone) ps) us x b
        ]

    covered_left : AllByRecursion (IsCovered declared) (filter (stays gone) ps ++ us)
    covered_left =
        to_all (IsCovered declared) (filter (stays gone) ps ++ us)
        (λ x at. of_all (IsCovered declared) (ps ++ us) x sound.covered (left_in x at).0)

    undo_left : (next : Database) → AreSerial declared (filter (leaves gone) ps) base next
        → AreSerial declared (filter (stays gone) ps ++ us) next (database_of declared tables) → (name : Name)
        → database_of declared (put_back (filter (change_stays gone) changes) tables) name ≡ next name
    undo_left next group rest name =
        elim (changed_or_kept name) [
          | inl changed ↦
              others_changed tables name long changed
              ∙ serial_kept declared laws (filter (stays gone) ps ++ us) next (database_of declared tables) name
              covered_left rest (λ x at. let r = left_in x at in rest_keeps name changed x r.0 r.1)
          | inr kept ↦
              others_kept tables name long kept refl
              ∙ sym (serial_kept declared laws (filter (leaves gone) ps) base next name
              (all_filtered (IsCovered declared) (leaves gone) ps
              (all_first (IsCovered declared) ps us sound.covered)) group
              (λ x at. let r = of_filter (leaves gone) ps x at in kept x (in_first ps us x r.0) r.1))
        ]

    pub sound_committed : HaveLeft declared base ps us tables changes gone
    sound_committed =
        let parts = serial_parts declared laws ps us base (database_of declared tables) sound.serial in
        let gathered = gather declared laws (leaves gone) ps base parts.0
        (all_first (IsCovered declared) ps us sound.covered)
        (pairs_of (λ x y. leaves gone x ≡ false → leaves gone y ≡ true → Apart x.member y.member) ps
        (λ x y at bt a b.
        apart_turned y.member x.member (divided y x (in_first ps us y bt) (in_first ps us x at) b a))) parts.1 in
        let two = serial_parts declared laws (filter (leaves gone) ps) (filter (stays gone) ps) base parts.0
        gathered in
        let rest = serial_joined declared laws (filter (stays gone) ps) us two.0 parts.0
        (database_of declared tables) two.2 parts.2 in
        record {
          next = two.0;
          group = two.1;
          left = record {
            serial = rest;
            covered = covered_left;
            fit = pairs_joined Fit (filter (stays gone) ps) us
                (pairs_filtered Fit (stays gone) ps (pairs_first Fit ps us sound.fit))
                (pairs_second Fit ps us sound.fit)
                (λ x y at bt. pairs_across Fit ps us x y sound.fit (of_filter (stays gone) ps x at).0 bt);
            apart = sound.apart;
            undo = λ i name. undo_left two.0 two.1 rest name i;
            owners = owners_left (filter (stays gone) ps ++ us) in_left;
            wide = sound.wide;
            before = all_filtered (WasWide declared) (change_stays gone) changes sound.before;
          };
        }
