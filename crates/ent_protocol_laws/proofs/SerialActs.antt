-- Members that become others in their places, and one that makes a statement.
use Rattle.std.proofs.Common.{◌≡◌, ℕ, true, false, List, [], ◌∷◌, ◌++◌, map, refl, sym, ap}
use Rattle.std.proofs.Common.{subst, ◌∙◌, inl, inr, append_assoc, slice_index_or}
use Rattle.std.specs.List.{AllByRecursion}
use Rattle.std.proofs.lemmas.List.{set-get_or}
use Rattle.std.proofs.Math.Seq.{set-set}
use Rattle.ent_lists.specs.Sets as set
use Rattle.ent_value.specs.declared.value.Value.{Value}
use Rattle.ent_tree.specs.declared.declaration.Create.{Create}
use Rattle.ent_semantics.specs.Database.{Database}
use Rattle.ent_semantics.specs.Uses.{Agree}
use Rattle.ent_semantics.specs.Form.{Tables}
use Rattle.ent_form.specs.Tables.{database_of, AreWide}
use Rattle.ent_protocol.specs.Finish.{with_change, noted}
use Rattle.ent_protocol.specs.Rollback.{put_back}
use Rattle.ent_protocol.specs.State.{Change, Use}
use Rattle.ent_protocol_laws.specs.Faithful.{table_number, is_used, is_owned}
use Rattle.ent_protocol_laws.specs.History.{History, Replays, AreSerial}
use Rattle.ent_lists.specs.Elements.{In, Pairs, of_all, to_all, all_second, all_map, pairs_map, in_first, in_second}
use Rattle.ent_lists.specs.Elements.{in_either, to_map, map_joined, pairs_second}
use Rattle.ent_protocol_laws.proofs.Frame.{Laws, IsCovered, held, unowned, serial_joined}
use Rattle.ent_protocol_laws.proofs.Frame.{serial_parts, serial_kept}
use Rattle.ent_protocol_laws.proofs.Sound.{Fit, AreApart, IsOwner, Sound}
use Rattle.ent_protocol_laws.proofs.Undo.{WasWide, wide_at}

-- pairs that are known to be of a list
pub pairs_within : {X : Type 0} (R S : X → X → Type 0) (xs : List X)
    → ((x y : X) → In x xs → In y xs → R x y → S x y) → Pairs R xs → Pairs S xs
pairs_within R S [] f pairs = tt
pairs_within R S (x ∷ xs) f pairs = (
  to_all (S x) xs (λ y at. f x y (inl refl) (inr at) (of_all (R x) xs y pairs.0 at)),
  pairs_within R S xs (λ y z a b. f y z (inr a) (inr b)) pairs.1,
)

pairs_both : {X : Type 0} (R S : X → X → Type 0) (xs : List X) → Pairs R xs → Pairs S xs
    → Pairs (λ x y. R x y × S x y) xs
pairs_both R S [] a b = tt
pairs_both R S (x ∷ xs) a b = (
  to_all (λ y. R x y × S x y) xs (λ y at. (of_all (R x) xs y a.0 at, of_all (S x) xs y b.0 at)),
  pairs_both R S xs a.1 b.1,
)

module _ (declared : List Create) (laws : Laws) (h : History → History) where
  plainly : (xs : List History) (first last : Database)
      → ((x : History) → In x xs → (before after : Database) → Replays declared x before after
      → Replays declared (h x) before after)
      → AreSerial declared xs first last → AreSerial declared (map h xs) first last
  plainly [] first last f a = a
  plainly (x ∷ xs) first last f a =
      (a.0, f x (inl refl) first a.0 a.1, plainly xs a.0 last (λ y at. f y (inr at)) a.2)

  -- of unprepared members what one uses stands at last as it left it
  presently : (xs : List History) (first last : Database)
      → ((x : History) → In x xs → (before after : Database) → Agree (held declared x.member.uses) last after
      → Replays declared x before after → Replays declared (h x) before after)
      → AllByRecursion (IsCovered declared) xs → Pairs AreApart xs
      → AreSerial declared xs first last → AreSerial declared (map h xs) first last
  presently [] first last f covered apart a = a
  presently (x ∷ xs) first last f covered apart a = (
    a.0,
    f x (inl refl) first a.0
        (λ name used. serial_kept declared laws xs a.0 last name covered.1 a.2
        (λ y at. unowned x.member y.member (table_number declared name)
        (of_all (AreApart x) xs y apart.0 at) used)) a.1,
    presently xs a.0 last (λ y at. f y (inr at)) covered.1 apart.1 a.2,
  )

-- what a function that gives each member another in its place has to keep
pub record Keeps (declared : List Create) (ps us : List History) (now : Database) (h : History → History) : Type 0 where
  pub prepared : (x : History) → In x ps → (before after : Database) → Replays declared x before after
      → Replays declared (h x) before after
  pub others : (x : History) → In x us → (before after : Database)
      → Agree (held declared x.member.uses) now after → Replays declared x before after
      → Replays declared (h x) before after
  pub covers : (x : History) → In x (ps ++ us) → IsCovered declared x → IsCovered declared (h x)
  pub fits : (x y : History) → In x (ps ++ us) → In y (ps ++ us) → Fit x y → Fit (h x) (h y)
  pub aparts : (x y : History) → In x us → In y us → Fit x y → AreApart x y → AreApart (h x) (h y)
  pub same : (x : History) → In x (ps ++ us) → (h x).member.tx ≡ x.member.tx
  pub owns : (x : History) → In x (ps ++ us) → (table : ℕ) → is_owned x.member.uses table ≡ true
      → is_owned (h x).member.uses table ≡ true

module _ (declared : List Create) (laws : Laws) (base : Database) (ps us : List History) (tables : Tables)
    (changes : List Change) (sound : Sound declared base ps us tables changes) where
  pub sound_mapped : (h : History → History) → Keeps declared ps us (database_of declared tables) h
      → Sound declared base (map h ps) (map h us) tables changes
  sound_mapped h keeps =
      let parts = serial_parts declared laws ps us base (database_of declared tables) sound.serial in
      let e : map h (ps ++ us) ≡ map h ps ++ map h us = map_joined h ps us in
      record {
        serial = serial_joined declared laws (map h ps) (map h us) base parts.0 (database_of declared tables)
            (plainly declared laws h ps base parts.0 keeps.prepared parts.1)
            (presently declared laws h us parts.0 (database_of declared tables) keeps.others
            (all_second (IsCovered declared) ps us sound.covered) sound.apart parts.2);
        covered = subst (AllByRecursion (IsCovered declared)) e
            (all_map h (IsCovered declared) (ps ++ us) (to_all (λ x. IsCovered declared (h x)) (ps ++ us)
            (λ x at. keeps.covers x at (of_all (IsCovered declared) (ps ++ us) x sound.covered at))));
        fit = subst (Pairs Fit) e
            (pairs_map h Fit (ps ++ us) (pairs_within Fit (λ x y. Fit (h x) (h y)) (ps ++ us) keeps.fits sound.fit));
        apart = pairs_map h AreApart us
            (pairs_within (λ x y. Fit x y × AreApart x y) (λ x y. AreApart (h x) (h y)) us
            (λ x y at bt r. keeps.aparts x y at bt r.0 r.1)
            (pairs_both Fit AreApart us (pairs_second Fit ps us sound.fit) sound.apart));
        undo = sound.undo;
        owners = to_all (IsOwner (map h ps ++ map h us)) changes (λ change at.
            let o = of_all (IsOwner (ps ++ us)) changes change sound.owners at in
            record {
              by = h o.by;
              at = subst (In (h o.by)) e (to_map h (ps ++ us) o.by o.at);
              tx = keeps.same o.by o.at ∙ o.tx;
              held = keeps.owns o.by o.at change.table o.held;
            });
        wide = sound.wide;
        before = sound.before;
      }

-- ---- a statement is made, by the last one

all_last : {X : Type 0} (P : X → Type 0) (xs : List X) (x y : X) → (P x → P y) → AllByRecursion P (xs ++ x ∷ [])
    → AllByRecursion P (xs ++ y ∷ [])
all_last P [] x y f all = (f all.0, tt)
all_last P (z ∷ xs) x y f all = (all.0, all_last P xs x y f all.1)

pairs_last : {X : Type 0} (R : X → X → Type 0) (xs : List X) (x y : X) → ((z : X) → R z x → R z y)
    → Pairs R (xs ++ x ∷ []) → Pairs R (xs ++ y ∷ [])
pairs_last R [] x y f pairs = (tt, tt)
pairs_last R (z ∷ xs) x y f pairs = (all_last (R z) xs x y (f z) pairs.0, pairs_last R xs x y f pairs.1)

-- the first of some tables, where there is one, is owned
abbrev pub OwnsFirst : List Use → List ℕ → Type 0
OwnsFirst uses [] = Unit {0}
OwnsFirst uses (table ∷ more) = is_owned uses table ≡ true

-- what the next history has to keep where a statement changes this table
pub record Makes (declared : List Create) (x next : History) (tables new : Tables) (table : List ℕ)
    (removed added : List (List Value)) : Type 0 where
  pub tables_are : with_change table removed added tables ≡ new
  pub one : OwnsFirst x.member.uses table
  pub replays : (before : Database) → Replays declared x before (database_of declared tables)
      → Replays declared next before (database_of declared new)
  pub covers : IsCovered declared x → IsCovered declared next
  pub tx : next.member.tx ≡ x.member.tx
  pub group : next.member.group ≡ x.member.group
  pub uses : next.member.uses ≡ x.member.uses
  pub wide : AreWide declared new

put_noted : (tx : ℕ) (table : List ℕ) (removed added : List (List Value)) (tables : Tables) (changes : List Change)
    → put_back (noted tx table tables changes) (with_change table removed added tables) ≡ put_back changes tables
put_noted tx [] removed added tables changes = refl
put_noted tx (table ∷ more) removed added tables changes =
    ap (put_back changes) (set-set tables table _ (slice_index_or tables table set.empty)
    ∙ set-get_or tables table set.empty)

module _ (declared : List Create) (laws : Laws) (base : Database) (ps us : List History) (x next : History)
    (tables new : Tables) (changes : List Change) (table : List ℕ) (removed added : List (List Value))
    (sound : Sound declared base ps (us ++ x ∷ []) tables changes)
    (makes : Makes declared x next tables new table removed added) where
  same_apart : (z : History) → AreApart z x → AreApart z next
  same_apart z apart =
      subst (λ (held_uses : List Use). (number : ℕ)
      → (is_owned z.member.uses number ≡ true → is_used held_uses number ≡ false)
      × (is_owned held_uses number ≡ true → is_used z.member.uses number ≡ false)) (sym makes.uses) apart

  same_fit : (z : History) → Fit z x → Fit z next
  same_fit z fit =
      record {
        distinct = λ e. fit.distinct (e ∙ makes.tx);
        groups = λ d. same_apart z (fit.groups (λ e. d (e ∙ sym makes.group)));
      }

  e_old : ps ++ (us ++ x ∷ []) ≡ (ps ++ us) ++ x ∷ []
  e_old = sym (append_assoc ps us (x ∷ []))

  e_new : (ps ++ us) ++ next ∷ [] ≡ ps ++ (us ++ next ∷ [])
  e_new = append_assoc ps us (next ∷ [])

  owner_made : (change : Change) → IsOwner (ps ++ (us ++ x ∷ [])) change → IsOwner ((ps ++ us) ++ next ∷ []) change
  owner_made change o =
      elim (in_either (ps ++ us) (x ∷ []) o.by (subst (In o.by) e_old o.at)) [
        | inl a ↦ record { by = o.by; at = in_first (ps ++ us) (next ∷ []) o.by a; tx = o.tx; held = o.held }
        | inr b ↦ elim b [
          | inl same ↦
              record {
                by = next;
                at = in_second (ps ++ us) (next ∷ []) next (inl refl);
                tx = makes.tx ∙ ap (λ (y : History). y.member.tx) (sym same) ∙ o.tx;
                held = subst (λ (held_uses : List Use). is_owned held_uses change.table ≡ true)
                    (ap (λ (y : History). y.member.uses) same ∙ sym makes.uses) o.held;
              }
          | inr bad ↦ absurd bad
        ]
      ]

  owners_made : (tables_of : List ℕ) → OwnsFirst x.member.uses tables_of
      → AllByRecursion (IsOwner ((ps ++ us) ++ next ∷ [])) (noted x.member.tx tables_of tables changes)
  owners_made [] owns =
      to_all (IsOwner ((ps ++ us) ++ next ∷ [])) changes (λ change at.
      owner_made change (of_all (IsOwner (ps ++ (us ++ x ∷ []))) changes change sound.owners at))
  owners_made (number ∷ more) owns = (
    record {
      by = next;
      at = in_second (ps ++ us) (next ∷ []) next (inl refl);
      tx = makes.tx;
      held = subst (λ (held_uses : List Use). is_owned held_uses number ≡ true) (sym makes.uses) owns;
    },
    to_all (IsOwner ((ps ++ us) ++ next ∷ [])) changes (λ change at.
        owner_made change (of_all (IsOwner (ps ++ (us ++ x ∷ []))) changes change sound.owners at)),
  )

  before_made : (tables_of : List ℕ) → AllByRecursion (WasWide declared) (noted x.member.tx tables_of tables changes)
  before_made [] = sound.before
  before_made (number ∷ more) = (wide_at declared tables number sound.wide, sound.before)

  pub sound_made : Sound declared base ps (us ++ next ∷ []) new (noted x.member.tx table tables changes)
  sound_made =
      let parts = serial_parts declared laws ps (us ++ x ∷ []) base (database_of declared tables) sound.serial in
      let two = serial_parts declared laws us (x ∷ []) parts.0 (database_of declared tables) parts.2 in
      let own : Replays declared x two.0 (database_of declared tables) =
      subst (Replays declared x two.0) two.2.2 two.2.1 in
      record {
        serial = serial_joined declared laws ps (us ++ next ∷ []) base parts.0 (database_of declared new) parts.1
            (serial_joined declared laws us (next ∷ []) parts.0 two.0 (database_of declared new) two.1
            (database_of declared new, makes.replays two.0 own, refl));
        covered = subst (AllByRecursion (IsCovered declared)) e_new
            (all_last (IsCovered declared) (ps ++ us) x next makes.covers
            (subst (AllByRecursion (IsCovered declared)) e_old sound.covered));
        fit = subst (Pairs Fit) e_new
            (pairs_last Fit (ps ++ us) x next same_fit (subst (Pairs Fit) e_old sound.fit));
        apart = pairs_last AreApart us x next same_apart sound.apart;
        undo = ap (λ t. database_of declared (put_back (noted x.member.tx table tables changes) t))
            (sym makes.tables_are)
            ∙ ap (database_of declared) (put_noted x.member.tx table removed added tables changes) ∙ sound.undo;
        owners = subst (λ (all : List History).
            AllByRecursion (IsOwner all) (noted x.member.tx table tables changes)) e_new (owners_made table makes.one);
        wide = makes.wide;
        before = before_made table;
      }
