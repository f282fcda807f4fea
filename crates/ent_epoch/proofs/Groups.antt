-- Groups that are made one after the other.
use Rattle.std.proofs.Common.{◌≡◌, ℕ, suc, refl, All, List, [], ◌∷◌, ◌++◌, length, sym, ap, subst, ◌∙◌, append_assoc}
use Rattle.std.proofs.Common.{append-nil}
use Rattle.std.specs.Arc.{arc_value}
use Rattle.std.specs.declared.sync.Arc.{Arc}
use Rattle.std.proofs.lemmas.List.{length-map}
use Rattle.std.proofs.lemmas.List.Elements.{All-cons, All-nil}
use Rattle.ent_rel.specs.Relation.{Relation}
use Rattle.ent_tree.specs.declared.declaration.Opening.{Opening}
use Rattle.ent_semantics.specs.Form.{Tables}
use Rattle.ent_semantics.specs.declared.book.Entry.{Entry}
use Rattle.ent_feed.specs.declared.group.Group.{Group}
use Rattle.ent_feed.specs.Tables.{rows_in}
use Rattle.ent_epoch.specs.Notes.{Note}
use Rattle.ent_epoch.specs.Publishing.{AreGroupsOf, IsGroupOf}

module _ (tickets : List ℕ) (opening : Opening) (journal : List Entry) (before : Tables) (notes : List Note) where
  -- with groups of the notes that are left, those that are made are groups of all
  abbrev pub AreBegun : Tables → List Note → List Group → Type 0
  AreBegun tables left groups =
      (rest : List Group) → AreGroupsOf tickets opening journal tables left rest
      → AreGroupsOf tickets opening journal before notes (groups ++ rest)

  pub one_more : (tables behind : Tables) (left more : List Note) (note : Note) (groups pushed : List Group)
      (group : Group) → left ≡ note ∷ more → pushed ≡ groups ++ group ∷ [] → behind ≡ note.tables
      → IsGroupOf tickets opening journal tables note group → AreBegun tables left groups
      → AreBegun behind more pushed
  one_more tables behind left more note groups pushed group is put same of begun rest others =
      let made : AreGroupsOf tickets opening journal tables (note ∷ more) (group ∷ rest) =
      (of, subst (λ (t : Tables). AreGroupsOf tickets opening journal t more rest) same others) in
      subst (λ (all : List Group). AreGroupsOf tickets opening journal before notes all)
      (sym (ap (λ front. front ++ rest) put ∙ append_assoc groups (group ∷ []) rest))
      (begun (group ∷ rest)
      (subst (λ (ns : List Note). AreGroupsOf tickets opening journal tables ns (group ∷ rest)) (sym is) made))

  pub all_made : (tables : Tables) (left : List Note) (groups : List Group) → left ≡ [] → AreBegun tables left groups
      → AreGroupsOf tickets opening journal before notes groups
  all_made tables left groups none begun =
      subst (λ (all : List Group). AreGroupsOf tickets opening journal before notes all) (append-nil groups)
      (begun [] (subst (λ (ns : List Note). AreGroupsOf tickets opening journal tables ns []) (sym none) tt))

-- no ticket ended otherwise in them
pub none_ended : (tickets : List ℕ) (opening : Opening) (journal : List Entry) (before : Tables) (notes : List Note)
    (groups : List Group) → AreGroupsOf tickets opening journal before notes groups
    → All (λ (group : Group). group.ended ≡ []) groups
none_ended tickets opening journal before [] [] of = All-nil (λ (group : Group). group.ended ≡ [])
none_ended tickets opening journal before [] (group ∷ groups) of = absurd of
none_ended tickets opening journal before (note ∷ notes) [] of = absurd of
none_ended tickets opening journal before (note ∷ notes) (group ∷ groups) of =
    All-cons (λ (group : Group). group.ended ≡ []) group groups of.0.ended
    (none_ended tickets opening journal note.tables notes groups of.1)

-- as many groups as notes
pub as_many : (tickets : List ℕ) (opening : Opening) (journal : List Entry) (before : Tables) (notes : List Note)
    (groups : List Group) → AreGroupsOf tickets opening journal before notes groups → length groups ≡ length notes
as_many tickets opening journal before [] [] of = refl
as_many tickets opening journal before [] (group ∷ groups) of = absurd of
as_many tickets opening journal before (note ∷ notes) [] of = absurd of
as_many tickets opening journal before (note ∷ notes) (group ∷ groups) of =
    ap suc (as_many tickets opening journal note.tables notes groups of.1)

-- as many tables as rows of them
pub same_length : {Z : Type 0} (tables : List (Arc Relation Z)) (rows : Tables) → rows_in tables ≡ rows
    → length tables ≡ length rows
same_length {Z} tables rows is =
    sym (length-map tables (λ (table : Arc Relation Z). (arc_value table).rows)) ∙ ap length is
