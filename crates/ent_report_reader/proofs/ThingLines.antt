-- The lines of all things that are told, piece by piece.
use Rattle.std.proofs.Common.{◌≡◌, ◌≢◌, ◌⊎◌, ◌<◌, ◌+◌, ◌-◌, ℕ, List, [], ◌∷◌, ◌++◌, length, map, take, refl, sym, ap}
use Rattle.std.proofs.Common.{◌∙◌}
use Rattle.std.proofs.Common.{arith, inl, inr, subst, Option, Some, None, Contains, length-append}
use Rattle.std.proofs.Common.{slice_index_or}
use Rattle.std.specs.List.{AllByRecursion}
use Rattle.std.specs.Prelude.{IfNone, IfSome}
use Rattle.std.proofs.lemmas.Option.{same_Some}
use Rattle.ent_lists.specs.Elements.{In, all_joined, contains_in, in_contains, in_first, in_second, nth_in, of_all}
use Rattle.ent_lists.specs.Elements.{of_map}
use Rattle.ent_book.specs.Report2.{line_count}
use Rattle.ent_history.specs.declared.finding.Thing.{Thing}
use Rattle.ent_history.specs.declared.finding.Thing.TheVariants as things
use Rattle.ent_history.specs.declared.history.History.{History}
use Rattle.ent_history.specs.Draft.{Draft, blank, last_of}
use Rattle.ent_history.specs.declared.history.ToldJoint.{ToldJoint}
use Rattle.ent_history.specs.Stands.{whole}
use Rattle.ent_history.proofs.Lines.{count_append}
use Rattle.ent_report_reader.specs.Located.{AreLinesOf, Begins, StandsAt, TellsOf, begun, counts_of, located_behind}
use Rattle.ent_report_reader.specs.Located.{members_so_far}
use Rattle.ent_report_reader.specs.Reports.{StandsUpTo}
use Rattle.ent_report_reader.specs.Steps.{TakesPiece}
use Rattle.ent_report_reader.specs.declared.located.Counts.{Counts}
use Rattle.ent_report_reader.specs.declared.located.Located.{Located}
use Rattle.ent_report_reader.proofs.Begun.{Noted, noted}
use Rattle.ent_report_reader.proofs.Begun as noting
use Rattle.ent_report_reader.proofs.Ends.{last_none}
use Rattle.ent_report_reader.proofs.Fronts.{cut_at, take_front}
use Rattle.ent_report_reader.proofs.Whole.{up_to_next}

-- ---- how many lines stand in front

pub counted_above : (text front rest bytes : List ℕ) (at count : ℕ) → text ≡ front ++ rest → bytes ≡ text
    → at ≡ length text - length rest → count ≡ line_count (take at bytes)
    → count + line_count rest ≡ line_count text
counted_above text front rest bytes at count is same cut counted =
    let long : at + length rest ≡ length text =
    omega (arith, cut, ap length is, length-append front rest) in
    let here = cut_at text front rest at is long in
    let first : take at bytes ≡ front = (λ i. take (here i) ((same ∙ is) i)) ∙ take_front front rest in
    let parts = count_append front rest in
    omega (arith, counted, ap line_count first, ap line_count is, parts)

-- the line behind those that stand above
above_counted : (text above rest : List ℕ) (line : ℕ) → text ≡ above ++ rest
    → line + line_count rest ≡ line_count text + 1 → line ≡ line_count above + 1
above_counted text above rest line is counted =
    let parts = count_append above rest in omega (arith, counted, parts, ap line_count is)

-- ---- before the first line

pub none_told : (text : List ℕ) → AreLinesOf text blank.told []
none_told text = record { each = tt; all = λ thing is. absurd (no_thing thing is) }
  where
    no_thing : (thing : Thing) → TellsOf blank.told thing → ⊥
    no_thing (things.Transaction tx) is = omega (arith, is.0, is.1)
    no_thing (things.Answer tx place) is = omega (arith, is.1, is.2)
    no_thing (things.Joint joint) is = omega (arith, is.0, is.1)
    no_thing (things.Member joint member) is = omega (arith, is.1, is.2)
    no_thing (things.Table table) is = omega (arith, is.0, is.1)

-- ---- with one line more

abbrev thing_of : Located → Thing
thing_of located = located.thing

things_behind : (lines : List Located) (one : Located) → map thing_of (lines ++ one ∷ [])
    ≡ map thing_of lines ++ one.thing ∷ []
things_behind [] one = refl
things_behind (first ∷ lines) one = ap (λ more. first.thing ∷ more) (things_behind lines one)

module _ (text : List ℕ) (draft next : Draft) (rest behind : List ℕ) (lines : List Located) (line : ℕ)
    (up_to : StandsUpTo text draft rest) (takes : TakesPiece draft next rest behind)
    (counted : line + line_count rest ≡ line_count text + 1) (are : AreLinesOf text draft.told lines) where
  stands_here : (thing : Thing) → Begins thing draft takes.piece next → StandsAt text thing line
  stands_here thing begins = record {
    above = up_to.pieces;
    own = takes.piece;
    below = behind;
    before = draft;
    after = next;
    parts = up_to.parts ∙ ap (λ r. whole up_to.pieces ++ r) takes.parts;
    stand = up_to.stand;
    begins = begins;
    line_is = above_counted text (whole up_to.pieces) rest line up_to.parts counted;
  }

  with_thing : (thing : Thing) → Begins thing draft takes.piece next
      → ((other : Thing) → TellsOf next.told other → TellsOf draft.told other ⊎ (other ≡ thing))
      → AreLinesOf text next.told (lines ++ record { thing = thing; line = line } ∷ [])
  with_thing thing begins only = record {
    each = all_joined (λ located. StandsAt text located.thing located.line) lines (one ∷ []) are.each
        (stands_here thing begins, tt);
    all = λ other told.
        subst (λ all. Contains all other) (sym (things_behind lines one))
        (in_contains (map thing_of lines ++ thing ∷ []) other (among other (only other told)));
  }
    where
      one : Located
      one = record { thing = thing; line = line }

      among : (other : Thing) → TellsOf draft.told other ⊎ (other ≡ thing) → In other (map thing_of lines ++ thing ∷ [])
      among other (inl was) =
          in_first (map thing_of lines) (thing ∷ []) other (contains_in (map thing_of lines) other (are.all other was))
      among other (inr same) = in_second (map thing_of lines) (thing ∷ []) other (inl same)

  lines_by : Noted draft takes.piece next
      → AreLinesOf text next.told (located_behind lines (begun (counts_of draft.told) (counts_of next.told)) line)
  lines_by (noting.Nothing none stays) =
      subst (λ found. AreLinesOf text next.told (located_behind lines found line)) (sym none)
      (record { each = are.each; all = λ thing told. are.all thing (stays thing told) })
  lines_by (noting.Begun thing found begins only) =
      subst (λ found. AreLinesOf text next.told (located_behind lines found line)) (sym found)
      (with_thing thing begins only)

  pub lines_next : AreLinesOf text next.told
      (located_behind lines (begun (counts_of draft.told) (counts_of next.told)) line)
  lines_next = lines_by (noted draft takes.piece next takes.stands)

-- what is known behind a piece
abbrev pub AreNoted : List ℕ → Draft → List ℕ → List Located → ℕ → Counts → Type 0
AreNoted text draft rest lines line told =
    StandsUpTo text draft rest × AreLinesOf text draft.told lines × (line + line_count rest ≡ line_count text + 1)
    × (told ≡ counts_of draft.told)

pub noted_next : (text : List ℕ) (draft next : Draft) (rest behind : List ℕ) (lines more : List Located)
    (line between : ℕ) (told now : Counts) → AreNoted text draft rest lines line told
    → TakesPiece draft next rest behind → now ≡ counts_of next.told
    → more ≡ located_behind lines (begun told now) line → between + line_count behind ≡ line_count rest
    → AreNoted text next behind more (line + between) now
noted_next text draft next rest behind lines more line between told now are takes counts is counted = (
  up_to_next text draft next rest behind are.0 takes,
  subst (λ (all : List Located). AreLinesOf text next.told all)
      (sym (is ∙ (λ i. located_behind lines (begun (are.3 i) (counts i)) line)))
      (lines_next text draft next rest behind lines line are.0 takes are.2 are.1),
  omega (arith, are.2, counted),
  counts,
)

-- ---- what is looked up

pub found_here : (lines : List Located) (thing : Thing) (k : ℕ) (other : Located) → k < length lines
    → (slice_index_or lines k other).thing ≡ thing
    → In (record { thing = thing; line = (slice_index_or lines k other).line }) lines
found_here lines thing k other here same =
    subst (λ (t : Thing). In (record { thing = t; line = (slice_index_or lines k other).line }) lines) same
    (nth_in lines k other here)

pub line_found : (text : List ℕ) (history : History) (lines : List Located) (thing : Thing) (found : Option ℕ)
    → AreLinesOf text history lines → TellsOf history thing
    → IfSome found (λ line. In (record { thing = thing; line = line }) lines)
    → IfNone found (AllByRecursion (λ located. located.thing ≢ thing) lines)
    → (line : ℕ) × (found ≡ Some line) × StandsAt text thing line
line_found text history lines thing (Some line) are told some none = (
  line,
  refl,
  of_all (λ located. StandsAt text located.thing located.line) lines (record { thing = thing; line = line }) are.each
      some,
)
line_found text history lines thing None are told some none =
    let there = of_map thing_of lines thing (contains_in (map thing_of lines) thing (are.all thing told)) in
    absurd (of_all (λ located. located.thing ≢ thing) lines there.0 none there.1 (sym there.2))

-- ---- the last joint answer

pub members_so_far_last : (joints : List ToldJoint) (joint : ToldJoint) → last_of joints ≡ Some joint
    → length joint.members ≡ members_so_far joints
members_so_far_last [] joint h = cc
members_so_far_last (one ∷ []) joint h = ap (λ j. length j.members) (sym (same_Some one joint h))
members_so_far_last (one ∷ next ∷ more) joint h = members_so_far_last (next ∷ more) joint h

pub members_so_far_none : (joints : List ToldJoint) → last_of joints ≡ None → members_so_far joints ≡ 0
members_so_far_none joints h = ap members_so_far (last_none joints h)
