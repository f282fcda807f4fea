-- A thing stands at one line of a text only.
use Rattle.std.proofs.Common.{◌≡◌, ℕ, ◌+◌, List, [], ◌∷◌, ◌++◌, refl, sym, ap, ◌∙◌, subst, append_assoc}
use Rattle.ent_book.specs.Report2.{line_count}
use Rattle.ent_history.specs.Draft.{Draft, blank}
use Rattle.ent_history.specs.Stands.{AllStand, Stands, whole}
use Rattle.ent_history.specs.Stands as stands
use Rattle.ent_history.specs.declared.finding.Thing.{Thing}
use Rattle.ent_history.specs.declared.finding.Thing.TheVariants as things
use Rattle.ent_report_reader.specs.Located.{Begins, StandsAt, TellsOf}
use Rattle.ent_report_reader.proofs.Begun.{is_new, is_told, stays}
use Rattle.ent_history.proofs.BreaksOff.{same_behind}
use Rattle.ent_program_laws.proofs.Known.{Known}
use Rattle.ent_program_laws.proofs.Steps.{one_step}

-- the line with which a thing begins can stand there
begun_stands : (thing : Thing) (draft : Draft) (text : List ℕ) (next : Draft) → Begins thing draft text next
    → Stands draft text next
begun_stands (things.Transaction tx) draft text next begins = stands.Tx begins.0
begun_stands (things.Answer tx place) draft text next begins = stands.Answer begins.0
begun_stands (things.Joint joint) draft text next begins = stands.Joint begins.0
begun_stands (things.Member joint member) draft text next begins = stands.Member begins.0
begun_stands (things.Table table) draft text next begins = stands.Table begins.0

module _ (known : Known) (thing : Thing) where
  -- what is told stays told
  told_on : (pieces : List (List ℕ)) (draft next : Draft) → AllStand draft pieces next → TellsOf draft.told thing
      → TellsOf next.told thing
  told_on [] draft next stand told = subst (λ (d : Draft). TellsOf d.told thing) stand told
  told_on (piece ∷ more) draft next stand told =
      told_on more stand.0 next stand.2 (stays draft piece stand.0 stand.1 thing told)

  -- where it begins first, it doesn't begin further down
  not_later : (draft between before after next : Draft) (own piece mine x y : List ℕ) (more : List (List ℕ))
      → Begins thing draft own after → Stands draft piece between → AllStand between more before
      → Begins thing before mine next → own ++ x ≡ piece ++ y → ⊥
  not_later draft between before after next own piece mine x y more begins stand behind again parts =
      let same = one_step known draft own piece x y after between (begun_stands thing draft own after begins) stand
      parts in
      is_new before mine next thing again
      (told_on more between before behind
      (subst (λ (d : Draft). TellsOf d.told thing) same.draft (is_told draft own after thing begins)))

  same_above : (draft before final after next : Draft) (one other : List (List ℕ)) (own mine x y : List ℕ)
      → AllStand draft one before → AllStand draft other final → Begins thing before own after
      → Begins thing final mine next → whole one ++ (own ++ x) ≡ whole other ++ (mine ++ y) → one ≡ other
  same_above draft before final after next [] [] own mine x y s o b d e = refl
  same_above draft before final after next [] (piece ∷ other) own mine x y s o b d e =
      absurd (not_later draft o.0 final after next own piece mine x (whole other ++ (mine ++ y)) other
      (subst (λ (f : Draft). Begins thing f own after) (sym s) b) o.1 o.2 d
      (e ∙ append_assoc piece (whole other) (mine ++ y)))
  same_above draft before final after next (piece ∷ one) [] own mine x y s o b d e =
      absurd (not_later draft s.0 before next after mine piece own y (whole one ++ (own ++ x)) one
      (subst (λ (f : Draft). Begins thing f mine next) (sym o) d) s.1 s.2 b
      (sym e ∙ append_assoc piece (whole one) (own ++ x)))
  same_above draft before final after next (first ∷ one) (theirs ∷ other) own mine x y s o b d e =
      let v = whole one ++ (own ++ x) in
      let w = whole other ++ (mine ++ y) in
      let parted : first ++ v ≡ theirs ++ w =
      sym (append_assoc first (whole one) (own ++ x)) ∙ e ∙ append_assoc theirs (whole other) (mine ++ y) in
      let same = one_step known draft first theirs v w s.0 o.0 s.1 o.1 parted in
      let behind = same_behind first v w (parted ∙ ap (λ (t : List ℕ). t ++ w) (sym same.piece)) in
      let more = same_above s.0 before final after next one other own mine x y s.2
      (subst (λ (f : Draft). AllStand f other final) (sym same.draft) o.2) b d behind in
      λ i. same.piece i ∷ more i

pub stands_once : Known → (text : List ℕ) (thing : Thing) (one other : ℕ) → StandsAt text thing one
    → StandsAt text thing other → one ≡ other
stands_once known text thing one other s o =
    let same = same_above known thing blank s.before o.before s.after o.after s.above o.above s.own o.own
    s.below o.below
    s.stand o.stand s.begins o.begins (sym s.parts ∙ o.parts) in
    s.line_is ∙ ap (λ (pieces : List (List ℕ)). line_count (whole pieces) + 1) same ∙ sym o.line_is
