-- Tables that are lent stand at their numbers.
use Rattle.std.proofs.Common.{◌≡◌, ◌≢◌, inl, inr, ℕ, zero, suc, List, [], ◌∷◌, map, refl, ap, ◌∙◌, subst}
use Rattle.std.specs.Prelude.{slice_index_or}
use Rattle.std.specs.List.{AllByRecursion}
use Rattle.ent_lists.specs.Sets as set
use Rattle.ent_semantics.specs.Database.{Rows}
use Rattle.ent_semantics.specs.Form.{Tables}
use Rattle.ent_tree.specs.declared.declaration.Create.{Create}
use Rattle.ent_protocol.specs.Job.{Numbered, laid, tables_of}
use Rattle.ent_protocol.specs.Member.{seen_now}
use Rattle.ent_protocol.specs.State.{Use}
use Rattle.ent_job.specs.Work.{StandAtNumbers}
use Rattle.ent_match.proofs.Marks.{same_or_not}

abbrev at : Tables → ℕ → Rows
at tables number = slice_index_or tables number set.empty

laid_at : (number : ℕ) (rows : Rows) (tables : Tables) → at (laid number rows tables) number ≡ rows
laid_at zero rows [] = refl
laid_at zero rows (other ∷ more) = refl
laid_at (suc number) rows [] = laid_at number rows []
laid_at (suc number) rows (other ∷ more) = laid_at number rows more

laid_beside : (number : ℕ) (rows : Rows) (tables : Tables) (other : ℕ) → number ≢ other
    → at (laid number rows tables) other ≡ at tables other
laid_beside zero rows [] zero apart = absurd (apart refl)
laid_beside zero rows [] (suc other) apart = refl
laid_beside zero rows (first ∷ more) zero apart = absurd (apart refl)
laid_beside zero rows (first ∷ more) (suc other) apart = refl
laid_beside (suc number) rows [] zero apart = refl
laid_beside (suc number) rows [] (suc other) apart = laid_beside number rows [] other (λ same. apart (ap suc same))
laid_beside (suc number) rows (first ∷ more) zero apart = refl
laid_beside (suc number) rows (first ∷ more) (suc other) apart =
    laid_beside number rows more other (λ same. apart (ap suc same))

module _ (declared : List Create) (tables : Tables) where
  abbrev lent : List Use → List Numbered
  lent uses = seen_now declared tables uses

  -- the rows of a number are those that stand there
  abbrev Stands : List Use → Use → Type 0
  Stands uses own = at (tables_of (lent uses)) own.table ≡ at tables own.table

  stands_first : (first : Use) (uses : List Use) → Stands (first ∷ uses) first
  stands_first first uses = laid_at first.table (at tables first.table) (tables_of (lent uses))

  stands_more : (first : Use) (uses : List Use) (own : Use) → Stands uses own → Stands (first ∷ uses) own
  stands_more first uses own stands =
      elim (same_or_not first.table own.table) [
        | inl same ↦ subst (λ n. at (laid first.table (at tables first.table) (tables_of (lent uses))) n ≡ at tables n)
            same (stands_first first uses)
        | inr apart ↦ laid_beside first.table (at tables first.table) (tables_of (lent uses)) own.table apart ∙ stands
      ]

  weaker : {P Q : Use → Type 0} → ((own : Use) → P own → Q own) → (uses : List Use) → AllByRecursion P uses
      → AllByRecursion Q uses
  weaker each [] all = tt
  weaker each (own ∷ more) all = (each own all.0, weaker each more all.1)

  all_stand : (uses : List Use) → AllByRecursion (Stands uses) uses
  all_stand [] = tt
  all_stand (first ∷ uses) =
      let more = weaker {P = Stands uses} {Q = Stands (first ∷ uses)} (stands_more first uses) uses (all_stand uses) in
      (stands_first first uses, more)

  same_rows : (among uses : List Use) → AllByRecursion (Stands among) uses
      → map (λ (seen : Numbered). at (tables_of (lent among)) seen.table) (lent uses)
      ≡ map (λ (seen : Numbered). seen.rows) (lent uses)
  same_rows among [] all = refl
  same_rows among (own ∷ more) all = λ i. all.0 i ∷ same_rows among more all.1 i

  pub lent_stand : (uses : List Use) → StandAtNumbers (seen_now declared tables uses)
  lent_stand uses = same_rows uses uses (all_stand uses)
