-- A whole text, piece by piece.
use Rattle.std.proofs.Common.{◌≡◌, ℕ, ◌+◌, ◌-◌, ◌≤◌, List, [], ◌∷◌, ◌++◌, length, refl, ap, sym, ◌∙◌, subst, inl, inr}
use Rattle.std.proofs.Common.{arith, append_assoc}
use Rattle.std.proofs.lemmas.List.{append-nil}
use Rattle.ent_book.specs.Report2.{line_count}
use Rattle.ent_history.specs.declared.history.History.{History}
use Rattle.ent_history.specs.Draft.{Draft, Ended, blank}
use Rattle.ent_history.specs.Scripts.{ScriptBreaksOff}
use Rattle.ent_history.specs.Stands.{AllStand, Stands, Tells, whole}
use Rattle.ent_history.specs.Fault.{HasFormFault, IsNoEnd, NothingStands}
use Rattle.ent_history.proofs.Lines.{count_append}
use Rattle.ent_report_reader.specs.Reports.{StandsUpTo, StopsAt}
use Rattle.ent_report_reader.specs.Steps.{TakesPiece}

-- ---- pieces

whole_more : (pieces : List (List ℕ)) (piece : List ℕ) → whole (pieces ++ piece ∷ []) ≡ whole pieces ++ piece
whole_more [] piece = append-nil piece
whole_more (first ∷ pieces) piece =
    ap (λ r. first ++ r) (whole_more pieces piece) ∙ sym (append_assoc first (whole pieces) piece)

one_more : (old between new : Draft) (pieces : List (List ℕ)) (piece : List ℕ) → AllStand old pieces between
    → Stands between piece new → AllStand old (pieces ++ piece ∷ []) new
one_more old between new [] piece same s = (new, subst (λ d. Stands d piece new) (sym same) s, refl)
one_more old between new (first ∷ pieces) piece stand s =
    (stand.0, stand.1, one_more stand.0 between new pieces piece stand.2 s)

pub up_to_first : (text : List ℕ) (draft : Draft) → draft ≡ blank → StandsUpTo text draft text
up_to_first text draft is = record { pieces = []; parts = refl; stand = sym is }

pub up_to_next : (text : List ℕ) (old new : Draft) (rest behind : List ℕ) → StandsUpTo text old rest
    → TakesPiece old new rest behind → StandsUpTo text new behind
up_to_next text old new rest behind up_to takes = record {
  pieces = up_to.pieces ++ takes.piece ∷ [];
  parts = up_to.parts ∙ ap (λ r. whole up_to.pieces ++ r) takes.parts
      ∙ sym (append_assoc (whole up_to.pieces) takes.piece behind)
      ∙ ap (λ w. w ++ behind) (sym (whole_more up_to.pieces takes.piece));
  stand = one_more blank old new up_to.pieces takes.piece up_to.stand takes.stands;
}

pub stops_at : (text : List ℕ) (old new : Draft) (rest : List ℕ) → StandsUpTo text old rest
    → NothingStands old rest → new ≡ old → StopsAt text new rest
stops_at text old new rest up_to nothing same =
    subst (λ d. StopsAt text d rest) (sym same) (record { up_to = up_to; nothing = nothing })

-- ---- the end

pub tells : (text : List ℕ) (draft : Draft) (rest : List ℕ) (history : History) → StopsAt text draft rest
    → draft.due ≡ Ended → length rest ≡ 0 → history ≡ draft.told → Tells text history
tells text draft rest history at ended none told_is =
    let up_to = at.up_to in
    let same : draft ≡ record { told = history; due = Ended } =
    λ i. record { told = sym told_is i; due = ended i } in (
      up_to.pieces,
      up_to.parts ∙ ap (λ r. whole up_to.pieces ++ r) (nothing rest none) ∙ append-nil (whole up_to.pieces),
      subst (λ d. AllStand blank up_to.pieces d) same up_to.stand,
    )
  where
    nothing : (xs : List ℕ) → length xs ≡ 0 → xs ≡ []
    nothing [] e = refl
    nothing (x ∷ xs) e = absurd (omega (arith, e))

pub breaks_at : (text : List ℕ) (draft : Draft) (rest : List ℕ) (number : ℕ) → StopsAt text draft rest
    → IsNoEnd draft rest → ScriptBreaksOff draft rest → number ≡ line_count text + 1 → HasFormFault text number
breaks_at text draft rest number at no_end breaks is = (
  record {
    pieces = at.up_to.pieces;
    rest = rest;
    draft = draft;
    parts = at.up_to.parts;
    stand = at.up_to.stand;
    no_end = no_end;
    nothing = at.nothing;
  },
  inl (breaks, is),
)

pub faulty_at : (text : List ℕ) (draft : Draft) (rest : List ℕ) (number : ℕ) → StopsAt text draft rest
    → IsNoEnd draft rest → (ScriptBreaksOff draft rest → ⊥) → number ≡ line_count text - line_count rest + 1
    → HasFormFault text number
faulty_at text draft rest number at no_end whole_script is = (
  record {
    pieces = at.up_to.pieces;
    rest = rest;
    draft = draft;
    parts = at.up_to.parts;
    stand = at.up_to.stand;
    no_end = no_end;
    nothing = at.nothing;
  },
  inr (
    whole_script,
    (let same = ap line_count at.up_to.parts in
        let parts = count_append (whole at.up_to.pieces) rest in omega (arith, is, same, parts)),
  ),
)

pub rest_counts : (text : List ℕ) (draft : Draft) (rest : List ℕ) → StopsAt text draft rest
    → line_count rest ≤ line_count text
rest_counts text draft rest at =
    let same = ap line_count at.up_to.parts in
    let parts = count_append (whole at.up_to.pieces) rest in omega (arith, same, parts)
