-- A text that is written piece by piece.
use Rattle.std.proofs.Common.{◌≡◌, ℕ, List, [], ◌++◌, take, drop, Option, refl, sym, ap, ◌∙◌, append_assoc}
use Rattle.std.proofs.lemmas.List.{take-append-drop}
use Rattle.std.proofs.KnownBytes.{Appends-nil, Appends-trans}
use Rattle.std.specs.Io.KnownBytes.{Appends}

-- a text and a beginning of it that went out, the rest of it being known
pub record Written (old new : Option (List ℕ)) (text rest : List ℕ) : Type 0 where
  pub front : List ℕ
  pub whole : text ≡ front ++ rest
  pub out : Appends old new front

pub nothing_written : (old : Option (List ℕ)) (text : List ℕ) → Written old old text text
nothing_written old text = record { front = []; whole = refl; out = Appends-nil old }

pub wrote_more : (old mid new : Option (List ℕ)) (text rest next : List ℕ) (count : ℕ)
    → next ≡ drop count rest
    → Written old mid text rest
    → Appends mid new (take count rest)
    → Written old new text next
wrote_more old mid new text rest next count is before more = record {
  front = before.front ++ take count rest;
  whole =
      before.whole
      ∙ ap (λ (y : List ℕ). before.front ++ y) (sym (take-append-drop count rest))
      ∙ sym (append_assoc before.front (take count rest) (drop count rest))
      ∙ ap (λ (y : List ℕ). (before.front ++ take count rest) ++ y) (sym is);
  out = Appends-trans old mid new before.front (take count rest) before.out more;
}
