-- Whole lines in front of a text of lines are the first of them.
use Rattle.std.proofs.Common.{◌≡◌, ◌≢◌, ℕ, Bool, true, false, List, [], ◌∷◌, ◌++◌, refl, ap, sym, ◌∙◌, append_assoc}
use Rattle.std.proofs.Common.{inl, inr, subst, ◌&&◌}
use Rattle.std.specs.List.{list_all, flat_map}
use Rattle.std.proofs.lemmas.List.{append-nil}
use Rattle.ent_tree.specs.declared.script.Statement.{Statement}
use Rattle.ent_book.specs.Report.{line}
use Rattle.ent_text.specs.Spelling.{is_in_line}
use Rattle.ent_history.specs.Begins.{HasWholeLines}
use Rattle.ent_history.proofs.InLine.{IsInLine}
use Rattle.ent_history.proofs.Lines.{IsLine, line_text, AreReadable, statement_is_line}

-- LF is in no line
pub not_end : (c : ℕ) (cs : List ℕ) → IsInLine (c ∷ cs) → c ≡ 10 → ⊥
not_end c cs h e = from (subst (λ (d : ℕ). IsInLine (d ∷ cs)) e h)
  where
    from : IsInLine (10 ∷ cs) → ⊥
    from k = absurd cc

pub tail_in_line : (c : ℕ) (cs : List ℕ) → IsInLine (c ∷ cs) → IsInLine cs
tail_in_line c cs h = from (is_in_line c) h
  where
    from : (test : Bool) → (test && list_all is_in_line cs) ≡ true → list_all is_in_line cs ≡ true
    from true k = k
    from false k = absurd cc

-- a line that whole lines begin with is their first
pub peel : (read front missing more : List ℕ) → IsInLine front → line read ++ missing ≡ line front ++ more
    → (rest : List ℕ) × (line read ≡ line front ++ rest) × HasWholeLines rest × (rest ++ missing ≡ more)
peel [] [] missing more h e = ([], refl, inl refl, cc)
peel [] (a ∷ front) missing more h e = absurd (not_end a front h cc)
peel (c ∷ read) [] missing more h e =
    let is : c ≡ 10 = cc in
    (line read, ap (λ (d : ℕ). d ∷ line read) is, inr (read, refl), cc)
peel (c ∷ read) (a ∷ front) missing more h e =
    let is : c ≡ a = cc in
    let found = peel read front missing more (tail_in_line a front h) cc in
    let same = found.1 in
    (found.0, cc, found.2, found.3)

-- in front of the lines of statements and one more line, of which something is missing
pub cut : (xs : List Statement) (last lines missing : List ℕ) → AreReadable xs → IsLine last → missing ≢ []
    → HasWholeLines lines → lines ++ missing ≡ flat_map line_text xs ++ last
    → (ys zs : List Statement) × (xs ≡ ys ++ zs) × (lines ≡ flat_map line_text ys)
cut xs last lines missing h end some (inl none) e = ([], xs, refl, none)
cut [] last lines missing h end some (inr read) e =
    let both : line read.0 ++ missing ≡ line end.front ++ [] =
    ap (λ (l : List ℕ). l ++ missing) (sym read.1) ∙ (e ∙ (end.is ∙ sym (append-nil (line end.front)))) in
    let found = peel read.0 end.front missing [] end.in_line both in
    absurd (some (nothing found.0 missing found.3))
  where
    nothing : (xs ys : List ℕ) → xs ++ ys ≡ [] → ys ≡ []
    nothing [] ys k = k
    nothing (x ∷ xs) ys k = absurd cc
cut (x ∷ xs) last lines missing h end some (inr read) e =
    let this = statement_is_line x h.0 in
    let more = flat_map line_text xs in
    let both : line read.0 ++ missing ≡ line this.front ++ (more ++ last) =
    ap (λ (l : List ℕ). l ++ missing) (sym read.1) ∙ (e ∙ (append_assoc (line_text x) more last
    ∙ ap (λ (l : List ℕ). l ++ (more ++ last)) this.is)) in
    let found = peel read.0 this.front missing (more ++ last) this.in_line both in
    let rest = cut xs last found.0 missing h.1 end some found.2 found.3 in (
      x ∷ rest.0,
      rest.1,
      ap (λ (l : List Statement). x ∷ l) rest.2,
      read.1 ∙ (found.1 ∙ (ap (λ (l : List ℕ). l ++ found.0) (sym this.is)
          ∙ ap (λ (l : List ℕ). line_text x ++ l) rest.3)),
    )
