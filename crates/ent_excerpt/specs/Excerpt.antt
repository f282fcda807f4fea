-- What is shown of a line.
use Rattle.std.specs.Prelude.{◌≡◌, ◌+◌, ◌↔◌, ◌<◌, ◌≤◌, ℕ, List, IsTrue, false}
use Rattle.ent_excerpt.specs.Part.{IsEndOf, IsBeginningOf, width}
use Rattle.ent_excerpt.specs.Line.{IsLineAt}
use Rattle.ent_excerpt.specs.declared.excerpt.Excerpt.{Excerpt}

-- The end of what stands before a place in its line, and the beginning of what stands from there on. It is told whether
-- these are all, and they are where the line takes at most 100 columns.
pub record IsExcerptOf (before behind : List ℕ) (excerpt : Excerpt) : Type 0 where
  pub end_of : IsEndOf before excerpt.before.now
  pub beginning_of : IsBeginningOf behind excerpt.behind.now
  pub all_before : IsTrue excerpt.is_cut_before ↔ ¬ (excerpt.before.now ≡ before)
  pub all_behind : IsTrue excerpt.is_cut_behind ↔ ¬ (excerpt.behind.now ≡ behind)
  pub short : width before + width behind ≤ 100
      → (excerpt.is_cut_before ≡ false) × (excerpt.is_cut_behind ≡ false)
  pub marked : 0 < excerpt.carets

-- an excerpt of the line that holds the place at this offset
pub record IsExcerptAt (text : List ℕ) (offset : ℕ) (excerpt : Excerpt) : Type 0 where
  pub before : List ℕ
  pub behind : List ℕ
  pub around : IsLineAt text offset before behind
  pub shown : IsExcerptOf before behind excerpt
