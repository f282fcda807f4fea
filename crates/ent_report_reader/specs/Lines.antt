-- Lines in front of a text.
use Rattle.std.specs.Prelude.{◌≡◌, ◌≤◌, ◌⊎◌, ℕ, true, List, ◌++◌}
use Rattle.std.specs.List.{list_all}
use Rattle.ent_text.specs.Spelling.{is_in_line}
use Rattle.ent_book.specs.Report.{line}
use Rattle.ent_book.specs.Report2.{line_count}
use Rattle.ent_history.specs.Begins.{HasWholeLines}

-- the text is this line, and what stands behind it
pub record IsFirstLine (text first behind : List ℕ) : Type 0 where
  pub parts : text ≡ line first ++ behind
  pub in_line : list_all is_in_line first ≡ true

-- the text is these whole lines, at most so many, and what stands behind them; fewer only where no more are ended
pub record AreFrontLines (text : List ℕ) (most : ℕ) (front behind : List ℕ) : Type 0 where
  pub parts : text ≡ front ++ behind
  pub whole : HasWholeLines front
  pub few : line_count front ≤ most
  pub all : (line_count front ≡ most) ⊎ (line_count behind ≡ 0)
