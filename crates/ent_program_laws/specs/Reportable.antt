-- Books whose version 2 report can be read again: over what an input can say, run until each script has its fate.
use Rattle.std.specs.Prelude.{◌≡◌, ◌≤◌, ◌<◌, ℕ, length, map, AllPairs, Contains, None}
use Rattle.std.specs.List.{AllByRecursion, range_with_len}
use Rattle.ent_tree.specs.declared.limits.TheConstants.{MOST_RUNS, MOST_SCRIPTS}
use Rattle.ent_form.specs.OpeningFault.{opening_fault}
use Rattle.ent_semantics.specs.declared.book.Book.{Book}
use Rattle.ent_semantics.specs.declared.book.Fate.{Fate}
use Rattle.ent_semantics.specs.declared.book.Fate.TheVariants as fates
use Rattle.ent_semantics.specs.declared.book.JointAnswer.{JointAnswer}
use Rattle.ent_semantics.specs.declared.book.Member.{Member}
use Rattle.ent_semantics.specs.Database.{Database}
use Rattle.ent_book.specs.Report2.{report_2_text}
use Rattle.ent_program_laws.specs.Answered.{CanRun}
use Rattle.ent_report_laws.specs.Read.{IsOpeningRead}

-- in how many runs a transaction took part
abbrev pub runs_of : Fate → ℕ
runs_of (fates.Committed number runs) = runs
runs_of (fates.GaveUp runs) = runs
runs_of (fates.RolledBack runs) = runs
runs_of (fates.Failed failure runs) = runs

-- a fate counts one run at least, and no more than so many
abbrev pub CountsRuns : ℕ → Fate → Type 0
CountsRuns most fate = (1 ≤ runs_of fate) × (runs_of fate ≤ most)

pub record CanBeReported (book : Book Database) : Type 0 where
  -- an opening and scripts such as an input has, without a fault of form
  pub opening : IsOpeningRead book.opening
  pub faultless : opening_fault book.opening ≡ None
  pub few : length book.scripts ≤ MOST_SCRIPTS
  pub scripts : AllByRecursion (CanRun book.opening.tables) book.scripts
  -- a fate for each script, by number from 1, after 1 to 1,000 runs
  pub fates : map (λ fated. fated.tx) book.fates ≡ range_with_len 1 (length book.scripts)
  pub runs : AllByRecursion (λ fated. CountsRuns MOST_RUNS fated.fate) book.fates
  -- each joint answer names its members by number
  pub rising : (joint : JointAnswer) → Contains book.joint_answers joint
      → AllPairs (λ (first second : Member). first.tx < second.tx) joint.members
  -- No more bytes than a report has that is checked. A SELECT over four full tables can answer more rows than a line of
  -- a report can say.
  pub short : length (report_2_text book) ≤ 1099511627776
