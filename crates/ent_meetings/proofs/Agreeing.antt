-- Tickets that a place of a pattern rules out.
use Rattle.std.proofs.Common.{◌≡◌, ◌≤◌, ◌<◌, ℕ, true, false, length, Option, None, Some, ⊎_elim, arith}
use Rattle.std.specs.Option.{MatchOption}
use Rattle.std.proofs.lemmas.Bool.{cases_lt, both_ways}
use Rattle.ent_meetings.specs.declared.pattern.Pattern.{Pattern}
use Rattle.ent_meetings.specs.Postings.{Agrees, Postings, agrees_at}

module _ (postings : Postings) (pattern : Pattern) where
  -- none of these tickets agrees
  abbrev pub NoneAgrees : ℕ → ℕ → Type 0
  NoneAgrees from first = (ticket : ℕ) → from ≤ ticket → ticket < first → Agrees postings pattern ticket → ⊥

  abbrev pub NoneFrom : ℕ → Type 0
  NoneFrom from = (ticket : ℕ) → from ≤ ticket → Agrees postings pattern ticket → ⊥

  module _ (place : ℕ) (asked : (ticket : ℕ) → Agrees postings pattern ticket
      → agrees_at postings pattern place ticket ≡ true)
      (from mid : ℕ) (before : NoneAgrees from mid) where
    pub none_from : ((ticket : ℕ) → mid ≤ ticket → agrees_at postings pattern place ticket ≡ false) → NoneFrom from
    none_from none ticket low agrees =
        ⊎_elim (λ early. before ticket low early agrees)
        (λ late. both_ways (agrees_at postings pattern place ticket) (none ticket late) (asked ticket agrees))
        (cases_lt ticket mid)

    pub none_before : (first : ℕ)
        → ((ticket : ℕ) → mid ≤ ticket → ticket < first → agrees_at postings pattern place ticket ≡ false)
        → NoneAgrees from first
    none_before first none ticket low below agrees =
        ⊎_elim (λ early. before ticket low early agrees)
        (λ late. both_ways (agrees_at postings pattern place ticket) (none ticket late below) (asked ticket agrees))
        (cases_lt ticket mid)

  pub behind : (from : ℕ) (found : Option ℕ)
      → MatchOption found
      ((ticket : ℕ) → from ≤ ticket → agrees_at postings pattern (length pattern.terms) ticket ≡ false)
      (λ first. (from ≤ first) × ((ticket : ℕ) → from ≤ ticket → ticket < first
      → agrees_at postings pattern (length pattern.terms) ticket ≡ false))
      → MatchOption found (NoneFrom from) (λ first. (from ≤ first) × NoneAgrees from first)
  behind from None none =
      none_from (length pattern.terms) (λ ticket agrees. agrees.behind) from from
      (λ ticket low early agrees. absurd (omega (arith, low, early))) none
  behind from (Some first) found = (
    found.0,
    none_before (length pattern.terms) (λ ticket agrees. agrees.behind) from from
        (λ ticket low early agrees. absurd (omega (arith, low, early))) first found.1,
  )
