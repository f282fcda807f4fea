-- The postings of an index after somebody comes or goes.
use Rattle.std.proofs.Common.{◌≡◌, ℕ, Bool, true, false, not, ◌||◌, ◌&&◌, ◌==◌, cond, List, Option, None, Some, sym, ap}
use Rattle.std.proofs.Common.{◌∙◌}
use Rattle.std.proofs.Common.{refl, ⊎_elim, eq-eqb, subst}
use Rattle.std.specs.BTreeMap.{is_at}
use Rattle.std.specs.Option.{option_map_or}
use Rattle.std.specs.Ordering.{nat_cmp}
use Rattle.std.proofs.lemmas.Bool.{cases_eq, ne_eqb}
use Rattle.ent_lists.proofs.Numbers.{cmp_equal}
use Rattle.ent_meetings.specs.declared.party.Party.{Party}
use Rattle.ent_meetings.specs.declared.pattern.Pattern.{Pattern}
use Rattle.ent_meetings.specs.Keys.{have_key}
use Rattle.ent_meetings.specs.Postings.{IsPosted, Posts, Postings, Unposts, has}
use Rattle.ent_meetings.specs.Waiting.{Waiting, party_at}

-- what those who wait are posted under, after a change at one ticket
abbrev pub PartyAt : ℕ → Option Party → Waiting → Waiting → Type 0
PartyAt ticket party before after =
    (other : ℕ) → party_at after other ≡ cond (is_at (nat_cmp ticket) other) party (party_at before other)

module _ (patterns : Party → List Pattern) (before after : Waiting) (old new : Postings) (ticket : ℕ)
    (party : Party) where
  posted : ℕ → Option Party → Bool
  posted key who = option_map_or (λ own. have_key (patterns own) key) who false

  here : (change : Option Party) → PartyAt ticket change before after → party_at after ticket ≡ change
  here change at =
      at ticket
      ∙ ap (λ (b : Bool). cond b change (party_at before ticket))
      (cmp_equal ticket ticket ∙ eq-eqb ticket ticket refl)

  there : (change : Option Party) → PartyAt ticket change before after → (other : ℕ) → (ticket ≡ other → ⊥)
      → party_at after other ≡ party_at before other
  there change at other apart =
      at other
      ∙ ap (λ (b : Bool). cond b change (party_at before other))
      (cmp_equal ticket other ∙ ne_eqb ticket other apart)

  pub posted_new : party_at before ticket ≡ None → PartyAt ticket (Some party) before after
      → IsPosted patterns before old
      → Posts ticket (have_key (patterns party)) old new → IsPosted patterns after new
  unfolding posted
  posted_new absent at was posts key other =
      ⊎_elim (λ same. subst (λ (n : ℕ). has new key n ≡ posted key (party_at after n)) same
      (posts key ticket
      ∙ ap (λ (b : Bool). b || ((ticket == ticket) && have_key (patterns party) key))
      (was key ticket ∙ ap (posted key) absent)
      ∙ ap (λ (b : Bool). b && have_key (patterns party) key) (eq-eqb ticket ticket refl)
      ∙ ap (posted key) (sym (here (Some party) at))))
      (λ apart.
      posts key other
      ∙ ap (λ (b : Bool). has old key other || (b && have_key (patterns party) key)) (ne_eqb ticket other apart)
      ∙ or_none (has old key other) ∙ was key other ∙ ap (posted key) (sym (there (Some party) at other apart)))
      (cases_eq ticket other)
    where
      or_none : (b : Bool) → (b || false) ≡ b
      or_none true = refl
      or_none false = refl

  pub posted_rest : party_at before ticket ≡ Some party → PartyAt ticket None before after
      → IsPosted patterns before old
      → Unposts ticket (have_key (patterns party)) old new → IsPosted patterns after new
  unfolding posted
  posted_rest present at was gone key other =
      ⊎_elim (λ same. subst (λ (n : ℕ). has new key n ≡ posted key (party_at after n)) same
      (gone key ticket
      ∙ ap (λ (b : Bool). b && not ((ticket == ticket) && have_key (patterns party) key))
      (was key ticket ∙ ap (posted key) present)
      ∙ ap (λ (b : Bool). have_key (patterns party) key && not (b && have_key (patterns party) key))
      (eq-eqb ticket ticket refl)
      ∙ none_left (have_key (patterns party) key)
      ∙ ap (posted key) (sym (here None at))))
      (λ apart.
      gone key other
      ∙ ap (λ (b : Bool). has old key other && not (b && have_key (patterns party) key)) (ne_eqb ticket other apart)
      ∙ and_all (has old key other) ∙ was key other ∙ ap (posted key) (sym (there None at other apart)))
      (cases_eq ticket other)
    where
      none_left : (b : Bool) → (b && not b) ≡ false
      none_left true = refl
      none_left false = refl

      and_all : (b : Bool) → (b && true) ≡ b
      and_all true = refl
      and_all false = refl
