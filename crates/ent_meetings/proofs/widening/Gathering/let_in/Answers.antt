use Rattle.std.proofs.Common.{◌≡◌, ℕ, List, [], ◌∷◌, true, false, nat_eq, Option, None, Some, refl, subst, sym, ap, ◌∙◌}
use Rattle.std.proofs.Common.{inl, inr, arith}
use Rattle.std.specs.Borrow.{Bor}
use Rattle.std.specs.List.{list_any}
use Rattle.std.proofs.lemmas.Option.{same_Some}
use Rattle.ent_lists.specs.Elements.{In, any_none, any_some, differ, in_second, same_number}
use Rattle.ent_meetings.specs.declared.party.Party.{Party}
use Rattle.ent_meetings.specs.Group.{may_come, seen}
use Rattle.ent_meetings.specs.Waiting.{named, party_at}
use Rattle.ent_meetings.proofs.Growing.{grows_by, grows_not}
use Rattle.ent_meetings.proofs.Seeing.{seen_more}
use Rattle.ent_meetings.proofs.widening.Gathering.let_in.Goals as goal
use Rattle.ent_meetings.proofs.widening.Gathering.let_in.Goals.{then-len-ge-MOST_MEMBERS-via-then-len-ge-MOST_MEMBERS}
use Rattle.ent_meetings.proofs.widening.Gathering.let_in.Goals.{then-len-ge-MOST_MEMBERS-via-else-len-ge-MOST_MEMBERS+then-contains}

not_among : (tickets slice : List ℕ) (ticket : ℕ) → slice ≡ tickets → list_any (λ own. nat_eq own ticket) slice ≡ false
    → In ticket tickets → ⊥
not_among tickets slice ticket is none there =
    differ ticket ticket
    (any_none (λ own. nat_eq own ticket) tickets
    (subst (λ (xs : List ℕ). list_any (λ own. nat_eq own ticket) xs ≡ false) is none) ticket there) refl

among : (tickets slice : List ℕ) (ticket : ℕ) → slice ≡ tickets → list_any (λ own. nat_eq own ticket) slice ≡ true
    → In ticket tickets
among tickets slice ticket is some =
    let own = any_some (λ own. nat_eq own ticket) tickets
    (subst (λ (xs : List ℕ). list_any (λ own. nat_eq own ticket) xs ≡ true) is some) in
    subst (λ (n : ℕ). In n tickets) (same_number own.0 ticket own.2) own.1

none_some : {X : Type 0} (o : Option X) (y : X) → o ≡ None → o ≡ Some y → ⊥
none_some o y none some = cc

pub returns-then-len-ge-MOST_MEMBERS-clause-ok : goal.returns-then-len-ge-MOST_MEMBERS-clause-ok
returns-then-len-ge-MOST_MEMBERS-clause-ok c = grows_not c.args.index.now c.args.self.now c.requires

pub returns-then-len-ge-MOST_MEMBERS-clause-tried : goal.returns-then-len-ge-MOST_MEMBERS-clause-tried
returns-then-len-ge-MOST_MEMBERS-clause-tried c low party waits =
    let tickets = c.args.self.now.tickets in
    elim c.then-len-ge-MOST_MEMBERS.branch [
      | then-len-ge-MOST_MEMBERS-via-then-len-ge-MOST_MEMBERS w ↦
          let full = w.if-len-ge-MOST_MEMBERS.true in
          absurd (omega (arith, low, full, c.len.ensures, tickets.ok.0))
      | then-len-ge-MOST_MEMBERS-via-else-len-ge-MOST_MEMBERS+then-contains w ↦
          inl (among tickets.items w.as_slice.result.now c.args.ticket w.as_slice.ensures.value
          (sym w.contains.ensures.value ∙ w.if-contains.true))
    ]

pub returns-in_ok-push-2-clause-ok : goal.returns-in_ok-push-2-clause-ok
returns-in_ok-push-2-clause-ok c =
    let old = c.args.self.now in
    let party = c.in-Some.party.now in
    let room = c.if-len-ge-MOST_MEMBERS.false in
    grows_by c.args.index.now old (record { tickets = c.push.new.self; parties = c.push-then-may_come.new.self })
    c.args.ticket party c.requires c.in_ok-push.ensures.items
    (seen_more old.parties.items c.push-then-may_come.new.self.items c.in-Some.party c.in_ok-push-2.ensures.items)
    (sym c.in-Some.ensures)
    (ap (λ (refs : List (Bor Party)). may_come (seen refs) party) (sym c.as_slice-in-Some.ensures.value)
    ∙ sym c.may_come.ensures ∙ c.if-may_come.true)
    (omega (arith, room, c.len.ensures, old.tickets.ok.0))
    (not_among old.tickets.items c.as_slice.result.now c.args.ticket c.as_slice.ensures.value
    (sym c.contains.ensures.value ∙ c.if-contains.false))

pub returns-in_ok-push-2-clause-tried : goal.returns-in_ok-push-2-clause-tried
returns-in_ok-push-2-clause-tried c low party waits =
    inl (subst (In c.args.ticket) (sym c.in_ok-push.ensures.items)
    (in_second c.args.self.now.tickets.items (c.args.ticket ∷ []) c.args.ticket (inl refl)))

pub returns-else-may_come-clause-ok : goal.returns-else-may_come-clause-ok
returns-else-may_come-clause-ok c = grows_not c.args.index.now c.args.self.now c.requires

pub returns-else-may_come-clause-tried : goal.returns-else-may_come-clause-tried
returns-else-may_come-clause-tried c low party waits =
    inr (subst (λ (p : Party). may_come (named c.args.index.now c.args.self.now.tickets.items) p ≡ false)
    (same_Some c.in-Some.party.now party (c.in-Some.ensures ∙ waits))
    (ap (λ (ps : List Party). may_come ps c.in-Some.party.now) (sym c.requires)
    ∙ ap (λ (refs : List (Bor Party)). may_come (seen refs) c.in-Some.party.now) (sym c.as_slice-in-Some.ensures.value)
    ∙ sym c.may_come.ensures ∙ c.if-may_come.false))

pub returns-in_default-clause-ok : goal.returns-in_default-clause-ok
returns-in_default-clause-ok c = grows_not c.args.index.now c.args.self.now c.requires

pub returns-in_default-clause-tried : goal.returns-in_default-clause-tried
returns-in_default-clause-tried c low party waits = absurd
    (none_some (party_at c.args.index.now c.args.ticket) party (sym c.in_default.ensures) waits)
