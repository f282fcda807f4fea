-- A set of those who wait grows.
use Rattle.std.proofs.Common.{◌≡◌, ◌≢◌, ◌<◌, ℕ, true, List, [], ◌∷◌, ◌++◌, length, Some, sym, ap, subst, ◌∙◌}
use Rattle.std.proofs.Common.{append_assoc, arith}
use Rattle.std.proofs.lemmas.List.{append-nil, length-append, length_push}
use Rattle.ent_group.specs.declared.members.TheConstants.{MOST_MEMBERS}
use Rattle.ent_lists.specs.Elements.{In, pairs_behind}
use Rattle.ent_meetings.specs.declared.party.Party.{Party}
use Rattle.ent_meetings.specs.Gathering.{Grows, IsGathering, IsRunnable}
use Rattle.ent_meetings.specs.Group.{may_come, seen}
use Rattle.ent_meetings.specs.Waiting.{Waiting, named, party_at}
use Rattle.ent_meetings.specs.Widening.{IsWidened}
use Rattle.ent_meetings.specs.declared.widening.Gathering.{Gathering}
use Rattle.ent_meetings.proofs.Coming.{comes, named_joined}
use Rattle.ent_meetings.proofs.Wider.{widened_both, widened_not}

module _ (waiting : Waiting) where
  pub grows_not : (gathering : Gathering) → IsGathering waiting gathering → Grows waiting gathering gathering
  grows_not gathering parties = record {
    parties = parties;
    wider = widened_not waiting gathering.tickets.items;
    longer = ([], sym (append-nil gathering.tickets.items));
    runnable = λ runnable. runnable;
  }

  pub grows_both : (one mid last : Gathering) → Grows waiting one mid → Grows waiting mid last → Grows waiting one last
  grows_both one mid last first second = record {
    parties = second.parties;
    wider = widened_both waiting one.tickets.items mid.tickets.items last.tickets.items first.wider second.wider;
    longer = (
      first.longer.0 ++ second.longer.0,
      second.longer.1 ∙ ap (λ (xs : List ℕ). xs ++ second.longer.0) first.longer.1
          ∙ append_assoc one.tickets.items first.longer.0 second.longer.0,
    );
    runnable = λ runnable. second.runnable (first.runnable runnable);
  }

  -- somebody comes
  pub grows_by : (old new : Gathering) (ticket : ℕ) (party : Party) → IsGathering waiting old
      → new.tickets.items ≡ old.tickets.items ++ ticket ∷ []
      → seen new.parties.items ≡ seen old.parties.items ++ party ∷ []
      → party_at waiting ticket ≡ Some party → may_come (seen old.parties.items) party ≡ true
      → length old.tickets.items < MOST_MEMBERS → (In ticket old.tickets.items → ⊥) → Grows waiting old new
  grows_by old new ticket party parties tickets_are parties_are at may room other = record {
    parties = parties_are ∙ ap (λ (ps : List Party). ps ++ party ∷ []) parties
        ∙ sym (named_joined waiting old.tickets.items ticket party at) ∙ ap (named waiting) (sym tickets_are);
    wider = subst (IsWidened waiting old.tickets.items) (sym tickets_are)
        (comes waiting old.tickets.items ticket party at
        (ap (λ (ps : List Party). may_come ps party) (sym parties) ∙ may));
    longer = (ticket ∷ [], tickets_are);
    runnable = λ runnable. subst IsRunnable (sym tickets_are) (record {
      distinct = pairs_behind (λ (one other : ℕ). one ≢ other) old.tickets.items ticket runnable.distinct
          (λ y there same. other (subst (λ (n : ℕ). In n old.tickets.items) same there));
      bound = omega (arith, room, length_push old.tickets.items ticket);
    });
  }

-- it was no longer before
pub shorter : (old new more : List ℕ) → new ≡ old ++ more → length new < MOST_MEMBERS → length old < MOST_MEMBERS
shorter old new more is low =
    let long = ap length is ∙ length-append old more in
    omega arith
