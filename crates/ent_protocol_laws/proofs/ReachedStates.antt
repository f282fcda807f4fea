-- What is known of each state that is reached.
use Rattle.std.proofs.Common.{◌≡◌, zero, suc, ℕ, sym, subst, ◌∙◌}
use Rattle.ent_protocol_laws.proofs.ByNumber.{posted_tx}
use Rattle.ent_protocol_laws.specs.Numbered.{Below}
use Rattle.ent_tree.specs.declared.declaration.Opening.{Opening}
use Rattle.ent_protocol.specs.Event.{Event, Reply}
use Rattle.ent_protocol.specs.Member.{pool}
use Rattle.ent_protocol.specs.Reached.{LeadsTo, IsReached, opened}
use Rattle.ent_protocol.specs.Run.{Forms}
use Rattle.ent_protocol.specs.State.{State, Member}
use Rattle.ent_protocol.specs.Step.{Step}
use Rattle.ent_protocol_laws.specs.ByNumber.{StandByNumber}
use Rattle.ent_protocol_laws.specs.Lent.{LentStandOnce}
use Rattle.ent_protocol_laws.specs.Standing.{GoesOn}
use Rattle.ent_protocol_laws.proofs.Changes.{act_of}
use Rattle.ent_protocol_laws.proofs.LentJobs.{LentRight, kept_right}
use Rattle.ent_lists.specs.Elements.{Pairs, index_pairs}

abbrev pub member_tx : Member → ℕ
member_tx member = member.tx

-- members and posted statements stand by number, and lent jobs stand once
pub record IsKnown (s : State) : Type 0 where
  pub active : Pairs (Below member_tx) s.active
  pub asked : Pairs (Below posted_tx) (pool s)
  pub once : LentStandOnce s
  pub lent : LentRight s

-- the laws of lower crates that are wanted
pub record Laws {F : Type 0} (forms : Forms F) : Type 0 where
  pub by_number : (s : State) → IsReached forms s → StandByNumber s
  pub once : (s : State) → IsReached forms s → LentStandOnce s
  pub goes_on : (s : State) (event : Event) (reply : Reply F) (new : State) → Step forms s event reply new
      → GoesOn s new

module _ {F : Type 0} (forms : Forms F) (goes_on : (s : State) (event : Event) (reply : Reply F) (new : State)
    → Step forms s event reply new → GoesOn s new) where
  same_opening : (n : ℕ) (first last : State) → LeadsTo forms n first last → last.opening ≡ first.opening
  same_opening zero first last leads = λ i. (leads i).opening
  same_opening (suc n) first last leads =
      (goes_on leads.0 leads.1 leads.2 last leads.4).opening ∙ same_opening n first leads.0 leads.3

  reached_from : (n : ℕ) (opening : Opening) (s : State) → LeadsTo forms n (opened opening) s → IsReached forms s
  reached_from n opening s leads = (
    n,
    subst (λ (o : Opening). LeadsTo forms n (opened o) s) (sym (same_opening n (opened opening) s leads)) leads,
  )

  pub reached_next : (s : State) (event : Event) (reply : Reply F) (new : State) → IsReached forms s
      → Step forms s event reply new → IsReached forms new
  reached_next s event reply new reached step =
      reached_from (suc reached.0) s.opening new (s, event, reply, reached.1, step)

module _ {F : Type 0} (forms : Forms F) (laws : Laws forms) where
  lent_right : (n : ℕ) (opening : Opening) (s : State) → LeadsTo forms n (opened opening) s → LentRight s
  lent_right zero opening s leads =
      subst LentRight (sym leads)
      (record { placed = λ job single at is. absurd at; untried = λ job asked at is there. at })
  lent_right (suc n) opening s leads =
      let before = leads.0 in
      let act = act_of forms before leads.1 leads.2 s leads.4 in
      subst LentRight (sym act.is)
      (kept_right before act.act (laws.once before (reached_from forms laws.goes_on n opening before leads.3))
      (lent_right n opening before leads.3))

  pub known : (s : State) → IsReached forms s → IsKnown s
  known s reached =
      let stand = laws.by_number s reached in
      record {
        active = index_pairs (Below member_tx) s.active stand.active;
        asked = index_pairs (Below posted_tx) (pool s) stand.pool;
        once = laws.once s reached;
        lent = lent_right reached.0 s.opening s reached.1;
      }
