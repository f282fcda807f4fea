-- A desk is opened: the tickets of its scripts, and the sessions.
use Rattle.std.proofs.Common.{◌≡◌, ℕ, zero, suc, ◌+◌, ◌-◌, ◌≤◌, ◌<◌, Bool, true, false, List, [], ◌∷◌, ◌++◌, length}
use Rattle.std.proofs.Common.{add-one, get_or, length-take, take, replicate, refl, ap, sym, ◌∙◌, arith, Result}
use Rattle.std.proofs.Common.{Ok, Err, nat_le}
use Rattle.std.proofs.Math.Seq.{take-suc}
use Rattle.ent_tree.specs.declared.limits.TheConstants.{MOST_SCRIPTS}
use Rattle.ent_tree.specs.declared.script.Script.{Script}
use Rattle.ent_semantics.specs.declared.operand.Known.{Known}
use Rattle.ent_semantics.specs.declared.statement.Statement.{Statement}
use Rattle.ent_protocol.specs.Event.{Submitted}
use Rattle.ent_protocol.specs.Reached.{IsGatheredState}
use Rattle.ent_protocol.specs.Run.{Forms, SubmitsForm, SubmitsUnless}
use Rattle.ent_protocol.specs.State.{State}
use Rattle.ent_protocol.specs.State as states
use Rattle.ent_desk.specs.declared.ticket.Ticket.{Ticket}
use Rattle.ent_desk.specs.Opened.{other_session, tickets_from}
use Rattle.ent_desk.specs.Seen.{SessionState, ticket}

pub tickets_append : (n m : ℕ) (scripts : List Script) (script : Script) → m ≡ n + length scripts
    → tickets_from n (scripts ++ script ∷ []) ≡ tickets_from n scripts ++ ticket m script ∷ []
tickets_append n m [] script at = (let same : n ≡ m = omega (arith, at) in ap (λ k. ticket k script ∷ []) same)
tickets_append n m (first ∷ more) script at =
    ap (λ tickets. ticket n first ∷ tickets) (tickets_append (suc n) m more script (omega (arith, at)))

pub tickets_taken : (scripts : List Script) (i : ℕ) (d script : Script) (before after : List Ticket)
    → i < length scripts → before ≡ tickets_from 1 (take i scripts) → script ≡ get_or scripts i d
    → after ≡ before ++ ticket (i + 1) script ∷ [] → after ≡ tickets_from 1 (take (i + 1) scripts)
tickets_taken scripts i d script before after low are is adds =
    let grows : take (i + 1) scripts ≡ take i scripts ++ script ∷ [] =
    ap (λ k. take k scripts) (add-one i) ∙ take-suc scripts i d low ∙ ap (λ x. take i scripts ++ x ∷ []) (sym is) in
    let count : length (take i scripts) ≡ i = simp length-take (omega arith) in
    adds ∙ ap (λ tickets. tickets ++ ticket (i + 1) script ∷ []) are
    ∙ sym (tickets_append 1 (i + 1) (take i scripts) script (omega (arith, count)))
    ∙ sym (ap (tickets_from 1) grows)

-- nothing is in the journal of a state that submits made
submitted_form : {F : Type 0} (prior s : State) (script : Script) (tx : ℕ) (form : Result (List (Statement Known)) F)
    → SubmitsForm prior script form (Submitted tx) s → s.journal ≡ prior.journal
submitted_form prior s script tx (Ok form) h = ap (λ (x : State). x.journal) h.1
submitted_form prior s script tx (Err fault) h = let told = h.0 in cc

pub none_committed : {F : Type 0} (forms : Forms F) (k : ℕ) (s : State) → IsGatheredState forms k s → s.journal ≡ []
none_committed forms zero s h = ap (λ (x : State). x.journal) h
none_committed forms (suc k) s (prior, script, h, step) =
    by (nat_le MOST_SCRIPTS (length prior.submitted)) step ∙ none_committed forms k prior h
  where
    by : (full : Bool) → SubmitsUnless full forms prior script (Submitted (suc k)) s → s.journal ≡ prior.journal
    by true step = let told = step.0 in cc
    by false step = submitted_form prior s script (suc k) (forms.resolve prior.opening script) step

one_more : (k : ℕ) → replicate k other_session ++ other_session ∷ [] ≡ other_session ∷ replicate k other_session
one_more zero = refl
one_more (suc k) = ap (λ (l : List SessionState). other_session ∷ l) (one_more k)

pub seats_more : (first x : SessionState) (xs ys : List SessionState) (i : ℕ) → 1 ≤ i
    → xs ≡ first ∷ replicate (i - 1) other_session → ys ≡ xs ++ x ∷ [] → x ≡ other_session
    → ys ≡ first ∷ replicate (i + 1 - 1) other_session
seats_more first x xs ys i some before adds is =
    let k : suc (i - 1) ≡ i + 1 - 1 = omega (arith, some) in
    adds ∙ ap (λ (l : List SessionState). l ++ x ∷ []) before
    ∙ ap (λ (s : SessionState). (first ∷ replicate (i - 1) other_session) ++ s ∷ []) is
    ∙ ap (λ (l : List SessionState). first ∷ l) (one_more (i - 1)) ∙ ap (λ n. first ∷ replicate n other_session) k
