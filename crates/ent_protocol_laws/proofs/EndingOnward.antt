-- Events one after the other.
use Rattle.std.proofs.Common.{◌≡◌, ◌+◌, ℕ, zero, suc, sym, ap, subst, ◌∙◌, arith}
use Rattle.ent_tree.specs.declared.declaration.Opening.{Opening}
use Rattle.ent_protocol.specs.Event.{Event, Reply}
use Rattle.ent_protocol.specs.Reached.{opened, LeadsTo, IsReached}
use Rattle.ent_protocol.specs.Run.{Forms}
use Rattle.ent_protocol.specs.State.{State}
use Rattle.ent_protocol.specs.Step.{Step}
use Rattle.ent_protocol_laws.specs.Standing.{GoesOn}

-- every event goes on
abbrev pub AllGoOn : (F : Type 0) → Type 0
AllGoOn F =
    (forms : Forms F) (s : State) (event : Event) (reply : Reply F) (new : State) → Step forms s event reply new
    → GoesOn s new

module _ {F : Type 0} (forms : Forms F) where
  pub joined : (n m : ℕ) (first middle last : State) → LeadsTo forms n first middle → LeadsTo forms m middle last
      → LeadsTo forms (n + m) first last
  joined n zero first middle last before behind =
      let same : n ≡ n + 0 = omega arith in
      subst (λ k. LeadsTo forms k first last) same (subst (LeadsTo forms n first) (sym behind) before)
  joined n (suc m) first middle last before behind =
      let same : suc (n + m) ≡ n + suc m = omega arith in
      let rest = joined n m first middle behind.0 before behind.3 in
      let all : LeadsTo forms (suc (n + m)) first last = (behind.0, behind.1, behind.2, rest, behind.4) in
      subst (λ k. LeadsTo forms k first last) same all

  same_opening : AllGoOn F → (n : ℕ) (first last : State) → LeadsTo forms n first last → last.opening ≡ first.opening
  same_opening go zero first last leads = ap (λ (s : State). s.opening) leads
  same_opening go (suc n) first last leads =
      (go forms leads.0 leads.1 leads.2 last leads.4).opening ∙ same_opening go n first leads.0 leads.3

  pub leads_to_reached : AllGoOn F → (n : ℕ) (first last : State) → IsReached forms first
      → LeadsTo forms n first last → IsReached forms last
  leads_to_reached go n first last reached leads = (
    reached.0 + n,
    subst (λ (opening : Opening). LeadsTo forms (reached.0 + n) (opened opening) last)
        (sym (same_opening go n first last leads))
        (joined reached.0 n (opened first.opening) first last reached.1 leads),
  )
