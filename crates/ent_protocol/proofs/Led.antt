-- A play leads to a state that is reached.
use Rattle.std.proofs.Common.{ℕ, zero, suc, List, [], ◌∷◌, length, refl, sym, subst}
use Rattle.ent_tree.specs.declared.declaration.Opening.{Opening}
use Rattle.ent_tree.specs.declared.script.Script.{Script}
use Rattle.ent_protocol.specs.Event.{Event, Reply}
use Rattle.ent_protocol.specs.Play.{Plays, IsPlayed}
use Rattle.ent_protocol.specs.Reached.{opened, LeadsTo, IsGatheredAt}
use Rattle.ent_protocol.specs.Run.{Forms}
use Rattle.ent_protocol.specs.State.{State}

module _ {F : Type 0} (forms : Forms F) where
  led_on : (n : ℕ) (first s last : State) (events : List (Event × Reply F)) → LeadsTo forms n first s
      → Plays forms s events last → (m : ℕ) × LeadsTo forms m first last
  led_on n first s last [] led plays = (n, subst (λ x. LeadsTo forms n first x) (sym plays) led)
  led_on n first s last (event ∷ more) led plays =
      led_on (suc n) first plays.0 last more (s, event.0, event.1, led, plays.1) plays.2

  pub played_gathered : (opening : Opening) (scripts : List Script) (events : List Event) (replies : List (Reply F))
      (last : State) → IsPlayed forms opening scripts events replies last → IsGatheredAt forms (length scripts) last
  played_gathered opening scripts events replies last h =
      let led = led_on zero h.first h.first last h.steps refl h.plays in
      (h.first, led.0, h.gathered, led.1)

  pub plays_lead : (opening : Opening) (events : List (Event × Reply F)) (last : State)
      → Plays forms (opened opening) events last → (n : ℕ) × LeadsTo forms n (opened opening) last
  plays_lead opening events last plays = led_on zero (opened opening) (opened opening) last events refl plays
