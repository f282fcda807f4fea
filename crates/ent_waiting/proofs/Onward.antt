-- What further steps leave: what was told, and what will never be written.
use Rattle.std.proofs.Common.{◌≡◌, ◌<◌, [], ◌∷◌, ap, inl, inr, arith}
use Rattle.ent_lists.specs.Elements.{In, in_first, in_either}
use Rattle.ent_waiting.specs.Step.{Step, Leads, stay, onward}
use Rattle.ent_waiting.specs.Step.{load, crash, look, put, end, commit, send, arrive, acknowledge, fence}
use Rattle.ent_waiting.specs.Store.{Waiter, Ended, Write}
use Rattle.ent_waiting.specs.World.{World}

module _ {T C S E : Type 0} (changed : C → T → T) where
  -- what a step keeps, each further one keeps
  module _ (P : World T C S E → Type 0) (kept : (old new : World T C S E) → Step changed old new → P old → P new) where
    pub led_on : (old new : World T C S E) → Leads changed old new → P old → P new
    led_on old new stay h = h
    led_on old new (onward {mid = mid} before step) h = kept mid new step (led_on old mid before h)

  ending_kept : (one : Ended E) (old new : World T C S E) → Step changed old new → In one old.endings
      → In one new.endings
  ending_kept one old new load at = at
  ending_kept one old new (crash claim) at = at
  ending_kept one old new look at = in_first old.endings old.store.ended one at
  ending_kept one old new (put claim own script stands) at = at
  ending_kept one old new (end claim own other stands there) at = at
  ending_kept one old new (commit claim own change members stands may) at = at
  ending_kept one old new (send claim own is standing) at = at
  ending_kept one old new (arrive write there fits) at = at
  ending_kept one old new (acknowledge claim own stands there) at = in_first old.endings own.ended one at
  ending_kept one old new (fence claim own later is there more) at = at

  ticket_kept : (waiter : Waiter S) (old new : World T C S E) → Step changed old new → In waiter old.tickets
      → In waiter new.tickets
  ticket_kept waiter old new load at = at
  ticket_kept waiter old new (crash claim) at = at
  ticket_kept waiter old new look at = in_first old.tickets old.store.waiting waiter at
  ticket_kept waiter old new (put claim own script stands) at = at
  ticket_kept waiter old new (end claim own other stands there) at = at
  ticket_kept waiter old new (commit claim own change members stands may) at = at
  ticket_kept waiter old new (send claim own is standing) at = at
  ticket_kept waiter old new (arrive write there fits) at = at
  ticket_kept waiter old new (acknowledge claim own stands there) at = in_first old.tickets own.given waiter at
  ticket_kept waiter old new (fence claim own later is there more) at = at

  -- its claim has passed, and it wasn't written
  pub record IsPast (write : Write C S E) (world : World T C S E) : Type 0 where
    pub earlier : write.claim < world.store.claim
    pub not_written : In write world.history → ⊥

  past_kept : (write : Write C S E) (old new : World T C S E) → Step changed old new → IsPast write old
      → IsPast write new
  past_kept write old new load h =
      record { earlier = (let low = h.earlier in omega (arith, low)); not_written = h.not_written }
  past_kept write old new (crash claim) h = record { earlier = h.earlier; not_written = h.not_written }
  past_kept write old new look h = record { earlier = h.earlier; not_written = h.not_written }
  past_kept write old new (put claim own script stands) h =
      record { earlier = h.earlier; not_written = h.not_written }
  past_kept write old new (end claim own other stands there) h =
      record { earlier = h.earlier; not_written = h.not_written }
  past_kept write old new (commit claim own change members stands may) h =
      record { earlier = h.earlier; not_written = h.not_written }
  past_kept write old new (send claim own is standing) h =
      record { earlier = h.earlier; not_written = h.not_written }
  past_kept write old new (arrive other there fits) h =
      record {
        earlier = h.earlier;
        not_written = λ at. elim (in_either old.history (other ∷ []) write at) [
          | inl before ↦ h.not_written before
          | inr last ↦ elim last [
            | inl same ↦
                let low = h.earlier in
                let e : write.claim ≡ other.claim = ap (λ (w : Write C S E). w.claim) same in
                let f = fits.claim in
                absurd (omega (arith, low, e, f))
            | inr never ↦ absurd never
          ]
        ];
      }
  past_kept write old new (acknowledge claim own stands there) h =
      record { earlier = h.earlier; not_written = h.not_written }
  past_kept write old new (fence claim own later is there more) h =
      record { earlier = h.earlier; not_written = h.not_written }

  module _ (old new : World T C S E) (leads : Leads changed old new) where
    pub led_ending : (one : Ended E) → In one old.endings → In one new.endings
    led_ending one = led_on (λ world. In one world.endings) (ending_kept one) old new leads

    pub led_ticket : (waiter : Waiter S) → In waiter old.tickets → In waiter new.tickets
    led_ticket waiter = led_on (λ world. In waiter world.tickets) (ticket_kept waiter) old new leads

    pub never_written : (write : Write C S E) → write.claim < old.store.claim → (In write old.history → ⊥)
        → In write new.history → ⊥
    never_written write earlier not_written =
        (led_on (IsPast write) (past_kept write) old new leads
        (record { earlier = earlier; not_written = not_written })).not_written
