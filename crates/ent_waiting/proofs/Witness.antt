-- A run of two processes, of which the first crashes before its second write arrives.
use Rattle.std.proofs.Common.{◌≡◌, List, [], ◌∷◌, refl, ap, inl, inr, arith, Some, None}
use Rattle.ent_waiting.specs.Run.{RunsThrough, first_ended}
use Rattle.ent_waiting.specs.Step.{Leads, stay, onward}
use Rattle.ent_waiting.specs.Step.{load, crash, put, commit, send, arrive, acknowledge}
use Rattle.ent_waiting.specs.Step.{loaded, sending, arrived, acknowledging}
use Rattle.ent_waiting.specs.Store.{Ended, Write}
use Rattle.ent_waiting.specs.World.{World, Claimant, Standing, Free, Saving, Taken, created, begun, after_put}
use Rattle.ent_waiting.specs.World.{after_commit, after_write, asked, with_claimant}

module _ {T C S E : Type 0} (changed : C → T → T) (tables : T) (script : S) (change : C) (ending : E) where
  abbrev ends : List (Ended E)
  ends = first_ended ending ∷ []

  -- the first process: the ticket is written, and told
  abbrev w0 : World T C S E
  w0 = created tables 1

  abbrev w1 : World T C S E
  w1 = loaded w0

  abbrev a1 : Claimant T C S E
  a1 = begun w1.store

  abbrev a2 : Claimant T C S E
  a2 = after_put script a1

  abbrev w2 : World T C S E
  w2 = with_claimant 1 (Some a2) w1

  abbrev w3 : World T C S E
  w3 = sending 1 a2 w2

  abbrev a3 : Claimant T C S E
  a3 = record a2 { standing = Saving }

  abbrev w4 : World T C S E
  w4 = arrived changed (asked 1 a2) w3

  abbrev w5 : World T C S E
  w5 = acknowledging 1 a3 w4

  abbrev a5 : Claimant T C S E
  a5 = after_write a3

  -- a group commits in its memory, and it crashes while the write is on its way
  abbrev a6 : Claimant T C S E
  a6 = after_commit changed change ends a5

  abbrev w6 : World T C S E
  w6 = with_claimant 1 (Some a6) w5

  abbrev w7 : World T C S E
  w7 = sending 1 a6 w6

  abbrev w8 : World T C S E
  w8 = with_claimant 1 None w7

  -- the second process: the group commits again, and its write is sent twice
  abbrev w9 : World T C S E
  w9 = loaded w8

  abbrev b1 : Claimant T C S E
  b1 = begun w9.store

  abbrev b2 : Claimant T C S E
  b2 = after_commit changed change ends b1

  abbrev w10 : World T C S E
  w10 = with_claimant 2 (Some b2) w9

  abbrev w11 : World T C S E
  w11 = sending 2 b2 w10

  abbrev b3 : Claimant T C S E
  b3 = record b2 { standing = Saving }

  abbrev w12 : World T C S E
  w12 = sending 2 b3 w11

  abbrev w13 : World T C S E
  w13 = arrived changed (asked 2 b2) w12

  abbrev w14 : World T C S E
  w14 = acknowledging 2 b3 w13

  not_taken : {standing : Standing} → standing ≡ Free → standing ≡ Taken → ⊥
  not_taken is taken = cc

  first_half : Leads changed w0 w8
  first_half =
      onward (onward (onward (onward (onward (onward (onward (onward stay
      load)
      (put 1 a1 script (record { is = refl; so = refl })))
      (send 1 a2 refl (not_taken refl)))
      (arrive (asked 1 a2) (inl refl) (record { claim = refl; number = refl })))
      (acknowledge 1 a3 (record { is = refl; so = refl }) (inr (inr (inl refl)))))
      (commit 1 a5 change ends (record { is = refl; so = refl }) (inl refl, tt)))
      (send 1 a6 refl (not_taken refl)))
      (crash 1)

  saving : Saving ≡ Taken → ⊥
  saving e = cc

  whole : Leads changed w0 w14
  whole =
      onward (onward (onward (onward (onward (onward first_half
      load)
      (commit 2 b1 change ends (record { is = refl; so = refl }) (inl refl, tt)))
      (send 2 b2 refl (not_taken refl)))
      (send 2 b3 refl saving))
      (arrive (asked 2 b2) (inr (inr (inl refl))) (record { claim = refl; number = refl })))
      (acknowledge 2 b3 (record { is = refl; so = refl }) (inr (inr (inr (inr (inl refl))))))

  pub runs_through : RunsThrough changed tables script change ending
  runs_through =
      record {
        world = w14;
        reached = (1, whole);
        lost = asked 1 a6;
        was_sent = inr (inl refl);
        never_written = λ at. elim at [
          | inl same ↦ let e : 2 ≡ 1 = ap (λ (w : Write C S E). w.number) same in absurd (omega (arith, e))
          | inr more ↦ elim more [
            | inl same ↦ let e : 1 ≡ 2 = ap (λ (w : Write C S E). w.claim) same in absurd (omega (arith, e))
            | inr never ↦ absurd never
          ]
        ];
        changed_once = refl;
        one_group = refl;
        nobody_waits = refl;
        ended = refl;
        ticket = refl;
        endings = refl;
      }
