-- Each step keeps what holds.
use Rattle.std.proofs.Common.{◌≡◌, ◌⊎◌, ◌≤◌, ◌+◌, ℕ, ◌==◌, Bool, true, false, cond, List, [], ◌∷◌, ◌++◌}
use Rattle.std.proofs.Common.{refl, sym, ap, subst, ◌∙◌, inl, inr, arith, Option, Some, None}
use Rattle.std.proofs.lemmas.Option.{same_Some}
use Rattle.ent_lists.specs.Elements.{In, in_either, in_first, in_second, all_by, same_number, differ, number_itself}
use Rattle.ent_waiting.specs.Store.{Write, Version, Fits, version, claimed}
use Rattle.ent_waiting.specs.Step.{Step, load, crash, look, put, end, commit, send, arrive, acknowledge, fence}
use Rattle.ent_waiting.specs.Step.{loaded, arrived, acknowledging}
use Rattle.ent_waiting.specs.World.{World, Claimant, Standing, Free, Saving, Taken, begun, after_put, after_end}
use Rattle.ent_waiting.specs.World.{after_change, after_commit, after_write, asked, with_claimant, told}
use Rattle.ent_waiting.proofs.Invariant.{Ahead, Sent, Right, MayArrive}
use Rattle.ent_waiting.proofs.Invariant.{AreWhole, AreRight, Kept, IsBusy, at_version}
use Rattle.ent_waiting.proofs.Moves.{ahead_put, ahead_end, ahead_ends, ahead_change, ahead_begun, ends_write}
use Rattle.ent_waiting.proofs.Moves.{whole_end, whole_commit, free_moves, stands_so, knows}
use Rattle.ent_waiting.proofs.Written.{once_written, stays_written, groups_written, writes_written}
use Rattle.ent_waiting.proofs.Written.{arrive_written, right_written}

-- whoever is found is the new one at its claim, or another one as before
found : {X : Type 0} (new : Option X) (f : ℕ → Option X) (claim other : ℕ) (x : X)
    → cond (other == claim) new (f other) ≡ Some x
    → (other ≡ claim) × (new ≡ Some x) ⊎ (other ≡ claim → ⊥) × (f other ≡ Some x)
found new f claim other x is = by (other == claim) refl is
  where
    by : (b : Bool) → (other == claim) ≡ b → cond b new (f other) ≡ Some x
        → (other ≡ claim) × (new ≡ Some x) ⊎ (other ≡ claim → ⊥) × (f other ≡ Some x)
    by true e is = inl (same_number other claim e, is)
    by false e is = inr (differ other claim e, is)

-- an element behind the others
last_in : {X : Type 0} (xs : List X) (x y : X) → In y (xs ++ x ∷ []) → In y xs ⊎ (y ≡ x)
last_in xs x y at = elim (in_either xs (x ∷ []) y at) [
  | inl before ↦ inl before
  | inr last ↦ elim last [ inl same ↦ inr same | inr never ↦ absurd never ]
]

module _ {T C S E : Type 0} (changed : C → T → T) (first : T) where
  module _ (old : World T C S E) (kept : Kept changed first old) where
    -- one claimant is another now
    renewed : (claim : ℕ) (new : Claimant T C S E)
        → Right changed old.store old.sent old.versions old.history claim new
        → AreRight changed (with_claimant claim (Some new) old)
    renewed claim new right other own is = elim (found (Some new) old.claimants claim other own is) [
      | inl here ↦
          subst (λ (c : ℕ). Right changed old.store old.sent old.versions old.history c own) (sym here.0)
          (subst (Right changed old.store old.sent old.versions old.history claim) (same_Some new own here.1) right)
      | inr there ↦ kept.right other own there.1
    ]

    load_kept : Kept changed first (loaded old)
    load_kept =
        let s = kept.sound in
        record {
          sound =
              record {
                within = λ v at. elim (last_in old.versions (version (claimed old.store)) v at) [
                  | inl before ↦ let w = s.within v before in let low = w.0 in (omega (arith, low), w.1)
                  | inr same ↦ (
                    let e : v.claim ≡ old.store.claim + 1 = ap (λ (v : Version). v.claim) same in omega (arith, e),
                    let e : v.write ≡ old.store.write = ap (λ (v : Version). v.write) same in omega (arith, e),
                  )
                ];
                present = in_second old.versions (version (claimed old.store) ∷ []) (version (claimed old.store))
                    (inl refl);
                may_arrive = λ write at.
                    let low = (s.may_arrive write at).claim in
                    record {
                      claim = omega (arith, low);
                      whole = (s.may_arrive write at).whole;
                      number = λ e. absurd (omega (arith, low, e));
                      fits = λ f. let e = f.claim in absurd (omega (arith, low, e));
                    };
                once = s.once;
                groups =
                    record {
                      tables = s.groups.tables;
                      follow = s.groups.follow;
                      last = s.groups.last;
                      ended = s.groups.ended;
                      whole = s.groups.whole;
                    };
                writes =
                    record {
                      numbers = s.writes.numbers;
                      last = s.writes.last;
                      claims = s.writes.claims;
                      present =
                          all_by (λ w. w.claim ≤ old.store.claim) (λ w. w.claim ≤ old.store.claim + 1) old.history
                          (λ w low. omega (arith, low)) s.writes.present;
                    };
                done = s.done;
                stand = s.stand;
                ended = s.ended;
              };
          right = λ claim own is.
              elim (found (Some (begun (claimed old.store))) old.claimants (old.store.claim + 1) claim own is) [
                | inl here ↦
                    subst (Right changed (claimed old.store) old.sent _ old.history claim)
                    (same_Some (begun (claimed old.store)) own here.1) (newly claim here.0)
                | inr there ↦ others claim own there.0 (kept.right claim own there.1)
              ];
        }
      where
        versions : List Version
        versions = old.versions ++ version (claimed old.store) ∷ []

        newly : (claim : ℕ) → claim ≡ old.store.claim + 1
            → Right changed (claimed old.store) old.sent (old.versions ++ version (claimed old.store) ∷ []) old.history
            claim (begun (claimed old.store))
        newly claim here =
            let s = kept.sound in
            record {
              given = omega (arith, here);
              whole = λ group one none. absurd none;
              now = λ e. inl (ahead_begun changed (claimed old.store) s.once);
              bound = λ n at.
                  elim (last_in old.versions (version (claimed old.store)) (at_version claim n) at) [
                    | inl before ↦
                        let low : claim ≤ old.store.claim = (s.within (at_version claim n) before).0 in
                        absurd (omega (arith, low, here))
                    | inr same ↦
                        let e : n ≡ old.store.write = ap (λ (v : Version). v.write) same in omega (arith, e)
                  ];
              through = λ at.
                  absurd (elim (last_in old.versions (version (claimed old.store))
                  (at_version claim (old.store.write + 1)) at) [
                    | inl before ↦
                        let low : claim ≤ old.store.claim =
                        (s.within (at_version claim (old.store.write + 1)) before).0 in
                        omega (arith, low, here)
                    | inr same ↦
                        let e : old.store.write + 1 ≡ old.store.write = ap (λ (v : Version). v.write) same in
                        omega (arith, e)
                  ]);
              sends = λ write at e.
                  let low = (s.may_arrive write at).claim in absurd (omega (arith, low, e, here));
            }

        others : (claim : ℕ) (own : Claimant T C S E) → (claim ≡ old.store.claim + 1 → ⊥)
            → Right changed old.store old.sent old.versions old.history claim own
            → Right changed (claimed old.store) old.sent (old.versions ++ version (claimed old.store) ∷ []) old.history
            claim own
        others claim own apart right =
            record {
              given = let low = right.given in omega (arith, low);
              whole = right.whole;
              now = λ e. absurd (apart e);
              bound = λ n at.
                  elim (last_in old.versions (version (claimed old.store)) (at_version claim n) at) [
                    | inl before ↦ right.bound n before
                    | inr same ↦ absurd (apart (ap (λ (v : Version). v.claim) same))
                  ];
              through = λ at.
                  elim (last_in old.versions (version (claimed old.store)) (at_version claim (own.write + 1)) at) [
                    | inl before ↦
                        let h = right.through before in
                        record { busy = h.busy; done = h.done; given = h.given; ended = h.ended }
                    | inr same ↦ absurd (apart (ap (λ (v : Version). v.claim) same))
                  ];
              sends = right.sends;
            }

    crash_kept : (claim : ℕ) → Kept changed first (with_claimant claim None old)
    crash_kept claim =
        record {
          sound = kept.sound;
          right = λ other own is. elim (found None old.claimants claim other own is) [
            | inl here ↦ never own here.1
            | inr there ↦ kept.right other own there.1
          ];
        }
      where
        never : {A : Type 0} (own : Claimant T C S E) → None ≡ Some own → A
        never own e = cc

    look_kept : Kept changed first (told old.store.waiting old.store.ended old)
    look_kept =
        let s = kept.sound in
        record {
          sound =
              record {
                within = s.within;
                present = s.present;
                may_arrive = s.may_arrive;
                once = s.once;
                groups = s.groups;
                writes = s.writes;
                done = s.done;
                stand = λ t at.
                    elim (in_either old.tickets old.store.waiting t at) [
                      | inl before ↦ s.stand t before
                      | inr now ↦ inl now
                    ];
                ended = λ one at. elim (in_either old.endings old.store.ended one at) [
                  | inl before ↦ s.ended one before
                  | inr now ↦ now
                ];
              };
          right = kept.right;
        }

    -- a room goes on
    move_kept : (claim : ℕ) (own new : Claimant T C S E) → old.claimants claim ≡ Some own → own.standing ≡ Free
        → new.write ≡ own.write
        → (AreWhole own.groups own.ended → AreWhole new.groups new.ended)
        → (Ahead changed old.store own → Ahead changed old.store new)
        → Kept changed first (with_claimant claim (Some new) old)
    move_kept claim own new is free same whole go =
        record {
          sound = kept.sound;
          right =
              renewed claim new
              (free_moves changed old.store old.sent old.versions old.history claim own (kept.right claim own is) free
              new same (whole (kept.right claim own is).whole) go);
        }

    stand_kept : (claim : ℕ) (own : Claimant T C S E) (standing : Standing) → old.claimants claim ≡ Some own
        → (standing ≡ Free → ⊥)
        → Kept changed first (with_claimant claim (Some (record own { standing = standing })) old)
    stand_kept claim own standing is busy =
        record {
          sound = kept.sound;
          right =
              renewed claim (record own { standing = standing })
              (stands_so changed old.store old.sent old.versions old.history claim own (kept.right claim own is)
              standing busy);
        }

    arrive_kept : (write : Write C S E) → In write old.sent → Fits old.store write
        → Kept changed first (arrived changed write old)
    arrive_kept write at fits =
        let s = kept.sound in
        let continues = (s.may_arrive write at).fits fits in
        let whole = (s.may_arrive write at).whole in
        let number = fits.number in
        record {
          sound =
              record {
                within = λ v there. elim (last_in old.versions _ v there) [
                  | inl before ↦
                      let w = s.within v before in let low = w.1 in (w.0, omega (arith, low, number))
                  | inr same ↦ (
                    let e : v.claim ≡ old.store.claim = ap (λ (v : Version). v.claim) same in omega (arith, e),
                    let e : v.write ≡ write.number = ap (λ (v : Version). v.write) same in omega (arith, e),
                  )
                ];
                present = in_second old.versions _ (version (arrived changed write old).store) (inl refl);
                may_arrive = λ other there.
                    arrive_written changed old.store write fits whole continues s.once other (s.may_arrive other there);
                once = once_written changed old.store write fits whole continues s.once;
                groups =
                    groups_written changed old.store write fits whole continues s.once first old.history s.groups;
                writes = writes_written changed old.store write fits whole continues s.once old.history s.writes;
                done = λ v there.
                    let d = s.done v there in
                    record {
                      write = d.write;
                      there = in_first old.history (write ∷ []) d.write d.there;
                      claim = d.claim;
                      number = d.number;
                    };
                stand = λ t there.
                    stays_written changed old.store write fits whole continues s.once t (s.stand t there);
                ended = λ one there. in_first old.store.ended write.ended one (s.ended one there);
              };
          right = λ claim own is.
              right_written changed old.store write fits whole continues s.once old.sent old.versions old.history at
              claim own
              (kept.right claim own is);
        }

    acknowledge_kept : (claim : ℕ) (own : Claimant T C S E) → old.claimants claim ≡ Some own
        → In (at_version claim (own.write + 1)) old.versions
        → Kept changed first (acknowledging claim own old)
    acknowledge_kept claim own is at =
        let s = kept.sound in
        let right = kept.right claim own is in
        let h = right.through at in
        record {
          sound =
              record {
                within = s.within;
                present = s.present;
                may_arrive = s.may_arrive;
                once = s.once;
                groups = s.groups;
                writes = s.writes;
                done = λ v there. elim (last_in old.acknowledged (at_version claim (own.write + 1)) v there) [
                  | inl before ↦ s.done v before
                  | inr same ↦ record {
                    write = asked claim own;
                    there = h.done;
                    claim = sym (ap (λ (v : Version). v.claim) same);
                    number = sym (ap (λ (v : Version). v.write) same);
                  }
                ];
                stand = λ t there. elim (in_either old.tickets own.given t there) [
                  | inl before ↦ s.stand t before
                  | inr now ↦ h.given t now
                ];
                ended = λ one there. elim (in_either old.endings own.ended one there) [
                  | inl before ↦ s.ended one before
                  | inr now ↦ h.ended one now
                ];
              };
          right =
              renewed claim (after_write own)
              (knows changed old.store old.sent old.versions old.history claim own right s.within s.once at);
        }

  -- a write is sent by whoever stands so already
  send_kept : (old : World T C S E) (claim : ℕ) (own : Claimant T C S E) → own.standing ≡ Saving
      → old.claimants claim ≡ Some own
      → Kept changed first old
      → Kept changed first (record old { sent = old.sent ++ asked claim own ∷ [] })
  send_kept old claim own saving is kept =
      let s = kept.sound in
      let right = kept.right claim own is in
      record {
        sound =
            record {
              within = s.within;
              present = s.present;
              may_arrive = λ write at. elim (last_in old.sent (asked claim own) write at) [
                | inl before ↦ s.may_arrive write before
                | inr same ↦ subst (MayArrive old.store) (sym same) may_arrive
              ];
              once = s.once;
              groups = s.groups;
              writes = s.writes;
              done = s.done;
              stand = s.stand;
              ended = s.ended;
            };
        right = λ other one there.
            let r = kept.right other one there in
            record {
              given = r.given;
              whole = r.whole;
              now = r.now;
              bound = r.bound;
              through = r.through;
              sends = λ write at e. elim (last_in old.sent (asked claim own) write at) [
                | inl before ↦ r.sends write before e
                | inr same ↦ sent_by other one there write same e
              ];
            };
      }
    where
      busy : IsBusy own
      busy free = different (sym saving ∙ free)
        where
          different : Saving ≡ Free → ⊥
          different e = cc

      may_arrive : MayArrive old.store (asked claim own)
      may_arrive =
          let right = kept.right claim own is in
          record {
            claim = right.given;
            whole = right.whole;
            number = λ e. elim (right.now e) [
              | inl h ↦ let same = h.write in omega (arith, same)
              | inr h ↦ let more = h.write in omega (arith, more)
            ];
            fits = λ f. elim (right.now f.claim) [
              | inl h ↦ record { follow = h.follow; goes = h.goes }
              | inr h ↦
                  let more = h.write in
                  let number : own.write + 1 ≡ old.store.write + 1 = f.number in
                  absurd (omega (arith, more, number))
            ];
          }

      sent_by : (other : ℕ) (one : Claimant T C S E) → old.claimants other ≡ Some one → (write : Write C S E)
          → write ≡ asked claim own → write.claim ≡ other → Sent other one write
      sent_by other one there write same e =
          let here : claim ≡ other = sym (ap (λ (w : Write C S E). w.claim) same) ∙ e in
          let own_is : own ≡ one =
          same_Some own one (sym is ∙ ap old.claimants here ∙ there) in
          subst (λ (c : ℕ). Sent c one write) here
          (subst (λ (o : Claimant T C S E). Sent claim o write) own_is
          (subst (Sent claim own) (sym same) (record { number = omega arith; busy = λ n. busy; is = λ n. refl })))

  pub step_kept : (old new : World T C S E) → Step changed old new → Kept changed first old → Kept changed first new
  step_kept old new load kept = load_kept old kept
  step_kept old new (crash claim) kept = crash_kept old kept claim
  step_kept old new look kept = look_kept old kept
  step_kept old new (put claim own script stands) kept =
      move_kept old kept claim own (after_put script own) stands.is stands.so refl (λ whole. whole)
      (ahead_put changed old.store kept.sound.once script own)
  step_kept old new (end claim own one stands at) kept =
      move_kept old kept claim own (after_end one own) stands.is stands.so refl (whole_end own one)
      (ahead_end changed old.store kept.sound.once own one at)
  step_kept old new (commit claim own change members stands may) kept =
      move_kept old kept claim own (after_commit changed change members own) stands.is stands.so
      (ends_write members (after_change changed change members own)) (whole_commit changed change members own)
      (λ h. ahead_ends changed old.store kept.sound.once members (after_change changed change members own) may
      (ahead_change changed old.store kept.sound.once change members own h))
  step_kept old new (send claim own is standing) kept =
      send_kept (with_claimant claim (Some (record own { standing = Saving })) old) claim
      (record own { standing = Saving }) refl here (stand_kept old kept claim own Saving is not_free)
    where
      not_free : Saving ≡ Free → ⊥
      not_free e = cc

      here : (with_claimant claim (Some (record own { standing = Saving })) old).claimants claim
          ≡ Some (record own { standing = Saving })
      here = by (claim == claim) (number_itself claim)
        where
          by : (b : Bool) → b ≡ true
              → cond b (Some (record own { standing = Saving })) (old.claimants claim)
              ≡ Some (record own { standing = Saving })
          by true e = refl
          by false e = cc
  step_kept old new (arrive write at fits) kept = arrive_kept old kept write at fits
  step_kept old new (acknowledge claim own stands at) kept = acknowledge_kept old kept claim own stands.is at
  step_kept old new (fence claim own later is at more) kept = stand_kept old kept claim own Taken is not_free
    where
      not_free : Taken ≡ Free → ⊥
      not_free e = cc
