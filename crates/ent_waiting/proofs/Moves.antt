-- A claimant's memory goes on: what it did is still ahead of the store.
use Rattle.std.proofs.Common.{◌≡◌, ◌≤◌, ◌+◌, ℕ, List, [], ◌∷◌, ◌++◌, refl, sym, ap, subst, ◌∙◌}
use Rattle.std.proofs.Common.{inl, inr, arith}
use Rattle.std.proofs.lemmas.List.{append-nil, append_assoc}
use Rattle.ent_lists.specs.Elements.{In, in_either, in_first, in_second}
use Rattle.ent_waiting.specs.Store.{Group, Waiter, Ended, Store, Write, Waits, Version}
use Rattle.ent_waiting.specs.World.{Claimant, Standing, Free, after_put, after_end, after_ends, MayEnd}
use Rattle.ent_waiting.specs.World.{after_change, after_commit, after_write, begun, left_by, without}
use Rattle.ent_waiting.proofs.Goes.{AreOnce, Goes, goes_put, goes_end, goes_once, goes_nowhere, stays_put, stays_end}
use Rattle.ent_waiting.proofs.Goes.{left_put, left_end, is_fresh}
use Rattle.ent_waiting.proofs.Invariant.{AreWhole, Ahead, Level, Right, at_version}
use Rattle.ent_waiting.proofs.Order.{follow_joined, last_joined, tables_joined}

module _ {T C S E : Type 0} (changed : C → T → T) (store : Store T S E)
    (once : AreOnce store.waiting store.ended store.next) where
  pub ahead_put : (script : S) (own : Claimant T C S E) → Ahead changed store own
      → Ahead changed store (after_put script own)
  ahead_put script own h =
      let waiter : Waiter S = record { ticket = own.next; script = script } in
      record {
        write = h.write;
        tables = h.tables;
        group = h.group;
        follow = h.follow;
        goes = goes_put store.waiting store.next own.waiting own.ended own.next script h.goes;
        given = λ w at. elim (in_either own.given (waiter ∷ []) w at) [
          | inl before ↦ stays_put own.waiting (waiter ∷ []) own.ended w (h.given w before)
          | inr last ↦ inl (in_second own.waiting (waiter ∷ []) w last)
        ];
        left =
            ap (λ ws. ws ++ waiter ∷ []) h.left
            ∙ sym (left_put own.ended waiter
            (is_fresh store.waiting store.next own.waiting own.ended own.next h.goes) (store.waiting ++ own.given))
            ∙ ap (left_by own.ended) (append_assoc store.waiting own.given (waiter ∷ []));
      }

  pub ahead_end : (own : Claimant T C S E) (one : Ended E) → Waits own.waiting one.ticket → Ahead changed store own
      → Ahead changed store (after_end one own)
  ahead_end own one at h =
      record {
        write = h.write;
        tables = h.tables;
        group = h.group;
        follow = h.follow;
        goes =
            goes_end store.waiting store.next own.waiting own.ended own.next one
            (goes_once store.waiting store.ended store.next own.waiting own.ended own.next once h.goes one.ticket)
            at h.goes;
        given = λ w there. stays_end own.waiting own.ended one w (h.given w there);
        left =
            ap (without one.ticket) h.left ∙ sym (left_end own.ended one (store.waiting ++ own.given));
      }

  pub ahead_ends : (members : List (Ended E)) (own : Claimant T C S E) → MayEnd members own.waiting
      → Ahead changed store own
      → Ahead changed store (after_ends members own)
  ahead_ends [] own may h = h
  ahead_ends (one ∷ more) own may h = ahead_ends more (after_end one own) may.1 (ahead_end own one may.0 h)

  pub ahead_change : (change : C) (members : List (Ended E)) (own : Claimant T C S E) → Ahead changed store own
      → Ahead changed store (after_change changed change members own)
  ahead_change change members own h =
      let group : Group C E = record { number = own.group + 1; change = change; members = members } in
      record {
        write = h.write;
        tables =
            ap (changed change) h.tables ∙ sym (tables_joined changed own.groups (group ∷ []) store.tables);
        group = sym (last_joined store.group own.groups (group ∷ []));
        follow =
            follow_joined store.group own.groups (group ∷ []) h.follow (ap (λ (n : ℕ). n + 1) h.group, tt);
        goes = h.goes;
        given = h.given;
        left = h.left;
      }

  pub ahead_begun : Ahead changed store (begun {C = C} store)
  ahead_begun =
      record {
        write = refl;
        tables = refl;
        group = refl;
        follow = tt;
        goes = goes_nowhere store.waiting store.ended store.next once;
        given = λ t at. absurd at;
        left = sym (append-nil store.waiting);
      }

  -- it learns that its write went through
  pub ahead_written : (own : Claimant T C S E) → Level store own → Ahead changed store (after_write own)
  ahead_written own h =
      record {
        write = h.write;
        tables = h.tables;
        group = h.group;
        follow = tt;
        goes =
            subst (λ (n : ℕ). Goes {S = S} {E = E} store.waiting store.next own.waiting [] n) (sym h.next)
            (subst (λ (ts : List (Waiter S)). Goes {S = S} {E = E} store.waiting store.next ts [] store.next)
            (sym h.waiting)
            (goes_nowhere store.waiting store.ended store.next once));
        given = λ t at. absurd at;
        left = h.waiting ∙ sym (append-nil store.waiting);
      }

module _ {T C S E : Type 0} where
  pub ends_write : (members : List (Ended E)) (own : Claimant T C S E)
      → (after_ends members own).write ≡ own.write
  ends_write [] own = refl
  ends_write (one ∷ more) own = ends_write more (after_end one own)

  ends_groups : (members : List (Ended E)) (own : Claimant T C S E)
      → (after_ends members own).groups ≡ own.groups
  ends_groups [] own = refl
  ends_groups (one ∷ more) own = ends_groups more (after_end one own)

  ends_ended : (members : List (Ended E)) (own : Claimant T C S E)
      → (after_ends members own).ended ≡ own.ended ++ members
  ends_ended [] own = sym (append-nil own.ended)
  ends_ended (one ∷ more) own =
      ends_ended more (after_end one own) ∙ append_assoc own.ended (one ∷ []) more

  -- the members of groups end with them
  pub whole_end : (own : Claimant T C S E) (one : Ended E) → AreWhole own.groups own.ended
      → AreWhole own.groups (own.ended ++ one ∷ [])
  whole_end own one whole group other at there = in_first own.ended (one ∷ []) other (whole group other at there)

  pub whole_commit : (changed : C → T → T) (change : C) (members : List (Ended E)) (own : Claimant T C S E)
      → AreWhole own.groups own.ended
      → AreWhole (after_commit changed change members own).groups (after_commit changed change members own).ended
  whole_commit changed change members own whole =
      subst (λ (gs : List (Group C E)). AreWhole gs (after_commit changed change members own).ended)
      (sym (ends_groups members (after_change changed change members own)))
      (subst (AreWhole (after_change changed change members own).groups)
      (sym (ends_ended members (after_change changed change members own))) both)
    where
      both : AreWhole (after_change changed change members own).groups (own.ended ++ members)
      both group one at there =
          elim (in_either own.groups
          (record { number = own.group + 1; change = change; members = members } ∷ []) group at) [
            | inl before ↦ in_first own.ended members one (whole group one before there)
            | inr last ↦ elim last [
              | inl same ↦
                  in_second own.ended members one
                  (subst (λ (g : Group C E). In one g.members) same there)
              | inr never ↦ absurd never
            ]
          ]

module _ {T C S E : Type 0} (changed : C → T → T) (store : Store T S E) (sent : List (Write C S E))
    (versions : List Version) (history : List (Write C S E)) (claim : ℕ) (own : Claimant T C S E)
    (right : Right changed store sent versions history claim own) where
  -- whoever is free goes on
  pub free_moves : own.standing ≡ Free → (new : Claimant T C S E) → new.write ≡ own.write
      → AreWhole new.groups new.ended
      → (Ahead changed store own → Ahead changed store new)
      → Right changed store sent versions history claim new
  free_moves free new same whole go =
      record {
        given = right.given;
        whole = whole;
        now = λ is. elim (right.now is) [ inl ahead ↦ inl (go ahead) | inr level ↦ absurd (level.busy free) ];
        bound = λ n at. let low = right.bound n at in omega (arith, same, low);
        through = λ at.
            absurd ((right.through (subst (λ (n : ℕ). In (at_version claim (n + 1)) versions) same at)).busy free);
        sends = λ write at is.
            let s = right.sends write at is in
            let low = s.number in
            record {
              number = omega (arith, same, low);
              busy = λ e. absurd (s.busy (omega (arith, same, e)) free);
              is = λ e. absurd (s.busy (omega (arith, same, e)) free);
            };
      }

  -- it stands otherwise, and isn't free
  pub stands_so : (standing : Standing) → (standing ≡ Free → ⊥)
      → Right changed store sent versions history claim (record own { standing = standing })
  stands_so standing busy =
      record {
        given = right.given;
        whole = right.whole;
        now = λ is. elim (right.now is) [
          | inl h ↦ inl (record {
            write = h.write;
            tables = h.tables;
            group = h.group;
            follow = h.follow;
            goes = h.goes;
            given = h.given;
            left = h.left;
          })
          | inr h ↦ inr (record {
            write = h.write;
            busy = busy;
            tables = h.tables;
            group = h.group;
            waiting = h.waiting;
            next = h.next;
          })
        ];
        bound = right.bound;
        through = λ at.
            let h = right.through at in
            record { busy = busy; done = h.done; given = h.given; ended = h.ended };
        sends = λ write at is.
            let h = right.sends write at is in
            record { number = h.number; busy = λ e. busy; is = h.is };
      }

  -- it learns that its write went through
  pub knows : ((v : Version) → In v versions → (v.claim ≤ store.claim) × (v.write ≤ store.write))
      → AreOnce store.waiting store.ended store.next → In (at_version claim (own.write + 1)) versions
      → Right changed store sent versions history claim (after_write own)
  knows within once at =
      record {
        given = right.given;
        whole = λ group one none. absurd none;
        now = λ is. elim (right.now is) [
          | inl h ↦
              let e = h.write in
              let low : own.write + 1 ≤ store.write = (within (at_version claim (own.write + 1)) at).1 in
              absurd (omega (arith, e, low))
          | inr h ↦ inl (ahead_written changed store once own h)
        ];
        bound = λ n there. let low = right.bound n there in omega (arith, low);
        through = λ there. let low = right.bound (own.write + 1 + 1) there in absurd (omega (arith, low));
        sends = λ write there is.
            let h = right.sends write there is in
            let low = h.number in
            record {
              number = omega (arith, low);
              busy = λ e. absurd (omega (arith, low, e));
              is = λ e. absurd (omega (arith, low, e));
            };
      }
