-- A write goes through.
use Rattle.std.proofs.Common.{◌≡◌, ◌≤◌, ◌+◌, ℕ, List, [], ◌∷◌, ◌++◌, sym, ap, subst, ◌∙◌}
use Rattle.std.proofs.Common.{inl, inr, arith}
use Rattle.std.proofs.lemmas.List.{length-append, flat_map_more}
use Rattle.ent_lists.specs.Elements.{In, in_either, in_first, in_second, all_joined, of_all, pairs_behind}
use Rattle.ent_waiting.specs.Laws.{FollowOn, NotLaterClaim}
use Rattle.ent_waiting.specs.Store.{Waiter, Store, Write, Version, Fits, tables_after, last_group, written}
use Rattle.ent_waiting.specs.Store.{version}
use Rattle.ent_waiting.specs.World.{Claimant, asked}
use Rattle.ent_waiting.proofs.Goes.{AreOnce, Stays, once_behind, stays_on, stays_behind}
use Rattle.ent_waiting.proofs.Invariant.{Ahead, Level, Through, Right, Continues, MayArrive, HasGroups}
use Rattle.ent_waiting.proofs.Invariant.{AreWhole, HasWrites, IsBusy, at_version, groups_in}
use Rattle.ent_waiting.proofs.Order.{follow_joined, last_joined, tables_joined, number_behind}

module _ {T C S E : Type 0} (changed : C → T → T) (store : Store T S E) (write : Write C S E)
    (fits : Fits store write) (whole : AreWhole write.groups write.ended) (continues : Continues store write)
    (once : AreOnce store.waiting store.ended store.next) where
  abbrev new : Store T S E
  new = written changed write store

  pub once_written : AreOnce new.waiting new.ended new.next
  once_written =
      once_behind store.waiting store.ended store.next write.waiting write.ended write.next once continues.goes

  pub stays_written : (waiter : Waiter S) → Stays store.waiting store.ended waiter
      → Stays new.waiting new.ended waiter
  stays_written waiter h =
      stays_on store.waiting store.ended store.next write.waiting write.ended write.next continues.goes waiter h

  pub groups_written : (first : T) (history : List (Write C S E)) → HasGroups changed first store history
      → HasGroups changed first new (history ++ write ∷ [])
  groups_written first history h =
      record {
        tables =
            ap (tables_after changed write.groups) h.tables
            ∙ sym (tables_joined changed (groups_in history) write.groups first)
            ∙ ap (λ gs. tables_after changed gs first) all;
        follow =
            subst (FollowOn 0) all
            (follow_joined 0 (groups_in history) write.groups h.follow
            (subst (λ (n : ℕ). FollowOn n write.groups) h.last continues.follow));
        last =
            ap (last_group write.groups) h.last ∙ sym (last_joined 0 (groups_in history) write.groups)
            ∙ ap (λ gs. last_group gs 0) all;
        ended =
            ap (λ es. es ++ write.ended) h.ended
            ∙ flat_map_more (λ (w : Write C S E). w.ended) [] history write;
        whole = subst (λ gs. AreWhole gs new.ended) all (λ group one at there.
            elim (in_either (groups_in history) write.groups group at) [
              | inl before ↦ in_first store.ended write.ended one (h.whole group one before there)
              | inr now ↦ in_second store.ended write.ended one (whole group one now there)
            ]);
      }
    where
      all : groups_in history ++ write.groups ≡ groups_in (history ++ write ∷ [])
      all = flat_map_more (λ (w : Write C S E). w.groups) [] history write

  pub writes_written : (history : List (Write C S E)) → HasWrites store history
      → HasWrites new (history ++ write ∷ [])
  writes_written history h =
      let number = fits.number in
      let last = h.last in
      let joined = length-append history (write ∷ []) in
      let own : write.claim ≤ store.claim = let e = fits.claim in omega (arith, e) in
      record {
        numbers = number_behind 0 history write h.numbers (omega (arith, number, last));
        last = omega (arith, number, last, joined);
        claims =
            pairs_behind NotLaterClaim history write h.claims (λ other at.
            let low : other.claim ≤ store.claim = of_all (λ w. w.claim ≤ store.claim) history other h.present at in
            let e = fits.claim in
            omega (arith, low, e));
        present = all_joined (λ w. w.claim ≤ store.claim) history (write ∷ []) h.present (own, tt);
      }

  pub arrive_written : (other : Write C S E) → MayArrive store other → MayArrive new other
  arrive_written other h =
      let number = fits.number in
      record {
        claim = h.claim;
        whole = h.whole;
        number = λ e. let low = h.number e in omega (arith, low, number);
        fits = λ f.
            let low = h.number f.claim in
            let again = f.number in
            absurd (omega (arith, low, again, number));
      }

  module _ (sent : List (Write C S E)) (versions : List Version) (history : List (Write C S E)) (at : In write sent)
      (claim : ℕ) (own : Claimant T C S E) (right : Right changed store sent versions history claim own) where
    -- what the writer did is what was written
    is_own : claim ≡ store.claim → (write ≡ asked claim own) × IsBusy own × Ahead changed store own
    is_own e =
        let sends = right.sends write at (fits.claim ∙ sym e) in
        let number = fits.number in
        elim (right.now e) [
          | inl h ↦
              let same = h.write in
              let is : write.number ≡ own.write + 1 = omega (arith, same, number) in
              (sends.is is, sends.busy is, h)
          | inr h ↦
              let more = h.write in
              let low = sends.number in
              absurd (omega (arith, more, low, number))
        ]

    level : claim ≡ store.claim → Level new own
    level e =
        let r = is_own e in
        let same = r.2.write in
        let number = fits.number in
        record {
          write = omega (arith, same, number);
          busy = r.1;
          tables =
              r.2.tables ∙ ap (λ (w : Write C S E). tables_after changed w.groups store.tables) (sym r.0);
          group = r.2.group ∙ ap (λ (w : Write C S E). last_group w.groups store.group) (sym r.0);
          waiting = ap (λ (w : Write C S E). w.waiting) (sym r.0);
          next = ap (λ (w : Write C S E). w.next) (sym r.0);
        }

    lifted : Through store history claim own → Through new (history ++ write ∷ []) claim own
    lifted h =
        record {
          busy = h.busy;
          done = in_first history (write ∷ []) (asked claim own) h.done;
          given = λ w there. stays_written w (h.given w there);
          ended = λ one there. in_first store.ended write.ended one (h.ended one there);
        }

    done : claim ≡ store.claim → Through new (history ++ write ∷ []) claim own
    done e =
        let r = is_own e in
        record {
          busy = r.1;
          done = in_second history (write ∷ []) (asked claim own) (inl (sym r.0));
          given = λ waiter there.
              stays_behind store.waiting store.ended store.next write.waiting write.ended write.next waiter
              (subst (λ (w : Write C S E). Stays w.waiting w.ended waiter) (sym r.0) (r.2.given waiter there));
          ended = λ one there.
              in_second store.ended write.ended one (subst (λ (w : Write C S E). In one w.ended) (sym r.0) there);
        }

    pub right_written : Right changed new sent (versions ++ version new ∷ []) (history ++ write ∷ []) claim own
    right_written =
        record {
          given = right.given;
          whole = right.whole;
          now = λ e. inr (level e);
          bound = λ n there. elim (in_either versions (version new ∷ []) (at_version claim n) there) [
            | inl before ↦ right.bound n before
            | inr last ↦ elim last [
              | inl same ↦
                  let e : claim ≡ store.claim = ap (λ (v : Version). v.claim) same in
                  let f : n ≡ write.number = ap (λ (v : Version). v.write) same in
                  let low = (right.sends write at (fits.claim ∙ sym e)).number in
                  omega (arith, f, low)
              | inr never ↦ absurd never
            ]
          ];
          through = λ there.
              elim (in_either versions (version new ∷ []) (at_version claim (own.write + 1)) there) [
                | inl before ↦ lifted (right.through before)
                | inr last ↦ elim last [
                  | inl same ↦ done (ap (λ (v : Version). v.claim) same)
                  | inr never ↦ absurd never
                ]
              ];
          sends = right.sends;
        }
