use Rattle.std.proofs.Common.{◌≡◌, ◌≢◌, ◌+◌, ◌++◌, ◌∷◌, [], ℕ, List, Option, None, Some, IsSome, is_some, ap, sym}
use Rattle.std.proofs.Common.{subst, refl, inl, inr, length, length-append, ◌∙◌, arith}
use Rattle.std.specs.Prelude.{nat_eq, OnOk}
use Rattle.std.specs.Map.{lookup}
use Rattle.std.proofs.lemmas.Bool.{cases_eq}
use Rattle.slab.specs.Slab.{Slab, Updates, get as value_at, slab_len}
use Rattle.indexmap.specs.IndexMap.{get, insert_entry, Updates as Puts}
use Rattle.indexmap.proofs.CallerLemmas.{insert_entry-new}
use Rattle.ent_semantics.specs.declared.book.Fated.{Fated}
use Rattle.ent_protocol.specs.State.{Dormant}
use Rattle.ent_members.specs.ByNumber.{ShowsFirst}
use Rattle.ent_members.specs.TransactionTable.{TransactionTable, is_fated}
use Rattle.ent_members.proofs.Changes.{free_apart, map_others, none_from, stand_with, waiting_new}
use Rattle.ent_members.proofs.Shown.{shown_more}
use Rattle.ent_members.proofs.transaction_table.TransactionTable.admit.Goals as goal

pub invariant_of-self-2 : goal.invariant_of-self-2
invariant_of-self-2 c =
    let s = c.self.inside in
    let kept = c.self.invariant in
    let tx = c.args.tx in
    let own : Dormant = record { tx = tx; runs = 0 } in
    let key = c.insert_reserved-key.result in
    let new = c.insert_reserved-key.new.self in
    let roomy = c.reserve-3.new.self in
    let after = c.insert.new.self in
    let entries = c.reserve-3.ensures.entries in
    let known : s.known ≡ c.args.self.now.known = ap (λ (table : TransactionTable). table.known) c.self.view_is in
    let number : tx ≡ s.known + 1 = omega (arith, known, c.requires.next) in
    let none : get nat_eq s.order tx ≡ None =
    none_from (get nat_eq s.order tx) (λ there. let le = kept.only tx there in omega (arith, le, number)) in
    let put : Puts nat_eq roomy after tx (Some key) =
    subst (λ r. OnOk r (Puts nat_eq roomy after tx (Some key))) c.unwrap-old.ensures c.insert.ensures.updates in
    let moved : after.entries ≡ insert_entry nat_eq roomy.entries tx key =
    subst (λ r. OnOk r (after.entries ≡ insert_entry nat_eq roomy.entries tx key)) c.unwrap-old.ensures
    c.insert.ensures.entries in
    let last : after.entries ≡ s.order.entries ++ (tx, key) ∷ [] =
    moved ∙ insert_entry-new nat_eq roomy tx key (ap (lookup (nat_eq tx)) entries ∙ none)
    ∙ ap (λ (es : List (ℕ × ℕ)). es ++ (tx, key) ∷ []) entries in
    let long : length after.entries ≡ length s.order.entries + 1 =
    ap (λ (es : List (ℕ × ℕ)). length es) last ∙ length-append s.order.entries ((tx, key) ∷ []) in
    let update : Updates c.reserve-2.new.self new key (Some own) =
    subst (λ (it : Dormant). Updates c.reserve-2.new.self new key (Some it)) c.new.ensures
    c.insert_reserved-key.ensures.updates in
    let kept_values : (k : ℕ) → value_at c.reserve-2.new.self k ≡ value_at s.live k =
    λ k. ap (λ (l : Slab Dormant). value_at l k) c.reserve-2.ensures.rest_kept in
    let free = sym (kept_values key) ∙ c.insert_reserved-key.ensures.was_vacant in
    let same : (k : ℕ) → k ≢ tx → get nat_eq after k ≡ get nat_eq s.order k =
    λ k ne. map_others roomy after tx tx (Some key) refl put k ne ∙ ap (lookup (nat_eq k)) entries in
    let slots = c.push_reserved.ensures.items
    ∙ ap (λ (all : List (Option Fated)). all ++ None ∷ []) c.reserve-4.ensures.items in
    record {
      stand = stand_with s.live new s.order after tx key (Some own) kept.stand
          (record { changed = update.changed; others = λ k ne. update.others k ne ∙ kept_values k }) same
          (λ k other ne. free_apart s.live s.order kept.stand key free k other) own refl refl put.1;
      held = omega (
        arith,
        long,
        kept.held,
        c.insert_reserved-key.ensures.len,
        ap (λ (l : Slab Dormant). slab_len l) c.reserve-2.ensures.rest_kept,
      );
      members = omega (arith, long, kept.members);
      all = λ n within fated.
          elim (cases_eq n tx) [
            | inl e ↦ subst (λ (m : ℕ). IsSome (get nat_eq after m)) (sym e) (ap is_some put.1)
            | inr ne ↦
                subst (λ (o : Option ℕ). IsSome o) (sym (same n ne))
                (kept.all n (within.0, omega (arith, within.1, ne, number))
                (ap (is_fated n) (sym c.reserve.ensures.items) ∙ fated))
          ];
      only = λ n there.
          elim (cases_eq n tx) [
            | inl e ↦ omega (arith, e, number)
            | inr ne ↦
                let le = kept.only n (subst (λ (o : Option ℕ). IsSome o) (same n ne) there) in
                omega (arith, le)
          ];
      few = omega (arith, long, kept.few);
      bound = omega (arith, long, kept.bound, ap (λ (fates : List Fated). length fates) c.reserve.ensures.items);
      fits = omega (arith, c.in_ok-reserve.ensures.ok, kept.bound, kept.members, c.len.ensures, c.reserve.ensures.len);
      all_finished = omega (
        arith,
        kept.all_finished,
        ap (λ (all : List (Option Fated)). length all) slots,
        length-append s.finished.items (None ∷ []),
      );
      finished_shown =
          subst (λ (all : List (Option Fated)). ShowsFirst (λ (fated : Fated). fated.tx) c.reserve.new.self.items all)
          (sym slots)
          (subst
          (λ (fates : List Fated). ShowsFirst (λ (fated : Fated). fated.tx) fates (s.finished.items ++ None ∷ []))
          (sym c.reserve.ensures.items)
          (shown_more (λ (fated : Fated). fated.tx) s.fates.items s.finished.items kept.finished_shown));
    }

pub returns-clause-ok : goal.returns-clause-ok
returns-clause-ok c =
    let s = c.self.inside in
    let kept = c.self.invariant in
    let tx = c.args.tx in
    let own : Dormant = record { tx = tx; runs = 0 } in
    let key = c.insert_reserved-key.result in
    let new = c.insert_reserved-key.new.self in
    let roomy = c.reserve-3.new.self in
    let after = c.insert.new.self in
    let entries = c.reserve-3.ensures.entries in
    let known : s.known ≡ c.args.self.now.known = ap (λ (table : TransactionTable). table.known) c.self.view_is in
    let none : get nat_eq s.order tx ≡ None =
    none_from (get nat_eq s.order tx)
    (λ there. let le = kept.only tx there in omega (arith, le, known, c.requires.next)) in
    let put : Puts nat_eq roomy after tx (Some key) =
    subst (λ r. OnOk r (Puts nat_eq roomy after tx (Some key))) c.unwrap-old.ensures c.insert.ensures.updates in
    let moved : after.entries ≡ insert_entry nat_eq roomy.entries tx key =
    subst (λ r. OnOk r (after.entries ≡ insert_entry nat_eq roomy.entries tx key)) c.unwrap-old.ensures
    c.insert.ensures.entries in
    let update : Updates c.reserve-2.new.self new key (Some own) =
    subst (λ (it : Dormant). Updates c.reserve-2.new.self new key (Some it)) c.new.ensures
    c.insert_reserved-key.ensures.updates in
    let kept_values : (k : ℕ) → value_at c.reserve-2.new.self k ≡ value_at s.live k =
    λ k. ap (λ (l : Slab Dormant). value_at l k) c.reserve-2.ensures.rest_kept in
    let back =
    waiting_new s.live new s.order after s.in_run tx key kept.stand none
    (sym (kept_values key) ∙ c.insert_reserved-key.ensures.was_vacant)
    (record { changed = update.changed; others = λ k ne. update.others k ne ∙ kept_values k })
    (λ k ne. map_others roomy after tx tx (Some key) refl put k ne ∙ ap (lookup (nat_eq k)) entries) put.1
    (moved ∙ insert_entry-new nat_eq roomy tx key (ap (lookup (nat_eq tx)) entries ∙ none)
    ∙ ap (λ (es : List (ℕ × ℕ)). es ++ (tx, key) ∷ []) entries) kept.members in
    (λ i. record { dormant = back i; fates = c.reserve.ensures.items i; known = s.known + 1 })
    ∙ ap (λ (table : TransactionTable). record {
      dormant = table.dormant ++ own ∷ [];
      fates = table.fates;
      known = table.known + 1;
    }) c.self.view_is
