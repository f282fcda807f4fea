use Rattle.std.proofs.Common.{◌≡◌, ◌==◌, ◌-◌, ◌∙◌, ℕ, false, true, List, Option, IsSome, ap, arith, drop, is_some}
use Rattle.std.proofs.Common.{length, length-take-le, nat_eq, subst, sym, take}
use Rattle.std.specs.List.{AllByRecursion, IsDistinct, list_all, list_any}
use Rattle.std.specs.Map.{values_of}
use Rattle.std.proofs.lemmas.List.{length-drop, length-map}
use Rattle.slab.specs.Slab.{ContainsKey, get as value_at}
use Rattle.indexmap.specs.IndexMap.{keys}
use Rattle.ent_semantics.specs.declared.book.Fated.{Fated}
use Rattle.ent_protocol.specs.State.{Dormant}
use Rattle.ent_members.specs.ByNumber.{under}
use Rattle.ent_members.proofs.Ended.{front_keys_distinct, front_keys_there, stand_left, still_has}
use Rattle.ent_members.proofs.Ended.{still_there, waiting_left}
use Rattle.ent_members.proofs.Shown.{none_fails, shown_there}
use Rattle.ent_members.proofs.transaction_table.TransactionTable.let_go.Goals as goal

pub remove_each-requires-clause-distinct : goal.remove_each-requires-clause-distinct
remove_each-requires-clause-distinct c =
    let s = c.self.inside in
    subst (λ (all : List ℕ). IsDistinct nat_eq (take s.in_run all))
    (sym (c.as_slice-then-are_under.ensures ∙ c.values.ensures.rest))
    (front_keys_distinct s.live s.order s.in_run c.self.invariant.stand c.keys.ensures.unique)

pub remove_each-requires-clause-there : goal.remove_each-requires-clause-there
remove_each-requires-clause-there c =
    let s = c.self.inside in
    subst (λ (all : List ℕ). AllByRecursion (ContainsKey s.live) (take s.in_run all))
    (sym (c.as_slice-then-are_under.ensures ∙ c.values.ensures.rest))
    (front_keys_there s.live s.order s.in_run c.self.invariant.stand c.keys.ensures.unique)

pub invariant_of-self : goal.invariant_of-self
invariant_of-self c =
    let s = c.self.inside in
    let kept = c.self.invariant in
    let new = c.remove_each.new.live in
    let after = c.drop-drain.new.self.0 in
    let unique = c.keys.ensures.unique in
    let moved : after.entries ≡ drop s.in_run s.order.entries = c.drop-drain.ensures.kept ∙ c.drain.ensures.kept in
    let are : c.as_slice-then-are_under.result.now ≡ values_of s.order.entries =
    c.as_slice-then-are_under.ensures ∙ c.values.ensures.rest in
    let others =
    subst (λ (all : List ℕ). (key : ℕ) → list_any (λ k. k == key) (take s.in_run all) ≡ false
    → value_at new key ≡ value_at s.live key) are c.remove_each.ensures.others in
    let long : length c.as_slice-then-are_under.result.now ≡ length s.order.entries =
    ap (λ (all : List ℕ). length all) are ∙ length-map s.order.entries (λ (e : ℕ × ℕ). e.1) in
    let gone = length-take-le s.in_run c.as_slice-then-are_under.result.now (omega (arith, long, kept.members)) in
    let left : length after.entries ≡ length s.order.entries - s.in_run =
    ap (λ (es : List (ℕ × ℕ)). length es) moved ∙ length-drop s.in_run s.order.entries in
    let finished : list_all (λ tx. is_some (under s.finished.items tx)) (take s.in_run (keys s.order)) ≡ true =
    ap (λ (slots : List (Option Fated)). list_all (λ tx. is_some (under slots tx)) (take s.in_run (keys s.order)))
    (sym c.as_slice.ensures.value)
    ∙ ap (λ (ns : List ℕ). list_all (λ tx. is_some (under c.as_slice.result.now tx)) (take s.in_run ns))
    (sym (c.as_slice-2.ensures ∙ c.keys.ensures.rest))
    ∙ sym c.are_under.ensures ∙ c.if-are_under.true in
    record {
      stand = stand_left s.live s.order s.in_run kept.stand unique new after moved others;
      held = omega (arith, c.remove_each.ensures.fewer, gone, left, kept.held, kept.members);
      members = omega arith;
      all = λ n number none.
          let out =
          none_fails (λ tx. is_some (under s.finished.items tx)) (take s.in_run (keys s.order)) n finished
          (shown_there (λ (fated : Fated). fated.tx) s.fates.items s.finished.items n kept.finished_shown ∙ none) in
          subst (λ (o : Option ℕ). IsSome o)
          (sym (still_there s.live s.order s.in_run kept.stand unique new after moved others n out))
          (kept.all n number none);
      only = λ n there.
          kept.only n (still_has s.live s.order s.in_run kept.stand unique new after moved others n there);
      few = omega (arith, left, kept.few);
      bound = omega (arith, left, kept.bound, kept.members);
      fits = kept.fits;
      all_finished = kept.all_finished;
      finished_shown = kept.finished_shown;
    }

pub returns-then-are_under : goal.returns-then-are_under
returns-then-are_under c =
    let s = c.self.inside in
    let kept = c.self.invariant in
    let new = c.remove_each.new.live in
    let after = c.drop-drain.new.self.0 in
    let moved : after.entries ≡ drop s.in_run s.order.entries = c.drop-drain.ensures.kept ∙ c.drain.ensures.kept in
    let others =
    subst (λ (all : List ℕ). (key : ℕ) → list_any (λ k. k == key) (take s.in_run all) ≡ false
    → value_at new key ≡ value_at s.live key) (c.as_slice-then-are_under.ensures ∙ c.values.ensures.rest)
    c.remove_each.ensures.others in
    ap (λ (dormant : List Dormant). record { dormant = dormant; fates = s.fates.items; known = s.known })
    (waiting_left s.live s.order s.in_run kept.stand c.keys.ensures.unique new after moved others)
    ∙ c.self.view_is
