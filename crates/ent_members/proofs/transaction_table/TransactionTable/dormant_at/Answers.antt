use Rattle.std.proofs.Common.{◌≡◌, ◌+◌, ℕ, Some, slice_get, drop, sym, ap, ◌∙◌}
use Rattle.std.specs.Option.{option_map}
use Rattle.std.proofs.lemmas.Option.{slice_get-map}
use Rattle.indexmap.specs.IndexMap.{keys}
use Rattle.ent_members.specs.TransactionTable.{TransactionTable, entrant_of}
use Rattle.ent_members.proofs.Lookups.{slice_behind, value_here}
use Rattle.ent_members.proofs.transaction_table.TransactionTable.dormant_at.Goals as goal

pub returns-in-Some : goal.returns-in-Some
returns-in-Some c =
    let s = c.self.inside in
    let tx = c.in-Some._tx.now in
    let f = entrant_of s.live s.order in
    let is : slice_get (keys s.order) (s.in_run + c.args.place) ≡ Some tx =
    slice_get-map (λ (e : ℕ × ℕ). e.0) s.order.entries (s.in_run + c.args.place)
    ∙ ap (option_map (λ (e : ℕ × ℕ). e.0)) (sym c.in-Some.ensures.entry) in
    c.get.ensures ∙ value_here s.live s.order c.self.invariant.stand tx c.in-Some.key.now c.in-Some.ensures.value
    ∙ sym (slice_get-map f (drop s.in_run (keys s.order)) c.args.place
    ∙ ap (option_map f) (slice_behind (keys s.order) s.in_run c.args.place tx is))
    ∙ ap (λ (table : TransactionTable). slice_get table.dormant c.args.place) c.self.view_is
