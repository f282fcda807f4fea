use Rattle.std.proofs.Common.{◌≡◌, ◌==◌, ℕ, Some, filter, drop, sym, ap, ◌∙◌, arith}
use Rattle.std.specs.Prelude.{nat_eq}
use Rattle.indexmap.specs.IndexMap.{keys, get}
use Rattle.indexmap.proofs.MapLemmas.{Found-position}
use Rattle.ent_protocol.specs.State.{Dormant, first_of}
use Rattle.ent_members.specs.TransactionTable.{TransactionTable}
use Rattle.ent_members.proofs.Lists.{none_behind}
use Rattle.ent_members.proofs.Changes.{lacks}
use Rattle.ent_members.proofs.Lookups.{behind_has, behind_lacks, first_absent, first_there, is_none}
use Rattle.ent_members.proofs.Lookups.{number_at, value_here}
use Rattle.ent_members.proofs.transaction_table.TransactionTable.dormant_of.Goals as goal

pub returns-in_default : goal.returns-in_default
returns-in_default c =
    let s = c.self.inside in
    let tx = c.args.tx in
    let lack = lacks tx s.order.entries (is_none (get nat_eq s.order tx) c.in_default.ensures.found) in
    first_absent s.live s.order tx (drop s.in_run (keys s.order))
    (none_behind (λ (k : ℕ). k == tx) (keys s.order) s.in_run lack)
    ∙ ap (λ (table : TransactionTable). first_of (filter (λ (own : Dormant). own.tx == tx) table.dormant))
    c.self.view_is

pub returns-then-at-self : goal.returns-then-at-self
returns-then-at-self c =
    let s = c.self.inside in
    let tx = c.args.tx in
    let at = c.in-Some.at in
    let is = number_at (keys s.order) tx at (sym c.in-Some.ensures.index) in
    first_absent s.live s.order tx (drop s.in_run (keys s.order))
    (behind_lacks (keys s.order) at s.in_run tx c.in-Some.ensures.unique is c.if-at-self.true)
    ∙ ap (λ (table : TransactionTable). first_of (filter (λ (own : Dormant). own.tx == tx) table.dormant))
    c.self.view_is

pub returns : goal.returns
returns c =
    let s = c.self.inside in
    let tx = c.args.tx in
    let at = c.in-Some.at in
    let found = sym c.in-Some.ensures.index in
    let is = number_at (keys s.order) tx at found in
    let here : get nat_eq s.order tx ≡ Some c.index.result.now =
    (Found-position (nat_eq tx) s.order.entries at found).value ∙ c.index.ensures in
    c.get.ensures ∙ value_here s.live s.order c.self.invariant.stand tx c.index.result.now here
    ∙ first_there s.live s.order tx (drop s.in_run (keys s.order))
    (behind_has (keys s.order) at s.in_run tx is (omega (arith, c.if-at-self.false)))
    ∙ ap (λ (table : TransactionTable). first_of (filter (λ (own : Dormant). own.tx == tx) table.dormant))
    c.self.view_is
