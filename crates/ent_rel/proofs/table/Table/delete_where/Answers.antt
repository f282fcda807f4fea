use Rattle.std.proofs.Common.{◌≡◌, ap, sym, subst, ◌∙◌, length, arith, List, Bool}
use Rattle.std.specs.Prelude.{◌&&◌}
use Rattle.std.specs.List.{filter}
use Rattle.ent_lists.specs.Sets as set
use Rattle.ent_value.specs.declared.value.Value.{Value}
use Rattle.ent_rel.specs.Change.{deletion, changed_rows}
use Rattle.ent_rel.specs.First.{has_first}
use Rattle.ent_rel.specs.Part.{IsPart}
use Rattle.ent_rel.proofs.Found.{ascending_all, ascending_distinct, ascending_len}
use Rattle.ent_rel.proofs.Meanings.{deletion_filter, fits_part}
use Rattle.ent_rel.proofs.table.Table.delete_where.Goals as goal

pub returns-clause-change : goal.returns-clause-change
returns-clause-change g c = λ passes computes.
    let s = c.args.self.now.rows in
    let rows = set.ascending s in
    let met : List Value → Bool = λ row. has_first c.args.values.now row && passes row in
    let removed : filter met rows ≡ c.from_vec.result = sym (c.from_vec.ensures
    ∙ c.in_ok-matched.ensures.passing passes computes) in
    let count : length (filter met rows) ≡ c.len.result = ap length (removed ∙ c.from_vec.ensures)
    ∙ sym c.in_ok-matched.matched.ok.0 ∙ sym c.len.ensures in
    sym (ap (λ t. deletion t met) (sym (ascending_all s)) ∙ deletion_filter rows met (ascending_distinct s)
    ∙ (λ i. (count i, changed_rows (ascending_all s i) (removed i) (sym c.new.ensures i))))

pub returns-clause-fits : goal.returns-clause-fits
returns-clause-fits g c =
    let s = c.args.self.now.rows in
    let rows = set.ascending s in
    let P : List (List Value) → Type 0 = λ part. IsPart rows part in
    let part = subst P (sym c.from_vec.ensures) c.in_ok-matched.ensures.part in
    fits_part s rows c.from_vec.result c.new.result (ascending_all s) (ascending_distinct s) (omega
    (arith, ascending_len s, c.in_ok-matched.ensures.limit)) part (omega (arith, ap length c.new.ensures))
