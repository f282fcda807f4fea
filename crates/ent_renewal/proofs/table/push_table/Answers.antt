use Rattle.std.proofs.Common.{◌≡◌, ◌≤◌, All, List, length, sym, ap, subst, ◌∙◌, arith}
use Rattle.ent_lists.specs.Sets as set
use Rattle.ent_value.specs.declared.value.Value.{Value}
use Rattle.ent_tree.specs.declared.limits.TheConstants.{MOST_PARTS}
use Rattle.ent_semantics.specs.Database.{Rows}
use Rattle.ent_book.proofs.Ascending.{count_of_ascending}
use Rattle.ent_renewal.proofs.Counted.{nothing_put, widths}
use Rattle.ent_renewal.proofs.table.push_table.Goals as goal

pub push_rows-requires-clause-room : goal.push_rows-requires-clause-room
push_rows-requires-clause-room g c =
    let own : Rows = g.T.TablesByName.database c.args.tables.now c.args.create.now.name.name in
    let is : c.as_slice.result.now ≡ set.ascending own =
    c.as_slice.ensures.value ∙ c.in_ok-present-in-Some.ensures.rows
    ∙ ap (λ (rows : Rows). set.ascending rows) (sym c.in-Some.ensures) in
    let many : length c.as_slice.result.now ≡ set.len own = ap length is ∙ count_of_ascending own in
    let room = c.requires.room in
    omega (arith, many, room)

pub push_rows-requires-clause-widths : goal.push_rows-requires-clause-widths
push_rows-requires-clause-widths g c =
    let own : Rows = g.T.TablesByName.database c.args.tables.now c.args.create.now.name.name in
    let is : c.as_slice.result.now ≡ set.ascending own =
    c.as_slice.ensures.value ∙ c.in_ok-present-in-Some.ensures.rows
    ∙ ap (λ (rows : Rows). set.ascending rows) (sym c.in-Some.ensures) in
    let few : length c.args.create.now.columns ≤ MOST_PARTS =
    omega (arith, c.len-count.ensures.len, c.len-count.ensures.limit) in
    subst (λ (rows : List (List Value)). All (λ row. length row ≤ MOST_PARTS) rows) (sym is)
    (widths c.args.create.now own MOST_PARTS few c.requires.kinds)

pub returns-in-None : goal.returns-in-None
returns-in-None g c =
    nothing_put (g.T.TablesByName.database c.args.tables.now) c.args.create.now c.args.rows.now c.in-None.ensures
