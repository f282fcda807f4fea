use Rattle.std.proofs.Common.{◌≡◌, ◌∙◌, Bool, true, cond, [], ◌∷◌, ap, sym}
use Rattle.std.specs.List.{filter, list_any}
use Rattle.ent_join.specs.Domain.{is_alone}
use Rattle.ent_join.specs.Index.{Indexed, begins_so}
use Rattle.ent_join.proofs.Between.{any_from_filter}
use Rattle.ent_join.proofs.index.Index.may_have.Goals as goal

pub returns-then-is_alone : goal.returns-then-is_alone
returns-then-is_alone c =
    let p = begins_so c.args.key.now (0 ∷ []) in
    let alone : is_alone c.args.class c.args.self.now.classes ≡ true = sym c.is_alone.ensures ∙ c.if-is_alone.true in
    any_from_filter p c.args.self.now.rows c.rows_between.result.now c.is_empty.result
    (c.rows_between.ensures ∙ ap (filter p) (c.as_slice.ensures ∙ c.deref.ensures)
    ∙ ap (λ (index : Indexed). filter p index.rows) c.self.view_is) c.is_empty.ensures
    ∙ sym (ap (λ (b : Bool). cond b (list_any p c.args.self.now.rows) true) alone)
