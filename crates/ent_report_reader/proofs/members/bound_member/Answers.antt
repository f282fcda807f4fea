use Rattle.std.proofs.Common.{◌≡◌, ◌∙◌, List, ap, sym, true, false}
use Rattle.std.proofs.lemmas.Result.{err_from_is_err_and}
use Rattle.ent_value.specs.Value.{kinds_of}
use Rattle.ent_semantics.specs.Database.{Name}
use Rattle.ent_history.specs.Joints.{member_told}
use Rattle.ent_report_reader.proofs.MemberLines.{known_at, known_found, known_refused}
use Rattle.ent_report_reader.proofs.members.bound_member.Goals as goal

pub returns-in_err-tx : goal.returns-in_err-tx
returns-in_err-tx c =
    let p = err_from_is_err_and c.from_residual.result c.from_residual.ensures.1 in
    rw (p.1, p.2)
    (known_refused (c.args.variables.items, c.args.kinds.now) c.deref.result.now c.deref.ensures.value c.args.place
    c.args.text.now c.in_err-tx.field-0.0
    c.requires c.in_err-tx.ensures)

pub returns-then-not-is_at : goal.returns-then-not-is_at
returns-then-not-is_at c = λ told is.
    let known = known_at (c.args.variables.items, c.args.kinds.now) c.deref.result.now c.deref.ensures.value
    c.args.place c.args.text.now c.in_ok-tx.tx
    c.in_ok-tx.own c.in_ok-tx.values told c.requires c.in_ok-tx.ensures.1 is in
    let both : false ≡ true = sym c.if-not-is_at.true ∙ c.is_at.ensures.1 known.at in cc

pub returns-then-not-are_of_kinds : goal.returns-then-not-are_of_kinds
returns-then-not-are_of_kinds c = λ told is.
    let known = known_at (c.args.variables.items, c.args.kinds.now) c.deref.result.now c.deref.ensures.value
    c.args.place c.args.text.now c.in_ok-tx.tx
    c.in_ok-tx.own c.in_ok-tx.values told c.requires c.in_ok-tx.ensures.1 is in
    let both : false ≡ true = sym c.if-not-are_of_kinds.true
    ∙ c.are_of_kinds.ensures.1 (ap kinds_of c.as_slice.ensures ∙ known.kinds) in cc

pub returns : goal.returns
returns c =
    let at = c.is_at.ensures.0 c.if-not-is_at.false in
    let kinds = ap kinds_of (sym c.as_slice.ensures) ∙ c.are_of_kinds.ensures.0 c.if-not-are_of_kinds.false in
    known_found (c.args.variables.items, c.args.kinds.now) c.deref.result.now c.deref.ensures.value c.args.place
    c.args.text.now c.in_ok-tx.tx c.in_ok-tx.own
    c.in_ok-tx.values c.told_member.result c.in_ok-tx.ensures.0 at.0 at.1 kinds
    (c.told_member.ensures
    ∙ ap (λ (n : List Name). member_told c.args.place.0 c.args.place.1 n c.in_ok-tx.values) c.from_vec.ensures)
