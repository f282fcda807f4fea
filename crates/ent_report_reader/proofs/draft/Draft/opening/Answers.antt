use Rattle.std.proofs.Common.{◌≡◌, ℕ, ◌∙◌, refl, subst, sym, true, false}
use Rattle.std.proofs.lemmas.Result.{err_from_is_err_and}
use Rattle.ent_tree.specs.declared.declaration.Create.{Create}
use Rattle.ent_book.specs.Report.{line}
use Rattle.ent_history.specs.Draft.{Draft}
use Rattle.ent_history.specs.Opening.{OpeningStands}
use Rattle.ent_report_reader.specs.Opened.{Opens}
use Rattle.ent_report_reader.specs.Reading.{IsOpeningLine}
use Rattle.ent_report_reader.proofs.Steps.{refused}
use Rattle.ent_report_reader.proofs.OpeningLines.{opening_has, opening_opens}
use Rattle.ent_report_reader.proofs.draft.Draft.opening.Goals as goal

pub returns-in_err-create : goal.returns-in_err-create
returns-in_err-create c =
    let p = err_from_is_err_and c.from_residual.result c.from_residual.ensures.1 in
    rw (p.1, p.2)
    (refused (Unit {0}) (IsOpeningLine c.args.text.now) (OpeningStands c.args.self.now (line c.args.text.now))
    c.args.self.now c.in_err-create.field-0.0 c.in_err-create.ensures
    (λ next stands. (
      (stands.create, stands.count),
      opening_has c.args.self.now c.args.text.now next stands,
    )))

pub returns-then-not-opens : goal.returns-then-not-opens
returns-then-not-opens c = (
  λ next stands.
      let e = c.in_ok-create.ensures.1 (stands.create, stands.count)
      (opening_has c.args.self.now c.args.text.now next stands) in
      let own = subst (λ (x : Create × ℕ). Opens c.args.self.now.told.opening x.0 x.1) e
      (opening_opens c.args.self.now c.args.text.now next stands) in
      let seen = subst (λ (d : Draft). Opens d.told.opening c.in_ok-create.create c.in_ok-create.count)
      (sym c.self.view_is) own in
      let both : false ≡ true = sym c.if-not-opens.true ∙ c.opens.ensures.1 seen in cc,
  refl,
)
