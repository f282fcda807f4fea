use Rattle.std.proofs.Common.{◌∙◌, ℕ, refl, subst, sym}
use Rattle.std.proofs.lemmas.Option.{same_Some}
use Rattle.ent_report_reader.specs.Located.{StandsAt}
use Rattle.ent_check_report.proofs.explain.explain_told.Goals as goal

pub unreachable-requires : goal.unreachable-requires
unreachable-requires c =
    let told = c.requires.told c.in-Some.finding (sym c.in_ok-finding.ensures ∙ c.in-Some.is) in
    let stands = c.line_of.ensures c.requires.lines.0 c.requires.lines.1 told in
    c.in_default-line_of.not-Some stands.0 stands.1

pub returns-clause-verdict : goal.returns-clause-verdict
returns-clause-verdict c text are =
    let found = sym c.in_ok-finding.ensures ∙ c.in-Some.is in
    let stands = c.line_of.ensures text are (c.requires.told c.in-Some.finding found) in
    let same = same_Some stands.0 c.in-Some-line_of.line (sym stands.1 ∙ c.in-Some-line_of.is) in (
      c.in-Some.finding,
      found,
      subst (λ (line : ℕ). StandsAt text c.in-Some.finding.thing line) same stands.2,
      refl,
    )
