use Rattle.std.proofs.Common.{sym, ◌∙◌, ap, true≢false}
use Rattle.ent_unify.specs.Side.{seen}
use Rattle.ent_unify.proofs.Solving.{puts_nothing, puts_left, puts_right, refuted_by_kind, refuted_constants}
use Rattle.ent_unify.proofs.equation.equate.Goals as goal

pub returns-then-is_same : goal.returns-then-is_same
returns-then-is_same c = puts_nothing _ _ _ (c.is_same.ensures.0 c.if-is_same.true)

pub returns-then-not-has_kind_of : goal.returns-then-not-has_kind_of
returns-then-not-has_kind_of c =
    refuted_by_kind _ _ (λ e. true≢false (sym (c.has_kind_of.ensures.1 e) ∙ c.if-not-has_kind_of.true))

pub returns-in-Variable : goal.returns-in-Variable
returns-in-Variable c =
    puts_left _ _ _ _ _ (ap seen c.in-Variable.is)
    (λ e. true≢false (sym (c.is_same.ensures.1 e) ∙ c.if-is_same.false))
    (c.has_kind_of.ensures.0 c.if-not-has_kind_of.false) c.requires.right c.substitute.ensures

pub returns-in-Variable-right : goal.returns-in-Variable-right
returns-in-Variable-right c =
    puts_right _ _ _ _ _ (ap seen c.in-Variable-right.is)
    (λ e. true≢false (sym (c.is_same.ensures.1 e) ∙ c.if-is_same.false))
    (c.has_kind_of.ensures.0 c.if-not-has_kind_of.false) c.requires.left c.substitute-in-Variable-right.ensures

pub returns : goal.returns
returns c =
    refuted_constants _ _ (λ e. true≢false (sym (c.is_same.ensures.1 e) ∙ c.if-is_same.false))
    (λ x e. let is = ap seen c.in_default.is in cc)
    (λ x e. let is = ap seen c.in_default-right.is in cc)
