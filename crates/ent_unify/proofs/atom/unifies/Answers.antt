use Rattle.std.proofs.Common.{◌∙◌, sym, ap, true≢false}
use Rattle.ent_unify.proofs.Atoms.{told_apart, told_by, told_refuted, other_length}
use Rattle.ent_unify.proofs.atom.unifies.Goals as goal

pub returns-then-not-has_relation_of : goal.returns-then-not-has_relation_of
returns-then-not-has_relation_of c =
    let told = told_apart c.args.kinds.now c.args.atom.now c.args.others.now c.args.other.now
    (λ values others left right one_fact. true≢false
    (sym (c.has_relation_of.ensures.1 (ap (λ f. f.relation) one_fact)) ∙ c.if-not-has_relation_of.true)) in
    record { unify = told.unify; apart = told.apart }

pub returns-then-len : goal.returns-then-len
returns-then-len c =
    let told = told_apart c.args.kinds.now c.args.atom.now c.args.others.now c.args.other.now
    (λ values others left right one_fact. c.if-len.true (c.len.ensures.len
    ∙ (other_length c.args.atom.now c.args.other.now values others one_fact ∙ sym c.len-2.ensures.len))) in
    record { unify = told.unify; apart = told.apart }

pub returns-then-has_column_apart : goal.returns-then-has_column_apart
returns-then-has_column_apart c =
    let told = told_refuted c.args.kinds.now c.args.atom.now c.args.others.now c.args.other.now _ _
    (c.as_slice.ensures ∙ c.deref.ensures) (c.as_slice-2.ensures ∙ c.deref-2.ensures)
    (c.has_column_apart.ensures c.if-has_column_apart.true) in
    record { unify = told.unify; apart = told.apart }

pub returns : goal.returns
returns c =
    let told = told_by c.args.kinds.now c.args.atom.now c.args.others.now c.args.other.now _ _ _
    (c.has_relation_of.ensures.0 c.if-not-has_relation_of.false)
    (sym c.len.ensures.len ∙ (c.if-len.false ∙ c.len-2.ensures.len))
    (c.as_slice.ensures ∙ c.deref.ensures) (c.as_slice-2.ensures ∙ c.deref-2.ensures) c.unifies.ensures in
    record { unify = told.unify; apart = told.apart }
