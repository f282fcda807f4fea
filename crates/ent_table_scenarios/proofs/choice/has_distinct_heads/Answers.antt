use Rattle.std.proofs.Common.{◌≡◌, ◌≢◌, ◌∷◌, ◌++◌, [], ap, arith, get_or, subst, sym, take, ◌∙◌}
use Rattle.std.specs.Prelude.{AllPairs}
use Rattle.std.proofs.lemmas.List.{take_all, take_more}
use Rattle.std.proofs.lemmas.List.Elements.{Contains-get_or}
use Rattle.std.proofs.lemmas.List.Quantifiers.{all_pairs_push}
use Rattle.ent_value.specs.declared.value.Value.{Value}
use Rattle.ent_semantics.specs.declared.entangled.Atom.{Atom}
use Rattle.ent_semantics.specs.declared.entangled.Entangled.{Entangled}
use Rattle.ent_table_scenarios.proofs.choice.has_distinct_heads.Goals as goal

abbrev Differ : Atom Value → Atom Value → Type 0
Differ one other = one.relation ≢ other.relation

pub loop-number-preserved : goal.loop-number-preserved
loop-number-preserved c =
    let heads = c.as_slice-heads.result.now in
    let i = c.loop-number.number in
    let head = c.index-heads-number.result in
    subst (AllPairs Differ)
    (sym (take_more heads i head (omega arith) ∙ ap (λ h. take i heads ++ h ∷ []) (sym c.index-heads-number.is)))
    (all_pairs_push Differ (take i heads) head c.loop-number.invariant
    (λ k d below. c.is_new.ensures c.if-not-is_new.false (get_or (take i heads) k d)
    (Contains-get_or (take i heads) k d below)))

pub returns : goal.returns
returns c = λ is.
    let heads = c.as_slice-heads.result.now in
    subst (AllPairs Differ)
    (take_all c.loop-number.number heads (omega arith)
    ∙ (c.as_slice-heads.ensures ∙ (c.deref.ensures
    ∙ ap (λ (s : Entangled Value). s.heads) c.statement.ensures))) c.loop-number.invariant
