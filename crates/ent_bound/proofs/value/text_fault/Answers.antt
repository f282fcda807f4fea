use Rattle.std.proofs.Common.{◌∙◌, Option, arith, subst, sym}
use Rattle.std.specs.Char.{is_ascii_control}
use Rattle.std.specs.Option.{MatchOption}
use Rattle.ent_bound.specs.Bindable.{IsBindableText, IsTextFault}
use Rattle.ent_bound.specs.declared.fault.ValueFault.{ValueFault}
use Rattle.ent_bound.proofs.Texts.{nowhere}
use Rattle.ent_bound.proofs.value.text_fault.Goals as goal

pub returns-in_err-control_character : goal.returns-in_err-control_character
returns-in_err-control_character c =
    let bytes = c.args.bytes.now in
    let plain = nowhere is_ascii_control 0 bytes (sym c.control_character.ensures ∙ c.in_err-control_character.was) in
    let right : IsBindableText bytes = (omega arith, c.in_default.ensures.cases.1, plain) in
    subst (λ (fault : Option ValueFault). MatchOption fault (IsBindableText bytes) (IsTextFault bytes))
    (sym c.from_residual.ensures) right
