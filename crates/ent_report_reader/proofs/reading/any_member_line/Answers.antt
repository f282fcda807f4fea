use Rattle.std.proofs.Common.{◌∙◌, ap}
use Rattle.ent_report_reader.specs.Bindings.{IsAnyMember, any_member_at}
use Rattle.ent_report_reader.proofs.BindingLines.{any_member_again, any_member_found}
use Rattle.ent_report_reader.proofs.LinesRead.{reads}
use Rattle.ent_report_reader.proofs.reading.any_member_line.Goals as goal

pub returns : goal.returns
returns c =
    reads (IsAnyMember c.args.text.now) (any_member_at c.args.text.now) c.any_member.result
    (λ x h. any_member_found c.args.text.now x.0 x.1 x.2 h)
    (λ x is. ap any_member_at is.0 ∙ any_member_again x.0 x.1 x.2 is.1 is.2 is.3)
    c.any_member.ensures
