use Rattle.std.proofs.Common.{◌∙◌, ap}
use Rattle.ent_history.specs.Bindings.{member_at}
use Rattle.ent_report_reader.specs.Bindings.{IsKnownMember}
use Rattle.ent_report_reader.proofs.LinesRead.{reads}
use Rattle.ent_report_reader.proofs.reading.known_member_line.Goals as goal

pub returns : goal.returns
returns c =
    let known = c.members_are_read_as_written.ensures in
    let names = c.args.names.now in
    reads (IsKnownMember names c.args.text.now) (member_at names c.args.text.now) c.member.result
    (λ x h. known.found names c.args.text.now x.0 x.1 x.2 h)
    (λ x is. ap (member_at names) is.0 ∙ known.only x.0 x.1 names x.2 is.1 is.2 is.3 is.4)
    c.member.ensures
