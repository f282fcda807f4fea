use Rattle.std.proofs.Common.{◌+◌, drop, ap, sym, ◌∙◌, arith, get_or}
use Rattle.ent_page.specs.Key.{byte_key, text_key}
use Rattle.std.proofs.lemmas.List.{drop_more}
use Rattle.ent_page.proofs.Fronts.{text_of, past_none}
use Rattle.ent_page.proofs.probe.past_escaped.Goals as goal

pub returns-in-Err : goal.returns-in-Err
returns-in-Err c = λ more.
    let i = c.loop-byte.byte-index in
    let rest = drop (i + 1) c.args.text.now in
    sym (c.loop-byte.invariant.same more)
    ∙ past_none c.loop-byte.left.now (byte_key (get_or c.args.text.now i 0)) (text_key rest)
    (text_key (drop i c.args.text.now)) c.in-Err.order (ap text_key (drop_more c.args.text.now i 0 (omega arith))
    ∙ text_of (get_or c.args.text.now i 0) rest) c.in-Err.ensures more
