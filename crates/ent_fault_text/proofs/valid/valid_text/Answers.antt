use Rattle.std.proofs.Common.{ℕ, take, sym, ◌∙◌, ap}
use Rattle.std.proofs.Math.Seq.{take-length}
use Rattle.std.proofs.lemmas.Str.{utf8_valid_len-IsUtf8}
use Rattle.ent_fault_text.proofs.valid.valid_text.Goals as goal

pub returns-in-Ok : goal.returns-in-Ok
returns-in-Ok c =
    let bytes = c.args.bytes.now in
    c.in-Ok.ensures.cases.0
    ∙ sym (ap (λ (n : ℕ). take n bytes) (utf8_valid_len-IsUtf8 bytes c.in-Ok.ensures.cases.1) ∙ take-length bytes)
