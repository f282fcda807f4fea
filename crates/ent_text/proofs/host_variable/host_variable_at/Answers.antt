use Rattle.std.proofs.Common.{◌∙◌, ap, sym, arith, take}
use Rattle.std.specs.Char.{is_ascii_alphabetic}
use Rattle.ent_text.proofs.Words.{front_is_word}
use Rattle.ent_text.proofs.host_variable.host_variable_at.Goals as goal

pub view_of-requires : goal.view_of-requires
view_of-requires c =
    front_is_word c.tail-behind.result.now c.split_at.result.0.now
    (ap is_ascii_alphabetic (sym c.byte_at.ensures) ∙ sym c.is_ascii_alphabetic.ensures.value
    ∙ c.if-not-is_ascii_alphabetic.false)
    (c.split_at.ensures.front ∙ ap (λ n. take n c.tail-behind.result.now) c.word_len.ensures.value) (omega arith)
