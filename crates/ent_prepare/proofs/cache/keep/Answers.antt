use Rattle.std.proofs.Common.{List, ℕ, sym, subst, vec_items}
use Rattle.ent_input.specs.Reading.{IsScript}
use Rattle.ent_prepare.proofs.Kept.{are_read_after, has_bytes, same_bytes}
use Rattle.ent_prepare.proofs.cache.keep.Goals as goal

pub returns-in-Ok : goal.returns-in-Ok
returns-in-Ok c =
    are_read_after (λ this. has_bytes (vec_items this)) c.args.cache.now c.in-Ok.key c.args.script
    (same_bytes c.in-Ok.key.items)
    (subst (λ (bytes : List ℕ). IsScript bytes c.args.script) (sym c.in-Ok.ensures) c.requires.script)
    c.put.new.self c.put.result c.put.ensures.entries c.put.ensures.err c.requires.kept
