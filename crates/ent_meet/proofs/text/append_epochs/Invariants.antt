use Rattle.std.proofs.Common.{◌≡◌, ◌++◌, drop}
use Rattle.ent_meet.specs.Text.{epochs_text}
use Rattle.ent_meet.proofs.text.append_epochs.Given as goal

-- what is out, and the text of what is left
abbrev pub invariant-loop-epoch : goal.invariant-loop-epoch
invariant-loop-epoch l =
    l.out.items ++ epochs_text l.groups l.number (drop l.epoch-index l.epochs)
    ≡ l.fn.out.items ++ epochs_text l.groups 1 l.epochs
