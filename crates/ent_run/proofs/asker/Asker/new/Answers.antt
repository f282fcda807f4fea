use Rattle.std.proofs.Common.{◌≡◌, ◌==◌, ℕ, List, [], ◌∷◌, ap}
use Rattle.std.specs.Prelude.{Contains}
use Rattle.ent_group.specs.declared.groups.Membership.{Membership}
use Rattle.ent_protocol.specs.State.{Member}
use Rattle.ent_run.specs.Passing.{asker_of, passes}
use Rattle.ent_run.proofs.Lists.{contains_first}
use Rattle.ent_run.proofs.asker.Asker.new.Goals as goal

same_passes : (prepared : List Member) (groups : List Membership) (group tx : ℕ) (member : Member)
    → ((other : Member) → Contains prepared other → group ≡ member.group) → tx ≡ member.tx → (holder : ℕ)
    → passes (record { prepared = prepared; groups = groups; group = group; tx = tx }) holder
    ≡ passes (asker_of member prepared groups) holder
same_passes [] groups group tx member label number holder = ap (λ n. holder == n) number
same_passes (x ∷ xs) groups group tx member label number holder = λ i.
    passes (record {
      prepared = x ∷ xs;
      groups = groups;
      group = label x (contains_first x xs) i;
      tx = number i;
    }) holder

pub returns : goal.returns
returns c =
    same_passes c.args.prepared c.args.groups.now c.label_beside-group.result c.tx.result c.args.asker.now
    c.label_beside-group.ensures c.tx.ensures
