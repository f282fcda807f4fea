use Rattle.std.proofs.Common.{◌<◌, ◌+◌, [], ◌∷◌, ap, arith, get_or, length, length-append, subst, sym, ◌∙◌}
use Rattle.ent_value.specs.declared.value.Value.{Value}
use Rattle.ent_semantics.specs.declared.entangled.Entangled.{Entangled}
use Rattle.ent_match.specs.Demand.{AreOwners}
use Rattle.ent_match.specs.Fault.{IsOwner}
use Rattle.ent_match.proofs.Owners.{owners_pushed}
use Rattle.ent_match.proofs.demand.demand_of.Goals as goal

pub returns-in-None : goal.returns-in-None
returns-in-None c =
    let posts = ap (λ (s : Entangled Value). length s.posts) c.statement.ensures in
    let owners = c.loop-index.owners in (
      omega arith,
      c.in-None.ensures,
      λ i below. (
        get_or owners i 0,
        c.loop-index.invariant.owners i (subst (λ n. i < n) (sym c.loop-index.invariant.one_each) below),
      ),
    )

pub loop-index-preserved : goal.loop-index-preserved
loop-index-preserved c =
    let members = c.args.members.now in
    let asker = c.args.asker.now in
    let owners = c.loop-index.owners in
    let so_far = c.loop-index.invariant.one_each in
    record {
      one_each = ap length c.push.ensures ∙ length-append owners (c.in-Some.tx ∷ []) ∙ ap (λ n. n + 1) so_far;
      owners = subst (λ all. AreOwners members asker all) (sym c.push.ensures)
          (owners_pushed members asker owners c.in-Some.tx c.loop-index.invariant.owners
          (subst (λ n. IsOwner members asker n c.in-Some.tx) (sym so_far) c.in-Some.ensures));
    }
