use Rattle.std.proofs.Common.{◌≡◌, ◌∙◌, List, not, ap, sym, subst}
use Rattle.std.specs.List.{list_any}
use Rattle.ent_members.specs.Order.{IsAscending, tx_of}
use Rattle.ent_protocol.specs.Member.{is_of}
use Rattle.ent_protocol.specs.State.{Member}
use Rattle.ent_run.specs.Grouped.{is_labelled_among}
use Rattle.ent_run.specs.Run.{Run}
use Rattle.ent_run.proofs.Lookups.{own_ascending}
use Rattle.ent_run.proofs.Standing.{any_of_group}
use Rattle.std.proofs.Common.{map}
use Rattle.ent_run.proofs.run.Run.is_ready.Goals as goal

pub returns : goal.returns
returns c =
    let inside = c.self.inside in
    let group = c.args.group in
    ap not (c.any_labelled_among.ensures
    ∙ ap (list_any (is_labelled_among group c.active.result)) c.as_slice.ensures.list
    ∙ ap (λ (ms : List Member). list_any (is_labelled_among group ms) inside.groups) c.active.ensures
    ∙ any_of_group inside.locks inside.groups inside.members.prepared inside.members.active group
    c.as_slice.ensures.by_number c.self.invariant.0
    ∙ ap (λ (run : Run). list_any (is_of group) run.active) c.self.view_is)

pub any_labelled_among-requires : goal.any_labelled_among-requires
any_labelled_among-requires c =
    let inside = c.self.inside in
    subst (λ (ms : List Member). IsAscending (map tx_of ms)) (sym c.active.ensures)
    (own_ascending inside.locks inside.groups inside.members.active c.self.invariant.0.0.run.ascending)
