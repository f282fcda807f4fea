use Rattle.std.proofs.Common.{◌∙◌, sym, subst, ap}
use Rattle.ent_form.specs.Catalogue.{schemas_of}
use Rattle.ent_tree.specs.declared.declaration.Opening.{Opening}
use Rattle.ent_room.specs.Acts.{Advances}
use Rattle.ent_room.specs.Room.{Room}
use Rattle.ent_room.proofs.Epochs.{same_number, still_follows}
use Rattle.ent_room.proofs.room.Room.end.Goals as goal

pub invariant_of-self : goal.invariant_of-self
invariant_of-self c =
    let old = c.self.inside.admission in
    let new = c.go_on.new.self in
    let number = same_number old new c.go_on.ensures.goes in (
      c.self.invariant.0 ∙ ap (λ (o : Opening). schemas_of o.tables) (sym c.go_on.ensures.opening),
      still_follows old.epoch new.epoch c.self.inside.last number c.go_on.ensures.opening c.self.invariant.1,
    )

pub invariant_of-self-2 : goal.invariant_of-self-2
invariant_of-self-2 c =
    let old = c.self.inside.admission in
    let new = c.go_on.new.self in
    let number = same_number old new c.go_on.ensures.goes in (
      c.self.invariant.0 ∙ ap (λ (o : Opening). schemas_of o.tables) (sym c.go_on.ensures.opening),
      still_follows old.epoch new.epoch c.self.inside.last number c.go_on.ensures.opening c.self.invariant.1,
    )

pub returns-in_err-go_on-clause-advances : goal.returns-in_err-go_on-clause-advances
returns-in_err-go_on-clause-advances c =
    let new : Room = record { admission = c.go_on.new.self; last = c.self.inside.last } in
    subst (λ (old : Room). Advances old new) c.self.view_is
    (record {
      acts = c.go_on.ensures.advances;
      none_before = λ e. e;
      none_ended = λ e. same_number c.self.inside.admission c.go_on.new.self c.go_on.ensures.goes;
    })

pub returns-clause-advances : goal.returns-clause-advances
returns-clause-advances c =
    let new : Room = record { admission = c.go_on.new.self; last = c.self.inside.last } in
    subst (λ (old : Room). Advances old new) c.self.view_is
    (record {
      acts = c.go_on.ensures.advances;
      none_before = λ e. e;
      none_ended = λ e. same_number c.self.inside.admission c.go_on.new.self c.go_on.ensures.goes;
    })
