use Rattle.std.proofs.Common.{ap, refl, subst, sym}
use Rattle.ent_core.specs.Reply.{reply_seen}
use Rattle.ent_core.specs.Passed.{resolved_forms}
use Rattle.ent_form.specs.declared.fault.FormFault.{FormFault}
use Rattle.ent_protocol.specs.Event.{Recall, Recalled, Reply}
use Rattle.ent_protocol.specs.Step.{Step}
use Rattle.ent_desk.specs.Advance.{is_leaving}
use Rattle.ent_desk.specs.Seen.{DeskState, LeadsOn}
use Rattle.ent_desk.proofs.Counting.{recalls_none}
use Rattle.ent_desk.proofs.Keeping.{kept_none, one_on}
use Rattle.ent_desk.proofs.Leaving.{stays_left}
use Rattle.ent_desk.proofs.desk.Desk.recall.Goals as goal

pub invariant_of-self : goal.invariant_of-self
invariant_of-self g c =
    let i = c.self.inside in
    let reply = reply_seen c.recall.result in
    let step = c.recall.ensures.step in (
      kept_none i.count i.scripts.total i.entries.total i.core c.recall.new.self Recall reply c.self.invariant.0 step
          (recalls_none i.core c.recall.new.self reply step),
      c.forget.ensures c.recall.new.self.lent (sym c.lent_count.ensures),
    )

pub returns : goal.returns
returns g c =
    let i = c.self.inside in
    let reply = reply_seen c.recall.result in
    let step = c.recall.ensures.step in
    let before : DeskState = record { core = i.core; count = i.count; left = i.left } in
    let new : DeskState = record { core = c.recall.new.self; count = i.count; left = i.left } in
    let stays = ap (λ (r : Reply FormFault). is_leaving r) step.0 in
    record {
      step = subst (λ (old : DeskState). Step resolved_forms old.core Recall Recalled c.recall.new.self) c.self.view_is
          (refl, step.1);
      events = subst (λ (old : DeskState). LeadsOn old new) c.self.view_is
          (one_on before new Recall reply step refl (stays_left i.left (is_leaving reply) stays));
      left = ap (λ (old : DeskState). old.left) c.self.view_is;
    }
