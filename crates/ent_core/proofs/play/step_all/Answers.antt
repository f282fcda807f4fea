use Rattle.std.proofs.Common.{◌∷◌, [], ◌++◌, ◌∙◌, map, ap, sym, subst}
use Rattle.std.proofs.lemmas.List.{map-append}
use Rattle.ent_core.specs.Event.{event_seen}
use Rattle.ent_core.specs.Play.{AreMade}
use Rattle.ent_core.specs.Reply.{reply_seen}
use Rattle.ent_core.proofs.Playing.{one_made}
use Rattle.ent_core.proofs.play.step_all.Goals as goal

pub loop-event-preserved : goal.loop-event-preserved
loop-event-preserved c =
    let now = c.loop-event in
    let first = c.args.core.now in
    let last = c.step.new.self in
    let reply = c.in_ok-step.field-0 in
    let made = one_made first now.core last (map event_seen now.yielded) (map reply_seen now.replies)
    (event_seen c.in-Some.event) (reply_seen reply) now.invariant.made c.in_ok-step.ensures.ok in
    let replied = ap (map reply_seen) c.in_ok-push.ensures.ok ∙ map-append reply_seen now.replies (reply ∷ []) in
    record {
      made = subst (λ events. AreMade first events (map reply_seen c.push.new.self) last)
          (sym (map-append event_seen now.yielded (c.in-Some.event ∷ [])))
          (subst (λ replies. AreMade first (map event_seen now.yielded ++ event_seen c.in-Some.event ∷ []) replies last)
          (sym replied) made);
      legal = c.step.ensures.legal;
    }
