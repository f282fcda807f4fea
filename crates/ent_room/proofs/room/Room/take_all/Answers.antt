use Rattle.std.proofs.Common.{◌≡◌, ◌∙◌, [], ◌∷◌, ◌++◌, None, sym, subst, ap}
use Rattle.std.proofs.lemmas.List.{append_assoc}
use Rattle.ent_form.specs.InputFault.{scripts_fault}
use Rattle.ent_admission.specs.Passed.{Epoch}
use Rattle.ent_admission.specs.Admission.{IsFormed}
use Rattle.ent_waiting.specs.WaitingList.{WaitingList}
use Rattle.ent_room.specs.Putting.{with_put}
use Rattle.ent_room.specs.declared.putting.Stay.TheVariants.{AsWritten}
use Rattle.ent_room.proofs.Scripts.{formed_first, one_more_put}
use Rattle.ent_room.proofs.room.Room.take_all.Goals as goal

pub take_in-requires : goal.take_in-requires
take_in-requires c =
    let now = c.loop-script in
    let opening = c.args.self.now.admission.epoch.core.opening in
    let script = c.in-Some.script in
    let more = c.next.new.self.rest.items in
    let clean : scripts_fault opening (script ∷ more) ≡ None =
    ap (scripts_fault opening) (sym c.in-Some.ensures.steps.0) ∙ now.invariant.formed in
    record {
      formed = subst (λ (e : Epoch). IsFormed e.core.opening script) (sym now.invariant.epoch)
          (formed_first opening script more clean).0;
    }

pub loop-script-preserved : goal.loop-script-preserved
loop-script-preserved c =
    let now = c.loop-script in
    let opening = c.args.self.now.admission.epoch.core.opening in
    let script = c.in-Some.script in
    let more = c.next.new.self.rest.items in
    let clean : scripts_fault opening (script ∷ more) ≡ None =
    ap (scripts_fault opening) (sym c.in-Some.ensures.steps.0) ∙ now.invariant.formed in
    let all = ap (λ rest. now.yielded ++ rest) (sym c.in-Some.ensures.steps.0) ∙ now.invariant.all in
    record {
      list = c.in_ok-take_in.ensures.list
          ∙ ap (λ (l : WaitingList). with_put script AsWritten l) now.invariant.list
          ∙ sym (one_more_put now.yielded script c.args.self.now.admission.list);
      epoch = c.take_in.ensures.epoch ∙ now.invariant.epoch;
      coming = c.take_in.ensures.coming ∙ now.invariant.coming;
      feed = c.take_in.ensures.feed ∙ now.invariant.feed;
      news = c.take_in.ensures.news ∙ now.invariant.news;
      last = c.take_in.ensures.last ∙ now.invariant.last;
      formed = (formed_first opening script more clean).1;
      all = append_assoc now.yielded (script ∷ []) more ∙ all;
    }
