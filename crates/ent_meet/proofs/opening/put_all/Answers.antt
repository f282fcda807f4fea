use Rattle.std.proofs.Common.{◌≡◌, ◌∙◌, ◌+◌, ◌∷◌, ℕ, List, ap, arith, sym, subst, drop, get_or, add-one, drop-cons}
use Rattle.std.specs.Option.{option_copied}
use Rattle.ent_room.specs.Putting.{tables_of}
use Rattle.ent_tree.specs.declared.script.Script.{Script}
use Rattle.ent_meet.specs.Opening.{AreWaiting}
use Rattle.ent_meet.proofs.Coming.{one_comes}
use Rattle.ent_meet.proofs.opening.put_all.Goals as goal

pub loop-script-preserved : goal.loop-script-preserved
loop-script-preserved c =
    let now = c.loop-script in
    let first = c.args.room.now.admission in
    let said = c.args.said.now in
    let scripts = c.args.scripts.now in
    let i = now.script-index in
    let script = c.script-item.result in
    let rest : drop i scripts ≡ script ∷ drop (i + 1) scripts =
    drop-cons scripts i script (omega arith)
    ∙ ap (λ (n : ℕ). get_or scripts i script ∷ drop n scripts) (sym (add-one i))
    ∙ ap (λ (other : Script). other ∷ drop (i + 1) scripts) (sym c.script-item.is)
    in
    record {
      index = ap (λ (n : ℕ). n + 1) now.invariant.index;
      list = λ last others. now.invariant.list last
          (subst (λ (xs : List Script). AreWaiting (tables_of first) said now.index xs now.room.admission.list last)
          (sym rest)
          (one_comes first now.room.admission said now.index script (drop (i + 1) scripts) c.as_slice.result.now
          (option_copied c.get.result) c.stay_of.result c.put.new.room.admission.list last now.invariant.epoch
          (c.as_slice.ensures.value ∙ c.in_ok-text.ensures) c.get.ensures c.stay_of.ensures c.in_ok-put.ensures.puts
          others));
      epoch = c.put.ensures.epoch ∙ now.invariant.epoch;
      coming = c.put.ensures.coming ∙ now.invariant.coming;
      feed = c.put.ensures.feed ∙ now.invariant.feed;
      news = c.put.ensures.news ∙ now.invariant.news;
      last = c.put.ensures.last ∙ now.invariant.last;
    }
