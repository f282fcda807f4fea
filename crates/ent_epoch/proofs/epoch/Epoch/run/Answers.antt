use Rattle.std.proofs.Common.{[], Result, Ok, Err, OnErr, OnOk, append-nil, ap, sym, subst}
use Rattle.ent_epoch.specs.Epoch.{Epoch, core_in}
use Rattle.ent_epoch.specs.Told.{GoesOnUntold}
use Rattle.ent_epoch.proofs.Told.{Behind}
use Rattle.ent_epoch.proofs.epoch.Epoch.run.Goals as goal

either : {T E A B C : Type 0} (r : Result T E) → OnOk r A → OnErr r B → (A → C) → (B → C) → C
either (Ok x) ok err f g = f ok
either (Err e) ok err f g = g err

pub returns-clause-goes_on : goal.returns-clause-goes_on
returns-clause-goes_on c =
    let inside = c.self.inside in
    let s = core_in inside.core in
    let new = core_in c.run_in.new.core in
    let behind : Behind s new =
    either c.run_in.result c.run_in.ensures.ok c.run_in.ensures.err (λ made. c.journals_go_on.ensures.made s new made)
    (λ led. c.journals_go_on.ensures.led s led.0 new led.1) in
    let before : Epoch =
    record { number = inside.number; core = s; tickets = inside.tickets.items; telling = inside.telling } in
    let after : Epoch =
    record { number = inside.number; core = new; tickets = inside.tickets.items; telling = c.run_in.new.telling } in
    let goes : GoesOnUntold before after =
    record {
      opening = c.run_in.ensures.opening;
      more = [];
      tickets = sym (append-nil inside.tickets.items);
      added = behind.0;
      journal = behind.1;
      told_entries = ap (λ t. t.entries) c.run_in.ensures.notes;
      told_tables = ap (λ t. t.tables) c.run_in.ensures.notes;
    } in
    subst (λ (old : Epoch). GoesOnUntold old after) c.self.view_is goes
