use Rattle.std.proofs.Common.{◌≡◌, ◌+◌, ◌-◌, ◌≤◌, true, false, length, get_or, set, refl, sym, ap, ◌∙◌, arith, map}
use Rattle.std.specs.Arc.{arc_value}
use Rattle.std.proofs.lemmas.List.{drop_all, get_or_default}
use Rattle.ent_undo.specs.Change.{is_of, rolled_back}
use Rattle.ent_undo.specs.Records.{change_of, changes_in}
use Rattle.ent_undo.proofs.Undoing.{rolled_back-none, tables_more, tables_kept, rest_more, rest_kept, others_more}
use Rattle.ent_undo.proofs.undo_log.put_back.Goals as goal

pub loop-index-init : goal.loop-index-init
loop-index-init c =
    let rs = c.args.records.now in
    let ts = map arc_value c.args.tables.now in
    record {
      tables = sym (ap (λ xs. rolled_back c.args.members.now (changes_in xs) ts) (drop_all (length rs) rs (omega arith))
          ∙ rolled_back-none c.args.members.now ts);
      rest = refl;
      others = refl;
    }

pub loop-index-preserved-then-contains : goal.loop-index-preserved-then-contains
loop-index-preserved-then-contains c =
    let rs = c.args.records.now in
    let now = c.loop-index.records in
    let left = c.loop-index.index in
    let r = c.index-records-index-then-contains.result in
    let ms = c.args.members.now in
    let above : left ≡ (left - 1) + 1 = omega arith in
    let len : length now ≡ length rs = omega arith in
    let within : left ≤ length rs = omega arith in
    let rest = c.loop-index.invariant.rest in
    let at = c.index-records-index-then-contains.is in
    let seen : get_or now (left - 1) c.index-records-index.result ≡ r =
    get_or_default now (left - 1) c.index-records-index.result r (omega arith) ∙ sym at in
    let mine : is_of ms (change_of r) ≡ true = ap (λ x. is_of ms (change_of x)) (sym seen)
    ∙ sym c.contains.ensures.value ∙ c.if-contains.true in
    let put = c.exchange.ensures.tables ∙ ap (λ x. set (map arc_value c.loop-index.tables) x.table (arc_value x.before))
    (sym at) in
    let tx = c.exchange.ensures.same ∙ ap (λ x. x.tx) (sym at) in
    record {
      tables = tables_more ms rs now left (left - 1) r above len within rest at _ _ _ mine c.loop-index.invariant.tables
          put;
      rest = rest_more ms rs now left (left - 1) r above len within rest at c.exchange.new.undo;
      others = others_more ms rs now left (left - 1) r above len within rest at c.exchange.new.undo tx mine
          ∙ c.loop-index.invariant.others;
    }

pub loop-index-preserved : goal.loop-index-preserved
loop-index-preserved c =
    let rs = c.args.records.now in
    let now = c.loop-index.records in
    let left = c.loop-index.index in
    let r = c.index-records-index.result in
    let ms = c.args.members.now in
    let above : left ≡ (left - 1) + 1 = omega arith in
    let len : length now ≡ length rs = omega arith in
    let within : left ≤ length rs = omega arith in
    let rest = c.loop-index.invariant.rest in
    let at = c.index-records-index.is in
    let other : is_of ms (change_of r) ≡ false = ap (λ x. is_of ms (change_of x)) at ∙ sym c.contains.ensures.value
    ∙ c.if-contains.false in
    record {
      tables = tables_kept ms rs now left (left - 1) r above len within rest at _ _ other c.loop-index.invariant.tables;
      rest = rest_kept ms rs now left (left - 1) r above len within rest at;
      others = c.loop-index.invariant.others;
    }
