use Rattle.ent_lists.proofs.Truth.{in_turn}
use Rattle.ent_excerpt.proofs.Parts.{end_is_shorter, beginning_is_shorter, not_cut}
use Rattle.ent_excerpt.proofs.excerpt.Excerpt.of.Goals as goal

pub returns : goal.returns
returns c =
    let before = c.args.line.before.now in
    let behind = c.args.line.behind.now in
    let end = c.shown_parts-parts.result.0.now in
    let beginning = c.shown_parts-parts.result.1.now in
    let parts = c.shown_parts-parts.ensures in
    let all_before = in_turn c.is_shorter-is_cut_before.ensures (end_is_shorter before end parts.end) in
    let all_behind =
    in_turn c.is_shorter-is_cut_behind.ensures (beginning_is_shorter behind beginning parts.beginning) in
    record {
      end_of = parts.end;
      beginning_of = parts.beginning;
      all_before = all_before;
      all_behind = all_behind;
      short = λ fits. (
        not_cut c.is_shorter-is_cut_before.result end before all_before (parts.whole fits).0,
        not_cut c.is_shorter-is_cut_behind.result beginning behind all_behind (parts.whole fits).1,
      );
      marked = c.carets_below-carets.ensures;
    }
