use Rattle.std.proofs.Common.{◌≡◌, ◌<◌, ◌∙◌, ℕ, ap, sym, subst, List, length, map}
use Rattle.std.specs.Prelude.{All}
use Rattle.std.proofs.lemmas.List.{length-map}
use Rattle.std.proofs.lemmas.List.Elements.{recursion_from_All}
use Rattle.ent_job.specs.Work.{IsOne}
use Rattle.ent_tree.specs.declared.declaration.Create.{Create}
use Rattle.ent_protocol.specs.Job.{Numbered, Single, One}
use Rattle.ent_protocol.specs.Member.{Ordinary, seen_now}
use Rattle.ent_headline.specs.Resolved.{resolved_forms}
use Rattle.ent_protocol.specs.State.{State, Use}
use Rattle.ent_protocol.specs.Uses.{statement_uses}
use Rattle.ent_protocol.specs.Waits.{next_uses}
use Rattle.ent_core.proofs.Begun.{unposted_at_turn, member_found, ordinary_lent, some_found}
use Rattle.ent_core.proofs.begin.job_of.Goals as goal

pub seen-requires : goal.seen-requires
seen-requires c =
    let inside = c.store.inside in
    let now = c.args.store.now in
    let uses = c.as_slice.ensures.list ∙ c.statement_uses-uses.ensures in
    let all = c.used_tables_are_declared.ensures.next now c.args.member.now c.requires.kept.reached in
    let count : length now.opening.tables ≡ length inside.tables.tables =
    ap (λ (x : State). length x.opening.tables) (sym c.store.view_is)
    ∙ sym (length-map inside.opening.tables (λ (create : Create). map (λ column. column.kind) create.columns))
    ∙ ap length (sym c.store.invariant.0.kinds) ∙ sym c.len-declared.ensures.kinds ∙ c.len-declared.ensures.tables in
    let P : ℕ → List Use → Type 0 = λ n asked. All (λ own. own.table < n) asked in
    let Q : ℕ → Type 0 = λ n. P n c.as_slice.result.now in
    recursion_from_All (λ (own : Use). own.table < length inside.tables.tables) c.as_slice.result.now
    (subst Q count (subst (P (length now.opening.tables)) (ap next_uses c.requires.next.is_next ∙ sym uses) all))

pub one-requires : goal.one-requires
one-requires c =
    let inside = c.store.inside in
    let now = c.args.store.now in
    let member = c.args.member.now in
    let statement = c.args.statement in
    let uses = c.as_slice.ensures.list ∙ c.statement_uses-uses.ensures in
    let single = c.new-single.ensures ∙ (λ i. record {
      tx = c.tx.ensures i;
      attempt = c.attempt.ensures i;
      place = c.place-place.ensures i;
      statement = statement;
    }) in
    let seen : c.in_ok-tables.tables ≡ seen_now now.opening.tables now.tables (statement_uses statement) =
    c.in_ok-tables.ensures inside.opening.tables (sym c.store.invariant.0.kinds)
    ∙ ap (seen_now inside.opening.tables inside.tables.tables) uses
    ∙ ap (λ (x : State). seen_now x.opening.tables x.tables (statement_uses statement)) c.store.view_is in
    let S : Single → Type 0 = λ own. IsOne own c.in_ok-tables.tables in
    let T : List Numbered → Type 0 = λ tables. IsOne (record {
      tx = member.tx;
      attempt = member.attempt;
      place = member.place;
      statement = statement;
    }) tables in
    subst S (sym single) (subst T (sym seen) (c.begun_statements_are_work.ensures now member statement
    c.requires.kept.formed c.requires.kept.reached (member_found member.tx now.active member c.requires.next.there)
    c.requires.next.is_next))

pub returns : goal.returns
returns c =
    let inside = c.store.inside in
    let now = c.args.store.now in
    let member = c.args.member.now in
    let statement = c.args.statement in
    let uses = c.statement_uses-uses.ensures in
    let single = c.new-single.ensures ∙ (λ i. record {
      tx = c.tx.ensures i;
      attempt = c.attempt.ensures i;
      place = c.place-place.ensures i;
      statement = statement;
    }) in
    let seen : c.in_ok-tables.tables ≡ seen_now now.opening.tables now.tables (statement_uses statement) =
    c.in_ok-tables.ensures inside.opening.tables (sym c.store.invariant.0.kinds)
    ∙ ap (seen_now inside.opening.tables inside.tables.tables) (c.as_slice.ensures.list ∙ uses)
    ∙ ap (λ (x : State). seen_now x.opening.tables x.tables (statement_uses statement)) c.store.view_is in
    record {
      there = some_found member.tx now.active member c.requires.next.there;
      unposted = unposted_at_turn now member.tx member (Ordinary statement)
          (c.members_stand_by_number.ensures resolved_forms now c.requires.kept.reached) c.requires.next;
      lends = ordinary_lent now member.tx member statement c.requires.next c.requires.unblocked c.one.result
          (c.one.ensures ∙ (λ i. record { work = One (single i); tables = seen i }));
    }
