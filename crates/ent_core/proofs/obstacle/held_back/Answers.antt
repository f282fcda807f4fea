use Rattle.std.proofs.Common.{◌≡◌, ◌∙◌, List, [], ◌∷◌, ◌++◌, ap, refl, subst, sym}
use Rattle.std.specs.Arc.{arc_value}
use Rattle.std.specs.Prelude.{MatchOption}
use Rattle.std.proofs.lemmas.Result.{IfOk-weaker}
use Rattle.ent_semantics.specs.Pool.{IsFirstUnsafe, IsSafe, Posted}
use Rattle.ent_headline.specs.Resolved.{resolved_forms}
use Rattle.ent_match.specs.Posting.{HasNone}
use Rattle.ent_members.specs.Next.{next_seen}
use Rattle.ent_protocol.specs.Member.{Asks, Commits, Ordinary, RollsBack, next_of, pool}
use Rattle.ent_core.specs.Obstacle.{IsHeldBack}
use Rattle.ent_core.specs.contracts.store.Store.{the_view}
use Rattle.ent_core.proofs.Obstacles.{moves_commits, moves_ordinary, moves_rolls_back, told_of_pool}
use Rattle.ent_core.proofs.Posting.{none_there, to_post}
use Rattle.ent_core.proofs.obstacle.held_back.Goals as goal

pub post_fault-requires : goal.post_fault-requires
post_fault-requires c =
    let now = c.args.store.now in
    let member = c.member-member.result in
    let asks : Asks (arc_value c.in-Asks.statement) ≡ next_of now member =
    sym (ap next_seen c.in-Asks.is) ∙ c.in_ok-statement.ensures.next in
    let query = c.query_of-query.result in
    let plan = to_post now c.args.found.tx member query (arc_value c.in-Asks.statement)
    c.member-member.ensures.there c.member-member.ensures.free (sym asks)
    c.query_of-query.ensures in
    let all : pool now ≡ c.store.inside.pool =
    ap pool (sym c.store.view_is) ∙ c.store.invariant.0.posted (the_view c.store.inside) refl refl in
    subst (λ (posted : List Posted). HasNone posted query) all
    (none_there now c.args.found.tx query plan
    (c.members_stand_by_number.ensures resolved_forms now c.requires.kept.reached))

pub returns-in-Ordinary : goal.returns-in-Ordinary
returns-in-Ordinary c =
    let now = c.args.store.now in
    let member = c.member-member.result in
    let next : Ordinary c.in-Ordinary.statement ≡ next_of now member =
    sym (ap next_seen c.in-Ordinary.is) ∙ c.in_ok-statement.ensures.next in
    moves_ordinary now c.args.found.tx member c.member-member.ensures.there c.member-member.ensures.free
    c.in-Ordinary.statement (sym next)

pub returns-in-Asks : goal.returns-in-Asks
returns-in-Asks c =
    let now = c.args.store.now in
    let member = c.member-member.result in
    let asks : Asks (arc_value c.in-Asks.statement) ≡ next_of now member =
    sym (ap next_seen c.in-Asks.is) ∙ c.in_ok-statement.ensures.next in
    let query = c.query_of-query.result in
    let plan = to_post now c.args.found.tx member query (arc_value c.in-Asks.statement)
    c.member-member.ensures.there c.member-member.ensures.free (sym asks)
    c.query_of-query.ensures in
    let posted = c.store.inside.pool in
    let all : pool now ≡ posted =
    ap pool (sym c.store.view_is) ∙ c.store.invariant.0.posted (the_view c.store.inside) refl refl in
    IfOk-weaker c.post_fault.result
    (λ fault. MatchOption fault (IsSafe (posted ++ query ∷ [])) (IsFirstUnsafe (posted ++ query ∷ [])))
    (IsHeldBack now c.args.found.tx) (told_of_pool now c.args.found.tx query plan posted all) c.post_fault.ensures

pub returns-in-Commits : goal.returns-in-Commits
returns-in-Commits c =
    let now = c.args.store.now in
    let member = c.member-member.result in
    let next : Commits ≡ next_of now member =
    sym (ap next_seen c.in-Commits.is) ∙ c.in_ok-statement.ensures.next in
    moves_commits now c.args.found.tx member c.member-member.ensures.there c.member-member.ensures.free (sym next)

pub returns-in-RollsBack : goal.returns-in-RollsBack
returns-in-RollsBack c =
    let now = c.args.store.now in
    let member = c.member-member.result in
    let next : RollsBack ≡ next_of now member =
    sym (ap next_seen c.in-RollsBack.is) ∙ c.in_ok-statement.ensures.next in
    moves_rolls_back now c.args.found.tx member c.member-member.ensures.there c.member-member.ensures.free (sym next)
