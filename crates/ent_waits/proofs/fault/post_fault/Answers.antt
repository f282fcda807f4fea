use Rattle.std.proofs.Common.{List, [], ◌∷◌, ◌++◌, ap, subst, ◌∙◌}
use Rattle.std.specs.Prelude.{Contains}
use Rattle.ent_semantics.specs.Pool.{IsFirstUnsafe, IsSafe, Posted}
use Rattle.ent_match.specs.Posting.{IsWhyWith}
use Rattle.ent_waits.proofs.ComponentPooled.{added, put_before}
use Rattle.ent_waits.proofs.fault.post_fault.Goals as goal

pub post-requires : goal.post-requires
post-requires c other there same =
    c.requires other (subst (λ (pool : List Posted). Contains pool other) c.in_ok-with_query.ensures there)
    (same ∙ ap (λ (member : Posted). member.tx) c.in_ok-member.ensures)

pub returns-in-Ok : goal.returns-in-Ok
returns-in-Ok c =
    let pool = c.in_ok-with_query.with_query in
    let member = c.in_ok-member.member in
    let new = c.post.new.self in
    subst (λ (pool : List Posted). IsSafe (pool ++ c.args.query.now ∷ [])) c.in_ok-with_query.ensures
    (subst (λ (last : Posted). IsSafe (pool ++ last ∷ [])) c.in_ok-member.ensures
    (c.same_statements_are_alike.ensures.safe new (pool ++ member ∷ [])
    (added pool new member c.in-Ok.ensures.posted.adds) c.in-Ok.ensures.posted.safe))

pub returns : goal.returns
returns c =
    let pool = c.in_ok-with_query.with_query in
    let member = c.in_ok-member.member in
    let fault = c.in_ok-fault-in-Err.fault in
    let why = subst (IsWhyWith pool member) c.in_ok-fault-in-Err.ensures c.in-Err.ensures.why in
    subst (λ (pool : List Posted). IsFirstUnsafe (pool ++ c.args.query.now ∷ []) fault) c.in_ok-with_query.ensures
    (subst (λ (last : Posted). IsFirstUnsafe (pool ++ last ∷ []) fault) c.in_ok-member.ensures
    (c.same_statements_are_alike.ensures.first_unsafe (member ∷ pool) (pool ++ member ∷ []) fault
    (put_before pool member) why.1))
