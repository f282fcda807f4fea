use Rattle.std.proofs.Common.{◌≡◌, ◌∙◌, refl, sym, ap, subst, List}
use Rattle.std.specs.Prelude.{IfOk}
use Rattle.ent_semantics.specs.Pool.{Posted}
use Rattle.ent_form.specs.declared.fault.FormFault.{FormFault}
use Rattle.ent_match.specs.Fault.{IsByNumber}
use Rattle.ent_match.specs.Posting.{HasNone, IsPostedTo, IsWhyWith}
use Rattle.ent_run.specs.Places.{IsAt}
use Rattle.ent_run.specs.Run.{Run}
use Rattle.ent_protocol.specs.Begin.{Begins}
use Rattle.ent_protocol.specs.Event as replies
use Rattle.ent_protocol.specs.Member.{pool}
use Rattle.ent_protocol.specs.State.{State}
use Rattle.ent_protocol.specs.Uses.{entangled_uses}
use Rattle.ent_headline.specs.Resolved.{resolved_forms}
use Rattle.ent_protocol_laws.specs.ByNumber.{StandByNumber}
use Rattle.ent_core.specs.Begin.{IsToPost}
use Rattle.ent_core.specs.Reply.{reply_seen}
use Rattle.ent_core.specs.Store.{IsKept}
use Rattle.ent_core.specs.contracts.store.Store.{the_view}
use Rattle.ent_core.proofs.Begun.{kept_changed}
use Rattle.ent_core.proofs.Posting.{is_member, none_there, own_number, posted_kept, posted_withdrawn, replied_held}
use Rattle.ent_core.proofs.Posting.{replied_posted}
use Rattle.ent_core.proofs.begin.post.Goals as goal

pub post-requires : goal.post-requires
post-requires c =
    let now = c.args.store.now in
    let stand = c.members_stand_by_number.ensures resolved_forms now c.requires.kept.reached in
    let all : pool now ≡ c.store.inside.pool =
    ap pool (sym c.store.view_is) ∙ c.store.invariant.0.posted (the_view c.store.inside) refl refl in
    subst (λ (posted : List Posted). HasNone posted c.args.query) all
    (none_there now c.args.found.tx c.args.query c.requires.asks stand)

pub returns-in-Err-clause-ok : goal.returns-in-Err-clause-ok
returns-in-Err-clause-ok c =
    let now = c.args.store.now in
    let all : pool now ≡ c.store.inside.pool =
    ap pool (sym c.store.view_is) ∙ c.store.invariant.0.posted (the_view c.store.inside) refl refl in
    let P : State → Type 0 =
    λ new. IfOk c.held_back.result (λ reply. Begins now c.args.found.tx (reply_seen reply) new) in
    subst P (sym c.store.view_is)
    (replied_held now c.args.found.tx c.args.query c.requires.asks c.same_statements_are_alike.ensures.first_unsafe
    c.held_back.result c.in-Err.why c.held_back.ensures
    (subst (λ (posted : List Posted). IsWhyWith posted c.args.query c.in-Err.why) (sym all) c.in-Err.ensures.why))

pub invariant_of-store-in-Err-post_at : goal.invariant_of-store-in-Err-post_at
invariant_of-store-in-Err-post_at c =
    let inside = c.store.inside in
    let now = c.args.store.now in
    let stand = c.members_stand_by_number.ensures resolved_forms now c.requires.kept.reached in
    let all : pool now ≡ inside.pool =
    ap pool (sym c.store.view_is) ∙ c.store.invariant.0.posted (the_view inside) refl refl in
    let none = subst (λ (posted : List Posted). HasNone posted c.args.query) all
    (none_there now c.args.found.tx c.args.query c.requires.asks stand) in
    let by_number = subst (λ (posted : List Posted). IsByNumber posted) all stand.pool in
    let back = posted_withdrawn inside.pool c.post.new.self c.args.query c.args.found.tx
    (own_number now c.args.found.tx c.args.query c.requires.asks) by_number none c.in_default.ensures.posted in
    let K : Run → List Posted → Type 0 = λ run posted. IsKept inside.catalogue.tables inside.opening
    inside.submitted.items inside.transaction_table inside.running run inside.tables posted in (
      subst (λ (run : Run). K run c.withdraw.new.self) (sym c.in-Err-post_at.ensures.err)
          (subst (K inside.run) (sym (c.withdraw.ensures ∙ back)) c.store.invariant.0),
      c.store.invariant.1,
    )

pub invariant_of-store-in_default-post_at : goal.invariant_of-store-in_default-post_at
invariant_of-store-in_default-post_at c =
    let inside = c.store.inside in
    let s : State = the_view inside in
    let stand = subst StandByNumber (sym c.store.view_is)
    (c.members_stand_by_number.ensures resolved_forms c.args.store.now c.requires.kept.reached) in
    let at = subst (λ (x : State). IsAt x.active c.args.found.tx c.args.found.place) (sym c.store.view_is)
    c.requires.at in
    let plan = subst (λ (x : State). IsToPost x c.args.found.tx c.args.query) (sym c.store.view_is) c.requires.asks in
    let uses = c.as_slice.ensures.list ∙ c.entangled_uses-uses.ensures
    ∙ ap entangled_uses c.statement.ensures in (
      kept_changed inside.catalogue.tables inside.opening inside.submitted.items inside.transaction_table
          inside.running inside.run c.post_at.new.self inside.tables inside.pool c.post.new.self c.args.found.tx
          c.store.invariant.0 (is_member s c.args.found.tx c.args.query plan)
          (posted_kept s c.args.found.tx c.args.query plan c.as_slice.result.now uses c.post_at.new.self.active
          (c.in_default-post_at.ensures.ok c.args.found.tx at) stand inside.pool c.post.new.self
          c.store.invariant.0.posted c.in_default.ensures.posted),
      c.store.invariant.1,
    )

pub returns-clause-ok : goal.returns-clause-ok
returns-clause-ok c =
    let inside = c.store.inside in
    let s : State = the_view inside in
    let at = subst (λ (x : State). IsAt x.active c.args.found.tx c.args.found.place) (sym c.store.view_is)
    c.requires.at in
    let plan = subst (λ (x : State). IsToPost x c.args.found.tx c.args.query) (sym c.store.view_is) c.requires.asks in
    let all : pool s ≡ inside.pool = c.store.invariant.0.posted s refl refl in
    let posted = subst (λ (old : List Posted). IsPostedTo old c.post.new.self c.args.query) (sym all)
    c.in_default.ensures.posted in
    let uses = c.as_slice.ensures.list ∙ c.entangled_uses-uses.ensures
    ∙ ap entangled_uses c.statement.ensures in
    let done : State = record s { prepared = c.post_at.new.self.prepared; active = c.post_at.new.self.active } in
    subst (λ (x : State). Begins {F = FormFault} x c.args.found.tx replies.Posted done) c.store.view_is
    (replied_posted s c.args.found.tx c.args.query plan c.as_slice.result.now uses c.post_at.new.self.active
    (c.in_default-post_at.ensures.ok c.args.found.tx at) c.same_statements_are_alike.ensures.safe c.post.new.self posted
    c.post_at.new.self.prepared c.post_at.ensures.prepared)
