-- A statement is posted, or held back.
use Rattle.std.proofs.Common.{◌≡◌, ◌⊎◌, ◌<◌, inl, inr, ℕ, true, not, ◌==◌, List, [], ◌∷◌, sym, ap}
use Rattle.std.proofs.Common.{subst, ◌∙◌, map, Contains, Result, Ok, Err, Some}
use Rattle.std.specs.List.{filter}
use Rattle.std.specs.Prelude.{IfOk, IsSome}
use Rattle.ent_value.specs.declared.value.Value.{Value}
use Rattle.ent_semantics.specs.declared.entangled.Entangled.{Entangled}
use Rattle.ent_semantics.specs.Pool.{IsFirstUnsafe, IsSafe, Posted, Unsafe}
use Rattle.ent_form.specs.declared.fault.FormFault.{FormFault}
use Rattle.ent_lists.specs.Elements.{In, clash, contains_in, in_contains, in_either, in_first, in_second, index_pairs}
use Rattle.ent_lists.specs.Elements.{not_so, number_itself, of_filter, pairs_filtered, same_number, to_filter, neither}
use Rattle.ent_match.specs.Fault.{IsByNumber}
use Rattle.ent_match.specs.Posting.{Adds, HasNone, IsPostedTo, IsWhyWith, is_of_other}
use Rattle.ent_match.specs.declared.fault.PostFault.{PostFault}
use Rattle.ent_match.specs.declared.fault.PostFault.TheVariants as faults
use Rattle.ent_match.specs.Same.{SameStatements}
use Rattle.ent_members.specs.Changes.{posting as posting_member}
use Rattle.ent_run.specs.Places.{Changes, found}
use Rattle.ent_waits.specs.Pooled.{IsPoolOf}
use Rattle.ent_protocol.specs.Begin.{Begins, holding, pool_with, posting, replaced}
use Rattle.ent_protocol.specs.Event.{Reply}
use Rattle.ent_protocol.specs.Event as replies
use Rattle.ent_protocol.specs.Member.{Asks, active_member, is_lent, next_of, pool, posted_as}
use Rattle.ent_protocol.specs.PostedBy.{in_pool}
use Rattle.ent_protocol.specs.State.{State, Member, Use}
use Rattle.ent_protocol.specs.Uses.{blocker, entangled_uses}
use Rattle.ent_protocol.specs.Waits.{next_uses}
use Rattle.ent_protocol_laws.specs.ByNumber.{StandByNumber}
use Rattle.ent_protocol_laws.specs.Numbered.{same_lists}
use Rattle.ent_protocol_laws.proofs.ByNumber.{posted_tx}
use Rattle.ent_waits.specs.Free.{IsFree}
use Rattle.ent_core.specs.Begin.{IsToPost, IsUnposted}
use Rattle.ent_core.specs.Reply.{reply_seen}
use Rattle.ent_core.specs.declared.reply.Reply.{Reply as Given}
use Rattle.ent_core.proofs.Begun.{entangled_held, entangled_posted, member_found, number_found, some_found}
use Rattle.ent_core.proofs.Begun.{unposted_at_turn}
use Rattle.ent_core.proofs.Pooled.{kept_posted}

-- what was posted just now is taken out again
pub posted_withdrawn : (old new : List Posted) (query : Posted) (tx : ℕ) → query.tx ≡ tx → IsByNumber old
    → HasNone old query → IsPostedTo old new query → filter (is_of_other tx) new ≡ old
posted_withdrawn old new query tx own by_number none posted =
    same_lists posted_tx (filter (is_of_other tx) new) old
    (pairs_filtered (λ (one other : Posted). one.tx < other.tx) (is_of_other tx) new
    (index_pairs (λ (one other : Posted). one.tx < other.tx) new posted.by_number))
    (index_pairs (λ (one other : Posted). one.tx < other.tx) old by_number) was_there still_there
  where
    is_other : (x : Posted) → (x.tx ≡ tx → ⊥) → is_of_other tx x ≡ true
    is_other x differs = ap not (not_so (x.tx == tx) (λ e. differs (same_number x.tx tx e)))

    was_there : (x : Posted) → In x (filter (is_of_other tx) new) → In x old
    was_there x at =
        let r = of_filter (is_of_other tx) new x at in
        elim ((posted.adds x).0 (in_contains new x r.0)) [
          | inl there ↦ contains_in old x there
          | inr same ↦
              let is : (x.tx == tx) ≡ true =
              ap (λ (y : Posted). y.tx == tx) (sym same) ∙ ap (λ n. n == tx) own ∙ number_itself tx in
              clash (not (x.tx == tx)) r.1 (ap not is)
        ]

    still_there : (x : Posted) → In x old → In x (filter (is_of_other tx) new)
    still_there x at =
        let there = in_contains old x at in
        to_filter (is_of_other tx) new x (contains_in new x ((posted.adds x).1 (inl there)))
        (is_other x (λ same. none x there (same ∙ sym own)))

-- what a member may begin is posted, where it is entangled and nobody blocks it
pub to_post : (s : State) (tx : ℕ) (member : Member) (query : Posted) (statement : Entangled Value)
    → active_member s tx ≡ Some member → IsFree s member → next_of s member ≡ Asks statement
    → query ≡ posted_as member statement → IsToPost s tx query
to_post s tx member query statement there free next is =
    let own : query.statement ≡ statement = ap (λ (x : Posted). x.statement) is in
    let asks : next_of s member ≡ Asks query.statement = next ∙ ap Asks (sym own) in
    record {
      member = member;
      may = record { there = there; idle = free.idle; is_next = asks };
      unblocked = ap (λ next. blocker s member (next_uses next)) (sym asks) ∙ free.unblocked;
      is = is ∙ ap (posted_as member) (sym own);
    }

module _ (s : State) (tx : ℕ) (query : Posted) (plan : IsToPost s tx query) where
  pub own_number : query.tx ≡ tx
  own_number = ap posted_tx plan.is ∙ number_found tx s.active plan.member plan.may.there

  pub is_member : IsSome (found s.active tx)
  is_member = some_found tx s.active plan.member plan.may.there

  pub is_idle : StandByNumber s → IsUnposted s tx
  is_idle stand = unposted_at_turn s tx plan.member (Asks query.statement) stand plan.may

  -- its transaction has no statement in the pool
  pub none_there : StandByNumber s → HasNone (pool s) query
  none_there stand = λ other at own.
      let r = in_pool s other (contains_in (pool s) other at) in
      clash r.member.posted r.by.posted
      (is_idle stand r.member (in_contains s.active r.member r.at) (sym r.own ∙ own ∙ own_number))

  -- the pool with the statement, as it is posted and as the protocol says it
  to_behind : (x : Posted) → (x ≡ query) ⊎ In x (pool s) → In x (pool_with s plan.member query.statement)
  to_behind x (inl same) =
      in_second (pool s) (posted_as plan.member query.statement ∷ []) x (inl (same ∙ plan.is))
  to_behind x (inr there) = in_first (pool s) (posted_as plan.member query.statement ∷ []) x there

  of_behind : (x : Posted) → In x (pool_with s plan.member query.statement) → (x ≡ query) ⊎ In x (pool s)
  of_behind x at =
      elim (in_either (pool s) (posted_as plan.member query.statement ∷ []) x at) [
        | inl there ↦ inr there
        | inr last ↦ elim last [ inl same ↦ inl (same ∙ sym plan.is) | inr bad ↦ absurd bad ]
      ]

  pub before_and_behind : SameStatements (query ∷ pool s) (pool_with s plan.member query.statement)
  before_and_behind x = (
    λ at. in_contains (pool_with s plan.member query.statement) x (to_behind x (contains_in (query ∷ pool s) x at)),
    λ at. in_contains (query ∷ pool s) x
        (of_behind x (contains_in (pool_with s plan.member query.statement) x at)),
  )

  pub posted_and_behind : (new : List Posted) → Adds (pool s) new query
      → SameStatements new (pool_with s plan.member query.statement)
  posted_and_behind new adds x = (
    λ at. in_contains (pool_with s plan.member query.statement) x (to_behind x (of_new ((adds x).0 at))),
    λ at. (adds x).1 (to_new (of_behind x (contains_in (pool_with s plan.member query.statement) x at))),
  )
    where
      of_new : Contains (pool s) x ⊎ (query ≡ x) → (x ≡ query) ⊎ In x (pool s)
      of_new (inl there) = inr (contains_in (pool s) x there)
      of_new (inr same) = inl (sym same)

      to_new : (x ≡ query) ⊎ In x (pool s) → Contains (pool s) x ⊎ (query ≡ x)
      to_new (inl same) = inr (sym same)
      to_new (inr there) = inl (in_contains (pool s) x there)

  -- it is held back
  pub begun_held : ((those other : List Posted) (fault : Unsafe) → SameStatements those other
      → IsFirstUnsafe those fault → IsFirstUnsafe other fault) → (fault : Unsafe)
      → IsFirstUnsafe (query ∷ pool s) fault → Begins {F = FormFault} s tx (replies.HeldBack fault) s
  begun_held alike fault first =
      entangled_held s tx plan.member query.statement plan.may plan.unblocked fault
      (alike (query ∷ pool s) (pool_with s plan.member query.statement) fault before_and_behind first)

  -- it is posted
  pub begun_posted : ((those other : List Posted) → SameStatements those other → IsSafe those → IsSafe other)
      → (posted : List Posted) → IsPostedTo (pool s) posted query → (new : State)
      → new ≡ posting s plan.member query.statement → Begins {F = FormFault} s tx replies.Posted new
  begun_posted alike posted is new new_is =
      entangled_posted s tx plan.member query.statement plan.may plan.unblocked
      (alike posted (pool_with s plan.member query.statement) (posted_and_behind posted is.adds) is.safe) new new_is

  -- what is replied where it isn't posted is right
  pub replied_held : {E : Type 0} → ((those other : List Posted) (fault : Unsafe) → SameStatements those other
      → IsFirstUnsafe those fault → IsFirstUnsafe other fault) → (result : Result Given E) (why : PostFault)
      → IfOk result (λ reply. (fault : Unsafe) × (why ≡ faults.Unsafe fault)
      × (reply_seen reply ≡ replies.HeldBack fault)) → IsWhyWith (pool s) query why
      → IfOk result (λ reply. Begins s tx (reply_seen reply) s)
  replied_held alike (Ok reply) why told is_why =
      let first = (subst (IsWhyWith (pool s) query) told.1 is_why).1 in
      subst (λ (reply : Reply FormFault). Begins s tx reply s) (sym told.2) (begun_held alike told.0 first)
  replied_held alike (Err e) why told is_why = tt

  -- the member is posted, and holds the uses of its statement
  module _ (asked : List Use) (uses : asked ≡ entangled_uses query.statement) (active' : List Member)
      (changes : Changes (posting_member asked) tx s.active active') where
    changed : active'
        ≡ map (replaced (record (holding plan.member (entangled_uses query.statement)) { posted = true })) s.active
    changed =
        changes plan.member plan.may.there
        ∙ ap (λ (held : List Use). map (replaced (record (holding plan.member held) { posted = true })) s.active) uses

    pub posted_kept : StandByNumber s → (old new : List Posted) → IsPoolOf s.submitted s.active old
        → IsPostedTo old new query → IsPoolOf s.submitted active' new
    posted_kept stand old new are posted =
        kept_posted s.submitted s.active old are plan.member query.statement active' new changed stand.active
        (member_found tx s.active plan.member plan.may.there)
        (neither plan.member.posted (is_lent s plan.member.tx) plan.may.idle).0 plan.may.is_next
        (subst (Adds old new) plan.is posted.adds) posted.by_number

    pub replied_posted : ((those other : List Posted) → SameStatements those other → IsSafe those → IsSafe other)
        → (posted : List Posted) → IsPostedTo (pool s) posted query → (prepared' : List Member)
        → prepared' ≡ s.prepared
        → Begins {F = FormFault} s tx replies.Posted (record s { prepared = prepared'; active = active' })
    replied_posted alike posted is prepared' prepared =
        begun_posted alike posted is (record s { prepared = prepared'; active = active' })
        (λ i. record s { prepared = prepared i; active = changed i })
