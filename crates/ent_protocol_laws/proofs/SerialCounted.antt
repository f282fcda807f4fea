-- How many members events leave in a run.
use Rattle.std.proofs.Common.{◌≡◌, ◌≤◌, ◌+◌, inl, inr, suc, Bool, true, false, cond, not, List, [], ◌∷◌, ◌++◌}
use Rattle.std.proofs.Common.{length, map, refl, sym, ap, subst, ◌∙◌, arith}
use Rattle.std.proofs.lemmas.List.{length-append, length-map}
use Rattle.std.proofs.lemmas.List.Sums.{sum_by-cons}
use Rattle.std.specs.List.{filter}
use Rattle.ent_tree.specs.declared.declaration.Opening.{Opening}
use Rattle.ent_value.specs.declared.value.Value.{Value}
use Rattle.ent_group.specs.declared.members.TheConstants.{MOST_MEMBERS}
use Rattle.ent_semantics.specs.declared.statement.Statement.{Statement}
use Rattle.ent_protocol.specs.Commit.{committing, preparing}
use Rattle.ent_protocol.specs.Event.{Event, Reply}
use Rattle.ent_protocol.specs.Finish.{finished}
use Rattle.ent_protocol.specs.Job.{Outcome, Shown, Changed, Bound, Choice, Fault}
use Rattle.ent_protocol.specs.Member.{is_of, is_tx}
use Rattle.ent_protocol.specs.Play.{Plays}
use Rattle.ent_protocol.specs.Reached.{IsReached, LeadsTo, opened}
use Rattle.ent_protocol.specs.Rollback.{Cause, NoOne, taken_out}
use Rattle.ent_protocol.specs.Run.{Forms}
use Rattle.ent_protocol.specs.State.{State, Member, members}
use Rattle.ent_protocol.specs.Step.{Step}
use Rattle.ent_protocol_laws.specs.Standing.{GoesOn}
use Rattle.ent_lists.specs.Elements.{In, in_second, number_itself, shorter}
use Rattle.ent_protocol_laws.specs.Commits.{NoneStarts, StartsAtMostFirst, commits_in, is_commit}
use Rattle.ent_protocol_laws.proofs.Replied.{CommitsOf, Quiet, commits_or_keeps, commits_or_quiet}
use Rattle.ent_protocol_laws.proofs.Journal.{journal_kept}

-- ---- lengths

one_fewer : {X : Type 0} (p : X → Bool) (x : X) (xs : List X) → In x xs → p x ≡ false
    → suc (length (filter p xs)) ≤ length xs
one_fewer p x [] at out = absurd at
one_fewer p x (y ∷ ys) (inl same) out =
    let e : p y ≡ false = ap p (sym same) ∙ out in
    let short : length (filter p (y ∷ ys)) ≡ length (filter p ys) =
    ap (λ b. length (cond b (y ∷ filter p ys) (filter p ys))) e in
    omega (arith, short, shorter p ys)
one_fewer {X} p x (y ∷ ys) (inr at) out = by (p y) (one_fewer p x ys at out)
  where
    by : (b : Bool) → suc (length (filter p ys)) ≤ length ys
        → suc (length (cond b (y ∷ filter p ys) (filter p ys))) ≤ suc (length ys)
    by true rest = omega (arith, rest)
    by false rest = omega (arith, rest)

joined_few : {X : Type 0} (ps qs xs ys : List X) → length ps ≤ length xs → length qs ≤ length ys
    → length (ps ++ qs) ≤ length (xs ++ ys)
joined_few ps qs xs ys left right = omega (arith, left, right, length-append ps qs, length-append xs ys)

mapped_few : {X : Type 0} (f : X → X) (xs : List X) → length (map f xs) ≤ length xs
mapped_few f xs = omega (arith, length-map xs f)

-- ---- one event

abbrev NoMore : State → State → Type 0
NoMore s new = length (members new) ≤ length (members s)

with_active : (s : State) (f : Member → Member) → length (s.prepared ++ map f s.active) ≤ length (members s)
with_active s f = joined_few s.prepared (map f s.active) s.prepared s.active (omega arith) (mapped_few f s.active)

finishes : (s : State) (m : Member) (c : Statement Value) (outcome : Outcome) → NoMore s (finished s m c outcome)
finishes s m c (Changed count removed added) = with_active s _
finishes s m c (Bound value) = with_active s _
finishes s m c (Shown rows) = with_active s _
finishes s m c (Choice groundings) = omega arith
finishes s m c (Fault failure) = omega arith

prepares : (s : State) (m : Member) → In m s.active → NoMore s (preparing s m)
prepares s m at =
    let one : suc (length (preparing s m).active) ≤ length s.active =
    one_fewer (λ (other : Member). not (is_tx m.tx other)) m s.active at (ap not (number_itself m.tx)) in
    omega (
      arith,
      one,
      length-append s.prepared (m ∷ []),
      length-append (s.prepared ++ m ∷ []) (preparing s m).active,
      length-append s.prepared s.active,
    )

leaves_fewer : (s : State) (gone : List Member) (cause : Cause) → NoMore s (taken_out gone cause s)
leaves_fewer s gone cause =
    joined_few (taken_out gone cause s).prepared (taken_out gone cause s).active s.prepared s.active
    (shorter _ s.prepared) (shorter _ s.active)

no_more : (s : State) → Quiet s (NoMore s)
no_more s =
    record {
      same = omega arith;
      submits = λ script form. omega arith;
      lends = λ m c. with_active s _;
      posts = λ m c. with_active s _;
      prepares = λ m at. prepares s m at;
      rolls_back = λ group cause. leaves_fewer s _ cause;
      fails = λ left group cause. leaves_fewer (record s { lent = left }) _ cause;
      finishes = λ left m c outcome. finishes (record s { lent = left }) m c outcome;
      picks = λ asked. omega arith;
      joins = λ left asked groundings.
          joined_few (map _ s.prepared) (map _ s.active) s.prepared s.active (mapped_few _ s.prepared)
          (mapped_few _ s.active);
      tries = λ left asked. omega arith;
      ends = leaves_fewer s (members s) NoOne;
      recalls = omega arith;
    }

-- who commits leaves
commit_takes : {F : Type 0} (s : State) (reply : Reply F) (new : State) → CommitsOf s reply new
    → suc (length (members new)) ≤ length (members s)
commit_takes s reply new c =
    let m = c.member in
    let prepared = preparing s m in
    let one : suc (length prepared.active) ≤ length s.active =
    one_fewer (λ (other : Member). not (is_tx m.tx other)) m s.active c.at (ap not (number_itself m.tx)) in
    let two : suc (length (committing prepared m.group).prepared) ≤ length (s.prepared ++ m ∷ []) =
    one_fewer (λ (other : Member). not (is_of m.group other)) m (s.prepared ++ m ∷ [])
    (in_second s.prepared (m ∷ []) m (inl refl)) (ap not (number_itself m.group)) in
    let same : length (members new) ≡ length (members (committing prepared m.group)) =
    ap (λ (after : State). length (members after)) c.is in
    omega (
      arith,
      one,
      two,
      same,
      length-append s.prepared (m ∷ []),
      length-append (committing prepared m.group).prepared prepared.active,
      length-append s.prepared s.active,
    )

-- ---- events, one after the other

pub counted : {F : Type 0} (one : Event × Reply F) (more : List (Event × Reply F)) (b : Bool) → is_commit one.1 ≡ b
    → commits_in (one ∷ more) ≡ cond b 1 0 + commits_in more
counted one more b is =
    sum_by-cons (λ step. cond (is_commit step.1) 1 0) one more
    ∙ ap (λ (each : Bool). cond each 1 0 + commits_in more) is

pub commits_few : {F : Type 0} (forms : Forms F) (s last : State) (told : List (Event × Reply F))
    → Plays forms s told last → NoneStarts told → commits_in told + length (members last) ≤ length (members s)
commits_few forms s last [] played none =
    let same : length (members last) ≡ length (members s) = ap (λ (after : State). length (members after)) played in
    omega (arith, same)
commits_few forms s last (one ∷ more) played none =
    let rest = commits_few forms played.0 last more played.2 none.1 in
    elim (commits_or_quiet s (NoMore s) (no_more s) forms one.0 one.1 played.0 played.1 none.0) [
      | inl c ↦
          let count = counted one more true (ap is_commit c.replies) in
          omega (arith, rest, count, commit_takes s one.1 played.0 c)
      | inr kept ↦
          let count = counted one more false kept.0 in
          omega (arith, rest, count, kept.1)
    ]

-- ---- reached states

pub reached_next : {F : Type 0} (forms : Forms F) (s : State) (event : Event) (reply : Reply F) (next : State)
    → next.opening ≡ s.opening → IsReached forms s → Step forms s event reply next → IsReached forms next
reached_next forms s event reply next same reached step = (
  suc reached.0,
  (
    s,
    event,
    reply,
    subst (λ (opening : Opening). LeadsTo forms reached.0 (opened opening) s) (sym same) reached.1,
    step,
  ),
)

module _ {F : Type 0} (forms : Forms F)
    (goes_on : (s : State) (event : Event) (reply : Reply F) (new : State) → Step forms s event reply new
    → GoesOn s new)
    (bound : (s : State) → IsReached forms s → length (members s) ≤ MOST_MEMBERS) where
  pub run_commits_few : (s last : State) (told : List (Event × Reply F)) → IsReached forms s → Plays forms s told last
      → StartsAtMostFirst told → commits_in told ≤ MOST_MEMBERS
  run_commits_few s last [] reached played none = omega arith
  run_commits_few s last (one ∷ more) reached played none =
      let next = played.0 in
      let rest = commits_few forms next last more played.2 none in
      let same = (goes_on s one.0 one.1 next played.1).opening in
      let behind = reached_next forms s one.0 one.1 next same reached played.1 in
      elim (commits_or_keeps forms s (λ after. after.journal ≡ s.journal) (journal_kept s) refl one.0 one.1 next
      played.1) [
        | inl c ↦
            let count = counted one more true (ap is_commit c.replies) in
            omega (arith, rest, count, commit_takes s one.1 next c, bound s reached)
        | inr kept ↦
            let count = counted one more false kept.0 in
            omega (arith, rest, count, bound next behind)
      ]
