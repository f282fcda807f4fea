-- Whose a statement in the pool is: the member that posted it, and what comes next in its script.
use Rattle.std.proofs.Common.{◌≡◌, ℕ, zero, suc, Option, Some, None, Bool, true, false, List, [], ◌∷◌}
use Rattle.std.proofs.Common.{refl, sym, ap, subst, ◌∙◌, inl, inr}
use Rattle.ent_tree.specs.declared.script.Script.{Script}
use Rattle.ent_semantics.specs.Serial.{numbered}
use Rattle.ent_semantics.specs.Closing.{closed}
use Rattle.ent_semantics.specs.declared.operand.Known.{Known}
use Rattle.ent_semantics.specs.declared.statement.Statement.{Statement}
use Rattle.ent_semantics.specs.Component.{IsComponent}
use Rattle.ent_semantics.specs.Pool.{Posted}
use Rattle.ent_lists.specs.Elements.{In, contains_in, in_contains, in_flat, to_flat}
use Rattle.ent_protocol.specs.Member.{Next, Ordinary, Asks, Commits, RollsBack}
use Rattle.ent_protocol.specs.Member.{next_in, next_of, pool, posted_as, posted_by}
use Rattle.ent_protocol.specs.Member.{environment_of, statement_next}
use Rattle.ent_protocol.specs.State.{State, Submitted, Member}

-- ---- what stands next depends on the place and on what is bound

next_there : (script : Script) (form : List (Statement Known)) (one other : Member) (n : ℕ)
    → one.bound ≡ other.bound
    → next_in (Some (record { script = script; form = form })) (record one { place = suc n })
    ≡ next_in (Some (record { script = script; form = form })) (record other { place = suc n })
next_there script [] one other n bound = refl
next_there script (f ∷ fs) one other zero bound =
    ap (λ b. statement_next (closed (environment_of (record one { bound = b })) f)) bound
next_there script (f ∷ fs) one other (suc n) bound = next_there script fs one other n bound

next_placed : (own : Submitted) (one other : Member) (n : ℕ) → one.bound ≡ other.bound
    → next_in (Some own) (record one { place = n }) ≡ next_in (Some own) (record other { place = n })
next_placed own one other zero bound = refl
next_placed own one other (suc n) bound = next_there own.script own.form one other n bound

pub next_same : (x : Option Submitted) (one other : Member) → one.place ≡ other.place → one.bound ≡ other.bound
    → next_in x one ≡ next_in x other
next_same None one other place bound = refl
next_same (Some own) one other place bound =
    (λ i. next_in (Some own) (record one { place = place i })) ∙ next_placed own one other other.place bound

-- ---- what a member has posted

-- the next statement of a member, which is posted
pub record IsPostedBy (s : State) (m : Member) (query : Posted) : Type 0 where
  pub posted : m.posted ≡ true
  pub next : next_of s m ≡ Asks query.statement
  pub is : query ≡ posted_as m query.statement

pub posted_next : (s : State) (m : Member) → m.posted ≡ true
    → next_in (numbered s.submitted m.tx) (record m { posted = true }) ≡ next_of s m
posted_next s m e = λ i. next_in (numbered s.submitted m.tx) (record m { posted = sym e i })

pub is_posted_by : (s : State) (m : Member) (query : Posted) → In query (posted_by s m) → IsPostedBy s m query
is_posted_by s m query at = by m.posted refl (next_of s m) refl
  where
    by : (b : Bool) → m.posted ≡ b → (n : Next) → next_of s m ≡ n → IsPostedBy s m query
    by true posted (Asks statement) next =
        let h : In query (posted_as m statement ∷ []) =
        rw (posted, posted_next s m posted ∙ next) at at in
        elim h [
          | inl same ↦
              record {
                posted = posted;
                next = next ∙ ap (λ (x : Posted). Asks x.statement) (sym same);
                is = same
                    ∙ ap (λ (x : Posted). posted_as m x.statement) (sym same);
              }
          | inr bad ↦ absurd bad
        ]
    by true posted (Ordinary statement) next =
        let h : ⊥ = rw (posted, posted_next s m posted ∙ next) at at in absurd h
    by true posted Commits next = let h : ⊥ = rw (posted, posted_next s m posted ∙ next) at at in absurd h
    by true posted RollsBack next = let h : ⊥ = rw (posted, posted_next s m posted ∙ next) at at in absurd h
    by false posted n next = let h : ⊥ = rw posted at at in absurd h

pub has_posted : (s : State) (m : Member) (query : Posted) → IsPostedBy s m query → In query (posted_by s m)
has_posted s m query is =
    let own = posted_as m query.statement in
    let here : In own (posted_by s m) = rw (is.posted, posted_next s m is.posted ∙ is.next) (inl refl) in
    subst (λ (x : Posted). In x (posted_by s m)) (sym is.is) here

-- the member that posted a statement
pub record IsPosted (s : State) (query : Posted) : Type 0 where
  pub member : Member
  pub at : In member s.active
  pub by : IsPostedBy s member query
  pub own : query.tx ≡ member.tx

pub in_pool : (s : State) (query : Posted) → In query (pool s) → IsPosted s query
in_pool s query at =
    let r = in_flat (posted_by s) s.active query at in
    let by = is_posted_by s r.0 query r.2 in
    record { member = r.0; at = r.1; by = by; own = ap (λ (x : Posted). x.tx) by.is }

pub to_pool : (s : State) (query : Posted) (m : Member) → In m s.active → IsPostedBy s m query → In query (pool s)
to_pool s query m at by = to_flat (posted_by s) s.active m query at (has_posted s m query by)

-- the statements of a component stand in the pool
pub is_present : (those members : List Posted) → IsComponent those members → (query : Posted) → In query members
    → In query those
is_present those members component query at =
    contains_in those query ((component.class query).0 (in_contains members query at)).0.is_in.0
