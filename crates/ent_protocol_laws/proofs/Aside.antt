-- Events that touch neither what members did nor the tables.
use Rattle.std.proofs.Common.{◌≡◌, ◌<◌, ◌≤◌, ℕ, true, false, List, [], ◌∷◌, ◌++◌, refl}
use Rattle.std.proofs.Common.{sym, ap, subst, ◌∙◌, inl, inr, arith, flat_map}
use Rattle.std.proofs.Common.{◌==◌}
use Rattle.std.specs.List.{AllByRecursion, filter, list_any}
use Rattle.ent_semantics.specs.Pool.{Posted}
use Rattle.ent_protocol.specs.Job.{Job, Work, One, Joint, tables_of}
use Rattle.ent_protocol.specs.Member.{posted_by, pool}
use Rattle.ent_protocol.specs.Member.{is_tx, seen_now}
use Rattle.ent_protocol.specs.PoolEvents.{IsPresentComponent, answered_groups, joint_job, joint_uses}
use Rattle.ent_protocol.specs.Run.{Forms}
use Rattle.ent_protocol.specs.PostedBy.{in_pool, is_present}
use Rattle.ent_protocol.specs.State.{State, Member, members}
use Rattle.ent_protocol.specs.Uses.{entangled_uses}
use Rattle.ent_protocol_laws.specs.History.{History}
use Rattle.ent_protocol_laws.specs.Faithful.{is_used}
use Rattle.ent_protocol_laws.proofs.Answered.{OtherPostedQuery, IsPresent}
use Rattle.ent_lists.specs.Elements.{In, Pairs, of_all, to_all, all_joined, any_in, to_map, to_filter, pairs_by}
use Rattle.ent_lists.specs.Elements.{in_first, in_second, in_either, nobody, pairs_joined}
use Rattle.ent_lists.specs.Elements.{contains_in, index_pairs, number_itself}
use Rattle.ent_protocol_laws.proofs.Outcomes.{seen_same, used_first, used_second}
use Rattle.ent_protocol_laws.proofs.Operations.{HoldsUses}
use Rattle.ent_protocol_laws.proofs.Locks.{used_got}
use Rattle.ent_protocol_laws.proofs.Jobs.{JobRight, PostedQueryRight, OtherJob, OtherWork}
use Rattle.ent_protocol_laws.proofs.SerialKept.{Kept, PostedHolds, one_member, active_at, prepared_at}

-- ---- members that ask

pub present_all : (s : State) (asked : List Posted) → IsPresentComponent s asked → AllByRecursion (IsPresent s) asked
present_all s asked component =
    to_all (IsPresent s) asked (λ a at.
    let r = in_pool s a (is_present (pool s) asked component a at) in
    record {
      member = r.member;
      at = r.at;
      posted = r.by.posted;
      next = r.by.next;
      tx = r.own;
      place = ap (λ (x : Posted). x.place) r.by.is;
    })

-- the statements of a component are of distinct transactions
pub queries_apart : (s : State) (asked : List Posted) → IsPresentComponent s asked → Pairs OtherPostedQuery asked
queries_apart s asked component =
    pairs_by (λ (one other : Posted). one.tx < other.tx) OtherPostedQuery asked (λ a b low e. unlike a.tx b.tx low e)
    (index_pairs (λ (one other : Posted). one.tx < other.tx) asked component.ascending)
  where
    unlike : (n m : ℕ) → n < m → n ≡ m → ⊥
    unlike n m low e = omega (low, e, arith)

-- there is one
pub queries_some : (s : State) (asked : List Posted) → IsPresentComponent s asked → asked ≡ [] → ⊥
queries_some s asked component none =
    let c = component in
    let at = contains_in asked c.first ((c.class c.first).1 (c.in_remainder, (0, refl))) in
    subst (λ many. In c.first many) none at

-- who is answered is of a group that is joined
pub groups_answered : {F : Type 0} (forms : Forms F) (s : State) (kept : Kept forms s) (asked : List Posted)
    (a : Posted) → In a asked → (x : History) → In x (kept.prepared ++ kept.others) → x.member.tx ≡ a.tx
    → In x.member.group (answered_groups s asked)
groups_answered forms s kept asked a at x xt same =
    to_map (λ (m : Member). m.group)
    (filter (λ (m : Member). list_any (λ (b : Posted). is_tx b.tx m) asked) (members s)) x.member
    (to_filter (λ (m : Member). list_any (λ (b : Posted). is_tx b.tx m) asked) (members s) x.member
    (elim (in_either kept.prepared kept.others x xt) [
      | inl p ↦ in_first s.prepared s.active x.member (prepared_at forms s kept x p)
      | inr q ↦ in_second s.prepared s.active x.member (active_at forms s kept x q)
    ])
    (any_in (λ (b : Posted). is_tx b.tx x.member) asked a at
    (ap (λ n. n == a.tx) same ∙ number_itself a.tx)))

-- where there is a component there is a member
pub component_on : {F : Type 0} (forms : Forms F) (s : State) → Kept forms s → (asked : List Posted)
    → IsPresentComponent s asked → s.running ≡ false → ⊥
component_on forms s kept asked component off =
    let first = contains_in (pool s) component.first component.in_remainder.is_in.0 in
    let none : pool s ≡ [] = ap (λ ms. (flat_map (posted_by s) ms)) (kept.idle off).1 in
    subst (In component.first) none first

module _ {F : Type 0} (forms : Forms F) (s : State) (kept : Kept forms s) where
  -- fewer jobs
  pub with_jobs : (lent : List Job) (tried : List (List Posted)) → ((job : Job) → In job lent → In job s.lent)
      → Pairs OtherJob lent → Kept forms (record s { lent = lent; tried = tried })
  with_jobs lent tried fewer apart =
      record {
        committed = kept.committed;
        prepared = kept.prepared;
        others = kept.others;
        base = kept.base;
        journal = kept.journal;
        of_prepared = kept.of_prepared;
        same = kept.same;
        settles = kept.settles;
        sound = kept.sound;
        whole = kept.whole;
        follow = kept.follow;
        resolved = kept.resolved;
        faithful = kept.faithful;
        posted = kept.posted;
        jobs = to_all (JobRight s.submitted s.active s.tables) lent (λ job at.
            of_all (JobRight s.submitted s.active s.tables) s.lent job kept.jobs (fewer job at));
        jobs_apart = apart;
        idle = λ off.
            let h = kept.idle off in
            (h.0, h.1, nobody lent (λ job at. subst (In job) h.2 (fewer job at)));
        active_apart = kept.active_apart;
        dormant = kept.dormant;
        not_prepared = kept.not_prepared;
        not_active = kept.not_active;
        scripts = kept.scripts;
        joined = kept.joined;
        committed_fated = kept.committed_fated;
        fated = kept.fated;
        fated_not_prepared = kept.fated_not_prepared;
        fated_not_active = kept.fated_not_active;
        fated_not_dormant = kept.fated_not_dormant;
        fated_scripts = kept.fated_scripts;
      }

  used_flat : (asked : List Posted) (a : Posted) (table : ℕ) → In a asked
      → is_used (entangled_uses a.statement) table ≡ true
      → is_used (flat_map (λ (query : Posted). entangled_uses query.statement) asked) table ≡ true
  used_flat [] a table at used = absurd at
  used_flat (b ∷ asked) a table (inl same) used =
      used_first (entangled_uses b.statement) _ table
      (ap (λ (x : Posted). is_used (entangled_uses x.statement) table) (sym same) ∙ used)
  used_flat (b ∷ asked) a table (inr at) used =
      used_second (entangled_uses b.statement) _ table (used_flat asked a table at used)

  -- a component's job is lent
  pub picks : (asked : List Posted) → IsPresentComponent s asked
      → Kept forms (record s { lent = s.lent ++ joint_job s asked ∷ [] })
  picks asked component =
      let present = present_all s asked component in
      let right : AllByRecursion
      (PostedQueryRight s.active s.tables (tables_of (seen_now s.opening.tables s.tables (joint_uses asked)))) asked =
      to_all (PostedQueryRight s.active s.tables (tables_of (seen_now s.opening.tables s.tables (joint_uses asked))))
      asked (λ a at m mt tx.
      let p = of_all (IsPresent s) asked a present at in
      let same = one_member forms s kept p.member m p.at mt (sym p.tx ∙ sym tx) in (
        level a.place m.place (p.place ∙ ap (λ (x : Member). x.place) same),
        λ here. record {
          posted = ap (λ (x : Member). x.posted) (sym same) ∙ p.posted;
          holds = subst (λ x. HoldsUses x (entangled_uses a.statement)) same
              (of_all (PostedHolds s.submitted) s.active p.member kept.posted p.at p.posted a.statement p.next);
          alike = λ table used.
              seen_same s.opening.tables s.tables (joint_uses asked) table
              (used_got (flat_map (λ (query : Posted). entangled_uses query.statement) asked) [] table
              (used_flat asked a table at used));
        },
      )) in
      record {
        committed = kept.committed;
        prepared = kept.prepared;
        others = kept.others;
        base = kept.base;
        journal = kept.journal;
        of_prepared = kept.of_prepared;
        same = kept.same;
        settles = kept.settles;
        sound = kept.sound;
        whole = kept.whole;
        follow = kept.follow;
        resolved = kept.resolved;
        faithful = kept.faithful;
        posted = kept.posted;
        jobs = all_joined (JobRight s.submitted s.active s.tables) s.lent (joint_job s asked ∷ []) kept.jobs
            (right, tt);
        jobs_apart = pairs_joined OtherJob s.lent (joint_job s asked ∷ []) kept.jobs_apart (tt, tt)
            (λ job other jt ot. elim ot [
              | inl same ↦ subst (OtherJob job) (sym same) (any_other job.work)
              | inr bad ↦ absurd bad
            ]);
        idle = λ off. absurd (component_on forms s kept asked component off);
        active_apart = kept.active_apart;
        dormant = kept.dormant;
        not_prepared = kept.not_prepared;
        not_active = kept.not_active;
        scripts = kept.scripts;
        joined = kept.joined;
        committed_fated = kept.committed_fated;
        fated = kept.fated;
        fated_not_prepared = kept.fated_not_prepared;
        fated_not_active = kept.fated_not_active;
        fated_not_dormant = kept.fated_not_dormant;
        fated_scripts = kept.fated_scripts;
      }
    where
      level : (a b : ℕ) → a ≡ b → a ≤ b
      level a b e = omega (arith, e)

      any_other : (w : Work) → OtherWork w (Joint asked)
      any_other (One single) = tt
      any_other (Joint other) = tt
