-- What members use, and what lent jobs saw, in a state that is reached.
use Rattle.std.proofs.Common.{◌≡◌, List, ◌++◌, sym, ap, subst, ◌∙◌, inl, inr}
use Rattle.std.specs.List.{AllByRecursion}
use Rattle.ent_semantics.specs.Pool.{Posted}
use Rattle.ent_protocol.specs.Job.{Job, Single, One, Joint, tables_of}
use Rattle.ent_protocol.specs.PoolEvents.{IsPresentComponent}
use Rattle.ent_protocol.specs.Reached.{IsReached}
use Rattle.ent_protocol.specs.Run.{Forms}
use Rattle.ent_protocol.specs.State.{State, Member, members}
use Rattle.ent_protocol_laws.specs.Faithful.{AreFaithful}
use Rattle.ent_protocol_laws.specs.History.{History}
use Rattle.ent_protocol_laws.specs.Present.{AreApart, UsesAreApart, IsPresentSingle, LentIsPresent, SameWhereUsed}
use Rattle.ent_protocol.specs.Uses.{entangled_uses}
use Rattle.ent_lists.specs.Elements.{In, of_all, pairs_at}
use Rattle.ent_protocol_laws.proofs.Frame.{Laws, apart_turned}
use Rattle.ent_protocol_laws.proofs.Sound.{AreApart as ApartHistories, Fit, fit_turned}
use Rattle.ent_protocol_laws.proofs.Jobs.{JobRight, WorkRight, SingleRight, PostedQueryRight}
use Rattle.ent_protocol_laws.proofs.SerialKept.{Kept, history_of}
use Rattle.ent_lists.specs.Elements.{contains_in, in_contains}
use Rattle.ent_protocol_laws.proofs.Aside.{present_all}
use Rattle.ent_protocol_laws.proofs.Answered.{IsPresent}
use Rattle.ent_protocol_laws.proofs.Reached.{reached_kept}
use Rattle.ent_protocol_laws.proofs.Runs.{member_history}

module _ {F : Type 0} (forms : Forms F) (laws : Laws) (s : State) (kept : Kept forms s) where
  groups_apart : (one other : Member) → In one (members s) → In other (members s) → (one.group ≡ other.group → ⊥)
      → AreApart one other
  groups_apart one other at bt differ_so =
      let x = member_history forms laws s kept one at in
      let y = member_history forms laws s kept other bt in
      let apart : AreApart x.0.member y.0.member =
      elim (pairs_at Fit fit_turned (kept.prepared ++ kept.others) x.0 y.0 kept.sound.fit x.1 y.1) [
        | inl same ↦ absurd (differ_so (ap (λ (m : Member). m.group) x.2
            ∙ ap (λ (h : History). h.member.group) same ∙ ap (λ (m : Member). m.group) (sym y.2)))
        | inr fit ↦ fit.groups (λ e.
            differ_so (ap (λ (m : Member). m.group) x.2 ∙ e ∙ ap (λ (m : Member). m.group) (sym y.2)))
      ] in
      subst (λ m. AreApart m other) (sym x.2) (subst (AreApart x.0.member) (sym y.2) apart)

  active_apart : (one other : Member) → In one s.active → In other s.active → (one.tx ≡ other.tx → ⊥)
      → AreApart one other
  active_apart one other at bt differ_so =
      let x = history_of forms s kept one at in
      let y = history_of forms s kept other bt in
      let apart : AreApart x.0.member y.0.member =
      elim (pairs_at ApartHistories (λ a b. apart_turned a.member b.member) kept.others x.0 y.0 kept.sound.apart x.1
      y.1) [
        | inl same ↦ absurd (differ_so (ap (λ (m : Member). m.tx) x.2
            ∙ ap (λ (h : History). h.member.tx) same ∙ ap (λ (m : Member). m.tx) (sym y.2)))
        | inr apart_so ↦ apart_so
      ] in
      subst (λ m. AreApart m other) (sym x.2) (subst (AreApart x.0.member) (sym y.2) apart)

  single_present : (job : Job) (single : Single) → In job s.lent → job.work ≡ One single
      → IsPresentSingle s job single
  single_present job single at is =
      let right : SingleRight s.submitted s.active s.tables (tables_of job.tables) single =
      subst (WorkRight s.submitted s.active s.tables (tables_of job.tables)) is
      (of_all (JobRight s.submitted s.active s.tables) s.lent job kept.jobs at) in
      record {
        member = right.member;
        active = in_contains s.active right.member right.at;
        own = right.tx;
        unposted = right.unposted;
        next = right.next;
        same = right.alike;
      }

  joint_present : (job : Job) (asked : List Posted) → In job s.lent → job.work ≡ Joint asked
      → IsPresentComponent s asked → (query : Posted) → In query asked
      → SameWhereUsed (entangled_uses query.statement) (tables_of job.tables) s.tables
  joint_present job asked at is component query there =
      let right : AllByRecursion (PostedQueryRight s.active s.tables (tables_of job.tables)) asked =
      subst (WorkRight s.submitted s.active s.tables (tables_of job.tables)) is
      (of_all (JobRight s.submitted s.active s.tables) s.lent job kept.jobs at) in
      let p = of_all (IsPresent s) asked query (present_all s asked component) there in
      let still = of_all (PostedQueryRight s.active s.tables (tables_of job.tables)) asked query right there p.member
      p.at
      (sym p.tx) in
      (still.1 (sym p.place)).alike

pub reached_apart : {F : Type 0} (forms : Forms F) (laws : Laws) (s : State) → AreFaithful forms s.opening
    → IsReached forms s → UsesAreApart s
reached_apart forms laws s faithful reached =
    let kept = reached_kept forms laws s faithful reached in
    record {
      groups = λ one other at bt d.
          groups_apart forms laws s kept one other (contains_in (members s) one at)
          (contains_in (members s) other bt) d;
      active = λ one other at bt d.
          active_apart forms laws s kept one other (contains_in s.active one at) (contains_in s.active other bt) d;
    }

pub reached_present : {F : Type 0} (forms : Forms F) (laws : Laws) (s : State) → AreFaithful forms s.opening
    → IsReached forms s → LentIsPresent s
reached_present forms laws s faithful reached =
    let kept = reached_kept forms laws s faithful reached in
    record {
      single = λ job single at is. single_present forms laws s kept job single (contains_in s.lent job at) is;
      joint = λ job asked at is component query there.
          joint_present forms laws s kept job asked (contains_in s.lent job at) is component query
          (contains_in asked query there);
    }
