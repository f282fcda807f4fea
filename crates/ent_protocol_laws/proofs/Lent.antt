-- Every event keeps that lent jobs stand once and that their members stand before their statements.
use Rattle.std.proofs.Common.{◌≡◌, ℕ, Bool, false, cond, not, ◌==◌, List, [], ◌∷◌, ◌++◌, map, refl, sym, ap}
use Rattle.std.proofs.Common.{subst, ◌∙◌, inl, inr}
use Rattle.std.specs.List.{AllByRecursion, filter}
use Rattle.ent_value.specs.declared.value.Value.{Value}
use Rattle.ent_semantics.specs.Entangled.{Valuation}
use Rattle.ent_semantics.specs.declared.statement.Statement.{Statement}
use Rattle.ent_semantics.specs.Pool.{Posted}
use Rattle.ent_protocol.specs.Begin.{replaced, holding, single_job, lending}
use Rattle.ent_protocol.specs.Commit.{preparing}
use Rattle.ent_protocol.specs.Finish.{IsTaken, finished}
use Rattle.ent_protocol.specs.Job.{Job, Work, One, Joint, Single, Outcome, Shown, Changed, Bound, Choice, Fault}
use Rattle.ent_protocol.specs.Member.{is_tx, is_lent, is_single_of}
use Rattle.ent_protocol.specs.PoolEvents.{IsPresentComponent, IsOut, joint_job, joining, in_joined_group}
use Rattle.ent_protocol.specs.PoolEvents.{answered_among, answered_by, answered_groups}
use Rattle.ent_protocol.specs.Reached.{IsReached}
use Rattle.ent_protocol.specs.Rollback.{Cause, taken_out, group_members, is_among, goes_with}
use Rattle.ent_protocol.specs.Run.{Forms, starting}
use Rattle.ent_protocol.specs.State.{State, Member, members}
use Rattle.ent_protocol.specs.Uses.{statement_uses}
use Rattle.ent_protocol_laws.specs.Lent.{AreOther, LentStandOnce}
use Rattle.ent_protocol_laws.proofs.Acts.{AreKept, IsIdle, ComesBack, reached}
use Rattle.ent_protocol_laws.proofs.Asked.{asker_of}
use Rattle.ent_protocol_laws.proofs.Found.{taken_fewer}
use Rattle.ent_protocol_laws.proofs.Left.{tx_of}
use Rattle.ent_lists.specs.Elements.{In, Pairs, of_all, to_all, in_second, in_either, of_filter, to_filter}
use Rattle.ent_lists.specs.Elements.{pairs_across, pairs_behind, pairs_filtered, pairs_index, pairs_second}
use Rattle.ent_lists.specs.Elements.{pairs_without, any_none, contains_in}
use Rattle.ent_lists.specs.Elements.{in_contains, to_map, clash, not_so, same_number, number_itself}
use Rattle.ent_protocol_laws.proofs.Placed.{places_kept, places_opened}
use Rattle.ent_protocol_laws.proofs.Places.{Stands, members_once}
use Rattle.ent_protocol_laws.proofs.Times.{one_of}

-- ---- what is kept

abbrev OtherJob : Job → Job → Type 0
OtherJob one other = AreOther one.work other.work

record Before (active : List Member) (single : Single) : Type 0 where
  pub member : Member
  pub at : In member active
  pub tx : member.tx ≡ single.tx
  pub attempt : member.attempt ≡ single.attempt
  pub place : member.place ≡ single.place
  pub unposted : member.posted ≡ false

abbrev BeforeWork : List Member → Work → Type 0
BeforeWork active (One single) = Before active single
BeforeWork active (Joint asked) = Unit {0}

abbrev BeforeJob : List Member → Job → Type 0
BeforeJob active job = BeforeWork active job.work

record LentRight (active : List Member) (lent : List Job) : Type 0 where
  pub once : Pairs OtherJob lent
  pub before : AllByRecursion (BeforeJob active) lent

-- a member that stands where it stood
record StandsAs (active : List Member) (x : Member) : Type 0 where
  pub member : Member
  pub at : In member active
  pub tx : member.tx ≡ x.tx
  pub attempt : member.attempt ≡ x.attempt
  pub place : member.place ≡ x.place
  pub posted : member.posted ≡ x.posted

as_it_is : (active : List Member) (x : Member) → In x active → StandsAs active x
as_it_is active x at =
    record { member = x; at = at; tx = refl; attempt = refl; place = refl; posted = refl }

-- members of singles that stand in other members
moved : (active new : List Member) (jobs : List Job)
    → ((job : Job) (single : Single) → In job jobs → job.work ≡ One single → (x : Member) → In x active
    → x.tx ≡ single.tx → x.posted ≡ false → StandsAs new x)
    → AllByRecursion (BeforeJob active) jobs → AllByRecursion (BeforeJob new) jobs
moved active new jobs f all =
    to_all (BeforeJob new) jobs (λ job at. by job at job.work refl (of_all (BeforeJob active) jobs job all at))
  where
    by : (job : Job) → In job jobs → (work : Work) → job.work ≡ work → BeforeWork active work → BeforeWork new work
    by job at (Joint asked) is before = tt
    by job at (One single) is before =
        let still = f job single at is before.member before.at before.tx before.unposted in
        record {
          member = still.member;
          at = still.at;
          tx = still.tx ∙ before.tx;
          attempt = still.attempt ∙ before.attempt;
          place = still.place ∙ before.place;
          unposted = still.posted ∙ before.unposted;
        }

fewer : (active : List Member) (jobs more : List Job) → ((job : Job) → In job jobs → In job more)
    → AllByRecursion (BeforeJob active) more → AllByRecursion (BeforeJob active) jobs
fewer active jobs more f all =
    to_all (BeforeJob active) jobs (λ job at. of_all (BeforeJob active) more job all (f job at))

-- ---- who has no job of a statement

single_is : (tx : ℕ) (job : Job) (single : Single) → job.work ≡ One single → is_single_of tx job ≡ (single.tx == tx)
single_is tx job single is = ap (λ w. is_single_of tx (record { work = w; tables = job.tables })) is

not_single : (s : State) (tx : ℕ) → is_lent s tx ≡ false → (job : Job) (single : Single) → In job s.lent
    → job.work ≡ One single → single.tx ≡ tx → ⊥
not_single s tx free job single at is own =
    clash (is_single_of tx job) (single_is tx job single is ∙ ap (λ n. n == tx) own ∙ number_itself tx)
    (any_none (is_single_of tx) s.lent free job at)

-- ---- members that become others

replaced_other : (new x : Member) → (x.tx ≡ new.tx → ⊥) → replaced new x ≡ x
replaced_other new x differs =
    ap (λ b. cond b new x) (not_so (x.tx == new.tx) (λ e. differs (same_number x.tx new.tx e)))

pub replaced_here : (new x : Member) → x.tx ≡ new.tx → replaced new x ≡ new
replaced_here new x same = ap (λ b. cond b new x) (ap (λ n. n == new.tx) same ∙ number_itself new.tx)

-- one of another transaction
elsewhere : (new : Member) (active : List Member) (x : Member) → In x active → (x.tx ≡ new.tx → ⊥)
    → StandsAs (map (replaced new) active) x
elsewhere new active x at differs =
    as_it_is (map (replaced new) active) x
    (subst (λ y. In y (map (replaced new) active)) (replaced_other new x differs) (to_map (replaced new) active x at))

one_active : (s : State) → Stands s → (x y : Member) → In x s.active → In y s.active → x.tx ≡ y.tx → x ≡ y
one_active s h x y at bt same =
    one_of tx_of y.tx (members s) x y (in_second s.prepared s.active x at) (in_second s.prepared s.active y bt) same
    refl (members_once s h y.tx)

-- ---- jobs that come back

other_turned : (v w : Work) → AreOther v w → AreOther w v
other_turned (One a) (One b) h = λ e. h (sym e)
other_turned (One a) (Joint b) h = tt
other_turned (Joint a) (One b) h = tt
other_turned (Joint a) (Joint b) h = λ e. h (sym e)

-- what is left is of other transactions
taken_other : (job : Job) (jobs left : List Job) → IsTaken job jobs left → Pairs OtherJob jobs → (own : Single)
    → job.work ≡ One own → (other : Job) (single : Single) → In other left → other.work ≡ One single
    → single.tx ≡ own.tx → ⊥
taken_other job jobs left t pairs own is other single at other_is =
    let all = subst (Pairs OtherJob) t.is_there pairs in
    let apart : AreOther other.work job.work =
    elim (in_either t.before t.behind other (subst (In other) t.others at)) [
      | inl a ↦ pairs_across OtherJob t.before (job ∷ t.behind) other job all a (inl refl)
      | inr b ↦
          other_turned job.work other.work
          (of_all (OtherJob job) t.behind other (pairs_second OtherJob t.before (job ∷ t.behind) all).0 b)
    ] in
    subst (λ w. AreOther w (One own)) other_is (subst (AreOther other.work) is apart)

-- ---- events

lends : (s : State) (m : Member) (statement : Statement Value) → IsIdle s m → Stands s → LentRight s.active s.lent
    → LentRight (lending s m statement).active (lending s m statement).lent
lends s m statement idle stands h =
    let new = holding m (statement_uses statement) in
    let active = map (replaced new) s.active in
    let job = single_job s m statement in
    let there : In new active =
    subst (λ y. In y active) (replaced_here new m refl) (to_map (replaced new) s.active m idle.at) in
    record {
      once = pairs_behind OtherJob s.lent job h.once (λ other at. by other at other.work refl);
      before = to_all (BeforeJob active) (s.lent ++ job ∷ []) (λ other at. elim (in_either s.lent (job ∷ []) other at) [
        | inl a ↦ of_all (BeforeJob active) s.lent other (moved s.active active s.lent (λ j single jt is x xt own free.
            elsewhere new s.active x xt (λ e. not_single s m.tx idle.not_lent j single jt is (sym own ∙ e))) h.before) a
        | inr b ↦ elim b [
          | inl same ↦ subst (BeforeJob active) (sym same)
              (record {
                member = new;
                at = there;
                tx = refl;
                attempt = refl;
                place = refl;
                unposted = idle.unposted;
              })
          | inr bad ↦ absurd bad
        ]
      ]);
    }
  where
    by : (other : Job) → In other s.lent → (work : Work) → other.work ≡ work
        → AreOther other.work (single_job s m statement).work
    by other at (One single) is =
        subst (λ w. AreOther w (single_job s m statement).work) (sym is)
        (λ e. not_single s m.tx idle.not_lent other single at is e)
    by other at (Joint asked) is = subst (λ w. AreOther w (single_job s m statement).work) (sym is) tt

-- a member that has no job of a statement becomes another
replaces : (s : State) (new m : Member) → new.tx ≡ m.tx → is_lent s m.tx ≡ false → LentRight s.active s.lent
    → LentRight (map (replaced new) s.active) s.lent
replaces s new m own free h =
    record {
      once = h.once;
      before = moved s.active (map (replaced new) s.active) s.lent (λ j single jt is x xt same unposted.
          elsewhere new s.active x xt (λ e. not_single s m.tx free j single jt is (sym same ∙ e ∙ own))) h.before;
    }

prepares : (s : State) (m : Member) → IsIdle s m → LentRight s.active s.lent
    → LentRight (preparing s m).active s.lent
prepares s m idle h =
    record {
      once = h.once;
      before = moved s.active (preparing s m).active s.lent (λ j single jt is x xt own unposted.
          as_it_is (preparing s m).active x (to_filter (λ other. not (is_tx m.tx other)) s.active x xt
          (ap not (not_so (x.tx == m.tx) (λ e.
          not_single s m.tx idle.not_lent j single jt is (sym own ∙ same_number x.tx m.tx e)))))) h.before;
    }

takes_out : (s : State) (gone : List Member) (cause : Cause) → LentRight s.active s.lent
    → LentRight (taken_out gone cause s).active (taken_out gone cause s).lent
takes_out s gone cause h =
    let stays : Job → Bool = λ job. not (goes_with gone job) in
    let active = (taken_out gone cause s).active in
    record {
      once = pairs_filtered OtherJob stays s.lent h.once;
      before = moved s.active active (filter stays s.lent) (λ j single jt is x xt own unposted.
          as_it_is active x (to_filter (λ m. not (is_among gone m.tx)) s.active x xt
          (ap (λ n. not (is_among gone n)) own
          ∙ ap (λ w. not (goes_with gone (record { work = w; tables = j.tables }))) (sym is)
          ∙ (of_filter stays s.lent j jt).1)))
          (fewer s.active (filter stays s.lent) s.lent (λ j jt. (of_filter stays s.lent j jt).0) h.before);
    }

takes : (s : State) (job : Job) (left : List Job) → IsTaken job s.lent left → LentRight s.active s.lent
    → LentRight s.active left
takes s job left taken h =
    record {
      once = subst (Pairs OtherJob) (sym taken.others)
          (pairs_without OtherJob taken.before taken.behind job (subst (Pairs OtherJob) taken.is_there h.once));
      before = fewer s.active left s.lent (taken_fewer job s.lent left taken) h.before;
    }

finishes : (s : State) (new m : Member) (left : List Job) → new.tx ≡ m.tx → ComesBack s m left
    → LentRight s.active s.lent → LentRight (map (replaced new) s.active) left
finishes s new m left own back h =
    let less = takes s back.job left back.taken h in
    record {
      once = less.once;
      before = moved s.active (map (replaced new) s.active) left (λ j single jt is x xt same unposted.
          elsewhere new s.active x xt (λ e.
          taken_other back.job s.lent left back.taken h.once back.single back.is_single j single jt is
          (sym same ∙ e ∙ own ∙ back.own))) less.before;
    }

-- ---- joint jobs

picks : (s : State) (asked : List Posted) → (IsOut s asked → ⊥) → LentRight s.active s.lent
    → LentRight s.active (s.lent ++ joint_job s asked ∷ [])
picks s asked out h =
    record {
      once = pairs_behind OtherJob s.lent (joint_job s asked) h.once (λ other at. by other at other.work refl);
      before = to_all (BeforeJob s.active) (s.lent ++ joint_job s asked ∷ []) (λ other at.
          elim (in_either s.lent (joint_job s asked ∷ []) other at) [
            | inl a ↦ of_all (BeforeJob s.active) s.lent other h.before a
            | inr b ↦ elim b [
              | inl same ↦ subst (BeforeJob s.active) (sym same) tt
              | inr bad ↦ absurd bad
            ]
          ]);
    }
  where
    by : (other : Job) → In other s.lent → (work : Work) → other.work ≡ work → AreOther other.work (Joint asked)
    by other at (One single) is = subst (λ w. AreOther w (Joint asked)) (sym is) tt
    by other at (Joint others) is =
        subst (λ w. AreOther w (Joint asked)) (sym is)
        (λ e. out (other, in_contains s.lent other at, is ∙ ap Joint e))

-- one that isn't asked stays where it stands
unasked : (asked : List Posted) (groundings : List Valuation) (x : Member)
    → ((query : Posted) → In query asked → query.tx ≡ x.tx → ⊥) → answered_among asked groundings x ≡ x
unasked [] groundings x f = refl
unasked (query ∷ asked) [] x f = refl
unasked (query ∷ asked) (values ∷ more) x f =
    ap (λ b. cond b (answered_by query values x) (answered_among asked more x))
    (not_so (is_tx query.tx x) (λ e. f query (inl refl) (sym (same_number x.tx query.tx e))))
    ∙ unasked asked more x (λ other at. f other (inr at))

joins : (s : State) (job : Job) (left : List Job) (asked : List Posted) (groundings : List Valuation)
    → IsTaken job s.lent left → IsPresentComponent s asked → Stands s → LentRight s.active s.lent
    → LentRight (joining (record s { lent = left }) asked groundings).active left
joins s job left asked groundings taken component stands h =
    let less = takes s job left taken h in
    let label = in_joined_group (answered_groups (record s { lent = left }) asked) in
    let become : Member → Member = λ m. label (answered_among asked groundings m) in
    record {
      once = less.once;
      before = moved s.active (map become s.active) left (λ j single jt is x xt own unposted.
          let same : become x ≡ label x =
          ap label (unasked asked groundings x (λ query at e.
          let asker = asker_of s asked component query at in
          let one = one_active s stands x asker.member xt asker.at (sym e ∙ asker.own) in
          clash asker.member.posted asker.by.posted (ap (λ (m : Member). m.posted) (sym one) ∙ unposted))) in
          record {
            member = label x;
            at = subst (λ y. In y (map become s.active)) same (to_map become s.active x xt);
            tx = refl;
            attempt = refl;
            place = refl;
            posted = refl;
          }) less.before;
    }

-- ---- all of them

abbrev Lent : State → Type 0
Lent s = Stands s × LentRight s.active s.lent

nothing : (active : List Member) → LentRight active []
nothing active = record { once = tt; before = tt }

finishes_by : (s : State) (m : Member) (left : List Job) (statement : Statement Value) (outcome : Outcome)
    → ComesBack s m left → LentRight s.active s.lent
    → LentRight (finished (record s { lent = left }) m statement outcome).active left
finishes_by s m left statement (Changed count removed added) back h = finishes s _ m left refl back h
finishes_by s m left statement (Bound value) back h = finishes s _ m left refl back h
finishes_by s m left statement (Shown rows) back h = finishes s _ m left refl back h
finishes_by s m left statement (Fault failure) back h = takes s back.job left back.taken h
finishes_by s m left statement (Choice groundings) back h = takes s back.job left back.taken h

still_left : (s : State) (m : Member) (left : List Job) (statement : Statement Value) (outcome : Outcome)
    → (finished (record s { lent = left }) m statement outcome).lent ≡ left
still_left s m left statement (Changed count removed added) = refl
still_left s m left statement (Bound value) = refl
still_left s m left statement (Shown rows) = refl
still_left s m left statement (Fault failure) = refl
still_left s m left statement (Choice groundings) = refl

-- where no run is on there is no job of a statement
starts : (s : State) → s.running ≡ false → Stands s → LentRight s.active s.lent → LentRight (starting s).active s.lent
starts s off stands h =
    record {
      once = h.once;
      before = moved s.active (starting s).active s.lent (λ j single jt is x xt own unposted.
          absurd (subst (In x) (stands.idle off).1 xt)) h.before;
    }

lent_kept : AreKept Lent
lent_kept =
    record {
      submits = λ s script form h. (places_kept.submits s script form h.0, h.1);
      starts = λ s off h. (places_kept.starts s off h.0, starts s off h.0 h.1);
      lends = λ s m statement idle next h.
          (places_kept.lends s m statement idle next h.0, lends s m statement idle h.0 h.1);
      posts = λ s m statement idle next safe h.
          (places_kept.posts s m statement idle next safe h.0, replaces s _ m refl idle.not_lent h.1);
      prepares = λ s m idle h. (places_kept.prepares s m idle h.0, prepares s m idle h.1);
      commits = λ s group ready h. (places_kept.commits s group ready h.0, h.1);
      rolls_back = λ s group cause h.
          (places_kept.rolls_back s group cause h.0, takes_out s (group_members s group) cause h.1);
      takes = λ s job left taken h. (places_kept.takes s job left taken h.0, takes s job left taken h.1);
      finishes = λ s m left statement outcome back h. (
        places_kept.finishes s m left statement outcome back h.0,
        subst (LentRight (finished (record s { lent = left }) m statement outcome).active)
            (sym (still_left s m left statement outcome)) (finishes_by s m left statement outcome back h.1),
      );
      picks = λ s asked component out h. (places_kept.picks s asked component out h.0, picks s asked out h.1);
      joins = λ s job left asked groundings taken component grounded h. (
        places_kept.joins s job left asked groundings taken component grounded h.0,
        joins s job left asked groundings taken component h.0 h.1,
      );
      tries = λ s asked h. (places_kept.tries s asked h.0, h.1);
      ends = λ s h. (places_kept.ends s h.0, nothing _);
      recalls = λ s h. (places_kept.recalls s h.0, nothing _);
    }

pub reached_lent : {F : Type 0} (forms : Forms F) (s : State) → IsReached forms s → LentStandOnce s
reached_lent forms s r =
    let h = reached forms Lent lent_kept s (places_opened s.opening, nothing []) r in
    record {
      once = pairs_index OtherJob s.lent h.1.once;
      before = λ job single at is.
          let before : Before s.active single =
          subst (BeforeWork s.active) is (of_all (BeforeJob s.active) s.lent job h.1.before
          (contains_in s.lent job at)) in
          record {
            member = before.member;
            active = in_contains s.active before.member before.at;
            tx = before.tx;
            attempt = before.attempt;
            place = before.place;
            unposted = before.unposted;
          };
    }
