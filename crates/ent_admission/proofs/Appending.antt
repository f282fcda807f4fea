-- Groups that come to the feed, one move behind another.
use Rattle.std.proofs.Common.{◌≡◌, ◌∙◌, ◌+◌, ◌++◌, ◌∷◌, [], ℕ, zero, suc, List, refl, sym, ap, subst, arith, ⊎_elim}
use Rattle.std.proofs.Common.{append_assoc, append-nil}
use Rattle.ent_feed.specs.Feed.{Feed}
use Rattle.ent_feed.specs.declared.group.Group.{Group}
use Rattle.ent_feed.proofs.Numbers.{numbered_joined}
use Rattle.ent_admission.specs.Admission.{Admission}
use Rattle.ent_admission.specs.Groups.{Appends}
use Rattle.ent_admission.specs.Moves.{Chain, Chooses, Enters, Goes, Moves, Runs, Settles, Tells, TellsCommits}
use Rattle.ent_admission.specs.Moves.{TellsEndings}
use Rattle.ent_admission.specs.Moves.{endings_group}

pub appends_nowhere : (feed : Feed) → Appends feed feed
appends_nowhere feed = record { groups = []; kept = sym (append-nil feed.groups); numbered = refl }

pub appends_same : (old new : Feed) → new ≡ old → Appends old new
appends_same old new same = subst (λ (f : Feed). Appends old f) (sym same) (appends_nowhere old)

pub appends_on : (first between last : Feed) → Appends first between → Appends between last → Appends first last
appends_on first between last one two =
    record {
      groups = one.groups ++ two.groups;
      kept = two.kept ∙ ap (λ (gs : List Group). gs ++ two.groups) one.kept
          ∙ append_assoc first.groups one.groups two.groups;
      numbered = numbered_joined first.next between.next last.next one.groups two.groups one.numbered two.numbered;
    }

commits_append : (old new : Admission) → TellsCommits old new → Appends old.feed new.feed
commits_append old new tells =
    let published = tells.publishes in
    record {
      groups = published.groups;
      kept = ap (λ (f : Feed). f.groups) published.feed;
      numbered = published.numbered;
    }

endings_append : (old new : Admission) → TellsEndings old new → Appends old.feed new.feed
endings_append old new tells =
    let next : suc old.feed.next ≡ new.feed.next = omega (arith, tells.next) in
    record {
      groups = endings_group old.feed.next old.epoch.number old.news ∷ [];
      kept = tells.groups;
      numbered = (refl, next);
    }

move_appends : (old new : Admission) → Moves old new → Appends old.feed new.feed
move_appends old new move =
    ⊎_elim
    (λ (chooses : Chooses old new). appends_same old.feed new.feed chooses.feed)
    (λ others. ⊎_elim
    (λ (enters : Enters old new). appends_same old.feed new.feed enters.feed)
    (λ over. ⊎_elim
    (λ (runs : Runs old new). appends_same old.feed new.feed runs.feed)
    (λ last. ⊎_elim
    (λ (settles : Settles old new). appends_same old.feed new.feed settles.feed)
    (λ (tells : Tells old new). ⊎_elim (commits_append old new) (endings_append old new) tells)
    last)
    over)
    others)
    move

moves_append : (count : ℕ) (first last : Admission) → Chain Moves count first last → Appends first.feed last.feed
moves_append zero first last same = appends_same first.feed last.feed (ap (λ (a : Admission). a.feed) same)
moves_append (suc count) first last chain =
    appends_on first.feed chain.0.feed last.feed (moves_append count first chain.0 chain.1)
    (move_appends chain.0 last chain.2)

pub goes_append : (first last : Admission) → Goes first last → Appends first.feed last.feed
goes_append first last goes = moves_append goes.0 first last goes.1
