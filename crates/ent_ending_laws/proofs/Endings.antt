-- Endings are told one move after another.
use Rattle.std.proofs.Common.{◌≡◌, ◌∙◌, ◌++◌, ◌∷◌, [], ℕ, zero, suc, All, List, refl, sym, ap, subst, inl, inr, arith}
use Rattle.std.proofs.Common.{append_assoc, append-nil}
use Rattle.ent_admission.specs.Acts.{Acts, Asks, Happens}
use Rattle.ent_admission.specs.Admission.{Admission, IsAllTold}
use Rattle.ent_admission.specs.Moves.{Chain, Moves, TellsCommits, TellsEndings, endings_group}
use Rattle.ent_feed.specs.Feed.{Feed}
use Rattle.ent_feed.specs.Group.{AreNumbered}
use Rattle.ent_feed.specs.declared.group.EndedTicket.{EndedTicket}
use Rattle.ent_feed.specs.declared.group.Group.{Group}
use Rattle.ent_feed.proofs.Numbers.{numbered_joined}
use Rattle.ent_ending_laws.specs.Endings.{HasToldEndings, HasToldThem, all_ended, ended_by, ended_by_act, ended_by_move}
use Rattle.ent_ending_laws.specs.Endings.{endings, settled_as}

both_ended : (some more : List Group) → all_ended (some ++ more) ≡ all_ended some ++ all_ended more
both_ended [] more = refl
both_ended (group ∷ some) more =
    ap (λ (ended : List EndedTicket). group.ended ++ ended) (both_ended some more)
    ∙ sym (append_assoc group.ended (all_ended some) (all_ended more))

none_ended : (groups : List Group) → All (λ group. group.ended ≡ []) groups → all_ended groups ≡ []
none_ended [] all = refl
none_ended (group ∷ more) all =
    let first : group.ended ≡ [] = all 0 group (omega arith) in
    (λ i. first i ++ all_ended more) ∙ none_ended more (λ k d low. all (suc k) d (omega (arith, low)))

module _ (first : Admission) where
  told_nothing : HasToldEndings first first []
  told_nothing =
      record {
        groups = [];
        numbered = refl;
        settled = [];
        kept = sym (append-nil first.feed.groups);
        told = sym (append-nil first.news);
      }

  module _ (old new : Admission) (ended : List EndedTicket) (before : HasToldEndings first old ended) where
    -- the feed is as it was, and these are to be told too
    quiet : (more : List EndedTicket) → new.feed ≡ old.feed → new.news ≡ old.news ++ more
        → HasToldEndings first new (ended ++ more)
    quiet more feed news =
        record {
          groups = before.groups;
          numbered = subst (λ (f : Feed). AreNumbered first.feed.next before.groups f.next) (sym feed) before.numbered;
          settled = before.settled;
          kept = ap (λ (f : Feed). before.settled ++ f.groups) feed ∙ before.kept;
          told = ap (λ (n : List EndedTicket). all_ended before.groups ++ n) news
              ∙ sym (append_assoc (all_ended before.groups) old.news more)
              ∙ ap (λ (n : List EndedTicket). n ++ more) before.told
              ∙ append_assoc first.news ended more;
        }

    silent : new.feed ≡ old.feed → new.news ≡ old.news → HasToldEndings first new (ended ++ [])
    silent feed news = quiet [] feed (news ∙ sym (append-nil old.news))

    -- groups came, which tell of some of those who were to be told
    module _ (groups : List Group) (numbered : AreNumbered old.feed.next groups new.feed.next)
        (kept : new.feed.groups ≡ old.feed.groups ++ groups)
        (told : all_ended groups ++ new.news ≡ old.news) where
      came : HasToldEndings first new (ended ++ [])
      came =
          record {
            groups = before.groups ++ groups;
            numbered = numbered_joined first.feed.next old.feed.next new.feed.next before.groups groups before.numbered
                numbered;
            settled = before.settled;
            kept = ap (λ (gs : List Group). before.settled ++ gs) kept
                ∙ sym (append_assoc before.settled old.feed.groups groups)
                ∙ ap (λ (gs : List Group). gs ++ groups) before.kept
                ∙ append_assoc first.feed.groups before.groups groups;
            told = ap (λ (n : List EndedTicket). n ++ new.news) (both_ended before.groups groups)
                ∙ append_assoc (all_ended before.groups) (all_ended groups) new.news
                ∙ ap (λ (n : List EndedTicket). all_ended before.groups ++ n) told
                ∙ before.told
                ∙ ap (λ (n : List EndedTicket). first.news ++ n) (sym (append-nil ended));
          }

    commits_told : TellsCommits old new → HasToldEndings first new (ended ++ [])
    commits_told tells =
        let published = tells.publishes in
        came published.groups published.numbered (ap (λ (f : Feed). f.groups) published.feed)
        ((λ i. none_ended published.groups published.ended i ++ new.news) ∙ ap (λ (a : Admission). a.news) tells.is)

    endings_told : TellsEndings old new → HasToldEndings first new (ended ++ [])
    endings_told tells =
        let group = endings_group old.feed.next old.epoch.number old.news in
        let next : suc old.feed.next ≡ new.feed.next = omega (arith, tells.next) in
        came (group ∷ []) (refl, next) tells.groups
        (ap (λ (n : List EndedTicket). (old.news ++ []) ++ n) (ap (λ (a : Admission). a.news) tells.is)
        ∙ append-nil (old.news ++ []) ∙ append-nil old.news)

    asked : Asks old new → HasToldEndings first new (ended ++ [])
    asked asks =
        record {
          groups = before.groups;
          numbered = subst (λ (n : ℕ). AreNumbered first.feed.next before.groups n) (sym asks.next) before.numbered;
          settled = before.settled ++ asks.settled;
          kept = append_assoc before.settled asks.settled new.feed.groups
              ∙ ap (λ (gs : List Group). before.settled ++ gs) asks.kept ∙ before.kept;
          told = ap (λ (n : List EndedTicket). all_ended before.groups ++ n) asks.news ∙ before.told
              ∙ ap (λ (n : List EndedTicket). first.news ++ n) (sym (append-nil ended));
        }

    by_move : (move : Moves old new) → HasToldEndings first new (ended ++ ended_by_move old new move)
    by_move (inl chooses) = silent chooses.feed chooses.news
    by_move (inr (inl enters)) = silent enters.feed enters.news
    by_move (inr (inr (inl runs))) = silent runs.feed runs.news
    by_move (inr (inr (inr (inl settles)))) = quiet (settled_as old new settles) settles.feed settles.news
    by_move (inr (inr (inr (inr (inl commits))))) = commits_told commits
    by_move (inr (inr (inr (inr (inr told))))) = endings_told told

    by_act : (act : Acts old new) → HasToldEndings first new (ended ++ ended_by_act old new act)
    by_act (inl plans) = silent (ap (λ (a : Admission). a.feed) plans.is) (ap (λ (a : Admission). a.news) plans.is)
    by_act (inr (inl shifts)) =
        silent (ap (λ (a : Admission). a.feed) shifts.is) (ap (λ (a : Admission). a.news) shifts.is)
    by_act (inr (inr (inl turns))) = silent turns.feed turns.news
    by_act (inr (inr (inr move))) = by_move move

    by_step : (step : Happens old new) → HasToldEndings first new (ended ++ ended_by old new step)
    by_step (inl act) = by_act act
    by_step (inr asks) = asked asks

  pub told_so_far : (count : ℕ) (last : Admission) (happened : Chain Happens count first last)
      → HasToldEndings first last (endings count first last happened)
  told_so_far zero last same = subst (λ (a : Admission). HasToldEndings first a []) (sym same) told_nothing
  told_so_far (suc count) last (between, before, step) =
      by_step between last (endings count first between before) (told_so_far count between before) step

pub told_them : (first last : Admission) (ended : List EndedTicket) → HasToldEndings first last ended → IsAllTold first
    → IsAllTold last → HasToldThem first last ended
told_them first last ended told was now =
    record {
      groups = told.groups;
      numbered = told.numbered;
      settled = told.settled;
      kept = told.kept;
      told = sym (append-nil (all_ended told.groups))
          ∙ ap (λ (n : List EndedTicket). all_ended told.groups ++ n) (sym now.endings)
          ∙ told.told ∙ ap (λ (n : List EndedTicket). n ++ ended) was.endings;
    }
