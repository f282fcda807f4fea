-- One call behind another, as far as tickets go.
use Rattle.std.proofs.Common.{◌≡◌, ◌∙◌, inl, inr, ⊎_elim}
use Rattle.ent_waiting.specs.Ended.{ended_of}
use Rattle.ent_waiting.specs.WaitingList.{Onward, WaitingList}

pub onward_nowhere : (list : WaitingList) → Onward list list
onward_nowhere list =
    record {
      used = λ t used. used;
      gone = λ t used gone. gone;
      told = λ t used gone. inl (let e : ended_of t list.ended ≡ ended_of t list.ended = cc in e);
    }

pub onward_on : (first between last : WaitingList) → Onward first between → Onward between last → Onward first last
onward_on first between last one two =
    record {
      used = λ t used. two.used t (one.used t used);
      gone = λ t used gone. two.gone t (one.used t used) (one.gone t used gone);
      told = λ t used gone.
          ⊎_elim
          (λ same. ⊎_elim (λ alike. inl (same ∙ alike)) (λ none. inr (same ∙ none)) (one.told t used gone))
          (λ none. inr none)
          (two.told t (one.used t used) (one.gone t used gone));
    }
