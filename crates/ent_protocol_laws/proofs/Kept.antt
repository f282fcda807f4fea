-- Events that add no script keep the scripts.
use Rattle.std.proofs.Common.{◌≡◌, Bool, true, false, List, refl}
use Rattle.ent_protocol.specs.Event.{Event, Reply}
use Rattle.ent_protocol.specs.Job.{Job}
use Rattle.ent_protocol.specs.Run.{Forms}
use Rattle.ent_protocol.specs.State.{State}
use Rattle.ent_protocol.specs.Step.{Step}
use Rattle.ent_protocol_laws.specs.Replies.{adds_script}
use Rattle.ent_protocol_laws.proofs.Leaves.{Leaves, left_behind}
use Rattle.ent_protocol_laws.proofs.Few.{finishes}
use Rattle.ent_lists.specs.Elements.{clash}

abbrev IsKept : State → Bool → Bool → List Job → State → Type 0
IsKept s added rolled jobs new = added ≡ false → new.submitted ≡ s.submitted

leaves_kept : (s : State) → Leaves s (IsKept s)
leaves_kept s =
    record {
      same = λ none. refl;
      submits = λ script form bad. clash true refl bad;
      starts = λ first more off asleep none. refl;
      lends = λ m c at none. refl;
      posts = λ m c at none. refl;
      prepares = λ m at none. refl;
      commits = λ m at ready none. refl;
      rolls_back = λ group cause none. refl;
      fails = λ left group cause back none. refl;
      finishes = λ left m c outcome back at none. finishes (record s { lent = left }) m c outcome;
      picks = λ asked none. refl;
      joins = λ left asked groundings back none. refl;
      tries = λ left asked back none. refl;
      ends = λ on none. refl;
      recalls = λ none. refl;
    }

pub submitted_kept : {F : Type 0} (forms : Forms F) (s : State) (event : Event) (reply : Reply F) (new : State)
    → Step forms s event reply new → adds_script event reply ≡ false → new.submitted ≡ s.submitted
submitted_kept forms s event reply new step =
    left_behind s (IsKept s) (leaves_kept s) forms event reply new step
