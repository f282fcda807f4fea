-- What a core's type keeps of its state.
use Rattle.std.specs.Prelude.{◌≡◌, None}
use Rattle.ent_form.specs.OpeningFault.{opening_fault}
use Rattle.ent_protocol.specs.Reached.{IsReached}
use Rattle.ent_protocol.specs.State.{State}
use Rattle.ent_headline.specs.Resolved.{resolved_forms}

pub record IsKeptState (s : State) : Type 0 where
  pub reached : IsReached resolved_forms s
  pub formed : opening_fault s.opening ≡ None
