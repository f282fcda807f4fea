-- Which replies tell of progress in a run.
use Rattle.std.specs.Prelude.{Bool, true, false}
use Rattle.ent_protocol.specs.Event.{Reply}
use Rattle.ent_protocol.specs.Event as replies

module _ {F : Type 0} where
  -- a statement was begun for good or is done, members left the run, or a component was tried
  abbrev pub is_progress : Reply F → Bool
  is_progress replies.Posted = true
  is_progress replies.Prepared = true
  is_progress (replies.Committed entries) = true
  is_progress (replies.RolledBack group) = true
  is_progress (replies.Stepped answer) = true
  is_progress (replies.Failed failure group) = true
  is_progress replies.Answered = true
  is_progress replies.NoChoice = true
  is_progress (replies.Broken cycle group) = true
  is_progress other = false

  -- scripts come in, or a run starts
  abbrev pub brings_work : Reply F → Bool
  brings_work (replies.Submitted tx) = true
  brings_work (replies.Started members) = true
  brings_work other = false
