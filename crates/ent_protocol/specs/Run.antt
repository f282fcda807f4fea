-- Scripts are submitted; runs start and end; cycles are broken; jobs are called back.
use Rattle.std.specs.Prelude.{◌≡◌, ◌⊎◌, ℕ, suc, Bool, true, false, List, [], ◌∷◌, ◌++◌, map, length, take, drop}
use Rattle.std.specs.Prelude.{Some, Result, Ok, Err, nat_le, slice_index}
use Rattle.ent_tree.specs.declared.declaration.Opening.{Opening}
use Rattle.ent_tree.specs.declared.limits.TheConstants.{MOST_SCRIPTS}
use Rattle.ent_tree.specs.declared.script.Script.{Script}
use Rattle.ent_group.specs.declared.members.TheConstants.{MOST_MEMBERS}
use Rattle.ent_semantics.specs.declared.operand.Known.{Known}
use Rattle.ent_semantics.specs.declared.statement.Statement.{Statement}
use Rattle.ent_protocol.specs.Begin.{Refuses}
use Rattle.ent_protocol.specs.Event.{Reply, Reason}
use Rattle.ent_protocol.specs.Event as replies
use Rattle.ent_protocol.specs.Member.{active_member}
use Rattle.ent_protocol.specs.Quiet.{IsReason, IsQuiet}
use Rattle.ent_protocol.specs.Rollback.{NoOne, taken_out, rolled_back, group_numbers}
use Rattle.ent_protocol.specs.State.{State, Dormant, Member, members, by_number}
use Rattle.ent_protocol.specs.Waits.{IsDeadlock, NoDeadlock}

-- how a script is resolved over an opening
pub record Forms (F : Type 0) : Type 0 where
  pub resolve : Opening → Script → Result (List (Statement Known)) F

-- a script stands last in the dormant list, under the next number
abbrev pub submitting : State → Script → List (Statement Known) → State
submitting s script form =
    record s {
      submitted = s.submitted ++ record { script = script; form = form } ∷ [];
      dormant = s.dormant ++ record { tx = suc (length s.submitted); runs = 0 } ∷ [];
    }

-- a member of a run that starts, in a group of its own, at its first statement
abbrev pub fresh : Dormant → Member
fresh dormant =
    record {
      tx = dormant.tx;
      attempt = suc dormant.runs;
      group = dormant.tx;
      place = 1;
      bound = [];
      answers = [];
      uses = [];
      posted = false;
    }

-- the first of the dormant list, as many as a run may have, are its members
abbrev pub starting : State → State
starting s =
    record s {
      running = true;
      active = by_number (λ member. member.tx) (map fresh (take MOST_MEMBERS s.dormant));
      dormant = drop MOST_MEMBERS s.dormant;
      tried = [];
    }

-- every group that is left is rolled back
abbrev pub ending : State → State
ending s = record (taken_out (members s) NoOne s) { running = false; tried = []; lent = [] }

abbrev pub numbers_of : List Member → List ℕ
numbers_of of_run = map (λ member. member.tx) (by_number (λ member. member.tx) of_run)

module _ {F : Type 0} where
  abbrev pub SubmitsForm : State → Script → Result (List (Statement Known)) F → Reply F → State → Type 0
  SubmitsForm s script (Ok form) reply new =
      (reply ≡ replies.Submitted (suc (length s.submitted))) × (new ≡ submitting s script form)
  SubmitsForm s script (Err fault) reply new = Refuses s (replies.Faulty script fault) reply new

  -- not beyond the most scripts; a script that is refused is handed back
  abbrev pub SubmitsUnless : Bool → Forms F → State → Script → Reply F → State → Type 0
  SubmitsUnless true forms s script reply new = Refuses s (replies.Full script) reply new
  SubmitsUnless false forms s script reply new = SubmitsForm s script (forms.resolve s.opening script) reply new

  abbrev pub Submits : Forms F → State → Script → Reply F → State → Type 0
  Submits forms s script reply new =
      SubmitsUnless (nat_le MOST_SCRIPTS (length s.submitted)) forms s script reply new

  -- not while a run is on, nor where nothing is dormant
  abbrev pub StartsWith : State → Bool → List Dormant → Reply F → State → Type 0
  StartsWith s true dormant reply new = Refuses s replies.NotNow reply new
  StartsWith s false [] reply new = Refuses s replies.Absent reply new
  StartsWith s false (first ∷ more) reply new =
      (reply ≡ replies.Started (numbers_of (starting s).active)) × (new ≡ starting s)

  abbrev pub Starts : State → Reply F → State → Type 0
  Starts s reply new = StartsWith s s.running s.dormant reply new

  -- the group of the cycle's first transaction is rolled back
  pub record Breaks (s : State) (reply : Reply F) (new : State) : Type 0 where
    pub cycle : List ℕ
    pub deadlock : IsDeadlock s cycle
    pub victim : Member
    pub is_victim : active_member s (slice_index cycle 0) ≡ Some victim
    pub replies : reply ≡ replies.Broken cycle (group_numbers s victim.group)
    pub is : new ≡ rolled_back victim.group NoOne s

  abbrev pub BreaksIfAny : State → Reply F → State → Type 0
  BreaksIfAny s reply new = Breaks s reply new ⊎ (NoDeadlock s × Refuses s replies.NoCycle reply new)

  abbrev pub EndsWhileRunning : State → Bool → Reply F → State → Type 0
  EndsWhileRunning s false reply new = Refuses s replies.NotNow reply new
  EndsWhileRunning s true reply new =
      (IsQuiet s × (reply ≡ replies.Ended (numbers_of (members s))) × (new ≡ ending s))
      ⊎ ((reason : Reason) × IsReason s reason × Refuses s (replies.Busy reason) reply new)

  abbrev pub Ends : State → Reply F → State → Type 0
  Ends s reply new = EndsWhileRunning s s.running reply new

  -- no job is lent any more; the uses stay
  abbrev pub Recalls : State → Reply F → State → Type 0
  Recalls s reply new = (reply ≡ replies.Recalled) × (new ≡ record s { lent = [] })
