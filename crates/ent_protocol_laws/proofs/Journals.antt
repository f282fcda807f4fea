-- The journal grows where a group commits.
use Rattle.std.proofs.Common.{◌≡◌, ◌⊎◌, inl, inr, Bool, true, false, cond, not, ◌==◌, List, [], ◌∷◌, ◌++◌, map, refl}
use Rattle.std.proofs.Common.{ap, ◌∙◌, Contains}
use Rattle.std.specs.List.{filter, list_any}
use Rattle.ent_value.specs.declared.value.Value.{Value}
use Rattle.ent_semantics.specs.declared.statement.Statement.{Statement}
use Rattle.ent_protocol.specs.Commit.{committing, entry_of, is_ready, preparing}
use Rattle.ent_protocol.specs.Event.{Event, Reply}
use Rattle.ent_protocol.specs.Finish.{finished}
use Rattle.ent_protocol.specs.Job.{Job, Outcome, Shown, Changed, Bound, Choice, Fault}
use Rattle.ent_protocol.specs.Member.{is_of, is_tx}
use Rattle.ent_protocol.specs.Run.{Forms}
use Rattle.ent_protocol.specs.State.{State, Member}
use Rattle.ent_protocol.specs.Step.{Step}
use Rattle.ent_protocol_laws.specs.Whole.{CommitsWhole}
use Rattle.ent_protocol_laws.proofs.Leaves.{Leaves, left_behind}
use Rattle.ent_lists.specs.Elements.{In, any_none, clash, contains_in, in_contains, number_itself, same_number}
use Rattle.ent_lists.specs.Elements.{to_filter, turned}

abbrev StaysOrGrows : State → Bool → Bool → List Job → State → Type 0
StaysOrGrows s added rolled jobs new = (new.journal ≡ s.journal) ⊎ CommitsWhole s new

joined : (p : Member → Bool) (ms : List Member) (m : Member) → p m ≡ true
    → filter p (ms ++ m ∷ []) ≡ filter p ms ++ m ∷ []
joined p [] m is = ap (λ b. cond b (m ∷ []) []) is
joined p (x ∷ xs) m is = ap (λ more. cond (p x) (x ∷ more) more) (joined p xs m is) ∙ through (p x)
  where
    through : (b : Bool) → cond b (x ∷ filter p xs ++ m ∷ []) (filter p xs ++ m ∷ [])
        ≡ cond b (x ∷ filter p xs) (filter p xs) ++ m ∷ []
    through true = refl
    through false = refl

commits : (s : State) (m : Member) → In m s.active → is_ready (preparing s m) m.group ≡ true
    → CommitsWhole s (committing (preparing s m) m.group)
commits s m at ready =
    record {
      member = m;
      active = in_contains s.active m at;
      others_prepared = λ other there group. by other (contains_in s.active other there) group (other.tx == m.tx) refl;
      entries = ap (λ (ms : List Member). s.journal ++ map entry_of ms)
          (joined (is_of m.group) s.prepared m (number_itself m.group));
    }
  where
    by : (other : Member) → In other s.active → other.group ≡ m.group → (b : Bool) → (other.tx == m.tx) ≡ b
        → other.tx ≡ m.tx
    by other there group true is = same_number other.tx m.tx is
    by other there group false is =
        clash (is_of m.group other) (ap (λ n. n == m.group) group ∙ number_itself m.group)
        (any_none (is_of m.group) (preparing s m).active
        (turned (list_any (is_of m.group) (preparing s m).active) ready) other
        (to_filter (λ x. not (is_tx m.tx x)) s.active other there (ap not is)))

finishes : (s : State) (m : Member) (c : Statement Value) (outcome : Outcome)
    → (finished s m c outcome).journal ≡ s.journal
finishes s m c (Changed count removed added) = refl
finishes s m c (Bound value) = refl
finishes s m c (Shown rows) = refl
finishes s m c (Choice groundings) = refl
finishes s m c (Fault failure) = refl

leaves_journal : (s : State) → Leaves s (StaysOrGrows s)
leaves_journal s =
    record {
      same = inl refl;
      submits = λ script form. inl refl;
      starts = λ first more off asleep. inl refl;
      lends = λ m c at. inl refl;
      posts = λ m c at. inl refl;
      prepares = λ m at. inl refl;
      commits = λ m at ready. inr (commits s m at ready);
      rolls_back = λ group cause. inl refl;
      fails = λ left group cause back. inl refl;
      finishes = λ left m c outcome back at. inl (finishes (record s { lent = left }) m c outcome);
      picks = λ asked. inl refl;
      joins = λ left asked groundings back. inl refl;
      tries = λ left asked back. inl refl;
      ends = λ on. inl refl;
      recalls = inl refl;
    }

pub all_journals : {F : Type 0} (forms : Forms F) (s : State) (event : Event) (reply : Reply F) (new : State)
    → Step forms s event reply new → (new.journal ≡ s.journal) ⊎ CommitsWhole s new
all_journals forms s event reply new step =
    left_behind s (StaysOrGrows s) (leaves_journal s) forms event reply new step
