-- Every event keeps members and changes tidy.
use Rattle.std.proofs.Common.{◌≡◌, ℕ, Bool, true, false, not, ◌||◌, List, [], ◌∷◌, ◌++◌, map}
use Rattle.std.proofs.Common.{arith, rules, refl, sym, ap, subst, ◌∙◌, Some}
use Rattle.std.specs.Prelude.{◌==◌}
use Rattle.std.specs.List.{AllByRecursion, filter}
use Rattle.std.proofs.Math.Bool.{or-true}
use Rattle.std.proofs.lemmas.Bool.{false≢true}
use Rattle.std.proofs.lemmas.List.{map-id}
use Rattle.ent_lists.specs.Elements.{turned, same_number, or_first, all_by}
use Rattle.ent_value.specs.declared.value.Value.{Value}
use Rattle.ent_semantics.specs.Entangled.{Valuation}
use Rattle.ent_semantics.specs.FormKinds.{changed_tables}
use Rattle.ent_semantics.specs.declared.statement.Statement.{Statement}
use Rattle.ent_semantics.specs.Form.{Tables}
use Rattle.ent_semantics.specs.Pool.{Posted}
use Rattle.ent_protocol.specs.Begin.{replaced, with_member}
use Rattle.ent_protocol.specs.Commit.{preparing, committing, committing_members}
use Rattle.ent_protocol.specs.Finish.{finished, noted}
use Rattle.ent_protocol.specs.Job.{Job, Outcome, Shown, Changed, Bound, Choice, Fault}
use Rattle.ent_protocol.specs.Member.{is_tx, is_of, active_member}
use Rattle.ent_protocol.specs.PoolEvents.{joining, answered_among, answered_groups}
use Rattle.ent_protocol.specs.PoolEvents.{in_joined_group}
use Rattle.ent_protocol.specs.Rollback.{Cause, NoOne, is_among, taken_out}
use Rattle.ent_protocol.specs.Run.{ending}
use Rattle.ent_protocol.specs.State.{State, Member, Change, members}
use Rattle.ent_protocol.specs.Tidy.{is_member, IsTidy}
use Rattle.ent_protocol.proofs.Among.{or_both, kept_filtered, none_filtered}
use Rattle.ent_protocol.proofs.Among.{among_mapped, among_left, among_right, among_kept, among_split, all_among}
use Rattle.ent_protocol.proofs.Among.{found_among}
use Rattle.ent_protocol.proofs.Numbers.{answered_tx, replaced_tx}

no_member : (s : State) → IsTidy s → s.running ≡ false → (tx : ℕ) → is_member s tx ≡ false
no_member s h off tx =
    ap (λ ms. is_among ms tx || is_among s.active tx) (h.no_prepared off)
    ∙ ap (λ ms. is_among ms tx) (h.no_active off)

none_owned : (P : ℕ → Bool) (changes : List Change) → ((tx : ℕ) → P tx ≡ false)
    → AllByRecursion (λ (c : Change). P c.tx ≡ true) changes → changes ≡ []
none_owned P [] f h = refl
none_owned P (c ∷ changes) f h = absurd (false≢true (sym (f c.tx) ∙ h.0))

-- where no run is on, nothing is noted
pub no_changes : (s : State) → IsTidy s → s.running ≡ false → s.changes ≡ []
no_changes s h off = none_owned (is_member s) s.changes (no_member s h off) h.owned

-- ---- other members in the place of members of their numbers

mapped_empty : (f : Member → Member) (ms : List Member) → ms ≡ [] → map f ms ≡ []
mapped_empty f ms e = ap (map f) e

-- a state whose members are others of the same numbers, with the same changes
same_members : (s new : State) (f g : Member → Member) → ((m : Member) → (f m).tx ≡ m.tx)
    → ((m : Member) → (g m).tx ≡ m.tx) → new.running ≡ s.running → new.prepared ≡ map f s.prepared
    → new.active ≡ map g s.active → new.changes ≡ s.changes → IsTidy s → IsTidy new
same_members s new f g f_same g_same running prepared active changes h =
    record {
      no_prepared = λ off. prepared ∙ mapped_empty f s.prepared (h.no_prepared (sym running ∙ off));
      no_active = λ off. active ∙ mapped_empty g s.active (h.no_active (sym running ∙ off));
      owned = subst (λ cs. AllByRecursion (λ (c : Change). is_member new c.tx ≡ true) cs) (sym changes)
          (all_by (λ (c : Change). is_member s c.tx ≡ true) (λ (c : Change). is_member new c.tx ≡ true) s.changes
          (λ c e. same c.tx ∙ e) h.owned);
    }
  where
    same : (tx : ℕ) → is_member new tx ≡ is_member s tx
    same tx =
        let p : is_among new.prepared tx ≡ is_among s.prepared tx =
        ap (λ ms. is_among ms tx) prepared ∙ among_mapped f s.prepared tx f_same in
        let a : is_among new.active tx ≡ is_among s.active tx =
        ap (λ ms. is_among ms tx) active ∙ among_mapped g s.active tx g_same in
        λ i. p i || a i

-- a state in which one member is another of its number
pub one_replaced : (s new : State) (member : Member) → new.running ≡ s.running → new.prepared ≡ s.prepared
    → new.active ≡ map (replaced member) s.active → new.changes ≡ s.changes → IsTidy s → IsTidy new
one_replaced s new member running prepared active changes h =
    same_members s new (λ m. m) (replaced member) (λ m. refl) (replaced_tx member) running
    (prepared ∙ sym (map-id s.prepared)) active changes h

-- ---- members are taken out

pub out : (gone : List Member) (cause : Cause) (s : State) → IsTidy s → IsTidy (taken_out gone cause s)
out gone cause s h =
    record {
      no_prepared = λ off. ap (filter (λ m. not (is_among gone m.tx))) (h.no_prepared off);
      no_active = λ off. ap (filter (λ m. not (is_among gone m.tx))) (h.no_active off);
      owned = kept_filtered (λ (c : Change). is_member s c.tx ≡ true)
          (λ (c : Change). is_member (taken_out gone cause s) c.tx ≡ true) (λ c. not (is_among gone c.tx)) s.changes
          (λ c stays e. or_both (is_among s.prepared c.tx) (is_among s.active c.tx)
          (is_among (filter (λ m. not (is_among gone m.tx)) s.prepared) c.tx)
          (is_among (filter (λ m. not (is_among gone m.tx)) s.active) c.tx)
          (among_kept (λ m. not (is_among gone m.tx)) s.prepared c.tx (stay c stays))
          (among_kept (λ m. not (is_among gone m.tx)) s.active c.tx (stay c stays)) e) h.owned;
    }
  where
    stay : (c : Change) → not (is_among gone c.tx) ≡ true → (m : Member) → (m.tx == c.tx) ≡ true
        → not (is_among gone m.tx) ≡ true
    stay c stays m e = ap (λ tx. not (is_among gone tx)) (same_number m.tx c.tx e) ∙ stays

pub all_out : (s : State) → IsTidy s → IsTidy (ending s)
all_out s h =
    record {
      no_prepared = λ off. none_filtered (λ m. not (is_among (members s) m.tx)) s.prepared
          (all_by (λ m. is_among s.prepared m.tx ≡ true) (λ m. not (is_among (members s) m.tx) ≡ false) s.prepared
          (λ m e. ap not (among_left s.prepared s.active m.tx e)) (all_among s.prepared));
      no_active = λ off. none_filtered (λ m. not (is_among (members s) m.tx)) s.active
          (all_by (λ m. is_among s.active m.tx ≡ true) (λ m. not (is_among (members s) m.tx) ≡ false) s.active
          (λ m e. ap not (among_right s.prepared s.active m.tx e)) (all_among s.active));
      owned = (out (members s) NoOne s h).owned;
    }

-- ---- a member prepares, and its group commits

pub found_on : (s : State) (tx : ℕ) (member : Member) → IsTidy s → active_member s tx ≡ Some member
    → s.running ≡ false → ⊥
found_on s tx member h found off =
    false≢true (sym (ap (λ ms. is_among ms tx) (h.no_active off)) ∙ (found_among tx s.active member found).1)

another : (n tx k : ℕ) → (n == tx) ≡ false → (k == tx) ≡ true → not (k == n) ≡ true
another n tx k is e = grind (arith, rules)

pub prepares : (s : State) (member : Member) → IsTidy s → (s.running ≡ false → ⊥) → IsTidy (preparing s member)
prepares s member h on =
    record {
      no_prepared = λ off. absurd (on off);
      no_active = λ off. absurd (on off);
      owned = all_by (λ (c : Change). is_member s c.tx ≡ true)
          (λ (c : Change). is_member (preparing s member) c.tx ≡ true) s.changes (λ c e. moved c.tx e) h.owned;
    }
  where
    moved : (tx : ℕ) → is_member s tx ≡ true → is_member (preparing s member) tx ≡ true
    moved tx e =
        elim (member.tx == tx) as (λ b. (member.tx == tx) ≡ b → is_member (preparing s member) tx ≡ true) [
          | true ↦ λ is. or_first _ _ (among_right s.prepared (member ∷ []) tx (or_first (member.tx == tx) false is))
          | false ↦ λ is. or_both (is_among s.prepared tx) (is_among s.active tx)
              (is_among (s.prepared ++ member ∷ []) tx)
              (is_among (filter (λ m. not (is_tx member.tx m)) s.active) tx)
              (among_left s.prepared (member ∷ []) tx)
              (among_kept (λ m. not (is_tx member.tx m)) s.active tx (λ m same. another member.tx tx m.tx is same)) e
        ] refl

pub commits : (s : State) (group : ℕ) → IsTidy s → (s.running ≡ false → ⊥) → IsTidy (committing s group)
commits s group h on =
    record {
      no_prepared = λ off. absurd (on off);
      no_active = λ off. absurd (on off);
      owned = kept_filtered (λ (c : Change). is_member s c.tx ≡ true)
          (λ (c : Change). is_member (committing s group) c.tx ≡ true)
          (λ c. not (is_among (committing_members s group) c.tx)) s.changes
          (λ c stays e. or_both (is_among s.prepared c.tx) (is_among s.active c.tx)
          (is_among (filter (λ m. not (is_of group m)) s.prepared) c.tx) (is_among s.active c.tx)
          (λ there. among_split (is_of group) s.prepared c.tx there (turned _ stays)) (λ x. x) e) h.owned;
    }

-- ---- a result comes in

pub relent : (s : State) (left : List Job) → IsTidy s → IsTidy (record s { lent = left })
relent s left h = record { no_prepared = h.no_prepared; no_active = h.no_active; owned = h.owned }

notes : (s : State) (tx : ℕ) (changed : List ℕ) (before after : Tables) → is_member s tx ≡ true → IsTidy s
    → IsTidy (record s { tables = after; changes = noted tx changed before s.changes })
notes s tx [] before after there h = record { no_prepared = h.no_prepared; no_active = h.no_active; owned = h.owned }
notes s tx (table ∷ more) before after there h =
    record { no_prepared = h.no_prepared; no_active = h.no_active; owned = (there, h.owned) }

steps : (s : State) (member new : Member) → IsTidy s → IsTidy (with_member new s)
steps s member new h = one_replaced s (with_member new s) new refl refl refl refl h

still_there : (s : State) (new : Member) (tx : ℕ) → is_among s.active tx ≡ true
    → is_member (with_member new s) tx ≡ true
still_there s new tx there =
    ap (λ b. is_among s.prepared tx || b) (among_mapped (replaced new) s.active tx (replaced_tx new) ∙ there)
    ∙ or-true _

pub finishes_tidy : (s : State) (member : Member) (statement : Statement Value) (outcome : Outcome)
    → is_among s.active member.tx ≡ true → IsTidy s → IsTidy (finished s member statement outcome)
finishes_tidy s member statement (Changed count removed added) there h =
    notes (with_member _ s) member.tx (changed_tables statement) s.tables _ (still_there s _ member.tx there)
    (steps s member _ h)
finishes_tidy s member statement (Bound value) there h = steps s member _ h
finishes_tidy s member statement (Shown rows) there h = steps s member _ h
finishes_tidy s member statement (Choice groundings) there h = h
finishes_tidy s member statement (Fault failure) there h = h

-- ---- a joint answer

pub joins : (s : State) (asked : List Posted) (groundings : List Valuation) → IsTidy s
    → IsTidy (joining s asked groundings)
joins s asked groundings h =
    same_members s (joining s asked groundings) (in_joined_group (answered_groups s asked))
    (λ m. in_joined_group (answered_groups s asked) (answered_among asked groundings m)) (λ m. refl)
    (answered_tx asked groundings) refl refl refl refl h
