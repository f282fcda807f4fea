-- What holds of every state that is reached.
use Rattle.std.proofs.Common.{◌≡◌, ◌==◌, true, false, cond, List, [], ◌∷◌, ◌++◌, map}
use Rattle.std.proofs.Common.{refl, sym, ap, subst, ◌∙◌, inl, inr, Some, Ok}
use Rattle.std.specs.List.{AllByRecursion}
use Rattle.std.proofs.lemmas.Simd.{map-map}
use Rattle.ent_value.specs.declared.value.Value.{Value}
use Rattle.ent_semantics.specs.declared.book.Entry.{Entry}
use Rattle.ent_semantics.specs.declared.book.Fated.{Fated}
use Rattle.ent_semantics.specs.declared.book.JointAnswer.{JointAnswer}
use Rattle.ent_semantics.specs.Database.{Database, opening_database}
use Rattle.ent_semantics.specs.Serial.{numbered}
use Rattle.ent_semantics.specs.declared.entangled.Entangled.{Entangled}
use Rattle.ent_form.specs.Tables.{database_of}
use Rattle.ent_protocol.specs.Begin.{replaced}
use Rattle.ent_protocol.specs.Commit.{entry_of}
use Rattle.ent_protocol.specs.Job.{Job}
use Rattle.ent_protocol.specs.Member.{Asks, next_in}
use Rattle.ent_protocol.specs.Run.{Forms}
use Rattle.ent_protocol.specs.State.{State, Submitted, Member, Dormant}
use Rattle.ent_protocol.specs.Uses.{entangled_uses}
use Rattle.ent_protocol_laws.specs.Faithful.{AreFaithful}
use Rattle.ent_protocol_laws.specs.History.{History, AreSerial}
use Rattle.ent_protocol_laws.specs.SerialState.{Follows, IsWhole}
use Rattle.ent_protocol_laws.proofs.Joints.{JointsStand}
use Rattle.ent_lists.specs.Elements.{In, Pairs, Same, of_all, to_all, all_map, all_joined, all_first, all_second}
use Rattle.ent_lists.specs.Elements.{of_map, to_map, in_second, in_either, pairs_map}
use Rattle.ent_protocol_laws.proofs.Frame.{Laws}
use Rattle.ent_protocol_laws.proofs.Sound.{Sound, Fit}
use Rattle.ent_protocol_laws.proofs.SerialActs.{Keeps, sound_mapped, pairs_within}
use Rattle.ent_protocol_laws.proofs.Jobs.{JobRight, OtherJob}
use Rattle.ent_protocol_laws.proofs.Operations.{HoldsUses}

-- a posted member holds the uses of its statement
abbrev pub PostedHolds : List Submitted → Member → Type 0
PostedHolds submitted member =
    member.posted ≡ true → (asked : Entangled Value) → next_in (numbered submitted member.tx) member ≡ Asks asked
    → HoldsUses member (entangled_uses asked)

abbrev pub OtherDormant : Dormant → Dormant → Type 0
OtherDormant one other = one.tx ≡ other.tx → ⊥

abbrev pub OtherFated : Fated → Fated → Type 0
OtherFated one other = one.tx ≡ other.tx → ⊥

abbrev pub OtherMember : Member → Member → Type 0
OtherMember one other = one.tx ≡ other.tx → ⊥

abbrev pub member_of : History → Member
member_of history = history.member

abbrev pub entry_from : History → Entry
entry_from history = entry_of history.member

pub record Kept {F : Type 0} (forms : Forms F) (s : State) : Type 0 where
  pub committed : List History
  pub prepared : List History
  pub others : List History
  pub base : Database
  pub journal : map entry_from committed ≡ s.journal
  pub of_prepared : map member_of prepared ≡ s.prepared
  pub same : Same (map member_of others) s.active
  pub settles : AreSerial s.opening.tables committed (opening_database s.opening) base
  pub sound : Sound s.opening.tables base prepared others s.tables s.changes
  pub whole : AllByRecursion (IsWhole s.submitted) (committed ++ prepared)
  pub follow : AllByRecursion (Follows s.submitted) others
  pub resolved : AllByRecursion (λ own. forms.resolve s.opening own.script ≡ Ok own.form) s.submitted
  pub faithful : AreFaithful forms s.opening
  pub posted : AllByRecursion (PostedHolds s.submitted) s.active
  pub jobs : AllByRecursion (JobRight s.submitted s.active s.tables) s.lent
  pub jobs_apart : Pairs OtherJob s.lent
  pub idle : s.running ≡ false → (s.prepared ≡ []) × (s.active ≡ []) × (s.lent ≡ [])
  pub active_apart : Pairs OtherMember s.active
  pub dormant : Pairs OtherDormant s.dormant
  pub not_prepared : (dormant : Dormant) (member : Member) → In dormant s.dormant → In member s.prepared
      → member.tx ≡ dormant.tx → ⊥
  pub not_active : (dormant : Dormant) (member : Member) → In dormant s.dormant → In member s.active
      → member.tx ≡ dormant.tx → ⊥
  pub scripts : AllByRecursion (λ (dormant : Dormant). (own : Submitted) × (numbered s.submitted dormant.tx ≡ Some own))
      s.dormant
  -- joint answers are whole and good
  pub joined : JointsStand committed (prepared ++ others) s.joints
  -- a committed transaction has a fate
  pub committed_fated : (history : History) → In history committed
      → (fated : Fated) × In fated s.fates × (fated.tx ≡ history.member.tx)
  -- each has one fate at most, and then it is neither a member nor dormant
  pub fated : Pairs OtherFated s.fates
  pub fated_not_prepared : (fated : Fated) (member : Member) → In fated s.fates → In member s.prepared
      → member.tx ≡ fated.tx → ⊥
  pub fated_not_active : (fated : Fated) (member : Member) → In fated s.fates → In member s.active
      → member.tx ≡ fated.tx → ⊥
  pub fated_not_dormant : (fated : Fated) (dormant : Dormant) → In fated s.fates → In dormant s.dormant
      → dormant.tx ≡ fated.tx → ⊥
  pub fated_scripts : AllByRecursion (λ (fated : Fated). (own : Submitted) × (numbered s.submitted fated.tx ≡ Some own))
      s.fates

-- ---- maps

pub map_alike : {X Y : Type 0} (f g : X → Y) (xs : List X) → ((x : X) → In x xs → f x ≡ g x) → map f xs ≡ map g xs
map_alike f g [] h = refl
map_alike f g (x ∷ xs) h =
    let rest = map_alike f g xs (λ y at. h y (inr at)) in
    λ i. h x (inl refl) i ∷ rest i

pub map_unchanged : {X : Type 0} (f : X → X) (xs : List X) → ((x : X) → In x xs → f x ≡ x) → map f xs ≡ xs
map_unchanged f [] h = refl
map_unchanged f (x ∷ xs) h =
    let rest = map_unchanged f xs (λ y at. h y (inr at)) in
    λ i. h x (inl refl) i ∷ rest i

pub same_mapped : {X Y : Type 0} (f : X → Y) (xs ys : List X) → Same xs ys → Same (map f xs) (map f ys)
same_mapped {X} {Y} f xs ys same y = (
  λ at. let r = of_map f xs y at in subst (λ (z : Y). In z (map f ys)) (sym r.2) (to_map f ys r.0 ((same r.0).0 r.1)),
  λ at. let r = of_map f ys y at in subst (λ (z : Y). In z (map f xs)) (sym r.2) (to_map f xs r.0 ((same r.0).1 r.1)),
)

-- members after a map of their histories
pub members_mapped : (h : History → History) (f : Member → Member) (xs : List History)
    → ((x : History) → In x xs → (h x).member ≡ f x.member) → map member_of (map h xs) ≡ map f (map member_of xs)
members_mapped h f xs is =
    map-map member_of h xs ∙ map_alike (λ x. (h x).member) (λ x. f x.member) xs is ∙ sym (map-map f member_of xs)

-- ---- members that become others, the tables being as they are

module _ {F : Type 0} (forms : Forms F) (laws : Laws) (s : State) (kept : Kept forms s) (h : History → History)
    (f g : Member → Member) where
  pub kept_mapped : ((x : History) → In x kept.prepared → (h x).member ≡ g x.member)
      → ((x : History) → In x kept.others → (h x).member ≡ f x.member)
      → Keeps s.opening.tables kept.prepared kept.others (database_of s.opening.tables s.tables) h
      → ((x : History) → In x kept.prepared → IsWhole s.submitted x → IsWhole s.submitted (h x))
      → ((x : History) → In x kept.others → Follows s.submitted x → Follows s.submitted (h x))
      → (joints : List JointAnswer) (lent : List Job)
      → JointsStand kept.committed (map h kept.prepared ++ map h kept.others) joints
      → AllByRecursion (PostedHolds s.submitted) (map f s.active)
      → AllByRecursion (JobRight s.submitted (map f s.active) s.tables) lent → Pairs OtherJob lent
      → (s.running ≡ false → ⊥)
      → ((member : Member) → In member s.prepared → (g member).tx ≡ member.tx)
      → ((member : Member) → In member s.active → (f member).tx ≡ member.tx)
      → Kept forms (record s {
        prepared = map g s.prepared;
        active = map f s.active;
        joints = joints;
        lent = lent;
      })
  kept_mapped of_prepared of_others keeps wholes follows joints lent joined posted jobs apart on g_tx f_tx =
      record {
        committed = kept.committed;
        prepared = map h kept.prepared;
        others = map h kept.others;
        base = kept.base;
        journal = kept.journal;
        of_prepared = members_mapped h g kept.prepared of_prepared ∙ ap (map g) kept.of_prepared;
        same = subst (λ ms. Same ms (map f s.active)) (sym (members_mapped h f kept.others of_others))
            (same_mapped f (map member_of kept.others) s.active kept.same);
        settles = kept.settles;
        sound = sound_mapped s.opening.tables laws kept.base kept.prepared kept.others s.tables s.changes kept.sound h
            keeps;
        whole = all_joined (IsWhole s.submitted) kept.committed (map h kept.prepared)
            (all_first (IsWhole s.submitted) kept.committed kept.prepared kept.whole)
            (all_map h (IsWhole s.submitted) kept.prepared (to_all (λ x. IsWhole s.submitted (h x)) kept.prepared
            (λ x at. wholes x at (of_all (IsWhole s.submitted) kept.prepared x
            (all_second (IsWhole s.submitted) kept.committed kept.prepared kept.whole) at))));
        follow = all_map h (Follows s.submitted) kept.others (to_all (λ x. Follows s.submitted (h x)) kept.others
            (λ x at. follows x at (of_all (Follows s.submitted) kept.others x kept.follow at)));
        resolved = kept.resolved;
        faithful = kept.faithful;
        posted = posted;
        jobs = jobs;
        jobs_apart = apart;
        idle = λ off. absurd (on off);
        active_apart = pairs_map f OtherMember s.active
            (pairs_within OtherMember (λ a b. OtherMember (f a) (f b)) s.active
            (λ a b at bt h e. h (sym (f_tx a at) ∙ e ∙ f_tx b bt)) kept.active_apart);
        dormant = kept.dormant;
        not_prepared = λ d m dt mt e.
            let r = of_map g s.prepared m mt in
            kept.not_prepared d r.0 dt r.1 (sym (g_tx r.0 r.1) ∙ ap (λ (x : Member). x.tx) (sym r.2) ∙ e);
        not_active = λ d m dt mt e.
            let r = of_map f s.active m mt in
            kept.not_active d r.0 dt r.1 (sym (f_tx r.0 r.1) ∙ ap (λ (x : Member). x.tx) (sym r.2) ∙ e);
        joined = joined;
        committed_fated = kept.committed_fated;
        fated = kept.fated;
        fated_not_prepared = λ d m dt mt e.
            let r = of_map g s.prepared m mt in
            kept.fated_not_prepared d r.0 dt r.1 (sym (g_tx r.0 r.1) ∙ ap (λ (x : Member). x.tx) (sym r.2) ∙ e);
        fated_not_active = λ d m dt mt e.
            let r = of_map f s.active m mt in
            kept.fated_not_active d r.0 dt r.1 (sym (f_tx r.0 r.1) ∙ ap (λ (x : Member). x.tx) (sym r.2) ∙ e);
        fated_not_dormant = kept.fated_not_dormant;
        fated_scripts = kept.fated_scripts;
        scripts = kept.scripts;
      }

-- ---- one member in the place of another

pub replaced_other : (new member : Member) → (member.tx == new.tx) ≡ false → replaced new member ≡ member
replaced_other new member is = ap (λ b. cond b new member) is

-- two members of one number are one
pub one_history : (xs : List History) (x y : History) → Pairs Fit xs → In x xs → In y xs
    → x.member.tx ≡ y.member.tx → x ≡ y
one_history [] x y pairs at bt same = absurd at
one_history (z ∷ zs) x y pairs (inl e) (inl f) same = e ∙ sym f
one_history (z ∷ zs) x y pairs (inl e) (inr bt) same =
    absurd ((of_all (Fit z) zs y pairs.0 bt).distinct (ap (λ (h : History). h.member.tx) (sym e) ∙ same))
one_history (z ∷ zs) x y pairs (inr at) (inl f) same =
    absurd ((of_all (Fit z) zs x pairs.0 at).distinct (ap (λ (h : History). h.member.tx) (sym f) ∙ sym same))
one_history (z ∷ zs) x y pairs (inr at) (inr bt) same = one_history zs x y pairs.1 at bt same

-- ---- members of a state

module _ {F : Type 0} (forms : Forms F) (s : State) (kept : Kept forms s) where
  -- an unprepared member has a history
  pub history_of : (member : Member) → In member s.active
      → (x : History) × In x kept.others × (member ≡ x.member)
  history_of member at = of_map member_of kept.others member ((kept.same member).1 at)

  pub active_at : (x : History) → In x kept.others → In x.member s.active
  active_at x at = (kept.same x.member).0 (to_map member_of kept.others x at)

  pub prepared_at : (x : History) → In x kept.prepared → In x.member s.prepared
  prepared_at x at = subst (In x.member) kept.of_prepared (to_map member_of kept.prepared x at)

  -- a committed transaction is no member
  pub committed_apart : (x y : History) → In x kept.committed → In y (kept.prepared ++ kept.others)
      → y.member.tx ≡ x.member.tx → ⊥
  committed_apart x y at bt same =
      let f = kept.committed_fated x at in
      elim (in_either kept.prepared kept.others y bt) [
        | inl a ↦ kept.fated_not_prepared f.0 y.member f.1 (prepared_at y a) (same ∙ sym f.2)
        | inr b ↦ kept.fated_not_active f.0 y.member f.1 (active_at y b) (same ∙ sym f.2)
      ]

  pub in_all : (x : History) → In x kept.others → In x (kept.prepared ++ kept.others)
  in_all x at = in_second kept.prepared kept.others x at

  pub one_member : (one other : Member) → In one s.active → In other s.active → one.tx ≡ other.tx → one ≡ other
  one_member one other at bt same =
      let x = history_of one at in
      let y = history_of other bt in
      x.2
      ∙ ap member_of (one_history (kept.prepared ++ kept.others) x.0 y.0 kept.sound.fit (in_all x.0 x.1)
      (in_all y.0 y.1) (ap (λ (m : Member). m.tx) (sym x.2) ∙ same ∙ ap (λ (m : Member). m.tx) y.2))
      ∙ sym y.2
