-- Lent jobs: the place of a statement's job is one of its script, and no joint job is of statements that were tried.
use Rattle.std.proofs.Common.{◌≡◌, ◌⊎◌, ◌≤◌, inl, inr, ℕ, zero, suc, List, [], ◌∷◌, ◌++◌, length, refl, sym, ap}
use Rattle.std.proofs.Common.{subst, ◌∙◌, arith, Option, Some, None, Contains}
use Rattle.ent_value.specs.declared.value.Value.{Value}
use Rattle.ent_tree.specs.declared.script.End.{End}
use Rattle.ent_tree.specs.declared.script.End.TheVariants as ends
use Rattle.ent_tree.specs.declared.script.Script.{Script}
use Rattle.ent_semantics.specs.Serial.{numbered}
use Rattle.ent_semantics.specs.declared.operand.Known.{Known}
use Rattle.ent_semantics.specs.declared.statement.Statement.{Statement}
use Rattle.ent_semantics.specs.Pool.{Posted}
use Rattle.ent_protocol.specs.Begin.{single_job}
use Rattle.ent_protocol.specs.Finish.{IsTaken}
use Rattle.ent_protocol.specs.Job.{Job, One, Joint, Single}
use Rattle.ent_protocol.specs.Member.{Next, Ordinary, Asks, Commits, RollsBack, end_next, next_in, next_of}
use Rattle.ent_protocol.specs.PoolEvents.{joint_job}
use Rattle.ent_protocol.specs.State.{State, Submitted, Member}
use Rattle.ent_protocol_laws.specs.Lent.{AreOther, LentStandOnce}
use Rattle.ent_protocol_laws.proofs.Found.{numbered_on, taken_fewer}
use Rattle.ent_protocol_laws.proofs.Determined.{same_asked, same_single}
use Rattle.ent_protocol_laws.proofs.Changes.{Act, Stays, Submits, Starts, Lends, Posts, Prepares, Steps, Fails, Picks}
use Rattle.ent_protocol_laws.proofs.Changes.{Answers}
use Rattle.ent_protocol_laws.proofs.Changes.{Tries, Ends, Recalls, after}
use Rattle.ent_protocol_laws.proofs.Changes as acts
use Rattle.ent_lists.specs.Elements.{In, Pairs, in_either, of_filter, contains_in, in_contains}
use Rattle.ent_lists.specs.Elements.{index_pairs}
use Rattle.ent_protocol_laws.proofs.Lists.{pairs_around}

-- ---- places where a statement stands

-- a place at which a script has a statement
abbrev pub IsPlaced : Option Submitted → ℕ → Type 0
IsPlaced None place = ⊥
IsPlaced (Some own) place = (1 ≤ place) × (place ≤ length own.form)

-- a statement comes next, and not the end of the script
abbrev pub IsStatement : Next → Type 0
IsStatement (Ordinary statement) = Unit {0}
IsStatement (Asks statement) = Unit {0}
IsStatement Commits = ⊥
IsStatement RollsBack = ⊥

no_end : (end : End) (x : Next) → end_next end ≡ x → IsStatement x → ⊥
no_end ends.Commit x e h = subst IsStatement (sym e) h
no_end ends.Rollback x e h = subst IsStatement (sym e) h

placed_there : (script : Script) (form : List (Statement Known)) (m : Member) (n : ℕ) (x : Next)
    → next_in (Some (record { script = script; form = form })) (record m { place = suc n }) ≡ x → IsStatement x
    → suc n ≤ length form
placed_there script [] m n x e h = absurd (no_end script.end x e h)
placed_there script (f ∷ fs) m zero x e h = omega arith
placed_there script (f ∷ fs) m (suc n) x e h = let r = placed_there script fs m n x e h in omega (arith, r)

placed_at : (own : Submitted) (m : Member) (n : ℕ) (x : Next)
    → next_in (Some own) (record m { place = n }) ≡ x → IsStatement x → IsPlaced (Some own) n
placed_at own m zero x e h = absurd (no_end own.script.end x e h)
placed_at own m (suc n) x e h = (omega arith, placed_there own.script own.form m n x e h)

placed_in : (found : Option Submitted) (m : Member) (x : Next) → next_in found m ≡ x → IsStatement x
    → IsPlaced found m.place
placed_in None m x e h = absurd (subst IsStatement (sym e) h)
placed_in (Some own) m x e h = placed_at own m m.place x e h

pub placed_next : (s : State) (m : Member) (x : Next) → next_of s m ≡ x → IsStatement x
    → IsPlaced (numbered s.submitted m.tx) m.place
placed_next s m x e h = placed_in (numbered s.submitted m.tx) m x e h

-- ---- a script is submitted

still_placed : (all : List Submitted) (own : Submitted) (tx place : ℕ) → IsPlaced (numbered all tx) place
    → IsPlaced (numbered (all ++ own ∷ []) tx) place
still_placed all own tx place h = by (numbered all tx) refl h
  where
    by : (found : Option Submitted) → numbered all tx ≡ found → IsPlaced found place
        → IsPlaced (numbered (all ++ own ∷ []) tx) place
    by None none h = absurd h
    by (Some mine) there h =
        subst (λ (found : Option Submitted). IsPlaced found place) (sym (numbered_on all (own ∷ []) tx mine there)) h

-- ---- what is kept

pub record LentRight (s : State) : Type 0 where
  pub placed : (job : Job) (single : Single) → In job s.lent → job.work ≡ One single
      → IsPlaced (numbered s.submitted single.tx) single.place
  pub untried : (job : Job) (asked : List Posted) → In job s.lent → job.work ≡ Joint asked → Contains s.tried asked
      → ⊥

never : {A : Type 0} (single : Single) (asked : List Posted) → One single ≡ Joint asked → A
never single asked e = absurd (different e)
  where
    different : One single ≡ Joint asked → ⊥
    different e = cc

-- some of the same jobs are lent
fewer : (s new : State) → ((job : Job) → In job new.lent → In job s.lent) → new.submitted ≡ s.submitted
    → new.tried ≡ s.tried → LentRight s → LentRight new
fewer s new from submitted tried h =
    record {
      placed = λ job single at is.
          subst (λ (all : List Submitted). IsPlaced (numbered all single.tx) single.place) (sym submitted)
          (h.placed job single (from job at) is);
      untried = λ job asked at is there.
          h.untried job asked (from job at) is (subst (λ (all : List (List Posted)). Contains all asked) tried there);
    }

lends : (s : State) (m : Member) (statement : Statement Value) (all : List Job)
    → all ≡ s.lent ++ single_job s m statement ∷ [] → next_of s m ≡ Ordinary statement → LentRight s
    → LentRight (record s { lent = all })
lends s m statement all is next h =
    record {
      placed = λ job single at work. elim (either job at) [
        | inl old ↦ h.placed job single old work
        | inr same ↦
            let own = same_single single _ (sym work ∙ ap (λ (j : Job). j.work) same) in
            subst (λ (x : Single). IsPlaced (numbered s.submitted x.tx) x.place) (sym own)
            (placed_next s m (Ordinary statement) next tt)
      ];
      untried = λ job asked at work there. elim (either job at) [
        | inl old ↦ h.untried job asked old work there
        | inr same ↦ never _ asked (sym (ap (λ (j : Job). j.work) same) ∙ work)
      ];
    }
  where
    either : (job : Job) → In job all → In job s.lent ⊎ (job ≡ single_job s m statement)
    either job at =
        elim (in_either s.lent (single_job s m statement ∷ []) job (subst (In job) is at)) [
          | inl old ↦ inl old
          | inr new ↦ elim new [ inl same ↦ inr same | inr bad ↦ absurd bad ]
        ]

picks : (s : State) (asked : List Posted) → (Contains s.tried asked → ⊥) → LentRight s
    → LentRight (record s { lent = s.lent ++ joint_job s asked ∷ [] })
picks s asked untried h =
    record {
      placed = λ job single at work. elim (either job at) [
        | inl old ↦ h.placed job single old work
        | inr same ↦ never single asked (sym work ∙ ap (λ (j : Job). j.work) same)
      ];
      untried = λ job other at work there. elim (either job at) [
        | inl old ↦ h.untried job other old work there
        | inr same ↦
            let own = same_asked other asked (sym work ∙ ap (λ (j : Job). j.work) same) in
            untried (subst (Contains s.tried) own there)
      ];
    }
  where
    either : (job : Job) → In job (s.lent ++ joint_job s asked ∷ []) → In job s.lent ⊎ (job ≡ joint_job s asked)
    either job at =
        elim (in_either s.lent (joint_job s asked ∷ []) job at) [
          | inl old ↦ inl old
          | inr new ↦ elim new [ inl same ↦ inr same | inr bad ↦ absurd bad ]
        ]

-- the job of what is tried is lent no more, and no other of the same statements
tries : (s : State) (asked : List Posted) (left : List Job) (job : Job) → IsTaken job s.lent left
    → job.work ≡ Joint asked → LentStandOnce s → LentRight s
    → LentRight (record s { lent = left; tried = asked ∷ s.tried })
tries s asked left job taken work once h =
    record {
      placed = λ other single at is. h.placed other single (taken_fewer job s.lent left taken other at) is;
      untried = λ other more at is there. elim (contains_in (asked ∷ s.tried) more there) [
        | inl same ↦ apart other more at is same
        | inr old ↦ h.untried other more (taken_fewer job s.lent left taken other at) is (in_contains s.tried more old)
      ];
    }
  where
    pairs : Pairs (λ (one other : Job). AreOther one.work other.work) (taken.before ++ job ∷ taken.behind)
    pairs =
        subst (Pairs (λ (one other : Job). AreOther one.work other.work)) taken.is_there
        (index_pairs (λ (one other : Job). AreOther one.work other.work) s.lent once.once)

    apart : (other : Job) (more : List Posted) → In other left → other.work ≡ Joint more → more ≡ asked → ⊥
    apart other more at is same =
        elim (pairs_around (λ (one other : Job). AreOther one.work other.work) taken.before taken.behind job other
        pairs (subst (In other) taken.others at)) [
          | inl a ↦
              joint_apart more asked same
              (subst (λ w. AreOther w (Joint asked)) is (subst (AreOther other.work) work a))
          | inr b ↦
              joint_apart asked more (sym same)
              (subst (AreOther (Joint asked)) is (subst (λ w. AreOther w other.work) work b))
        ]
      where
        joint_apart : (one other : List Posted) → one ≡ other → AreOther (Joint one) (Joint other) → ⊥
        joint_apart one other same differ = differ same

pub kept_right : (s : State) (act : Act s) → LentStandOnce s → LentRight s → LentRight (after s act)
kept_right s acts.Stays once h = h
kept_right s (Submits script form) once h =
    record {
      placed = λ job single at is.
          still_placed s.submitted (record { script = script; form = form }) single.tx single.place
          (h.placed job single at is);
      untried = h.untried;
    }
kept_right s Starts once h =
    record {
      placed = h.placed;
      untried = λ job asked at is there. contains_in [] asked there;
    }
kept_right s (Lends m statement idle next) once h =
    let r = lends s m statement _ refl next h in
    record { placed = r.placed; untried = r.untried }
kept_right s (Posts m statement idle next) once h = fewer s _ (λ job at. at) refl refl h
kept_right s (Prepares m idle next) once h = fewer s _ (λ job at. at) refl refl h
kept_right s (acts.Commits m idle) once h = fewer s _ (λ job at. at) refl refl h
kept_right s (acts.RollsBack m cause at) once h =
    fewer s _ (λ job there. (of_filter _ s.lent job there).0) refl refl h
kept_right s (Steps m own left tables changes back tx place posted) once h =
    fewer s _ (taken_fewer back.job s.lent left back.taken) refl refl h
kept_right s (Fails m cause left back) once h =
    fewer s _ (λ job there. taken_fewer back.job s.lent left back.taken job (of_filter _ left job there).0) refl refl h
kept_right s (Picks asked can) once h = picks s asked can.untried h
kept_right s (Answers asked groundings left back enough) once h =
    fewer s _ (taken_fewer back.job s.lent left back.taken) refl refl h
kept_right s (Tries asked left back) once h = tries s asked left back.job back.taken back.is_joint once h
kept_right s Ends once h =
    record {
      placed = λ job single at is. absurd at;
      untried = λ job asked at is there. at;
    }
kept_right s Recalls once h =
    record {
      placed = λ job single at is. absurd at;
      untried = λ job asked at is there. at;
    }
