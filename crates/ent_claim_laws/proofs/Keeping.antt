-- What holds of every world that is reached: a version has one content, and claimants know theirs.
use Rattle.std.proofs.Common.{◌≡◌, ◌⊎◌, ◌≤◌, ◌+◌, ◌==◌, ℕ, Bool, true, false, cond, List, [], ◌∷◌, refl, sym, ap, subst}
use Rattle.std.proofs.Common.{◌∙◌, inl, inr, arith, Option, Some, None}
use Rattle.std.proofs.lemmas.Option.{same_Some}
use Rattle.ent_lists.specs.Elements.{In, differ, same_number}
use Rattle.ent_claim_laws.specs.Claims.{Claimant, Held, Version, World, created, with_claimant, written}
use Rattle.ent_claim_laws.specs.Step.{Fits, IsReached, Leads, MaySend, Step, arrive, back, crash, learn, learning, load}
use Rattle.ent_claim_laws.specs.Step.{loaded, onward, send, sending, stay}

module _ {X : Type 0} where
  -- the store held it once, or a write would make it
  abbrev pub Said : World X → Held X → Type 0
  Said world held = In held world.was ⊎ In held world.sent

  -- what a process knows
  pub record Right (world : World X) (token : ℕ) (own : Claimant X) : Type 0 where
    pub drawn : In token world.drawn
    pub knows : In (written token own.number own.content) world.was
    -- under its token nothing goes beyond the write that it sent last
    pub behind : (held : Held X) → Said world held → held.version.token ≡ token
        → (held.version.number ≤ own.number)
        ⊎ ((held.version.number ≡ own.number + 1) × (own.pending ≡ Some held.content))

  pub record Kept (world : World X) : Type 0 where
    pub present : In world.store world.was
    pub tokens : (held : Held X) → Said world held → In held.version.token world.drawn
    pub once : (one other : Held X) → Said world one → Said world other → one.version ≡ other.version
        → one.content ≡ other.content
    pub right : (token : ℕ) (own : Claimant X) → world.claimants token ≡ Some own → Right world token own

  -- ---- whose memory is looked at

  module _ (token : ℕ) (own : Option (Claimant X)) (others : ℕ → Option (Claimant X)) (t : ℕ)
      (P : Option (Claimant X) → Type 0) where
    by_token : (t ≡ token → P own) → ((t ≡ token → ⊥) → P (others t)) → P (with_claimant token own others t)
    by_token here there = by (t == token) refl
      where
        by : (b : Bool) → (t == token) ≡ b → P (cond b own (others t))
        by true is = here (same_number t token is)
        by false is = there (differ t token is)

  -- ---- at first

  created_kept : (content : X) → Kept (created content)
  created_kept content =
      record {
        present = inl refl;
        tokens = λ held said. inl (ap (λ (h : Held X). h.version.token) (first held said));
        once = λ one other said said_too same.
            ap (λ (h : Held X). h.content) (first one said ∙ sym (first other said_too));
        right = λ token own is. never own is;
      }
    where
      first : (held : Held X) → Said (created content) held → held ≡ written 0 0 content
      first held (inl (inl same)) = same
      first held (inl (inr none)) = absurd none
      first held (inr none) = absurd none

      never : {A : Type 0} (own : Claimant X) → None ≡ Some own → A
      never own e = cc

  -- ---- one step

  module _ (old : World X) (kept : Kept old) where
    -- ---- a process claims the store

    module _ (token : ℕ) (fresh : In token old.drawn → ⊥) where
      abbrev held_now : Held X
      held_now = written token old.store.version.number old.store.content

      -- it is what the store holds now, or was there before
      now_or_before : (held : Held X) → Said (loaded token old) held → (held ≡ held_now) ⊎ Said old held
      now_or_before held (inl (inl same)) = inl same
      now_or_before held (inl (inr at)) = inr (inl at)
      now_or_before held (inr at) = inr (inr at)

      said_now : (held : Held X) → Said old held → Said (loaded token old) held
      said_now held (inl at) = inl (inr at)
      said_now held (inr at) = inr at

      -- nothing had this token before
      never_before : (held : Held X) → Said old held → held.version.token ≡ token → ⊥
      never_before held said same = fresh (subst (λ t. In t old.drawn) same (kept.tokens held said))

      token_of : (held : Held X) → held ≡ held_now → held.version.token ≡ token
      token_of held same = ap (λ (h : Held X). h.version.token) same

      load_once : (one other : Held X) → (one ≡ held_now) ⊎ Said old one → (other ≡ held_now) ⊎ Said old other
          → one.version ≡ other.version → one.content ≡ other.content
      load_once one other (inl same) (inl same_too) version = ap (λ (h : Held X). h.content) (same ∙ sym same_too)
      load_once one other (inl same) (inr said) version =
          absurd (never_before other said
          (ap (λ (v : Version). v.token) (sym version) ∙ token_of one same))
      load_once one other (inr said) (inl same) version =
          absurd (never_before one said (ap (λ (v : Version). v.token) version ∙ token_of other same))
      load_once one other (inr said) (inr said_too) version = kept.once one other said said_too version

      abbrev begins : Claimant X
      begins =
          record { number = old.store.version.number; content = old.store.content; pending = None }

      begins_right : Right (loaded token old) token begins
      begins_right =
          record {
            drawn = inl refl;
            knows = inl refl;
            behind = λ held said same. elim (now_or_before held said) [
              | inl is ↦ inl (let e = ap (λ (h : Held X). h.version.number) is in omega (arith, e))
              | inr before ↦ absurd (never_before held before same)
            ];
          }

      others_right : (t : ℕ) (own : Claimant X) → (t ≡ token → ⊥) → Right old t own → Right (loaded token old) t own
      others_right t own other right =
          record {
            drawn = inr right.drawn;
            knows = inr right.knows;
            behind = λ held said same. elim (now_or_before held said) [
              | inl is ↦ absurd (other (sym same ∙ token_of held is))
              | inr before ↦ right.behind held before same
            ];
          }

      load_kept : Kept (loaded token old)
      load_kept =
          record {
            present = inl refl;
            tokens = λ held said. elim (now_or_before held said) [
              | inl is ↦ inl (token_of held is)
              | inr before ↦ inr (kept.tokens held before)
            ];
            once = λ one other said said_too version.
                load_once one other (now_or_before one said) (now_or_before other said_too) version;
            right = λ t own.
                by_token token (Some begins) old.claimants t (λ found. found ≡ Some own → Right (loaded token old) t own)
                (λ same is. subst (λ (x : Claimant X). Right (loaded token old) t x) (same_Some begins own is)
                (subst (λ n. Right (loaded token old) n begins) (sym same) begins_right))
                (λ other is. others_right t own other (kept.right t own is));
          }

    -- ---- a process ends

    crash_kept : (token : ℕ) → Kept (record old { claimants = with_claimant token None old.claimants })
    crash_kept token =
        record {
          present = kept.present;
          tokens = kept.tokens;
          once = kept.once;
          right = λ t own.
              by_token token None old.claimants t (λ found. found ≡ Some own
              → Right (record old { claimants = with_claimant token None old.claimants }) t own)
              (λ same is. cc)
              (λ other is. let right = kept.right t own is in
              record { drawn = right.drawn; knows = right.knows; behind = right.behind });
        }

    -- ---- a write is sent

    module _ (token : ℕ) (own : Claimant X) (content : X) (is_own : old.claimants token ≡ Some own)
        (may : MaySend own content) where
      right_own : Right old token own
      right_own = kept.right token own is_own

      abbrev asks : Held X
      asks = written token (own.number + 1) content

      abbrev waits : Claimant X
      waits = record own { pending = Some content }

      sent_or_before : (held : Held X) → Said (sending token own content old) held → (held ≡ asks) ⊎ Said old held
      sent_or_before held (inl at) = inr (inl at)
      sent_or_before held (inr (inl same)) = inl same
      sent_or_before held (inr (inr at)) = inr (inr at)

      -- what it sent before under this number is the same
      sent_once : (pending : X) → own.pending ≡ Some pending → pending ≡ content
      sent_once pending is = by may
        where
          by : MaySend own content → pending ≡ content
          by (inl none) = let e : None ≡ Some pending = sym none ∙ is in cc
          by (inr same) = same_Some pending content (sym is ∙ same)

      content_of : (held : Held X) → Said old held → held.version ≡ asks.version → held.content ≡ content
      content_of held said version =
          elim (right_own.behind held said (ap (λ (v : Version). v.token) version)) [
            | inl before ↦ absurd (let e = ap (λ (v : Version). v.number) version in omega (arith, e, before))
            | inr it ↦ sent_once held.content it.1
          ]

      send_once : (one other : Held X) → (one ≡ asks) ⊎ Said old one → (other ≡ asks) ⊎ Said old other
          → one.version ≡ other.version → one.content ≡ other.content
      send_once one other (inl same) (inl same_too) version = ap (λ (h : Held X). h.content) (same ∙ sym same_too)
      send_once one other (inl same) (inr said) version =
          ap (λ (h : Held X). h.content) same
          ∙ sym (content_of other said (sym version ∙ ap (λ (h : Held X). h.version) same))
      send_once one other (inr said) (inl same) version =
          content_of one said (version ∙ ap (λ (h : Held X). h.version) same)
          ∙ sym (ap (λ (h : Held X). h.content) same)
      send_once one other (inr said) (inr said_too) version = kept.once one other said said_too version

      waits_right : Right (sending token own content old) token waits
      waits_right =
          record {
            drawn = right_own.drawn;
            knows = right_own.knows;
            behind = λ held said same. elim (sent_or_before held said) [
              | inl is ↦ inr (
                ap (λ (h : Held X). h.version.number) is,
                ap (λ (h : Held X). Some h.content) (sym is),
              )
              | inr before ↦ elim (right_own.behind held before same) [
                | inl less ↦ inl less
                | inr it ↦ inr (it.0, ap (λ x. Some x) (sym (sent_once held.content it.1)))
              ]
            ];
          }

      unsent_right : (t : ℕ) (other : Claimant X) → (t ≡ token → ⊥) → Right old t other
          → Right (sending token own content old) t other
      unsent_right t other apart right =
          record {
            drawn = right.drawn;
            knows = right.knows;
            behind = λ held said same. elim (sent_or_before held said) [
              | inl is ↦ absurd (apart (sym same ∙ ap (λ (h : Held X). h.version.token) is))
              | inr before ↦ right.behind held before same
            ];
          }

      send_kept : Kept (sending token own content old)
      send_kept =
          record {
            present = kept.present;
            tokens = λ held said. elim (sent_or_before held said) [
              | inl is ↦ subst (λ t. In t old.drawn) (sym (ap (λ (h : Held X). h.version.token) is)) right_own.drawn
              | inr before ↦ kept.tokens held before
            ];
            once = λ one other said said_too version.
                send_once one other (sent_or_before one said) (sent_or_before other said_too) version;
            right = λ t found_own.
                by_token token (Some waits) old.claimants t (λ found. found ≡ Some found_own
                → Right (sending token own content old) t found_own)
                (λ same is. subst (λ (x : Claimant X). Right (sending token own content old) t x)
                (same_Some waits found_own is)
                (subst (λ n. Right (sending token own content old) n waits) (sym same) waits_right))
                (λ other is. unsent_right t found_own other (kept.right t found_own is));
          }

    -- ---- a write goes through

    module _ (write : Held X) (was_sent : In write old.sent) where
      abbrev came : World X
      came = record old { store = write; was = write ∷ old.was }

      said_before : (held : Held X) → Said came held → Said old held
      said_before held (inl (inl same)) = inr (subst (λ h. In h old.sent) (sym same) was_sent)
      said_before held (inl (inr at)) = inl at
      said_before held (inr at) = inr at

      arrive_kept : Kept came
      arrive_kept =
          record {
            present = inl refl;
            tokens = λ held said. kept.tokens held (said_before held said);
            once = λ one other said said_too version.
                kept.once one other (said_before one said) (said_before other said_too) version;
            right = λ t own is. let right = kept.right t own is in
                record {
                  drawn = right.drawn;
                  knows = inr right.knows;
                  behind = λ held said same. right.behind held (said_before held said) same;
                };
          }

    -- ---- a process learns that its write went through

    module _ (token : ℕ) (own : Claimant X) (content : X) (held : Held X) (is_own : old.claimants token ≡ Some own)
        (pending : own.pending ≡ Some content) (was : In held old.was)
        (version : held.version ≡ record { token = token; number = own.number + 1 }) where
      abbrev learns : Claimant X
      learns = record { number = own.number + 1; content = content; pending = None }

      right_before : Right old token own
      right_before = kept.right token own is_own

      -- it was the write that it sent
      is_held : held ≡ written token (own.number + 1) content
      is_held = λ i. record { version = version i; content = content_is i }
        where
          content_is : held.content ≡ content
          content_is =
              elim (right_before.behind held (inl was) (ap (λ (v : Version). v.token) version)) [
                | inl before ↦ absurd (let e = ap (λ (v : Version). v.number) version in omega (arith, e, before))
                | inr it ↦ same_Some held.content content (sym it.1 ∙ pending)
              ]

      learns_right : Right (learning token own content old) token learns
      learns_right =
          record {
            drawn = right_before.drawn;
            knows = subst (λ h. In h old.was) is_held was;
            behind = λ one said same. elim (right_before.behind one said same) [
              | inl before ↦ inl (omega (arith, before))
              | inr it ↦ inl (let e = it.0 in omega (arith, e))
            ];
          }

      learn_kept : Kept (learning token own content old)
      learn_kept =
          record {
            present = kept.present;
            tokens = kept.tokens;
            once = kept.once;
            right = λ t found_own.
                by_token token (Some learns) old.claimants t (λ found. found ≡ Some found_own
                → Right (learning token own content old) t found_own)
                (λ same is. subst (λ (x : Claimant X). Right (learning token own content old) t x)
                (same_Some learns found_own is)
                (subst (λ n. Right (learning token own content old) n learns) (sym same) learns_right))
                (λ other is. let right = kept.right t found_own is in
                record { drawn = right.drawn; knows = right.knows; behind = right.behind });
          }

    -- ---- the store goes back

    back_kept : (held : Held X) → In held old.was → Kept (record old { store = held })
    back_kept held was =
        record {
          present = was;
          tokens = kept.tokens;
          once = kept.once;
          right = λ t own is. let right = kept.right t own is in
              record { drawn = right.drawn; knows = right.knows; behind = right.behind };
        }

  step_kept : (old new : World X) → Kept old → Step old new → Kept new
  step_kept old new kept (load token fresh) = load_kept old kept token fresh
  step_kept old new kept (crash token) = crash_kept old kept token
  step_kept old new kept (send token own content is may) = send_kept old kept token own content is may
  step_kept old new kept (arrive write sent fits) = arrive_kept old kept write sent
  step_kept old new kept (learn token own content held is pending was version) =
      learn_kept old kept token own content held is pending was version
  step_kept old new kept (back held was) = back_kept old kept held was

  led_kept : (old new : World X) → Leads old new → Kept old → Kept new
  led_kept old new stay kept = kept
  led_kept old new (onward {mid = mid} before step) kept = step_kept mid new (led_kept old mid before kept) step

  pub reached_kept : (content : X) (world : World X) → IsReached content world → Kept world
  reached_kept content world reached = led_kept (created content) world reached (created_kept content)

  pub one_content : (world : World X) → Kept world → (first second : Held X) → In first world.was → In second world.was
      → first.version ≡ second.version → first ≡ second
  one_content world kept first second at at_too version =
      λ i. record { version = version i; content = kept.once first second (inl at) (inl at_too) version i }

  pub memory_stands : (world : World X) → Kept world → (own : Claimant X)
      → world.claimants world.store.version.token ≡ Some own → own.number ≡ world.store.version.number
      → own.content ≡ world.store.content
  memory_stands world kept own is same =
      let token = world.store.version.token in
      kept.once (written token own.number own.content) world.store (inl (kept.right token own is).knows)
      (inl kept.present) (λ i. record { token = token; number = same i })
