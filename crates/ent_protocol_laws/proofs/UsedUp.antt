-- What each act of a run uses up.
use Rattle.std.proofs.Common.{◌≡◌, ◌≤◌, ◌+◌, ◌*◌, inl, inr, ℕ, suc, Bool, true, false, not, ◌==◌, List, ◌∷◌}
use Rattle.std.proofs.Common.{map, length, refl, sym, ap, subst, arith, Contains, mul-le-mul_left, mul-suc}
use Rattle.std.proofs.lemmas.List.{length-map}
use Rattle.std.specs.List.{filter, list_any}
use Rattle.ent_protocol_laws.proofs.ByNumber.{posted_tx}
use Rattle.ent_protocol_laws.specs.Numbered.{Below}
use Rattle.ent_value.specs.declared.value.Value.{Value}
use Rattle.ent_semantics.specs.declared.entangled.Entangled.{Entangled}
use Rattle.ent_semantics.specs.Pool.{Posted}
use Rattle.ent_protocol.specs.Begin.{posting}
use Rattle.ent_protocol.specs.Member.{pool}
use Rattle.ent_protocol.specs.PoolEvents.{IsPresentComponent}
use Rattle.ent_protocol.specs.PostedBy.{in_pool}
use Rattle.ent_protocol.specs.State.{State, Member, members}
use Rattle.ent_protocol_laws.specs.Within.{HasOneOf, HitUntried, IsWithin, unbegun}
use Rattle.ent_protocol_laws.proofs.PostedQueries.{AreAsked, AskTheSame, asked_there, present_in_other}
use Rattle.ent_protocol_laws.proofs.PostedQueries.{present_in_part, some_asked}
use Rattle.ent_protocol_laws.proofs.Counts.{members_counted}
use Rattle.ent_lists.specs.Elements.{In, Pairs, any_in, any_some, clash, contains_in, in_contains, number_itself}
use Rattle.ent_lists.specs.Elements.{same_number, to_filter, to_map}
use Rattle.ent_protocol_laws.proofs.Lists.{shorter_without}
use Rattle.ent_protocol_laws.proofs.Posting.{part_asked}
use Rattle.ent_protocol_laws.proofs.ReachedStates.{member_tx}

-- so much less is left at least
pub record IsUsed (k most left : ℕ) (new : State) : Type 0 where
  pub less : ℕ
  pub below : less + k ≤ left
  pub within : IsWithin most less new

-- ---- arithmetic

times_less : (m a b : ℕ) → suc a ≤ b → m * a + m ≤ m * b
times_less m a b low =
    let one = mul-suc m a in
    let two = mul-le-mul_left m low in
    from (m * suc a) (m * a) (m * b) one two
  where
    from : (x y z : ℕ) → x ≡ y + m → x ≤ z → y + m ≤ z
    from x y z e low = omega (arith, e, low)

kept_less : (u v t q r left k : ℕ) → v + k ≤ u → r ≤ q → 2 * u + t + q ≤ left → 2 * v + t + r + k ≤ left
kept_less u v t q r left k a b c = omega (arith, a, b, c)

one_more : (u v t q r left : ℕ) → v + 1 ≤ u → r ≤ q → 2 * u + t + q ≤ left → 2 * v + suc t + r + 1 ≤ left
one_more u v t q r left a b c = omega (arith, a, b, c)

one_fewer : (u v t w q r left : ℕ) → v ≤ u → suc w ≤ t → r ≤ q → 2 * u + t + q ≤ left → 2 * v + w + r + 1 ≤ left
one_fewer u v t w q r left a b c d = omega (arith, a, b, c, d)

left_less : (u v t a n m most q r left : ℕ) → v ≤ u → a ≤ n → suc n ≤ m → m ≤ most → r + most ≤ q
    → 2 * u + t + q ≤ left → 2 * v + a + r + 1 ≤ left
left_less u v t a n m most q r left b c d e f g = omega (arith, b, c, d, e, f, g)

-- ---- which components have to be tried

same_hit : (s new : State) (by : List ℕ) → AskTheSame new s → new.tried ≡ s.tried → HitUntried s by → HitUntried new by
same_hit s new by same tried hit asked component untried =
    hit asked (present_in_other new s same asked component)
    (λ there. untried (subst (λ (all : List (List Posted)). Contains all asked) (sym tried) there))

-- the members that aren't prepared hit each
pub all_hit : (s : State) → HitUntried s (map member_tx s.active)
all_hit s asked component untried =
    let a = some_asked s asked component in
    let r = in_pool s a.0 (asked_there s asked component a.0 a.1) in
    record {
      query = a.0;
      is_in = in_contains asked a.0 a.1;
      is_of = in_contains (map member_tx s.active) a.0.tx
          (subst (λ n. In n (map member_tx s.active)) (sym r.own) (to_map member_tx s.active r.member r.at));
    }

-- ---- acts

fewer_members : (most : ℕ) (s new : State) → length (members new) ≤ length (members s)
    → most * length (members new) ≤ most * length (members s)
fewer_members most s new low = mul-le-mul_left most low

-- the same is asked, and so much is begun
pub kept : (k most left : ℕ) (s new : State) → AskTheSame new s → new.tried ≡ s.tried
    → length (members new) ≤ length (members s) → unbegun new + k ≤ unbegun s → IsWithin most left s
    → IsUsed k most left new
kept k most left s new same tried low less w =
    record {
      less = 2 * unbegun new + length w.transactions + most * length (members new);
      below = kept_less (unbegun s) (unbegun new) (length w.transactions) (most * length (members s))
          (most * length (members new)) left k less (fewer_members most s new low) w.within;
      within = record {
        few = let few = w.few in omega (arith, low, few);
        transactions = w.transactions;
        hit = same_hit s new w.transactions same tried w.hit;
        within = omega arith;
      };
    }

pub active_few : (s : State) → length (map member_tx s.active) ≤ length (members s)
active_few s =
    from (length (map member_tx s.active)) (length s.active) (length s.prepared) (length (members s))
    (length-map s.active member_tx) (members_counted s)
  where
    from : (l a p n : ℕ) → l ≡ a → n ≡ p + a → l ≤ n
    from l a p n e f = omega (arith, e, f)

-- some member leaves the run
pub leaving : (most left : ℕ) (s new : State) → suc (length (members new)) ≤ length (members s)
    → unbegun new ≤ unbegun s → IsWithin most left s → IsUsed 1 most left new
leaving most left s new low less w =
    record {
      less = 2 * unbegun new + length (map member_tx new.active) + most * length (members new);
      below = left_less (unbegun s) (unbegun new) (length w.transactions) (length (map member_tx new.active))
          (length (members new)) (length (members s)) most (most * length (members s)) (most * length (members new))
          left less (active_few new) low w.few (times_less most (length (members new)) (length (members s)) low)
          w.within;
      within = record {
        few = let few = w.few in omega (arith, low, few);
        transactions = map member_tx new.active;
        hit = all_hit new;
        within = omega arith;
      };
    }

-- ---- a statement is posted

posted_hit : (s : State) (m : Member) (statement : Entangled Value) (by : List ℕ) → Pairs (Below member_tx) s.active
    → In m s.active → m.posted ≡ false → Pairs (Below posted_tx) (pool (posting s m statement)) → HitUntried s by
    → HitUntried (posting s m statement) (m.tx ∷ by)
posted_hit s m statement by ascend at unposted asked_ascend hit asked component untried =
    cases (list_any (λ a. a.tx == m.tx) asked) refl
  where
    part : AreAsked (λ n. not (n == m.tx)) (posting s m statement) s
    part = part_asked s (posting s m statement) m _ refl refl ascend at refl unposted

    cases : (b : Bool) → list_any (λ a. a.tx == m.tx) asked ≡ b → HasOneOf (m.tx ∷ by) asked
    cases true is =
        let some = any_some (λ (a : Posted). a.tx == m.tx) asked is in
        record {
          query = some.0;
          is_in = in_contains asked some.0 some.1;
          is_of = in_contains (m.tx ∷ by) some.0.tx (inl (same_number some.0.tx m.tx some.2));
        }
    cases false is =
        let old = present_in_part (λ n. not (n == m.tx)) (posting s m statement) s part asked_ascend asked component
        (λ a there. other a there (a.tx == m.tx) refl) in
        let h = hit asked old untried in
        record {
          query = h.query;
          is_in = h.is_in;
          is_of = in_contains (m.tx ∷ by) h.query.tx (inr (contains_in by h.query.tx h.is_of));
        }
      where
        other : (a : Posted) → In a asked → (b : Bool) → (a.tx == m.tx) ≡ b → not b ≡ true
        other a there true same =
            clash (list_any (λ a. a.tx == m.tx) asked) (any_in (λ (a : Posted). a.tx == m.tx) asked a there same) is
        other a there false differ = refl

pub posted : (most left : ℕ) (s : State) (m : Member) (statement : Entangled Value) → Pairs (Below member_tx) s.active
    → In m s.active → m.posted ≡ false → Pairs (Below posted_tx) (pool (posting s m statement))
    → length (members (posting s m statement)) ≤ length (members s)
    → unbegun (posting s m statement) + 1 ≤ unbegun s → IsWithin most left s
    → IsUsed 1 most left (posting s m statement)
posted most left s m statement ascend at unposted asked_ascend low less w =
    let new = posting s m statement in
    record {
      less = 2 * unbegun new + suc (length w.transactions) + most * length (members new);
      below = one_more (unbegun s) (unbegun new) (length w.transactions) (most * length (members s))
          (most * length (members new)) left less (fewer_members most s new low) w.within;
      within = record {
        few = let few = w.few in omega (arith, low, few);
        transactions = m.tx ∷ w.transactions;
        hit = posted_hit s m statement w.transactions ascend at unposted asked_ascend w.hit;
        within = omega arith;
      };
    }

-- ---- a component is tried or answered

-- the others without those of a transaction
abbrev without : ℕ → List ℕ → List ℕ
without n by = filter (λ k. not (k == n)) by

fewer_by : (n : ℕ) (by : List ℕ) → In n by → suc (length (without n by)) ≤ length by
fewer_by n by at = shorter_without (λ k. not (k == n)) by n at (ap not (number_itself n))

stays_by : (n : ℕ) (by : List ℕ) (k : ℕ) → In k by → (k ≡ n → ⊥) → In k (without n by)
stays_by n by k at differ = to_filter (λ k. not (k == n)) by k at (cases (k == n) refl)
  where
    cases : (b : Bool) → (k == n) ≡ b → not b ≡ true
    cases true is = absurd (differ (same_number k n is))
    cases false is = refl

-- a component that was hit needs no trying any more, and each other one did already, with no statement of that one's
pub settled : (most left : ℕ) (s new : State) (asked : List Posted) → IsPresentComponent s asked
    → (Contains s.tried asked → ⊥) → ((a : Posted) → In a asked → (others : List Posted) → IsPresentComponent new others
    → (Contains new.tried others → ⊥) → IsPresentComponent s others × (Contains s.tried others → ⊥)
    × ((b : Posted) → In b others → b.tx ≡ a.tx → ⊥)) → length (members new) ≤ length (members s)
    → unbegun new ≤ unbegun s → IsWithin most left s → IsUsed 1 most left new
settled most left s new asked component untried apart low less w =
    let h = w.hit asked component untried in
    let at = contains_in w.transactions h.query.tx h.is_of in
    record {
      less = 2 * unbegun new + length (without h.query.tx w.transactions) + most * length (members new);
      below = one_fewer (unbegun s) (unbegun new) (length w.transactions)
          (length (without h.query.tx w.transactions)) (most * length (members s)) (most * length (members new)) left
          less (fewer_by h.query.tx w.transactions at) (fewer_members most s new low) w.within;
      within = record {
        few = let few = w.few in omega (arith, low, few);
        transactions = without h.query.tx w.transactions;
        hit = λ others there fresh.
            let r = apart h.query (contains_in asked h.query h.is_in) others there fresh in
            let o = w.hit others r.0 r.1 in
            record {
              query = o.query;
              is_in = o.is_in;
              is_of = in_contains (without h.query.tx w.transactions) o.query.tx
                  (stays_by h.query.tx w.transactions o.query.tx
                  (contains_in w.transactions o.query.tx o.is_of)
                  (r.2 o.query (contains_in others o.query o.is_in)));
            };
        within = omega arith;
      };
    }
