-- How many members a state has, and what they have not begun.
use Rattle.std.proofs.Common.{◌≡◌, ◌≤◌, ◌+◌, ◌-◌, inl, ℕ, zero, suc, pred, Bool, true, false, cond, not, ◌==◌}
use Rattle.std.proofs.Common.{List, [], ◌∷◌, ◌++◌, map, length, refl, sym, ap, subst, ◌∙◌, arith, Option, Some, None}
use Rattle.std.proofs.Common.{sum_by}
use Rattle.std.proofs.lemmas.List.{length-append}
use Rattle.std.proofs.lemmas.List.Sums.{sum_by-append}
use Rattle.std.specs.List.{filter}
use Rattle.ent_protocol_laws.specs.Numbered.{Below, one_of, below_apart, to_by_number}
use Rattle.ent_protocol_laws.proofs.Left.{in_among}
use Rattle.ent_semantics.specs.Entangled.{Valuation}
use Rattle.ent_semantics.specs.Serial.{numbered}
use Rattle.ent_semantics.specs.Pool.{Posted}
use Rattle.ent_protocol.specs.Begin.{replaced}
use Rattle.ent_protocol.specs.Commit.{preparing, committing}
use Rattle.ent_protocol.specs.Member.{Commits, RollsBack, is_of, is_tx, next_in, next_of}
use Rattle.ent_protocol.specs.PoolEvents.{answered_among, answered_by, in_joined_group}
use Rattle.ent_protocol.specs.Rollback.{Cause, group_members, is_among, rolled_back}
use Rattle.ent_protocol.specs.State.{State, Submitted, Member, members}
use Rattle.ent_protocol_laws.specs.Within.{begun, statements_behind, statements_in_run, unbegun, unbegun_of}
use Rattle.ent_protocol_laws.proofs.LentJobs.{IsPlaced}
use Rattle.ent_lists.specs.Elements.{In, Pairs, to_filter, in_second, shorter, same_number, number_itself}
use Rattle.ent_lists.specs.Elements.{clash}
use Rattle.ent_protocol_laws.proofs.Lists.{shorter_without, sum_filtered, sum_without, sum_mapped_less}
use Rattle.ent_protocol_laws.proofs.Lists.{sum_below}
use Rattle.ent_protocol_laws.proofs.ReachedStates.{member_tx}

-- ---- statements behind others

-- of a script less is left behind more of it
pub behind_less : (found : Option Submitted) (m n : ℕ) → m ≤ n → statements_behind n found ≤ statements_behind m found
behind_less None m n low = omega arith
behind_less (Some own) m n low = less (length own.form)
  where
    less : (k : ℕ) → suc (k - n) ≤ suc (k - m)
    less k = omega (arith, low)

-- one less is left behind a place at which a statement stands
pub behind_placed : (found : Option Submitted) (n : ℕ) → IsPlaced found n
    → statements_behind n found + 1 ≤ statements_behind (pred n) found
behind_placed None n placed = absurd placed
behind_placed (Some own) zero placed = let low = placed.0 in absurd (omega (arith, low))
behind_placed (Some own) (suc n) placed = let high = placed.1 in less (length own.form) n high
  where
    less : (k n : ℕ) → suc n ≤ k → suc (k - suc n) + 1 ≤ suc (k - n)
    less k n high = omega (arith, high)

-- a member that comes to its end has this one left at least
pub end_left : (found : Option Submitted) (m : Member) (n : ℕ) → next_in found m ≡ Commits
    → 1 ≤ statements_behind n found
end_left None m n e = absurd (different e)
  where
    different : RollsBack ≡ Commits → ⊥
    different e = cc
end_left (Some own) m n e = omega arith

pub begun_unposted : (m : Member) → m.posted ≡ false → begun m ≡ pred m.place
begun_unposted m e = rw e refl

pub begun_most : (m : Member) → begun m ≤ m.place
begun_most m = by m.posted
  where
    before : (n : ℕ) → pred n ≤ n
    before zero = omega arith
    before (suc n) = omega arith

    by : (b : Bool) → cond b m.place (pred m.place) ≤ m.place
    by true = omega arith
    by false = before m.place

-- one member in the place of another of its number
pub one_begins : (all : List Submitted) (m own : Member) (ms : List Member) → Pairs (Below member_tx) ms → In m ms
    → own.tx ≡ m.tx → (k : ℕ) → unbegun_of all own + k ≤ unbegun_of all m
    → sum_by (unbegun_of all) (map (replaced own) ms) + k ≤ sum_by (unbegun_of all) ms
one_begins all m own ms ascend at tx k less =
    sum_mapped_less (unbegun_of all) (replaced own) ms m k low at
    (subst (λ (x : Member). unbegun_of all x + k ≤ unbegun_of all m) (sym here) less)
  where
    here : replaced own m ≡ own
    here = by (m.tx == own.tx) (ap (λ n. m.tx == n) tx ∙ number_itself m.tx)
      where
        by : (b : Bool) → b ≡ true → cond b own m ≡ own
        by true e = refl
        by false e = clash false e refl

    fewer : (a b k : ℕ) → a + k ≤ b → a ≤ b
    fewer a b k h = omega (arith, h)

    low : (y : Member) → In y ms → unbegun_of all (replaced own y) ≤ unbegun_of all y
    low y there = by (y.tx == own.tx) refl
      where
        by : (b : Bool) → (y.tx == own.tx) ≡ b → unbegun_of all (cond b own y) ≤ unbegun_of all y
        by true is =
            let same : m ≡ y =
            one_of member_tx ms m y (below_apart member_tx ms ascend) at there
            (sym (same_number y.tx own.tx is ∙ tx)) in
            subst (λ (x : Member). unbegun_of all own ≤ unbegun_of all x) same (fewer _ _ k less)
        by false is = omega arith

-- ---- members

pub members_counted : (s : State) → length (members s) ≡ length s.prepared + length s.active
members_counted s = length-append s.prepared s.active

-- a group's member is one of those that leave with it
leaves : (s : State) (m : Member) → In m s.active → not (is_among (group_members s m.group) m.tx) ≡ false
leaves s m at =
    ap not
    (in_among (group_members s m.group) m
    (to_by_number member_tx (filter (is_of m.group) (members s)) m
    (to_filter (is_of m.group) (members s) m (in_second s.prepared s.active m at) (number_itself m.group))))

two_counted : (a b c d n m : ℕ) → n ≡ a + b → m ≡ c + d → a ≤ c → suc b ≤ d → suc n ≤ m
two_counted a b c d n m e f low less = omega (arith, e, f, low, less)

pub group_leaves : (s : State) (m : Member) (cause : Cause) → In m s.active
    → suc (length (members (rolled_back m.group cause s))) ≤ length (members s)
group_leaves s m cause at =
    let p = λ (member : Member). not (is_among (group_members s m.group) member.tx) in
    two_counted (length (filter p s.prepared)) (length (filter p s.active)) (length s.prepared) (length s.active) _ _
    (length-append (filter p s.prepared) (filter p s.active)) (length-append s.prepared s.active)
    (shorter p s.prepared) (shorter_without p s.active m at (leaves s m at))

other_tx : (m : Member) → not (is_tx m.tx m) ≡ false
other_tx m = ap not (number_itself m.tx)

behind_counted : (a b c d n m : ℕ) → n ≡ c + b → m ≡ a + d → c ≡ a + 1 → suc b ≤ d → n ≤ m
behind_counted a b c d n m e f g less = omega (arith, e, f, g, less)

pub prepared_counted : (s : State) (m : Member) → In m s.active
    → length (members (preparing s m)) ≤ length (members s)
prepared_counted s m at =
    let p = λ (other : Member). not (is_tx m.tx other) in
    behind_counted (length s.prepared) (length (filter p s.active)) (length (s.prepared ++ m ∷ []))
    (length s.active) _ _ (length-append (s.prepared ++ m ∷ []) (filter p s.active))
    (length-append s.prepared s.active) (length-append s.prepared (m ∷ []))
    (shorter_without p s.active m at (other_tx m))

ready_counted : (b k n m : ℕ) (a : ℕ) → n ≡ a + b → suc a ≤ k → m ≡ k + b → suc n ≤ m
ready_counted b k n m a e less f = omega (arith, e, less, f)

pub committed_counted : (s : State) (m : Member) → In m s.active
    → suc (length (members (committing (preparing s m) m.group))) ≤ length (members s)
committed_counted s m at =
    let p = λ (other : Member). not (is_tx m.tx other) in
    let q = λ (member : Member). not (is_of m.group member) in
    let low = prepared_counted s m at in
    let less : suc (length (members (committing (preparing s m) m.group))) ≤ length (members (preparing s m)) =
    ready_counted (length (filter p s.active)) (length (s.prepared ++ m ∷ [])) _ _
    (length (filter q (s.prepared ++ m ∷ [])))
    (length-append (filter q (s.prepared ++ m ∷ [])) (filter p s.active))
    (shorter_without q (s.prepared ++ m ∷ []) m (in_second s.prepared (m ∷ []) m (inl refl))
    (ap not (number_itself m.group)))
    (length-append (s.prepared ++ m ∷ []) (filter p s.active)) in
    through _ _ _ less low
  where
    through : (a b c : ℕ) → suc a ≤ b → b ≤ c → suc a ≤ c
    through a b c less low = omega (arith, less, low)

-- ---- unbegun statements

pub gone_begun : (s : State) (m : Member) (cause : Cause) → unbegun (rolled_back m.group cause s) ≤ unbegun s
gone_begun s m cause =
    sum_filtered (unbegun_of s.submitted) (λ member. not (is_among (group_members s m.group) member.tx)) s.active

pub prepared_begun : (s : State) (m : Member) → In m s.active → next_of s m ≡ Commits
    → unbegun (preparing s m) + 1 ≤ unbegun s
prepared_begun s m at next =
    sum_without (unbegun_of s.submitted) (λ other. not (is_tx m.tx other)) s.active m 1 at (other_tx m)
    (end_left (numbered s.submitted m.tx) m (begun m) next)

pub committed_begun : (s : State) (m : Member) → unbegun (committing (preparing s m) m.group) ≤ unbegun s
committed_begun s m = sum_filtered (unbegun_of s.submitted) (λ other. not (is_tx m.tx other)) s.active

-- an answer leaves what is unbegun: a posted statement was begun
pub answered_begun : (all : List Submitted) (groups : List ℕ) (asked : List Posted) (given : List Valuation)
    (m : Member)
    → unbegun_of all (in_joined_group groups (answered_among asked given m)) ≤ unbegun_of all m
answered_begun all groups [] given m = omega arith
answered_begun all groups (query ∷ asked) [] m = omega arith
answered_begun all groups (query ∷ asked) (values ∷ more) m =
    by (m.tx == query.tx) (answered_begun all groups asked more m)
  where
    by : (b : Bool) → unbegun_of all (in_joined_group groups (answered_among asked more m)) ≤ unbegun_of all m
        → unbegun_of all (in_joined_group groups (cond b (answered_by query values m) (answered_among asked more m)))
        ≤ unbegun_of all m
    by true rest = behind_less (numbered all m.tx) (begun m) m.place (begun_most m)
    by false rest = rest

-- ---- all statements

pub unbegun_most : (s : State) → unbegun s ≤ statements_in_run s
unbegun_most s = through _ _ _ _ each joined
  where
    each : sum_by (unbegun_of s.submitted) s.active
        ≤ sum_by (λ (member : Member). statements_behind 0 (numbered s.submitted member.tx)) s.active
    each =
        sum_below (unbegun_of s.submitted)
        (λ (member : Member). statements_behind 0 (numbered s.submitted member.tx)) s.active
        (λ m at. behind_less (numbered s.submitted m.tx) 0 (begun m) (omega arith))

    joined : statements_in_run s
        ≡ sum_by (λ (member : Member). statements_behind 0 (numbered s.submitted member.tx)) s.prepared
        + sum_by (λ (member : Member). statements_behind 0 (numbered s.submitted member.tx)) s.active
    joined =
        sum_by-append (λ (member : Member). statements_behind 0 (numbered s.submitted member.tx)) s.prepared s.active

    through : (u a p t : ℕ) → u ≤ a → t ≡ p + a → u ≤ t
    through u a p t low e = omega (arith, low, e)
