-- Every event keeps members by number.
use Rattle.std.proofs.Common.{◌≡◌, ◌<◌, ◌≤◌, ◌+◌, ℕ, false, List, [], ◌∷◌, map, take}
use Rattle.std.proofs.Common.{ap, length, arith, nat_eq}
use Rattle.std.specs.List.{IsDistinct, flat_map}
use Rattle.ent_value.specs.declared.value.Value.{Value}
use Rattle.ent_group.specs.declared.members.TheConstants.{MOST_MEMBERS}
use Rattle.ent_semantics.specs.declared.statement.Statement.{Statement}
use Rattle.ent_semantics.specs.Pool.{Posted}
use Rattle.ent_protocol.specs.Begin.{replaced}
use Rattle.ent_protocol.specs.Finish.{finished}
use Rattle.ent_protocol.specs.Job.{Outcome, Shown, Changed, Bound, Choice, Fault}
use Rattle.ent_protocol.specs.Member.{posted_by, pool}
use Rattle.ent_protocol.specs.Reached.{IsReached}
use Rattle.ent_protocol.specs.Run.{Forms, fresh, starting}
use Rattle.ent_protocol.specs.PostedBy.{is_posted_by}
use Rattle.ent_protocol.specs.State.{State, Member, members}
use Rattle.ent_protocol_laws.specs.ByNumber.{StandByNumber}
use Rattle.ent_protocol_laws.proofs.Acts.{AreKept, reached}
use Rattle.ent_protocol_laws.proofs.Asked.{asks_once}
use Rattle.ent_protocol_laws.proofs.Left.{tx_of, dormant_tx, fated_tx}
use Rattle.ent_lists.specs.Elements.{Pairs, of_all, to_all, pairs_filtered, pairs_joined, pairs_mapped}
use Rattle.ent_lists.specs.Elements.{in_flat, pairs_short, pairs_index, same_number, not_so}
use Rattle.ent_protocol.proofs.Numbers.{answered_tx, replaced_tx}
use Rattle.ent_protocol_laws.specs.Numbered.{Below, by_number_ascends, keys_apart}
use Rattle.ent_protocol_laws.proofs.Placed.{places_kept, places_opened, fresh_counted}
use Rattle.ent_protocol_laws.proofs.Places.{within_once, Stands, members_once}
use Rattle.ent_protocol_laws.proofs.Times.{times, once_apart, count, count_split}

-- ---- lists of distinct numbers

abbrev Differ : ℕ → ℕ → Type 0
Differ one other = one ≡ other → ⊥

apart_distinct : (ns : List ℕ) → Pairs Differ ns → IsDistinct nat_eq ns
unfolding IsDistinct
apart_distinct [] apart = tt
apart_distinct (n ∷ ns) apart = (
  to_all (λ m. nat_eq n m ≡ false) ns
      (λ m at. not_so (nat_eq n m) (λ e. of_all (Differ n) ns m apart.0 at (same_number n m e))),
  apart_distinct ns apart.1,
)

-- ---- members

abbrev Ascend : List Member → Type 0
Ascend ms = Pairs (Below tx_of) ms

mapped : (f : Member → Member) → ((m : Member) → (f m).tx ≡ m.tx) → (ms : List Member) → Ascend ms
    → Ascend (map f ms)
mapped f keeps ms ascend =
    pairs_mapped f (Below tx_of) (Below tx_of) ms ascend
    (λ x y low. let e = keeps x in let g = keeps y in omega (arith, e, g, low))

starts : (s : State) → Stands s → Ascend (starting s).active
starts s h =
    by_number_ascends tx_of (map fresh (take MOST_MEMBERS s.dormant))
    (keys_apart tx_of (map fresh (take MOST_MEMBERS s.dormant))
    (once_apart (map tx_of (map fresh (take MOST_MEMBERS s.dormant))) once))
  where
    less : (new first rest all run fated w : ℕ) → new ≡ first → all ≡ first + rest → run + (all + fated) ≡ w → w ≤ 1
        → new ≤ 1
    less new first rest all run fated w a b c low = omega (arith, a, b, c, low)

    once : (n : ℕ) → times n (map tx_of (map fresh (take MOST_MEMBERS s.dormant))) ≤ 1
    once n =
        less _ _ _ _ (count tx_of n (members s)) (count fated_tx n s.fates) _
        (fresh_counted n (take MOST_MEMBERS s.dormant)) (count_split dormant_tx n MOST_MEMBERS s.dormant) (h.once n)
        (within_once n (length s.submitted))

finishes : (s : State) (m : Member) (statement : Statement Value) (outcome : Outcome) → Ascend s.active
    → Ascend (finished s m statement outcome).active
finishes s m statement (Changed count removed added) h = mapped (replaced _) (replaced_tx _) s.active h
finishes s m statement (Bound value) h = mapped (replaced _) (replaced_tx _) s.active h
finishes s m statement (Shown rows) h = mapped (replaced _) (replaced_tx _) s.active h
finishes s m statement (Fault failure) h = h
finishes s m statement (Choice groundings) h = h

abbrev Ordered : State → Type 0
Ordered s = Stands s × Ascend s.active

ordered_kept : AreKept Ordered
ordered_kept =
    record {
      submits = λ s script form h. (places_kept.submits s script form h.0, h.1);
      starts = λ s off h. (places_kept.starts s off h.0, starts s h.0);
      lends = λ s m statement idle next h.
          (places_kept.lends s m statement idle next h.0, mapped (replaced _) (replaced_tx _) s.active h.1);
      posts = λ s m statement idle next safe h.
          (places_kept.posts s m statement idle next safe h.0, mapped (replaced _) (replaced_tx _) s.active h.1);
      prepares = λ s m idle h. (places_kept.prepares s m idle h.0, pairs_filtered (Below tx_of) _ s.active h.1);
      commits = λ s group ready h. (places_kept.commits s group ready h.0, h.1);
      rolls_back = λ s group cause h.
          (places_kept.rolls_back s group cause h.0, pairs_filtered (Below tx_of) _ s.active h.1);
      takes = λ s job left taken h. (places_kept.takes s job left taken h.0, h.1);
      finishes = λ s m left statement outcome back h. (
        places_kept.finishes s m left statement outcome back h.0,
        finishes (record s { lent = left }) m statement outcome h.1,
      );
      picks = λ s asked component out h. (places_kept.picks s asked component out h.0, h.1);
      joins = λ s job left asked groundings taken component grounded h. (
        places_kept.joins s job left asked groundings taken component grounded h.0,
        mapped _ (answered_tx asked groundings) s.active h.1,
      );
      tries = λ s asked h. (places_kept.tries s asked h.0, h.1);
      ends = λ s h. (places_kept.ends s h.0, pairs_filtered (Below tx_of) _ s.active h.1);
      recalls = λ s h. (places_kept.recalls s h.0, h.1);
    }

-- ---- statements in the pool

abbrev pub posted_tx : Posted → ℕ
posted_tx query = query.tx

pub pool_ascends : (s : State) (ms : List Member) → Ascend ms → Pairs (Below posted_tx) (flat_map (posted_by s) ms)
pool_ascends s [] ascend = tt
pool_ascends s (m ∷ ms) ascend =
    pairs_joined (Below posted_tx) (posted_by s m) (flat_map (posted_by s) ms)
    (pairs_short (Below posted_tx) (posted_by s m) (asks_once s m)) (pool_ascends s ms ascend.1) (λ a b at bt.
    let own : a.tx ≡ m.tx = ap posted_tx (is_posted_by s m a at).is in
    let r = in_flat (posted_by s) ms b bt in
    let other : b.tx ≡ r.0.tx = ap posted_tx (is_posted_by s r.0 b r.2).is in
    let low : m.tx < r.0.tx = of_all (Below tx_of m) ms r.0 ascend.0 r.1 in
    omega (arith, own, other, low))

pub reached_by_number : {F : Type 0} (forms : Forms F) (s : State) → IsReached forms s → StandByNumber s
reached_by_number forms s r =
    let h = reached forms Ordered ordered_kept s (places_opened s.opening, tt) r in
    let asked = pool_ascends s s.active h.1 in
    record {
      distinct = apart_distinct (map tx_of (members s)) (once_apart (map tx_of (members s)) (members_once s h.0));
      active = pairs_index (Below tx_of) s.active h.1;
      pool = pairs_index (Below posted_tx) (pool s) asked;
    }
