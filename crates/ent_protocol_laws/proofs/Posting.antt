-- Another stands in the place of a member that isn't posted: what is asked then.
use Rattle.std.proofs.Common.{◌≡◌, ◌⊎◌, inl, inr, ℕ, Bool, true, false, cond, not, ◌==◌, List, map, refl, sym, ap}
use Rattle.std.proofs.Common.{subst, ◌∙◌}
use Rattle.ent_protocol_laws.specs.Numbered.{Below, one_of, below_apart}
use Rattle.ent_semantics.specs.Pool.{Posted}
use Rattle.ent_protocol.specs.Begin.{replaced}
use Rattle.ent_protocol.specs.Commit.{preparing}
use Rattle.ent_protocol.specs.Member.{is_tx, next_in, pool}
use Rattle.ent_protocol.specs.PostedBy.{IsPostedBy, in_pool, to_pool}
use Rattle.ent_protocol.specs.State.{State, Submitted, Member}
use Rattle.ent_semantics.specs.Serial.{numbered}
use Rattle.ent_protocol_laws.proofs.PostedQueries.{AreAsked, AskTheSame}
use Rattle.ent_lists.specs.Elements.{In, Pairs, clash, number_itself, of_filter, of_map, same_number, to_filter, to_map}
use Rattle.ent_lists.specs.Elements.{turned}
use Rattle.ent_protocol_laws.proofs.ReachedStates.{member_tx}

-- what a member asks depends on the scripts alone
pub asks_under : (s new : State) (m : Member) (a : Posted) → new.submitted ≡ s.submitted → IsPostedBy new m a
    → IsPostedBy s m a
asks_under s new m a submitted asks =
    record {
      posted = asks.posted;
      next = ap (λ (all : List Submitted). next_in (numbered all m.tx) m) (sym submitted) ∙ asks.next;
      is = asks.is;
    }

other_of : (a b n : ℕ) → a ≡ b → (b == n) ≡ false → (a == n) ≡ false
other_of a b n same e = ap (λ k. k == n) same ∙ e

-- the same members
pub same_members : (s new : State) → new.active ≡ s.active → new.submitted ≡ s.submitted → AskTheSame new s
same_members s new active submitted =
    record {
      there = λ a at.
          let r = in_pool new a at in
          to_pool s a r.member (subst (In r.member) active r.at) (asks_under s new r.member a submitted r.by);
      back = λ a at.
          let r = in_pool s a at in
          to_pool new a r.member (subst (In r.member) (sym active) r.at)
          (asks_under new s r.member a (sym submitted) r.by);
    }

module _ (s new : State) (m own : Member) (active : new.active ≡ map (replaced own) s.active)
    (submitted : new.submitted ≡ s.submitted) (ascend : Pairs (Below member_tx) s.active) (at : In m s.active)
    (tx : own.tx ≡ m.tx) (unposted : m.posted ≡ false) where
  -- who asked before is another, and asks on
  others_ask : (a : Posted) → In a (pool s) → In a (pool new) × ((a.tx == m.tx) ≡ false)
  others_ask a there =
      let r = in_pool s a there in
      by r.member r.at r.by r.own (r.member.tx == own.tx) refl
    where
      by : (b : Member) → In b s.active → IsPostedBy s b a → a.tx ≡ b.tx → (is : Bool) → (b.tx == own.tx) ≡ is
          → In a (pool new) × ((a.tx == m.tx) ≡ false)
      by b here asks same true is =
          let one : b ≡ m = one_of member_tx s.active b m (below_apart member_tx s.active ascend) here at
          (same_number b.tx own.tx is ∙ tx) in
          clash b.posted asks.posted (ap (λ (x : Member). x.posted) one ∙ unposted)
      by b here asks same false is = (
        to_pool new a b
            (subst (In b) (sym active)
            (subst (λ (x : Member). In x (map (replaced own) s.active)) (stays (b.tx == own.tx) is)
            (to_map (replaced own) s.active b here)))
            (asks_under new s b a (sym submitted) asks),
        other_of a.tx b.tx m.tx same (ap (λ n. b.tx == n) (sym tx) ∙ is),
      )
        where
          stays : (is : Bool) → is ≡ false → cond is own b ≡ b
          stays true e = clash true refl e
          stays false e = refl

  -- and who asks now is that one, or asked before
  asked_before : (a : Posted) → In a (pool new) → (a.tx ≡ m.tx) × (own.posted ≡ true) ⊎ In a (pool s)
  asked_before a there =
      let r = in_pool new a there in
      let q = of_map (replaced own) s.active r.member (subst (In r.member) active r.at) in
      by r.member r.by r.own q.0 q.1 (q.0.tx == own.tx) q.2
    where
      by : (x : Member) → IsPostedBy new x a → a.tx ≡ x.tx → (b : Member) → In b s.active → (is : Bool)
          → x ≡ cond is own b → (a.tx ≡ m.tx) × (own.posted ≡ true) ⊎ In a (pool s)
      by x asks same b here true is =
          inl (
            same ∙ ap (λ (y : Member). y.tx) is ∙ tx,
            ap (λ (y : Member). y.posted) (sym is) ∙ asks.posted,
          )
      by x asks same b here false is =
          inr (to_pool s a b here
          (asks_under s new b a submitted (subst (λ (y : Member). IsPostedBy new y a) is asks)))

  -- nothing is asked anew where the other isn't posted
  pub same_asked : own.posted ≡ false → AskTheSame new s
  same_asked off =
      record {
        there = λ a there. elim (asked_before a there) [ inl here ↦ clash own.posted here.1 off | inr old ↦ old ];
        back = λ a there. (others_ask a there).0;
      }

  -- the others' statements are those that were posted before
  pub part_asked : AreAsked (λ n. not (n == m.tx)) new s
  part_asked =
      record {
        down = λ a there. let r = others_ask a there in (r.0, ap not r.1);
        up = λ a there kept. elim (asked_before a there) [
          | inl here ↦
              clash (a.tx == m.tx) (ap (λ n. n == m.tx) here.0 ∙ number_itself m.tx) (turned (a.tx == m.tx) kept)
          | inr old ↦ old
        ];
      }

-- who prepares asks nothing
pub prepared_asks : (s : State) (m : Member) → Pairs (Below member_tx) s.active → In m s.active → m.posted ≡ false
    → AskTheSame (preparing s m) s
prepared_asks s m ascend at unposted =
    record {
      there = λ a there.
          let r = in_pool (preparing s m) a there in
          to_pool s a r.member (of_filter (λ other. not (is_tx m.tx other)) s.active r.member r.at).0
          (asks_under s (preparing s m) r.member a refl r.by);
      back = λ a there.
          let r = in_pool s a there in
          to_pool (preparing s m) a r.member
          (to_filter (λ other. not (is_tx m.tx other)) s.active r.member r.at (other r.member r.at r.by.posted))
          (asks_under (preparing s m) s r.member a refl r.by);
    }
  where
    other : (b : Member) → In b s.active → b.posted ≡ true → not (b.tx == m.tx) ≡ true
    other b here posted = by (b.tx == m.tx) refl
      where
        by : (is : Bool) → (b.tx == m.tx) ≡ is → not is ≡ true
        by true is =
            let one : b ≡ m = one_of member_tx s.active b m (below_apart member_tx s.active ascend) here at
            (same_number b.tx m.tx is) in
            clash b.posted posted (ap (λ (x : Member). x.posted) one ∙ unposted)
        by false is = refl
