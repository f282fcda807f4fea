-- Pools of friends: where they are safe, and where a post is the first unsafe one.
use Rattle.std.proofs.Common.{◌≡◌, ◌≢◌, ℕ, ◌<◌, Bool, true, ◌&&◌, ◌||◌, not, List, map, refl, sym, ap}
use Rattle.std.proofs.Common.{subst, ◌∙◌}
use Rattle.std.proofs.lemmas.Bool.{lt-ltb, both_ways, not-true}
use Rattle.std.specs.Prelude.{Contains, ◌==◌, nat_lt}
use Rattle.std.specs.List.{list_all}
use Rattle.std.specs.Ordering.{is_lt}
use Rattle.std.specs.declared.cmp.Ordering.TheVariants.{Less}
use Rattle.ent_semantics.specs.Pool.{Posted, CanMeet, IsSafe, Unsafe, HasHeadFor, IsFirstUnsafe, IsUnsafeAt}
use Rattle.ent_semantics.specs.Pool.{unsafe_cmp}
use Rattle.ent_lists.specs.Elements.{both_and, number_itself, same_number}
use Rattle.ent_lists.proofs.Contained.{of_mapped, to_mapped}
use Rattle.ent_examples.specs.Wish.{Friend, posted}
use Rattle.ent_examples.proofs.Listed.{each_passes, unless}
use Rattle.ent_examples.proofs.Meets.{meets, met_by, can_meet}

-- two of the pool whose posted statements meet
pub record Met (friends : List Friend) (asker : Posted) (index : ℕ) (owner : Posted) : Type 0 where
  pub friend : Friend
  pub asks : Contains friends friend
  pub asker_is : asker ≡ posted friend
  pub other : Friend
  pub offers : Contains friends other
  pub owner_is : owner ≡ posted other
  pub index_is : index ≡ 0
  pub meet : meets friend.wish other.wish ≡ true

pub met_in : (friends : List Friend) (asker : Posted) (index : ℕ) (owner : Posted)
    → Contains (map posted friends) asker → Contains (map posted friends) owner → CanMeet asker index owner
    → Met friends asker index owner
met_in friends asker index owner a b h =
    let x = of_mapped posted friends asker a in
    let y = of_mapped posted friends owner b in
    let is = met_by x.0 y.0 index
    (subst (λ p. CanMeet p index (posted y.0)) x.2 (subst (λ p. CanMeet asker index p) y.2 h))
    in record {
      friend = x.0;
      asks = x.1;
      asker_is = x.2;
      other = y.0;
      offers = y.1;
      owner_is = y.2;
      index_is = is.0;
      meet = is.1;
    }

-- of each post that two meet: whether a test of the asker, as it is met by the one and by the other, and the two passes
abbrev pub all_met_twice : (Friend → Friend → Friend → Friend → Bool) → List Friend → Bool
all_met_twice test friends =
    list_all (λ friend. list_all (λ first. list_all (λ again. list_all (λ second.
    not ((friend.tx == again.tx) && (meets friend.wish first.wish && meets again.wish second.wish))
    || test friend first again second) friends) friends) friends) friends

pub met_twice : (test : Friend → Friend → Friend → Friend → Bool) (friends : List Friend)
    → all_met_twice test friends ≡ true → (friend first again second : Friend) → Contains friends friend
    → Contains friends first → Contains friends again → Contains friends second → (friend.tx == again.tx) ≡ true
    → meets friend.wish first.wish ≡ true → meets again.wish second.wish ≡ true
    → test friend first again second ≡ true
met_twice test friends h friend first again second a b c d e k l =
    unless _ _ (each_passes _ friends second (each_passes _ friends again (each_passes _ friends first
    (each_passes _ friends friend h a) b) c) d) (both_and _ _ e (both_and _ _ k l))

-- each post meets heads of one transaction
abbrev pub one_head_each : List Friend → Bool
one_head_each = all_met_twice (λ friend first again second. first.tx == second.tx)

pub safe : (friends : List Friend) → one_head_each friends ≡ true → IsSafe (map posted friends)
safe friends h asker first second index a b c k l =
    let one = met_in friends asker index first a b k in
    let two = met_in friends asker index second a c l in
    let same : one.friend.tx ≡ two.friend.tx = sym (ap (λ (p : Posted). p.tx) one.asker_is)
    ∙ ap (λ (p : Posted). p.tx) two.asker_is in
    let e = met_twice (λ friend first again second. first.tx == second.tx) friends h one.friend one.other two.friend
    two.other one.asks one.offers two.asks two.offers
    (ap (λ n. n == two.friend.tx) same ∙ number_itself two.friend.tx) one.meet two.meet in
    ap (λ (p : Posted). p.tx) one.owner_is ∙ same_number _ _ e ∙ sym (ap (λ (p : Posted). p.tx) two.owner_is)

-- ---- where it isn't safe

abbrev pub fault_of : Friend → Friend → Friend → Unsafe
fault_of friend first second = record { asker = friend.tx; index = 0; first = first.tx; second = second.tx }

-- no post that two meet comes before the fault
abbrev pub none_earlier : Unsafe → List Friend → Bool
none_earlier fault =
    all_met_twice (λ friend first again second.
    not (nat_lt first.tx second.tx) || not (is_lt (unsafe_cmp (fault_of friend first second) fault)))

pub head_for : (friends : List Friend) (friend other : Friend) → Contains friends friend → Contains friends other
    → meets friend.wish other.wish ≡ true → HasHeadFor (map posted friends) friend.tx 0 other.tx
head_for friends friend other a b h =
    record {
      asker = posted friend;
      asks = to_mapped posted friends friend a;
      asker_is = refl;
      partner = posted other;
      offers = to_mapped posted friends other b;
      partner_is = refl;
      meets = can_meet friend other h;
    }

pub none_less : (friends : List Friend) (fault : Unsafe) → none_earlier fault friends ≡ true → (other : Unsafe)
    → IsUnsafeAt (map posted friends) other → unsafe_cmp other fault ≢ Less
none_less friends fault h other at less =
    both_ways _ (not-true _ later) (ap is_lt (sym (ap (λ (u : Unsafe). unsafe_cmp u fault) is) ∙ less))
  where
    one : Met friends at.1.asker other.index at.1.partner
    one = met_in friends at.1.asker other.index at.1.partner at.1.asks at.1.offers at.1.meets

    two : Met friends at.2.asker other.index at.2.partner
    two = met_in friends at.2.asker other.index at.2.partner at.2.asks at.2.offers at.2.meets

    number : (p : Posted) (f : Friend) (n : ℕ) → p ≡ posted f → p.tx ≡ n → n ≡ f.tx
    number p f n e k = sym k ∙ ap (λ (p : Posted). p.tx) e

    asker : other.asker ≡ one.friend.tx
    asker = number at.1.asker one.friend other.asker one.asker_is at.1.asker_is

    again : other.asker ≡ two.friend.tx
    again = number at.2.asker two.friend other.asker two.asker_is at.2.asker_is

    first : other.first ≡ one.other.tx
    first = number at.1.partner one.other other.first one.owner_is at.1.partner_is

    second : other.second ≡ two.other.tx
    second = number at.2.partner two.other other.second two.owner_is at.2.partner_is

    is : other ≡ fault_of one.friend one.other two.other
    is = λ i. record { asker = asker i; index = one.index_is i; first = first i; second = second i }

    later : not (is_lt (unsafe_cmp (fault_of one.friend one.other two.other) fault)) ≡ true
    later =
        unless _ _ (met_twice (λ friend first again second.
        not (nat_lt first.tx second.tx) || not (is_lt (unsafe_cmp (fault_of friend first second) fault))) friends h
        one.friend one.other two.friend two.other one.asks one.offers two.asks two.offers
        (ap (λ n. n == two.friend.tx) (sym asker ∙ again) ∙ number_itself two.friend.tx) one.meet two.meet)
        (sym (λ i. nat_lt (first i) (second i)) ∙ lt-ltb other.first other.second at.0)

pub first_unsafe : (friends : List Friend) (friend first second : Friend) → Contains friends friend
    → Contains friends first → Contains friends second → first.tx < second.tx
    → meets friend.wish first.wish ≡ true → meets friend.wish second.wish ≡ true
    → none_earlier (fault_of friend first second) friends ≡ true
    → IsFirstUnsafe (map posted friends) (fault_of friend first second)
first_unsafe friends friend first second a b c lesser h k none = (
  (lesser, head_for friends friend first a b h, head_for friends friend second a c k),
  none_less friends (fault_of friend first second) none,
)
