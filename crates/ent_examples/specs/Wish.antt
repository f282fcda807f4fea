-- Those who want to fly to LA with another, their statements, and the job of answering some of them together.
use Rattle.std.specs.Prelude.{ℕ, List, [], ◌∷◌, map, codes, Some}
use Rattle.ent_value.specs.declared.value.Kind.TheVariants as kinds
use Rattle.ent_value.specs.declared.value.Value.{Value}
use Rattle.ent_value.specs.declared.value.Value.TheVariants.{Text}
use Rattle.ent_semantics.specs.Database.{Name, nothing_bound, opening_database}
use Rattle.ent_semantics.specs.Closing.{closed_entangled}
use Rattle.ent_semantics.specs.declared.entangled.Atom.{Atom}
use Rattle.ent_semantics.specs.declared.entangled.Entangled.{Entangled}
use Rattle.ent_semantics.specs.declared.entangled.Term.TheVariants as terms
use Rattle.ent_semantics.specs.declared.operand.Known.{Known}
use Rattle.ent_semantics.specs.declared.operand.Known.TheVariants as known
use Rattle.ent_semantics.specs.Pool.{Posted}
use Rattle.ent_protocol.specs.Job.{Job, Joint, Done, Choice}
use Rattle.ent_examples.specs.Partners.{partners_opening, flight_122, Mickey, Minnie}
use Rattle.ent_examples.specs.Partners as partners

-- who asks, for whom, and under which answer relation
pub record Wish : Type 0 where
  pub own : Name
  pub partner : Name
  pub relation : Name

-- under the answer relations R and S
abbrev pub in_R : Name → Name → Wish
in_R own partner = record { own = own; partner = partner; relation = codes "R" }

abbrev pub in_S : Name → Name → Wish
in_S own partner = record { own = own; partner = partner; relation = codes "S" }

-- relation(name, fno)
abbrev pub flies_as : Name → Name → Atom Known
flies_as relation name =
    record { relation = relation; terms = terms.Known (known.Constant (Text name)) ∷ terms.Variable 0 ∷ [] }

-- SELECT own, fno AS @f INTO ANSWER relation WHERE (fno) IN (SELECT fno FROM Flights WHERE dest = 'LA')
-- AND (partner, fno) IN ANSWER relation CHOOSE 1
abbrev pub asks : Wish → Entangled Known
asks wish =
    record (partners.asks Mickey Minnie) {
      posts = flies_as wish.relation wish.partner ∷ [];
      heads = flies_as wish.relation wish.own ∷ [];
    }

abbrev pub wants : Wish → Entangled Value
wants wish = closed_entangled nothing_bound (asks wish)

-- a transaction whose statement at this place, in this attempt, is a wish
pub record Friend : Type 0 where
  pub tx : ℕ
  pub attempt : ℕ
  pub place : ℕ
  pub wish : Wish

-- at its first statement, in the first run
abbrev pub first_asks : ℕ → Wish → Friend
first_asks tx wish = record { tx = tx; attempt = 1; place = 1; wish = wish }

abbrev pub posted : Friend → Posted
posted friend =
    record { tx = friend.tx; attempt = friend.attempt; place = friend.place; statement = wants friend.wish }

-- the job of answering friends together, over the flights
abbrev pub joint_job : List Friend → Job
joint_job friends =
    record {
      work = Joint (map posted friends);
      tables = record {
        table = 0;
        kinds = kinds.Int ∷ kinds.Text ∷ [];
        rows = opening_database partners_opening (codes "Flights");
      } ∷ [];
    }

-- each takes flight 122, the least that goes to LA
abbrev pub joint_done : List Friend → Done
joint_done friends =
    record { job = joint_job friends; outcome = Choice (Some (map (λ friend. flight_122 ∷ []) friends)) }
