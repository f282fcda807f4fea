-- Two friends who want to fly to LA on one flight.
use Rattle.std.specs.Prelude.{ℕ, pos, List, [], ◌∷◌, None, codes}
use Rattle.ent_value.specs.declared.value.Kind.TheVariants as kinds
use Rattle.ent_value.specs.declared.value.Value.{Value}
use Rattle.ent_value.specs.declared.value.Value.TheVariants.{Int, Text}
use Rattle.ent_tree.specs.declared.declaration.Opening.{Opening}
use Rattle.ent_tree.specs.declared.entangled.Condition.TheVariants.{InSelect, InAnswer}
use Rattle.ent_tree.specs.declared.entangled.Entangled.{Entangled}
use Rattle.ent_tree.specs.declared.entangled.Term.{Term}
use Rattle.ent_tree.specs.declared.entangled.Term.TheVariants as terms
use Rattle.ent_tree.specs.declared.operand.ValueSpecification.TheVariants as specifications
use Rattle.ent_tree.specs.declared.script.End.TheVariants.{Commit}
use Rattle.ent_tree.specs.declared.script.Script.{Script}
use Rattle.ent_tree.specs.declared.script.Statement.TheVariants as statements
use Rattle.ent_semantics.specs.declared.answer.Answer.TheVariants as answers
use Rattle.ent_semantics.specs.declared.answer.Fact.{Fact}
use Rattle.ent_semantics.specs.declared.book.Book.{Book}
use Rattle.ent_semantics.specs.declared.book.Fate.TheVariants.{Committed, GaveUp}
use Rattle.ent_semantics.specs.declared.book.JointAnswer.{JointAnswer}
use Rattle.ent_semantics.specs.declared.book.Member.{Member}
use Rattle.ent_semantics.specs.Database.{Name, Database, opening_database}
use Rattle.ent_examples.specs.Partners.{LA, Mickey, Minnie, flight, flight_122}
use Rattle.ent_examples.specs.Writers.{named}
use Rattle.ent_examples.specs.Written.{literal, to_LA}

abbrev pub written : Value → Term
written value = terms.Value (specifications.Literal (literal value))

abbrev pub variable : Name → Term
variable name = terms.Variable (named name)

abbrev pub flight_136 : Value
flight_136 = Int (pos 136)

-- CREATE TABLE Flights (fno INT, dest TEXT); flights 122 and 123 go to LA, 136 to Paris
abbrev pub friends_opening : Opening
friends_opening =
    record {
      tables = record {
        name = named (codes "Flights");
        columns = record { name = named (codes "fno"); kind = kinds.Int }
            ∷ record { name = named (codes "dest"); kind = kinds.Text } ∷ [];
      } ∷ [];
      rows = flight flight_122 LA ∷ flight (Int (pos 123)) LA ∷ flight flight_136 (Text (codes "Paris")) ∷ [];
    }

-- SELECT own, fno INTO ANSWER R WHERE (fno) IN (SELECT ..) AND (partner, fno) IN ANSWER R CHOOSE 1
abbrev pub flies_with : Value → Value → Entangled
flies_with own partner =
    record {
      items = record { term = written own; binds = None }
          ∷ record { term = variable (codes "fno"); binds = None } ∷ [];
      place = 0;
      relations = named (codes "R") ∷ [];
      conditions = InSelect (record { place = 0; terms = variable (codes "fno") ∷ [] }) to_LA
          ∷ InAnswer (record { place = 0; terms = written partner ∷ variable (codes "fno") ∷ [] }) (named (codes "R"))
          ∷ [];
    }

-- BEGIN TRANSACTION; entangled; COMMIT;
abbrev pub alone : Entangled → Script
alone entangled = record { within = 8; statements = statements.Entangled entangled ∷ []; end = Commit }

abbrev pub friends_scripts : List Script
friends_scripts = alone (flies_with Mickey Minnie) ∷ alone (flies_with Minnie Mickey) ∷ []

-- R(name, flight)
abbrev pub flies : Value → Value → Fact
flies name number = record { relation = codes "R"; values = name ∷ number ∷ [] }

-- both have committed, each answered with a flight, and these are the joint answers
abbrev pub friends_book : Value → List JointAnswer → Book Database
friends_book number joint_answers =
    record {
      opening = friends_opening;
      scripts = friends_scripts;
      journal = record { tx = 1; answers = answers.Heads (flies Mickey number ∷ []) ∷ [] }
          ∷ record { tx = 2; answers = answers.Heads (flies Minnie number ∷ []) ∷ [] } ∷ [];
      joint_answers = joint_answers;
      fates = record { tx = 1; fate = Committed 1 1 } ∷ record { tx = 2; fate = Committed 2 1 } ∷ [];
      database = opening_database friends_opening;
    }

-- a member whose only variable has this value
abbrev pub takes : ℕ → Value → Member
takes tx number = record { tx = tx; place = 1; grounding = number ∷ [] }

abbrev pub together : Value → JointAnswer
together number = record { members = takes 1 number ∷ takes 2 number ∷ [] }

-- the two are answered together with flight 122
abbrev pub good_book : Book Database
good_book = friends_book flight_122 (together flight_122 ∷ [])

-- each is answered alone, the post of one being met by the answer of the other
abbrev pub answered_apart : Book Database
answered_apart =
    friends_book flight_122
    (record { members = takes 1 flight_122 ∷ [] } ∷ record { members = takes 2 flight_122 ∷ [] } ∷ [])

-- they are answered with flight 136, which goes to Paris
abbrev pub answered_elsewhere : Book Database
answered_elsewhere = friends_book flight_136 (together flight_136 ∷ [])

-- the second stands in no joint answer
abbrev pub left_out : Book Database
left_out = friends_book flight_122 (record { members = takes 1 flight_122 ∷ [] } ∷ [])

-- they stand in two joint answers
abbrev pub answered_twice : Book Database
answered_twice = friends_book flight_122 (together flight_122 ∷ together flight_122 ∷ [])

-- the first committed without its partner
abbrev pub widowed : Book Database
widowed =
    record good_book {
      journal = record { tx = 1; answers = answers.Heads (flies Mickey flight_122 ∷ []) ∷ [] } ∷ [];
      fates = record { tx = 1; fate = Committed 1 1 } ∷ record { tx = 2; fate = GaveUp 8 } ∷ [];
    }
