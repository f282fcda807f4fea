-- Joint answers are good over the runs that give the present tables.
use Rattle.std.specs.Prelude.{List, [], ◌∷◌, ◌++◌, Contains}
use Rattle.ent_tree.specs.declared.declaration.Create.{Create}
use Rattle.ent_semantics.specs.declared.book.JointAnswer.{JointAnswer}
use Rattle.ent_semantics.specs.Database.{Database, nothing_bound, opening_database}
use Rattle.ent_semantics.specs.Joint.{IsGood}
use Rattle.ent_semantics.specs.Serial.{ReadView, run, read_views, seen_from}
use Rattle.ent_protocol.specs.State.{State}
use Rattle.ent_protocol_laws.specs.History.{History}
use Rattle.ent_protocol_laws.specs.SerialState.{IsSerialState}

-- what the entangled statements of members see that run one after the other
abbrev pub histories_read_views : List Create → List History → Database → List ReadView
histories_read_views declared [] first = []
histories_read_views declared (history ∷ more) first =
    read_views declared history.member.tx 1 history.operations first nothing_bound
    ++ seen_from (run declared history.operations first nothing_bound) (histories_read_views declared more)

-- those of a serial state: the committed transactions, then the prepared members, then the others
abbrev pub state_read_views : (s : State) → IsSerialState s → List ReadView
state_read_views s serial =
    histories_read_views s.opening.tables (serial.committed ++ (serial.prepared ++ serial.others))
    (opening_database s.opening)

-- each joint answer that was made and not rolled back is good over them
abbrev pub AnswersAreGood : State → Type 0
AnswersAreGood s =
    (serial : IsSerialState s)
    × ((joint : JointAnswer) → Contains s.joints joint
    → IsGood s.opening.tables (state_read_views s serial) joint.members)
