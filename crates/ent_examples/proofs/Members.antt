-- Members as they come to stand.
use Rattle.std.proofs.Common.{ℕ, false, [], ◌∷◌}
use Rattle.std.specs.Prelude.{codes}
use Rattle.ent_value.specs.declared.value.Value.{Value}
use Rattle.ent_value.specs.declared.value.Value.TheVariants.{Text}
use Rattle.ent_semantics.specs.declared.statement.Statement.{Statement}
use Rattle.ent_semantics.specs.declared.statement.Statement.TheVariants as forms
use Rattle.ent_semantics.specs.Database.{Name}
use Rattle.ent_semantics.specs.declared.answer.Answer.TheVariants as answers
use Rattle.ent_protocol.specs.Begin.{holding, lending}
use Rattle.ent_protocol.specs.Finish.{finished, stepped}
use Rattle.ent_protocol.specs.Job.{Changed}
use Rattle.ent_protocol.specs.Run.{fresh as started}
use Rattle.ent_protocol.specs.State.{State, Member}
use Rattle.ent_protocol.specs.Uses.{shared, exclusive}
use Rattle.ent_examples.specs.Partners.{flight_122}
use Rattle.ent_examples.specs.Wish.{Wish}

-- at its first statement, in this attempt
abbrev pub fresh : ℕ → ℕ → Member
fresh tx attempt = record (started (record { tx = tx; runs = 0 })) { attempt = attempt }

-- its first statement was answered with flight 122, and it is of the group of this label
abbrev pub answered : ℕ → ℕ → ℕ → Wish → Member
answered tx attempt group wish =
    record {
      tx = tx;
      attempt = attempt;
      group = group;
      place = 2;
      bound = (codes "f", flight_122) ∷ [];
      answers = answers.Heads (record { relation = wish.relation; values = Text wish.own ∷ flight_122 ∷ [] } ∷ []) ∷ [];
      uses = shared 0 ∷ [];
      posted = false;
    }

-- INSERT INTO Bookings VALUES (name, 122)
abbrev pub books : Name → Statement Value
books name = forms.Insert 1 (Text name ∷ flight_122 ∷ [])

abbrev pub holds : Member → Member
holds member = holding member (exclusive 1 ∷ [])

abbrev pub booked : Member → Member
booked member = stepped (answers.Count 1) (holds member)

-- its INSERT of its name is lent, and its result taken: the row is new
abbrev pub books_in : State → Member → Name → State
books_in s member name =
    finished (record (lending s member (books name)) { lent = [] }) (holds member) (books name)
    (Changed 1 [] ((Text name ∷ flight_122 ∷ []) ∷ []))
