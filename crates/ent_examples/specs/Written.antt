-- The statements of the plays as they are written.
use Rattle.std.specs.Prelude.{[], ◌∷◌, Some, None, codes}
use Rattle.ent_value.specs.declared.value.Value.{Value}
use Rattle.ent_value.specs.declared.value.Value.TheVariants.{Text}
use Rattle.ent_tree.specs.declared.entangled.Condition.TheVariants.{InSelect, InAnswer}
use Rattle.ent_tree.specs.declared.entangled.Term.{Term}
use Rattle.ent_tree.specs.declared.entangled.Term.TheVariants as terms
use Rattle.ent_tree.specs.declared.operand.Comparison.TheVariants.{Equal}
use Rattle.ent_tree.specs.declared.operand.Literal.{Literal}
use Rattle.ent_tree.specs.declared.operand.Operand.{Operand}
use Rattle.ent_tree.specs.declared.operand.Operand.TheVariants as operands
use Rattle.ent_tree.specs.declared.operand.ValueSpecification.TheVariants as specifications
use Rattle.ent_tree.specs.declared.script.Statement.{Statement}
use Rattle.ent_tree.specs.declared.script.Statement.TheVariants as statements
use Rattle.ent_tree.specs.declared.select.Items.TheVariants.{All, Listed}
use Rattle.ent_tree.specs.declared.select.Select.{Select}
use Rattle.ent_semantics.specs.Database.{Name}
use Rattle.ent_examples.specs.Partners.{LA}
use Rattle.ent_examples.specs.Writers.{named}
use Rattle.ent_examples.specs.Wish.{Wish}

abbrev pub literal : Value → Literal
literal value = record { value = value; place = 0 }

abbrev pub written : Name → Term
written name = terms.Value (specifications.Literal (literal (Text name)))

abbrev pub fno : Term
fno = terms.Variable (named (codes "fno"))

abbrev pub column : Name → Operand
column name = operands.Column (record { qualifier = None; column = named name })

-- SELECT fno FROM Flights WHERE dest = 'LA'
abbrev pub to_LA : Select
to_LA =
    record {
      items = Listed (column (codes "fno") ∷ []);
      sources = record { table = named (codes "Flights"); alias = None } ∷ [];
      tests = record {
        left = column (codes "dest");
        comparison = Equal;
        right = operands.Value (specifications.Literal (literal LA));
      } ∷ [];
    }

-- SELECT own, fno AS @f INTO ANSWER relation WHERE (fno) IN (SELECT fno FROM Flights WHERE dest = 'LA')
-- AND (partner, fno) IN ANSWER relation CHOOSE 1
abbrev pub asks_written : Wish → Statement
asks_written wish =
    statements.Entangled (record {
      items = record { term = written wish.own; binds = None }
          ∷ record { term = fno; binds = Some (named (codes "f")) } ∷ [];
      place = 0;
      relations = named wish.relation ∷ [];
      conditions = InSelect (record { place = 0; terms = fno ∷ [] }) to_LA
          ∷ InAnswer (record { place = 0; terms = written wish.partner ∷ fno ∷ [] }) (named wish.relation) ∷ [];
    })

-- INSERT INTO Bookings VALUES (name, @f)
abbrev pub books_written : Name → Statement
books_written name =
    statements.Insert (record {
      table = named (codes "Bookings");
      place = 0;
      values = specifications.Literal (literal (Text name))
          ∷ specifications.HostVariable (named (codes "f")) ∷ [];
    })

-- SELECT * FROM Bookings
abbrev pub reads_written : Statement
reads_written =
    statements.Select (record {
      items = All;
      sources = record { table = named (codes "Bookings"); alias = None } ∷ [];
      tests = [];
    })
