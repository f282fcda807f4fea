-- Scripts of written statements, which the product's own forms resolve to the statements of the plays.
use Rattle.std.specs.Prelude.{◌≡◌, ℕ, List, [], ◌∷◌, Ok, None, codes, refl}
use Rattle.ent_tree.specs.declared.script.End.{End}
use Rattle.ent_tree.specs.declared.script.End.TheVariants.{Commit}
use Rattle.ent_tree.specs.declared.script.Script.{Script}
use Rattle.ent_tree.specs.declared.script.Statement.{Statement}
use Rattle.ent_semantics.specs.Database.{Name}
use Rattle.ent_form.specs.Entangled.{entangled_in, membership_in, item_in, post_in}
use Rattle.ent_form.specs.Form.{statement_in}
use Rattle.ent_form.specs.OpeningFault.{opening_fault}
use Rattle.ent_form.specs.Lookup.{test_in}
use Rattle.ent_form.specs.Ordinary.{select_in, tests_in, insert_in}
use Rattle.ent_form.specs.declared.fault.FormFault.{FormFault}
use Rattle.ent_protocol.specs.Event.{Event, Reply}
use Rattle.ent_protocol.specs.Play.{Plays}
use Rattle.ent_protocol.specs.Reached.{IsReached, opened}
use Rattle.ent_protocol.specs.State.{State}
use Rattle.ent_headline.specs.Resolved.{resolved_forms}
use Rattle.ent_examples.specs.Partners.{Partners, partners_opening, committing_script, reads_form}
use Rattle.ent_examples.specs.HeldBack.{mickey, minnie}
use Rattle.ent_examples.specs.Scripts.{ScriptOf, asks_form, books_form}
use Rattle.ent_examples.specs.Wish.{Wish}
use Rattle.ent_examples.specs.Written.{asks_written, books_written, reads_written}

abbrev pub script_of : ℕ → List Statement → End → Script
script_of within statements end = record { within = within; statements = statements; end = end }

-- an entangled statement alone
pub asks_resolve : (within : ℕ) (wish : Wish) (end : End)
    → resolved_forms.resolve partners_opening (script_of within (asks_written wish ∷ []) end)
    ≡ Ok (asks_form wish ∷ [])
unfolding statement_in entangled_in membership_in select_in tests_in test_in item_in post_in
asks_resolve within wish end = refl

abbrev pub posted : (within : ℕ) (wish : Wish) (end : End) → ScriptOf resolved_forms within (asks_form wish ∷ []) end
posted within wish end =
    record { statements = asks_written wish ∷ []; resolves = asks_resolve within wish end }

-- and then an INSERT of what it bound
pub books_resolve : (within : ℕ) (wish : Wish) (name : Name) (end : End)
    → resolved_forms.resolve partners_opening (script_of within (asks_written wish ∷ books_written name ∷ []) end)
    ≡ Ok (asks_form wish ∷ books_form name ∷ [])
unfolding statement_in entangled_in membership_in select_in tests_in test_in item_in post_in insert_in
books_resolve within wish name end = refl

abbrev pub booking : (within : ℕ) (wish : Wish) (name : Name) (end : End)
    → ScriptOf resolved_forms within (asks_form wish ∷ books_form name ∷ []) end
booking within wish name end =
    record {
      statements = asks_written wish ∷ books_written name ∷ [];
      resolves = books_resolve within wish name end;
    }

-- two partners, and who reads their bookings
pub reads_resolve : resolved_forms.resolve partners_opening (committing_script (reads_written ∷ [])) ≡ Ok reads_form
unfolding statement_in select_in tests_in
reads_resolve = refl

abbrev pub partners : Partners resolved_forms
partners =
    record {
      first = asks_written mickey ∷ books_written (codes "Mickey") ∷ [];
      first_is = books_resolve 8 mickey (codes "Mickey") Commit;
      second = asks_written minnie ∷ books_written (codes "Minnie") ∷ [];
      second_is = books_resolve 8 minnie (codes "Minnie") Commit;
      reader = reads_written ∷ [];
      reader_is = reads_resolve;
    }

-- Events lead, with these replies, from the partners' opening to a state that is reached by the product's own forms
-- over an opening without a fault.
pub record LeadTo (events : List (Event × Reply FormFault)) (last : State) : Type 0 where
  pub plays : Plays resolved_forms (opened partners_opening) events last
  pub faultless : opening_fault last.opening ≡ None
  pub reached : IsReached resolved_forms last
