-- What the entangled statements of a run see: each is of the turn of its transaction, and stands at its place.
use Rattle.std.proofs.Common.{◌≡◌, ℕ, suc, ◌+◌, List, [], ◌∷◌, map, refl, sym, ap, subst, ◌∙◌, inl, inr, arith, Option}
use Rattle.std.proofs.Common.{Some, None, slice_get}
use Rattle.ent_tree.specs.declared.declaration.Create.{Create}
use Rattle.ent_tree.specs.declared.script.Statement.{Statement}
use Rattle.ent_tree.specs.declared.script.Statement.TheVariants as statements
use Rattle.ent_semantics.specs.Database.{Database, Environment, nothing_bound}
use Rattle.ent_semantics.specs.Serial.{Operation, Run, ReadView, Turn, operations_of, numbered, script_run}
use Rattle.ent_semantics.specs.Serial.{script_read_views}
use Rattle.ent_semantics.specs.Serial.{scripts_read_views, seen, seen_after, seen_from, read_views}
use Rattle.ent_semantics.specs.Statement.{statement_meaning}
use Rattle.ent_history.proofs.Operations.{in_after, seen_one}
use Rattle.ent_lists.specs.Elements.{In, in_either}
use Rattle.ent_lists.proofs.Numbers.{plus_zero, plus_suc}
use Rattle.ent_program_laws.proofs.Walking.{operations_so}
use Rattle.ent_program_laws.proofs.Kept.{statement_of}

-- ---- what a statement sees

in_from : (o : Option Run) (f : Database → List ReadView) (s : ReadView) → In s (seen_from o f)
    → (d : Database) × In s (f d)
in_from (Some r) f s at = (r.database, at)
in_from None f s at = absurd at

record SeenAt (tx place : ℕ) (operations : List Operation) (s : ReadView) : Type 0 where
  own : s.tx ≡ tx
  before : ℕ
  here : s.place ≡ place + before
  there : slice_get (map statement_of operations) before ≡ Some (statements.Entangled s.entangled)

-- a read view of a run: its transaction's turn, and its statement at its place
pub record SeenIn (turns : List Turn) (s : ReadView) : Type 0 where
  pub turn : Turn
  pub at : In turn turns
  pub own : s.tx ≡ turn.tx
  pub there : numbered turn.script.statements s.place ≡ Some (statements.Entangled s.entangled)

module _ (declared : List Create) where
  seen_at : (tx place : ℕ) (operations : List Operation) (d : Database) (v : Environment) (s : ReadView)
      → In s (read_views declared tx place operations d v) → SeenAt tx place operations s
  seen_at tx place [] d v s at = absurd at
  seen_at tx place (operation ∷ more) d v s at =
      let rest = read_views declared tx (suc place) more in
      let meaning = statement_meaning declared operation.statement operation.valuation d v in
      elim (in_either (seen tx place operation d v) (seen_after meaning rest) s at) [
        | inl now ↦
            let one = seen_one tx place operation.statement operation.valuation d v s now in
            record {
              own = one.own;
              before = 0;
              here = one.here ∙ plus_zero place;
              there = ap (λ x. Some x) one.is;
            }
        | inr later ↦
            let next = in_after meaning rest s later in
            let r = seen_at tx (suc place) more next.0 next.1 s next.2 in
            record {
              own = r.own;
              before = suc r.before;
              here = r.here ∙ plus_suc place r.before;
              there = r.there;
            }
      ]

  script_operations : (turn : Turn) (d : Database) (s : ReadView) → In s (script_read_views declared turn d)
      → (operations : List Operation) × (operations_of turn.script.statements turn.oracle ≡ Some operations)
      × In s (read_views declared turn.tx 1 operations d nothing_bound)
  script_operations turn d s at = by (operations_of turn.script.statements turn.oracle) refl
    where
      by : (o : Option (List Operation)) → operations_of turn.script.statements turn.oracle ≡ o
          → (operations : List Operation) × (operations_of turn.script.statements turn.oracle ≡ Some operations)
          × In s (read_views declared turn.tx 1 operations d nothing_bound)
      by (Some operations) e =
          let same : script_read_views declared turn d ≡ read_views declared turn.tx 1 operations d nothing_bound =
          rw e refl in
          (operations, e, subst (In s) same at)
      by None e =
          let same : script_read_views declared turn d ≡ [] = rw e refl in
          absurd (subst (In s) same at)

  seen_in_script : (turn : Turn) (d : Database) (s : ReadView) → In s (script_read_views declared turn d)
      → (s.tx ≡ turn.tx) × (numbered turn.script.statements s.place ≡ Some (statements.Entangled s.entangled))
  seen_in_script turn d s at =
      let x = script_operations turn d s at in
      let one = seen_at turn.tx 1 x.0 d nothing_bound s x.2 in
      let n : 1 + one.before ≡ suc one.before = omega arith in (
        one.own,
        ap (numbered turn.script.statements) (one.here ∙ n)
            ∙ ap (λ (sts : List Statement). slice_get sts one.before)
            (sym (operations_so turn.script.statements turn.oracle x.0 x.1).0)
            ∙ one.there,
      )

  pub seen_in : (turns : List Turn) (d : Database) (s : ReadView) → In s (scripts_read_views declared turns d)
      → SeenIn turns s
  seen_in [] d s at = absurd at
  seen_in (turn ∷ more) d s at =
      let rest = scripts_read_views declared more in
      let ran = script_run declared turn.script turn.oracle d in
      elim (in_either (script_read_views declared turn d) (seen_from ran rest) s at) [
        | inl now ↦
            let one = seen_in_script turn d s now in
            record { turn = turn; at = inl refl; own = one.0; there = one.1 }
        | inr later ↦
            let next = in_from ran rest s later in
            let r = seen_in more next.0 s next.1 in
            record { turn = r.turn; at = inr r.at; own = r.own; there = r.there }
      ]
