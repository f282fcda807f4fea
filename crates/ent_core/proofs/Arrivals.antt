-- Who is dormant was submitted, and stands once in the list.
use Rattle.std.proofs.Common.{◌≡◌, ◌<◌, ◌≤◌, ℕ, ◌+◌, false, Bool, List, [], ◌∷◌, ◌++◌, length, map, sym, ap, subst}
use Rattle.std.proofs.Common.{◌∙◌, arith, nat_eq, length-append}
use Rattle.std.specs.List.{AllByRecursion, IsDistinct}
use Rattle.ent_tree.specs.declared.declaration.Opening.{Opening}
use Rattle.ent_form.specs.declared.catalogue.TableSchema.{TableSchema}
use Rattle.ent_protocol.specs.State.{State, Submitted, Dormant, Member, members}
use Rattle.ent_run.specs.Run.{Run}
use Rattle.ent_members.specs.TransactionTable.{TransactionTable}
use Rattle.ent_protocol_laws.specs.Attempts.{AsksForRun}
use Rattle.ent_semantics.specs.Pool.{Posted}
use Rattle.ent_tables.specs.Stored.{Stored}
use Rattle.ent_lists.specs.Elements.{in_contains, in_first, in_second, to_all, to_map}
use Rattle.ent_lists.proofs.Numbers.{eq_below}
use Rattle.ent_protocol_laws.specs.Standing.{StandOnce, standing}
use Rattle.ent_waits.specs.Pooled.{IsPoolOf}
use Rattle.ent_core.specs.Store.{IsKept}

abbrev IsWithin : ℕ → Dormant → Type 0
IsWithin most own = own.tx ≤ most

later : (most : ℕ) (dormant : List Dormant) → AllByRecursion (IsWithin most) dormant
    → AllByRecursion (IsWithin (most + 1)) dormant
later most [] all = tt
later most (own ∷ more) all = (omega (arith, all.0), later most more all.1)

arrived_last : (most : ℕ) (dormant : List Dormant) (last : Dormant) → AllByRecursion (IsWithin most) dormant
    → IsWithin most last → AllByRecursion (IsWithin most) (dormant ++ last ∷ [])
arrived_last most [] last all within = (within, tt)
arrived_last most (own ∷ more) last all within = (all.0, arrived_last most more last all.1 within)

abbrev numbers : List Dormant → List ℕ
numbers dormant = map (λ own. own.tx) dormant

-- one that stood before the last stands there no more than once
once_more : (n : ℕ) (dormant : List Dormant) (last : Dormant)
    → AllByRecursion (λ m. nat_eq n m ≡ false) (numbers dormant)
    → n < last.tx → AllByRecursion (λ m. nat_eq n m ≡ false) (numbers (dormant ++ last ∷ []))
once_more n [] last all less = (eq_below n last.tx less, tt)
once_more n (own ∷ more) last all less = (all.0, once_more n more last all.1 less)

distinct_last : (most : ℕ) (dormant : List Dormant) (last : Dormant) → AllByRecursion (IsWithin most) dormant
    → most < last.tx → IsDistinct nat_eq (numbers dormant) → IsDistinct nat_eq (numbers (dormant ++ last ∷ []))
unfolding IsDistinct
distinct_last most [] last all less distinct = (tt, tt)
distinct_last most (own ∷ more) last all less distinct =
    let first : own.tx ≤ most = all.0 in
    let before : own.tx < last.tx = omega arith in
    (once_more own.tx more last distinct.0 before, distinct_last most more last all.1 less distinct.1)

asks_last : (submitted : List Submitted) (own : Submitted) → AllByRecursion AsksForRun submitted → AsksForRun own
    → AllByRecursion AsksForRun (submitted ++ own ∷ [])
asks_last [] own all asks = (asks, tt)
asks_last (first ∷ more) own all asks = (all.0, asks_last more own all.1 asks)

-- one script more, and who waits for a run with it
pub kept_submitted : (schemas : List TableSchema) (opening : Opening) (submitted submitted' : List Submitted)
    (transaction_table transaction_table' : TransactionTable) (running : Bool) (run : Run) (stored : Stored)
    (posted : List Posted) (own : Submitted)
    (last : Dormant) → IsKept schemas opening submitted transaction_table running run stored posted → AsksForRun own
    → submitted' ≡ submitted ++ own ∷ []
    → transaction_table' ≡ record transaction_table {
      dormant = transaction_table.dormant
          ++ last ∷ [];
      known = transaction_table.known + 1;
    }
    → last.tx ≡ length submitted + 1 → IsPoolOf submitted' run.active posted
    → IsKept schemas opening submitted' transaction_table' running run stored posted
kept_submitted schemas opening submitted submitted' transaction_table transaction_table' running run stored posted own
    last kept asks more is
    next pooled =
    let dormant = transaction_table.dormant in
    let now : transaction_table'.dormant ≡ dormant ++ last ∷ [] = ap (λ (r : TransactionTable). r.dormant) is in
    let counted : transaction_table'.known ≡ transaction_table.known + 1 = ap (λ (r : TransactionTable). r.known) is in
    let n : length submitted' ≡ length submitted + 1 = ap length more ∙ length-append submitted (own ∷ []) in
    let A : List Dormant → Type 0 = λ all. AllByRecursion (λ (one : Dormant). one.tx ≤ length submitted') all in
    let D : List Dormant → Type 0 = λ all. IsDistinct nat_eq (numbers all) in
    let within : AllByRecursion (IsWithin (length submitted')) dormant =
    subst (λ (most : ℕ). AllByRecursion (IsWithin most) dormant) (sym n) (later (length submitted) dormant
    kept.arrived) in
    record {
      declared = kept.declared;
      formed = kept.formed;
      kinds = kept.kinds;
      asks = subst (λ all. AllByRecursion AsksForRun all) (sym more) (asks_last submitted own kept.asks asks);
      known = counted ∙ ap (λ k. k + 1) kept.known ∙ sym n;
      arrived = subst A (sym now) (arrived_last (length submitted') dormant last within (omega arith));
      distinct = subst D (sym now) (distinct_last (length submitted) dormant last kept.arrived (omega arith)
          kept.distinct);
      idle_prepared = kept.idle_prepared;
      idle_active = kept.idle_active;
      posted = pooled;
    }

-- where transactions stand once, each member was submitted
pub active_arrived : (s : State) → StandOnce s → AllByRecursion (λ (m : Member). m.tx ≤ length s.submitted) s.active
active_arrived s once =
    to_all (λ (m : Member). m.tx ≤ length s.submitted) s.active (λ m at.
    ((once.submitted m.tx).0 (in_contains (standing s) m.tx
    (in_first (map (λ (x : Member). x.tx) (members s)) _ m.tx
    (to_map (λ (x : Member). x.tx) (members s) m (in_second s.prepared s.active m at))))).1)
