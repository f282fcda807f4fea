-- Committed transactions leave tables of the declared kinds.
use Rattle.std.proofs.Common.{◌≡◌, List, None, sym, ap, subst, ◌∙◌}
use Rattle.ent_tree.specs.declared.declaration.Opening.{Opening}
use Rattle.ent_tree.specs.declared.script.Script.{Script}
use Rattle.ent_semantics.specs.Database.{Database}
use Rattle.ent_semantics.specs.declared.book.Book.{Book}
use Rattle.ent_form.specs.OpeningFault.{opening_fault}
use Rattle.ent_form.proofs.Opened.{declared_once}
use Rattle.ent_protocol.specs.Reached.{IsFinishedBook, IsReached, settled, table_names, named_tables}
use Rattle.ent_protocol.specs.State.{State}
use Rattle.ent_protocol_laws.proofs.Books.{named_same}
use Rattle.ent_headline.specs.Kinds.{HasSettledKinds, HoldsKinds}
use Rattle.ent_headline.specs.Resolved.{resolved_forms}
use Rattle.ent_renewal.specs.Renewal.{HoldsTablesOf}
use Rattle.ent_renewal.proofs.Names.{held_tables}

pub settled_held : (s : State) → HasSettledKinds s → opening_fault s.opening ≡ None
    → HoldsTablesOf s.opening.tables (named_tables (table_names s.opening) (settled s))
settled_held s kinds e =
    let creates = s.opening.tables in
    subst (HoldsTablesOf creates) (sym kinds.same ∙ (λ i name. sym (named_same creates (settled s) name) i))
    (held_tables creates kinds.tables (declared_once s.opening e) kinds.kinded)

pub book_held : ((s : State) → opening_fault s.opening ≡ None → IsReached resolved_forms s → HoldsKinds s)
    → (opening : Opening) (scripts : List Script) (book : Book Database)
    → opening_fault opening ≡ None → IsFinishedBook resolved_forms opening scripts book
    → HoldsTablesOf opening.tables book.database
book_held kinded opening scripts book e finished =
    let s = finished.last in
    let formed : opening_fault s.opening ≡ None = ap opening_fault finished.of_opening ∙ e in
    subst (λ (o : Opening). HoldsTablesOf o.tables book.database) finished.of_opening
    (subst (λ (b : Book Database). HoldsTablesOf s.opening.tables b.database) (sym finished.is)
    (settled_held s (kinded s formed finished.finished.reached).tables formed))
