use Rattle.std.proofs.Common.{◌≡◌, ◌∙◌, ap, subst, sym, List, Option, Some, None, Bor}
use Rattle.std.specs.Prelude.{◌≢◌}
use Rattle.std.specs.List.{AllByRecursion}
use Rattle.std.specs.Option.{option_copied}
use Rattle.ent_core.specs.Passed.{resolved_forms}
use Rattle.ent_protocol.specs.Lookup.{entry_at, standing}
use Rattle.ent_semantics.specs.declared.answer.Answer.{Answer}
use Rattle.ent_semantics.specs.declared.book.Entry.{Entry}
use Rattle.ent_semantics.specs.declared.book.Fate.TheVariants.{Committed}
use Rattle.ent_desk.specs.Receipts.{IsJournalReceipt}
use Rattle.ent_desk.specs.Seen.{DeskState}
use Rattle.ent_desk.specs.Told.{fate_in}
use Rattle.ent_desk.proofs.InJournal.{has_entry, has_none, journal_receipt}
use Rattle.ent_desk.proofs.desk.Desk.receipt_of.Goals as goal

pub returns-in_default : goal.returns-in_default
returns-in_default g c =
    let i = c.self.inside in
    let tx = c.args.tx in
    let right = c.resolved_journals_fit_the_fates.ensures i.core c.is_reached.ensures.formed
    c.is_reached.ensures.reached in
    let once = c.transactions_stand_once.ensures.once resolved_forms i.core c.is_reached.ensures.reached in
    subst (λ (d : DeskState). AllByRecursion (λ (entry : Entry). entry.tx ≢ tx) d.core.journal) c.self.view_is
    (has_none i.core tx right once (λ number runs told.
    c.in_default.not-Some (Committed number runs)
    (c.fate.ensures ∙ sym (ap (λ (d : DeskState). fate_in (standing d.core tx)) c.self.view_is) ∙ told)))

pub returns-in_default-fate : goal.returns-in_default-fate
returns-in_default-fate g c =
    let i = c.self.inside in
    let tx = c.args.tx in
    let right = c.resolved_journals_fit_the_fates.ensures i.core c.is_reached.ensures.formed
    c.is_reached.ensures.reached in
    let once = c.transactions_stand_once.ensures.once resolved_forms i.core c.is_reached.ensures.reached in
    subst (λ (d : DeskState). AllByRecursion (λ (entry : Entry). entry.tx ≢ tx) d.core.journal) c.self.view_is
    (has_none i.core tx right once (λ number runs told.
    let both : Some c.in-Some.fate ≡ Some (Committed number runs) =
    sym c.in-Some.is ∙ c.fate.ensures ∙ sym (ap (λ (d : DeskState). fate_in (standing d.core tx)) c.self.view_is)
    ∙ told in
    c.in_default-fate.not-Committed number runs cc))

pub unreachable-requires : goal.unreachable-requires
unreachable-requires g c =
    let i = c.self.inside in
    let tx = c.args.tx in
    let own = c.in-Committed in
    let right = c.resolved_journals_fit_the_fates.ensures i.core c.is_reached.ensures.formed
    c.is_reached.ensures.reached in
    let told : fate_in (standing i.core tx) ≡ Some (Committed own.number own.runs) =
    ap (λ (d : DeskState). fate_in (standing d.core tx)) c.self.view_is ∙ sym c.fate.ensures ∙ c.in-Some.is
    ∙ ap Some own.is in
    let there = has_entry i.core tx right own.number own.runs told in
    let none : entry_at i.core own.number ≡ None =
    sym c.entry.ensures ∙ ap (λ (o : Option (Bor Entry)). option_copied o) c.in-None.is in
    let wrong : Some there.0 ≡ None = sym there.1 ∙ none in
    cc

pub returns : goal.returns
returns g c =
    let i = c.self.inside in
    let tx = c.args.tx in
    let own = c.in-Committed in
    let entry = c.in-Some-entry.entry.now in
    let right = c.resolved_journals_fit_the_fates.ensures i.core c.is_reached.ensures.formed
    c.is_reached.ensures.reached in
    let told : fate_in (standing i.core tx) ≡ Some (Committed own.number own.runs) =
    ap (λ (d : DeskState). fate_in (standing d.core tx)) c.self.view_is ∙ sym c.fate.ensures ∙ c.in-Some.is
    ∙ ap Some own.is in
    let at : entry_at i.core own.number ≡ Some entry =
    sym c.entry.ensures ∙ ap (λ (o : Option (Bor Entry)). option_copied o) c.in-Some-entry.is in
    let got = c.in_ok-answers-in-Some-entry.answers in
    let answers : entry.answers ≡ got = sym (c.in_ok-answers-in-Some-entry.ensures ∙ c.as_slice.ensures) in
    subst (λ (d : DeskState).
    IsJournalReceipt d.core tx (record { number = own.number; tx = tx; runs = own.runs; answers = got })) c.self.view_is
    (subst (λ (l : List Answer).
    IsJournalReceipt i.core tx (record { number = own.number; tx = tx; runs = own.runs; answers = l })) answers
    (journal_receipt i.core tx right own.number own.runs entry told at))
