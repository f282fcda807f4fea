-- What a step says, from what was read and what can stand.
use Rattle.std.proofs.Common.{◌≡◌, ℕ, zero, suc, ◌-◌, ◌<◌, List, [], ◌∷◌, Err, Result, refl, ap, arith}
use Rattle.std.proofs.lemmas.List.{append_cancel_right}
use Rattle.ent_value.specs.declared.refusal.Refusal.{Refusal}
use Rattle.ent_value.specs.declared.refusal.Refusal.TheVariants.{Memory, Fault}
use Rattle.ent_book.specs.Report.{line}
use Rattle.ent_text.specs.declared.line_fault.LineFault.{LineFault}
use Rattle.ent_history.specs.Draft.{Draft, Due, rows_due}
use Rattle.ent_report_reader.specs.Judging.{Judges}
use Rattle.ent_report_reader.specs.Reading.{Reads}

abbrev pub refusing : {A : Type 0} → Refusal LineFault → Result A (Refusal LineFault)
refusing refusal = Err refusal

pub refused : {A : Type 0} (B : Type 0) (is : A → Type 0) (stands : Draft → Type 0) (old : Draft)
    (refusal : Refusal LineFault)
    → Reads is (refusing {A = A} refusal) → ((next : Draft) → stands next → (x : A) × is x)
    → Judges stands old (refusing {A = B} refusal) old
refused B is stands old Memory reads has = tt
refused B is stands old (Fault fault) reads has = (λ next s. let x = has next s in reads x.0 x.1, refl)

pub for_memory : (B : Type 0) (stands : Draft → Type 0) (old new : Draft) (refusal : Refusal LineFault)
    → refusal ≡ Memory → Judges stands old (refusing {A = B} refusal) new
for_memory B stands old new Memory h = tt
for_memory B stands old new (Fault fault) h = cc

pub same_line : (one other : List ℕ) → line one ≡ line other → one ≡ other
same_line one other h = append_cancel_right one other (10 ∷ []) h

pub rows_due_more : (rows : ℕ → Due) (n : ℕ) → 0 < n → rows (n - 1) ≡ rows_due rows n
rows_due_more rows zero h = absurd (omega (arith, h))
rows_due_more rows (suc n) h = let e : suc n - 1 ≡ n = omega arith in ap rows e
