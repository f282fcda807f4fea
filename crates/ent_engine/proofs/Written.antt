-- What is out is the report of the input, and after a failing write a beginning of it.
use Rattle.std.proofs.Common.{◌≡◌, ℕ, List, ◌++◌, Option, Some, None, ◌∙◌, subst}
use Rattle.std.specs.Prelude.{IfSome}
use Rattle.std.specs.Io.KnownBytes.{Appends}
use Rattle.ent_tree.specs.declared.script.Input.{Input}
use Rattle.ent_semantics.specs.declared.book.Book.{Book}
use Rattle.ent_semantics.specs.Database.{Database}
use Rattle.ent_form.specs.InputFault.{input_fault}
use Rattle.ent_book.specs.Version.{text_of}
use Rattle.ent_sched.specs.Play.{IsBookOf}
use Rattle.ent_book.specs.declared.version.ReportVersion.{ReportVersion}
use Rattle.ent_input.specs.Reading.{IsInput, IsRead}
use Rattle.ent_engine.specs.Io.{WritesBeginning, WritesReport}
use Rattle.ent_engine.specs.declared.fault.RunFault.TheVariants.{WriteFault}

-- the bytes that were read are all that the reader had
read_all : (all bytes slice : List ℕ) (input : Input) → bytes ≡ all → slice ≡ bytes → IsRead slice input
    → input_fault input.opening input.scripts ≡ None → IsInput all input
read_all all bytes slice input whole is reads formed =
    record { read = subst (λ (bs : List ℕ). IsRead bs input) (is ∙ whole) reads; formed = formed }

pub wrote_report : (version : ReportVersion) (remaining old new : Option (List ℕ)) (bytes slice : List ℕ)
    (book : Book Database) (input : Input)
    → IfSome remaining (λ all. bytes ≡ all) → slice ≡ bytes → IsRead slice input
    → input_fault input.opening input.scripts ≡ None → IsBookOf input book → Appends old new (text_of version book)
    → IfSome remaining (λ bytes. WritesReport version bytes old new)
wrote_report version None old new bytes slice book input whole is reads formed of out = tt
wrote_report version (Some all) old new bytes slice book input whole is reads formed of out =
    (input, book, read_all all bytes slice input whole is reads formed, of, out)

pub wrote_beginning : (version : ReportVersion) (remaining old new : Option (List ℕ)) (bytes slice : List ℕ)
    (book : Book Database) (input : Input) → IfSome remaining (λ all. bytes ≡ all) → slice ≡ bytes → IsRead slice input
    → input_fault input.opening input.scripts ≡ None → IsBookOf input book
    → (front rest : List ℕ) × (text_of version book ≡ front ++ rest) × Appends old new front
    → IfSome remaining (λ bytes. WritesBeginning version bytes old new WriteFault)
wrote_beginning version None old new bytes slice book input whole is reads formed of out = tt
wrote_beginning version (Some all) old new bytes slice book input whole is reads formed of out =
    (input, book, read_all all bytes slice input whole is reads formed, of, out)
