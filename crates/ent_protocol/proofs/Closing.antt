-- Closing gives the book where no run is on and nothing is dormant.
use Rattle.std.proofs.Common.{◌≡◌, ◌↔◌, Bool, true, false, List, [], ◌∷◌, Some, None, refl, sym, ap, ◌∙◌}
use Rattle.ent_tree.specs.declared.declaration.Opening.{Opening}
use Rattle.ent_tree.specs.declared.script.Script.{Script}
use Rattle.ent_semantics.specs.declared.book.Book.{Book}
use Rattle.ent_semantics.specs.Database.{Database}
use Rattle.ent_protocol.specs.Reached.{CanClose, IsFinishedBook, IsReached, book_of, book_unless, closing, scripts_of}
use Rattle.ent_protocol.specs.Run.{Forms}
use Rattle.ent_protocol.specs.State.{State, Dormant}

same_book : (x y : Book Database) → Some x ≡ Some y → x ≡ y
same_book x y h = cc

no_book : (book : Book Database) → None ≡ Some book → ⊥
no_book book h = cc

-- what was given is the whole book
shut : (running : Bool) (dormant : List Dormant) (whole book : Book Database)
    → book_unless running dormant whole ≡ Some book → ((running ≡ false) × (dormant ≡ [])) × (book ≡ whole)
shut true dormant whole book h = absurd (no_book book h)
shut false [] whole book h = ((refl, refl), sym (same_book whole book h))
shut false (first ∷ more) whole book h = absurd (no_book book h)

pub gives : (s : State) (book : Book Database) → s.running ≡ false → s.dormant ≡ [] → book ≡ book_of s
    → closing s ≡ Some book
gives s book off none is =
    (λ i. book_unless (off i) (none i) (book_of s)) ∙ ap (λ (b : Book Database). Some b) (sym is)

pub gives_exactly : (s : State) (book : Book Database)
    → (closing s ≡ Some book) ↔ (CanClose s × (book ≡ book_of s))
gives_exactly s book = (
  λ h. shut s.running s.dormant (book_of s) book h,
  λ h. gives s book h.0.0 h.0.1 h.1,
)

module _ {F : Type 0} (forms : Forms F) where
  pub finished_book : (s : State) (book : Book Database) → IsReached forms s → closing s ≡ Some book
      → IsFinishedBook forms s.opening (scripts_of s) book
  finished_book s book reached given =
      let h = (gives_exactly s book).0 given in
      record {
        last = s;
        finished = record { reached = reached; no_run = h.0.0; none_dormant = h.0.1 };
        of_opening = refl;
        of_scripts = refl;
        is = h.1;
      }

  pub book_given : (opening : Opening) (scripts : List Script) (book : Book Database)
      → IsFinishedBook forms opening scripts book → (s : State) × IsReached forms s × (closing s ≡ Some book)
  book_given opening scripts book h =
      (h.last, h.finished.reached, gives h.last book h.finished.no_run h.finished.none_dormant h.is)
