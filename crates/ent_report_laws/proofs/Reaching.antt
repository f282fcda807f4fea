-- Ways from one report that stands so far to a longer one, and the text on the way.
use Rattle.std.proofs.Common.{◌≡◌, ℕ, List, [], ◌∷◌, ◌++◌, refl, sym, ap, subst}
use Rattle.std.proofs.lemmas.List.{append_assoc}
use Rattle.ent_history.specs.Draft.{Draft}
use Rattle.ent_history.specs.Stands.{Stands, AllStand, whole}

-- pieces of this text lead there
abbrev pub Leads : Draft → List ℕ → Draft → Type 0
Leads draft text next = (pieces : List (List ℕ)) × (text ≡ whole pieces) × AllStand draft pieces next

pub stay : (draft next : Draft) → draft ≡ next → Leads draft [] next
stay draft next e = ([], refl, e)

pub by_text : (draft next : Draft) (text other : List ℕ) → text ≡ other → Leads draft text next → Leads draft other next
by_text draft next text other e leads = subst (λ (t : List ℕ). Leads draft t next) e leads

pub to_draft : (draft next other : Draft) (text : List ℕ) → next ≡ other → Leads draft text next
    → Leads draft text other
to_draft draft next other text e leads = subst (Leads draft text) e leads

-- one piece, then more
pub first_piece : (draft between next : Draft) (piece text : List ℕ) → Stands draft piece between
    → Leads between text next → Leads draft (piece ++ text) next
first_piece draft between next piece text stands leads =
    (piece ∷ leads.0, ap (λ t. piece ++ t) leads.1, (between, stands, leads.2))

on_and_on : (first : List (List ℕ)) (draft between next : Draft) (text : List ℕ) → AllStand draft first between
    → Leads between text next → Leads draft (whole first ++ text) next
on_and_on [] draft between next text e leads = subst (λ (d : Draft). Leads d text next) (sym e) leads
on_and_on (piece ∷ more) draft between next text stand leads =
    by_text draft next (piece ++ (whole more ++ text)) ((piece ++ whole more) ++ text)
    (sym (append_assoc piece (whole more) text))
    (first_piece draft stand.0 next piece (whole more ++ text) stand.1
    (on_and_on more stand.0 between next text stand.2 leads))

-- one way behind another
pub behind_it : (draft between next : Draft) (text other : List ℕ) → Leads draft text between
    → Leads between other next → Leads draft (text ++ other) next
behind_it draft between next text other first second =
    by_text draft next (whole first.0 ++ other) (text ++ other) (ap (λ t. t ++ other) (sym first.1))
    (on_and_on first.0 draft between next other first.2 second)
