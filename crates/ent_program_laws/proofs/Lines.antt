-- What the lines that begin the parts of a report say.
use Rattle.std.proofs.Common.{◌≡◌, ◌≢◌, ℕ, List, [], ◌++◌, ap, arith}
use Rattle.std.specs.Prelude.{codes}
use Rattle.std.specs.Fmt.{decimal}
use Rattle.std.specs.List.{flat_map}
use Rattle.ent_tree.specs.declared.declaration.Create.{Create}
use Rattle.ent_semantics.specs.declared.book.Fate.{Fate}
use Rattle.ent_book.specs.Report.{fate_text}
use Rattle.ent_history.specs.Fates.{transaction_at, transaction_text}
use Rattle.ent_history.specs.JointLines.{joint_at, joint_text}
use Rattle.ent_history.specs.Openings.{opening_at, opening_text}
use Rattle.ent_history.specs.Parts.{IsNumber}
use Rattle.ent_history.specs.Opening.{IsDeclaration}
use Rattle.ent_history.specs.Answers.{IsFate}
use Rattle.ent_history.specs.Joints.{PlacesRise, place_text}
use Rattle.ent_history.proofs.BreaksOff.{same_behind}
use Rattle.ent_program_laws.proofs.Fronts.{behind_both, once}
use Rattle.ent_program_laws.proofs.Known.{Known}

pub opening_once : Known → (one other : Create) (count number : ℕ) → IsDeclaration one → IsDeclaration other
    → IsNumber count → IsNumber number → opening_text one count ≡ opening_text other number
    → ◌≡◌ {A = Create × ℕ} (one, count) (other, number)
opening_once known one other count number h k small little e =
    once opening_at (opening_text one count) (opening_text other number) (one, count) (other, number)
    (known.openings one count h small)
    (known.openings other number k little) e

-- whatever the number is
pub fate_once : Known → (number : ℕ) (one other : Fate) → IsFate one → IsFate other
    → transaction_text number one ≡ transaction_text number other → one ≡ other
fate_once known number one other h k e =
    let fates : fate_text one ≡ fate_text other =
    same_behind (codes " ") (fate_text one) (fate_text other)
    (behind_both (codes "tx ") (decimal number) (codes " " ++ fate_text one) (codes " " ++ fate_text other) e) in
    let both = once transaction_at (transaction_text 1 one) (transaction_text 1 other) (1, one) (1, other)
    (known.transactions 1 one (omega arith) h) (known.transactions 1 other (omega arith) k)
    (ap (λ (text : List ℕ). codes "tx " ++ (decimal 1 ++ (codes " " ++ text))) fates) in
    ap (λ (x : ℕ × Fate). x.1) both

pub places_once : Known → (number : ℕ) (one other : List (ℕ × ℕ)) → one ≢ [] → other ≢ [] → PlacesRise one
    → PlacesRise other → joint_text number one ≡ joint_text number other → one ≡ other
places_once known number one other some any h k e =
    let places : flat_map place_text one ≡ flat_map place_text other =
    behind_both (codes "joint ") (decimal number) (flat_map place_text one) (flat_map place_text other) e in
    let both = once joint_at (joint_text 1 one) (joint_text 1 other) (1, one) (1, other)
    (known.joints 1 one (omega arith) some h)
    (known.joints 1 other (omega arith) any k)
    (ap (λ (text : List ℕ). codes "joint " ++ (decimal 1 ++ text)) places) in
    ap (λ (x : ℕ × List (ℕ × ℕ)). x.1) both
