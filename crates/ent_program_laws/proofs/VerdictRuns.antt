-- Two readings of one text, up to where nothing stands, are the same.
use Rattle.std.proofs.Common.{◌≡◌, ◌+◌, ℕ, List, [], ◌∷◌, ◌++◌, take, ap, sym, ◌∙◌, subst, append_assoc, inl, inr, refl}
use Rattle.std.proofs.lemmas.List.{append-nil}
use Rattle.std.proofs.lemmas.Str.{utf8_valid_len-IsValidUpTo}
use Rattle.std.specs.Str.{IsUtf8}
use Rattle.ent_book.specs.Report2.{line_count}
use Rattle.ent_history.specs.declared.history.History.{History}
use Rattle.ent_history.specs.Draft.{Draft, Ended, Free, blank}
use Rattle.ent_history.specs.Scripts.{ScriptBreaksOff}
use Rattle.ent_history.specs.Stands.{AllStand, Stands, Tells, whole}
use Rattle.ent_history.specs.Fault.{FaultAt, HasBadByte, HasFormFault, IsNoReport, NothingStands, Stops}
use Rattle.ent_history.proofs.BreaksOff.{same_behind}
use Rattle.ent_program_laws.proofs.Known.{Known}
use Rattle.ent_program_laws.proofs.Sorts.{sorted}
use Rattle.ent_program_laws.proofs.Steps.{one_step}

-- ---- pieces

-- the pieces are the same, what they tell, and what is left
pub record SameRun (one other : List (List ℕ)) (next after : Draft) (rest left : List ℕ) : Type 0 where
  pub pieces : one ≡ other
  pub draft : next ≡ after
  pub rest_is : rest ≡ left

pub same_run : Known → (draft : Draft) (one other : List (List ℕ)) (next after : Draft) (rest left : List ℕ)
    → AllStand draft one next → AllStand draft other after → whole one ++ rest ≡ whole other ++ left
    → NothingStands next rest → NothingStands after left → SameRun one other next after rest left
same_run known draft [] [] next after rest left s o e none nothing =
    record { pieces = refl; draft = sym s ∙ o; rest_is = e }
same_run known draft [] (piece ∷ other) next after rest left s o e none nothing =
    absurd (none piece (whole other ++ left) o.0 (e ∙ append_assoc piece (whole other) left)
    (subst (λ (d : Draft). Stands d piece o.0) s o.1))
same_run known draft (piece ∷ one) [] next after rest left s o e none nothing =
    absurd (nothing piece (whole one ++ rest) s.0 (sym e ∙ append_assoc piece (whole one) rest)
    (subst (λ (d : Draft). Stands d piece s.0) o s.1))
same_run known draft (mine ∷ one) (theirs ∷ other) next after rest left s o e none nothing =
    let x = whole one ++ rest in
    let y = whole other ++ left in
    let parted : mine ++ x ≡ theirs ++ y =
    sym (append_assoc mine (whole one) rest) ∙ e ∙ append_assoc theirs (whole other) left in
    let first = one_step known draft mine theirs x y s.0 o.0 s.1 o.1 parted in
    let behind = same_behind mine x y (parted ∙ ap (λ (t : List ℕ). t ++ y) (sym first.piece)) in
    let more = same_run known s.0 one other next after rest left s.2
    (subst (λ (d : Draft). AllStand d other after) (sym first.draft) o.2) behind none nothing in
    record { pieces = λ i. first.piece i ∷ more.pieces i; draft = more.draft; rest_is = more.rest_is }

-- ---- whole texts

abbrev ended : History → Draft
ended history = record { told = history; due = Ended }

nothing_behind_end : (history : History) (rest : List ℕ) → NothingStands (ended history) rest
nothing_behind_end history rest text more next parts s =
    let end = sorted (ended history) text more next s in
    let due : Ended ≡ Free = end.free in
    cc

all_of : (text : List ℕ) (pieces : List (List ℕ)) → text ≡ whole pieces → text ≡ whole pieces ++ []
all_of text pieces is = is ∙ sym (append-nil (whole pieces))

-- a text tells of one history only
pub told_once : Known → (text : List ℕ) (one other : History) → Tells text one → Tells text other → one ≡ other
told_once known text one other s o =
    let same = same_run known blank s.0 o.0 (ended one) (ended other) [] [] s.2 o.2
    (sym (all_of text s.0 s.1) ∙ all_of text o.0 o.1) (nothing_behind_end one []) (nothing_behind_end other []) in
    ap (λ (d : Draft). d.told) same.draft

-- what a text tells has no fault of form
pub no_form_fault : Known → (text : List ℕ) (history : History) (number : ℕ) → Tells text history
    → HasFormFault text number → ⊥
no_form_fault known text history number s fault =
    let stops = fault.0 in
    let same = same_run known blank s.0 stops.pieces (ended history) stops.draft [] stops.rest s.2 stops.stand
    (sym (all_of text s.0 s.1) ∙ stops.parts) (nothing_behind_end history []) stops.nothing in
    stops.no_end (ap (λ (d : Draft). d.due) (sym same.draft)) (sym same.rest_is)

-- ---- where a text stops

same_fault : (text : List ℕ) (one other : Stops text) (n m : ℕ) → one.pieces ≡ other.pieces → one.draft ≡ other.draft
    → one.rest ≡ other.rest → FaultAt text one n → FaultAt text other m → n ≡ m
same_fault text one other n m pieces draft rest (inl breaks) (inl broken) = breaks.1 ∙ sym broken.1
same_fault text one other n m pieces draft rest (inr stands) (inr stood) =
    stands.1 ∙ ap (λ (p : List (List ℕ)). line_count (whole p) + 1) pieces ∙ sym stood.1
same_fault text one other n m pieces draft rest (inl breaks) (inr stood) =
    absurd (stood.0
    (subst (λ (d : Draft). ScriptBreaksOff d other.rest) draft
    (subst (ScriptBreaksOff one.draft) rest breaks.0)))
same_fault text one other n m pieces draft rest (inr stands) (inl broken) =
    absurd (stands.0
    (subst (λ (d : Draft). ScriptBreaksOff d one.rest) (sym draft)
    (subst (ScriptBreaksOff other.draft) (sym rest) broken.0)))

form_fault_once : Known → (text : List ℕ) (n m : ℕ) → HasFormFault text n → HasFormFault text m → n ≡ m
form_fault_once known text n m s o =
    let one = s.0 in
    let other = o.0 in
    let same = same_run known blank one.pieces other.pieces one.draft other.draft one.rest other.rest one.stand
    other.stand (sym one.parts ∙ other.parts) one.nothing other.nothing in
    same_fault text one other n m same.pieces same.draft same.rest_is s.1 o.1

bad_byte_once : (text : List ℕ) (n m : ℕ) → HasBadByte text n → HasBadByte text m → n ≡ m
bad_byte_once text n m s o =
    let place = sym (utf8_valid_len-IsValidUpTo text s.place s.up_to)
    ∙ utf8_valid_len-IsValidUpTo text o.place o.up_to in
    s.line_is ∙ ap (λ (p : ℕ). line_count (take p text) + 1) place ∙ sym o.line_is

-- a text is no report at one line only
pub no_report_once : Known → (text : List ℕ) (n m : ℕ) → IsNoReport text n → IsNoReport text m → n ≡ m
no_report_once known text n m (inl s) (inl o) = bad_byte_once text n m s o
no_report_once known text n m (inl s) (inr o) = absurd (s.bad o.0)
no_report_once known text n m (inr s) (inl o) = absurd (o.bad s.0)
no_report_once known text n m (inr s) (inr o) = form_fault_once known text n m s.1 o.1

-- a text of whole characters that tells a history is a report
pub is_report : ((text : List ℕ) (history : History) (number : ℕ) → Tells text history → HasFormFault text number → ⊥)
    → (text : List ℕ) (history : History) (number : ℕ) → IsUtf8 text → Tells text history → IsNoReport text number → ⊥
is_report none text history number characters s (inl o) = o.bad characters
is_report none text history number characters s (inr o) = none text history number s o.1
