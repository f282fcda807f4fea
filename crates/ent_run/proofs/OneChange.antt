-- One of those that aren't prepared is changed at its place.
use Rattle.std.proofs.Common.{◌≡◌, ℕ, ◌++◌, List, get_or, length, map, nat_eq, refl, set, sym, ap, subst, ◌∙◌}
use Rattle.std.specs.Prelude.{Ok, OnErr, OnOk, Result}
use Rattle.std.specs.List.{IsDistinct}
use Rattle.std.proofs.lemmas.List.{length-map, map-append}
use Rattle.ent_protocol.specs.State.{Member}
use Rattle.ent_members.specs.Order.{tx_of}
use Rattle.ent_run.specs.MemberSlab.{AreDistinct}
use Rattle.ent_run.specs.Places.{Changes, IsAt}
use Rattle.ent_run.specs.Run.{Run}
use Rattle.ent_run.specs.UnderKeys.{nobody}
use Rattle.ent_run.proofs.InSlab.{second_distinct}
use Rattle.ent_run.proofs.OneMember.{changes, either_way, on_ok_then, same_numbers}

-- numbers of their own, where nobody gets another
pub same_distinct : (old new : Run) → new.prepared ≡ old.prepared → map tx_of new.active ≡ map tx_of old.active
    → AreDistinct old → AreDistinct new
same_distinct old new prepared numbers =
    subst (IsDistinct nat_eq) (sym (map-append tx_of new.prepared new.active
    ∙ (λ i. map tx_of (prepared i) ++ numbers i) ∙ sym (map-append tx_of old.prepared old.active)))

pub same_length : (xs ys : List Member) → map tx_of xs ≡ map tx_of ys → length xs ≡ length ys
same_length xs ys numbers =
    sym (length-map xs tx_of) ∙ ap (λ (ns : List ℕ). length ns) numbers ∙ length-map ys tx_of

module _ (change : Member → Member) (same : (m : Member) → (change m).tx ≡ m.tx) (old new : Run) (at : ℕ)
    (is : new ≡ record old { active = set old.active at (change (get_or old.active at nobody)) }) where
  pub one_change : AreDistinct old → (tx : ℕ) → IsAt old.active tx at → Changes change tx old.active new.active
  one_change distinct tx there =
      let done : Result ℕ ℕ = Ok 0 in
      subst (Changes change tx old.active) (sym (ap (λ (run : Run). run.active) is))
      (changes done change old.active tx at nobody (change (get_or old.active at nobody)) same
      (second_distinct old.prepared old.active distinct) there refl)

  pub one_numbers : map tx_of new.active ≡ map tx_of old.active
  one_numbers =
      let done : Result ℕ ℕ = Ok 0 in
      ap (λ (run : Run). map tx_of run.active) is
      ∙ same_numbers done change old.active at nobody (change (get_or old.active at nobody)) same refl tt

  pub one_prepared : new.prepared ≡ old.prepared
  one_prepared = ap (λ (run : Run). run.prepared) is

-- or memory runs out
module _ {T E : Type 0} (r : Result T E) (change : Member → Member) (same : (m : Member) → (change m).tx ≡ m.tx)
    (old new : Run) (at : ℕ)
    (ok : OnOk r (new ≡ record old { active = set old.active at (change (get_or old.active at nobody)) })) where
  pub tried_change : AreDistinct old → (tx : ℕ) → IsAt old.active tx at
      → OnOk r (Changes change tx old.active new.active)
  tried_change distinct tx there =
      on_ok_then r (new ≡ record old { active = set old.active at (change (get_or old.active at nobody)) })
      (Changes change tx old.active new.active) (λ is. one_change change same old new at is distinct tx there) ok

  pub tried_numbers : OnErr r (new ≡ old) → map tx_of new.active ≡ map tx_of old.active
  tried_numbers err =
      either_way r (new ≡ record old { active = set old.active at (change (get_or old.active at nobody)) }) (new ≡ old)
      (map tx_of new.active ≡ map tx_of old.active) (one_numbers change same old new at)
      (ap (λ (run : Run). map tx_of run.active)) ok err

  pub tried_prepared : OnErr r (new ≡ old) → new.prepared ≡ old.prepared
  tried_prepared err =
      either_way r (new ≡ record old { active = set old.active at (change (get_or old.active at nobody)) }) (new ≡ old)
      (new.prepared ≡ old.prepared) (one_prepared change same old new at) (ap (λ (run : Run). run.prepared)) ok err
