use Rattle.std.proofs.Common.{◌≡◌, ℕ, List, Option, None, Some, sym, ap, ◌∙◌}
use Rattle.std.specs.Borrow.{Bor}
use Rattle.std.specs.List.{slice_get}
use Rattle.std.specs.Option.{option_copied, option_map}
use Rattle.std.specs.Slice.{IsItemAt}
use Rattle.std.proofs.lemmas.List.{length-map}
use Rattle.std.proofs.lemmas.Option.{slice_get-get_or, slice_get-map, slice_get_past}
use Rattle.ent_meetings.specs.declared.party.Party.{Party}
use Rattle.ent_meetings.specs.Group.{seen}
use Rattle.ent_meetings.proofs.widening.Gathering.member.Goals as goal

got_at : (refs : List (Bor Party)) (place : ℕ) (got : Option (Bor (Bor Party))) → IsItemAt refs place got
    → option_copied (option_copied got) ≡ slice_get (seen refs) place
got_at refs place None at = sym (slice_get_past (seen refs) place (simp length-map at.3))
got_at refs place (Some item) at =
    ap (λ (ref : Bor Party). Some ref.now) at.1
    ∙ sym (slice_get-map (λ (ref : Bor Party). ref.now) refs place
    ∙ ap (option_map (λ (ref : Bor Party). ref.now)) (slice_get-get_or refs place item.now at.3.0))

pub returns : goal.returns
returns c =
    ap option_copied c.copied.ensures
    ∙ got_at c.deref.result.now c.args.place c.get.result c.get.ensures.lookup
    ∙ ap (λ (refs : List (Bor Party)). slice_get (seen refs) c.args.place) c.deref.ensures.value
