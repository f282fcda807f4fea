use Rattle.std.proofs.Common.{◌≡◌, ◌∙◌, ◌++◌, ◌∷◌, [], ℕ, List, Option, Some, None, Bool, cond, refl, sym, subst, ap}
use Rattle.std.proofs.Common.{IsSome}
use Rattle.std.specs.Map.{lookup, remove_entry}
use Rattle.std.specs.BTreeMap.{is_at}
use Rattle.std.specs.Ordering.{nat_cmp}
use Rattle.std.proofs.lemmas.Option.{same_Some}
use Rattle.ent_lists.proofs.Options.{some_value}
use Rattle.ent_waiting.specs.Ended.{last_of}
use Rattle.ent_waiting.specs.Waiter.{with_batch, with_place_noted}
use Rattle.ent_waiting.specs.WaitingList.{ended_as}
use Rattle.ent_waiting.specs.declared.ended.Ended.{Ended}
use Rattle.ent_waiting.specs.declared.waiter.Waiter.{Waiter}
use Rattle.ent_waiting.proofs.Keeping.{here, updates_twice, remove_set}
use Rattle.ent_waiting.proofs.waiting_list.finish.Goals as goal

pub take_out-waiter-requires-clause-there : goal.take_out-waiter-requires-clause-there
take_out-waiter-requires-clause-there c =
    let n = c.args.ticket in
    let old = c.args.waiters.now.entries in
    let waits = some_value (lookup (is_at (nat_cmp n)) old) c.requires.there in
    let noted : lookup (is_at (nat_cmp n)) c.note_place.new.waiters.entries ≡ Some (with_place_noted waits.0) =
    c.in_ok-note_place.ensures.updates waits.0 waits.1 n
    ∙ ap (λ (b : Bool). cond b (Some (with_place_noted waits.0)) (lookup (is_at (nat_cmp n)) old)) (here n) in
    subst (λ (o : Option Waiter). IsSome o) (sym noted) refl

pub returns-clause-waiters : goal.returns-clause-waiters
returns-clause-waiters c =
    let test = is_at (nat_cmp c.args.ticket) in
    let old = c.args.waiters.now.entries in
    let waits = some_value (lookup test old) c.requires.there in
    c.take_out-waiter.ensures.removed
    ∙ ap (λ (es : List (ℕ × Waiter)). remove_entry test es) (c.in_ok-note_place.ensures.ok waits.0 waits.1)
    ∙ remove_set test old (with_place_noted waits.0)

pub returns-clause-updates : goal.returns-clause-updates
returns-clause-updates c =
    let test = is_at (nat_cmp c.args.ticket) in
    let old = c.args.waiters.now.entries in
    let waits = some_value (lookup test old) c.requires.there in
    updates_twice old c.note_place.new.waiters.entries c.take_out-waiter.new.waiters.entries c.args.ticket
    (Some (with_place_noted waits.0)) None (c.in_ok-note_place.ensures.updates waits.0 waits.1)
    c.take_out-waiter.ensures.updates

pub returns-clause-ended : goal.returns-clause-ended
returns-clause-ended c = λ waiter waits.
    let n = c.args.ticket in
    let most = c.args.most in
    let before = c.args.ended.now.items in
    let out = c.take_out-waiter.result in
    let noted : out ≡ with_place_noted waiter =
    same_Some out (with_place_noted waiter)
    (sym c.take_out-waiter.ensures.waiter ∙ c.in_ok-note_place.ensures.updates waiter waits n
    ∙ ap (λ (b : Bool). cond b (Some (with_place_noted waiter)) (lookup (is_at (nat_cmp n)) c.args.waiters.now.entries))
    (here n)) in
    let is : c.ended.result ≡ ended_as n c.args.ending c.args.counts waiter =
    c.ended.ensures
    ∙ ap (λ (t : ℕ). record {
      ticket = t;
      ending = c.args.ending;
      batches = with_batch c.args.counts out.batches;
      submissions = out.submissions;
    }) c.new.ensures
    ∙ ap (λ (w : Waiter). record {
      ticket = n;
      ending = c.args.ending;
      batches = with_batch c.args.counts w.batches;
      submissions = w.submissions;
    }) noted in
    c.keep.ensures
    ∙ ap (λ (es : List Ended). last_of most (es ++ c.ended.result ∷ [])) c.reserve.ensures.items
    ∙ ap (λ (x : Ended). last_of most (before ++ x ∷ [])) is
