use Rattle.std.proofs.Common.{◌≡◌, ℕ, List, insert, false, if◌then◌else◌, arith, sym, ap, ◌∙◌}
use Rattle.std.specs.List.{list_any}
use Rattle.ent_protocol.specs.Begin.{same_use, use_rank}
use Rattle.ent_protocol.specs.State.{Use, inserted}
use Rattle.ent_members.specs.Order.{place_in}
use Rattle.ent_members.proofs.ByNumber.{inserted_at, place_bound}
use Rattle.ent_members.proofs.hold.add_use.Goals as goal

pub insert-requires : goal.insert-requires
insert-requires c =
    omega (
      arith,
      c.place_for-at.ensures,
      place_bound use_rank c.as_slice-2.result.now (use_rank c.args.own),
      c.as_slice-2.ensures.len,
    )

pub returns : goal.returns
returns c =
    let uses = c.args.uses.now.items in
    let own = c.args.own in
    let absent : list_any (same_use own) uses ≡ false =
    ap (list_any (same_use own)) (sym c.as_slice.ensures.value) ∙ sym c.is_held.ensures ∙ c.if-is_held.false in
    c.in_ok-insert.ensures.items
    ∙ ap (λ (i : ℕ). insert uses i own) (c.place_for-at.ensures
    ∙ ap (λ (us : List Use). place_in use_rank us (use_rank own)) c.as_slice-2.ensures.value)
    ∙ sym (inserted_at use_rank own uses)
    ∙ ap (λ b. if b then uses else inserted use_rank own uses) (sym absent)
