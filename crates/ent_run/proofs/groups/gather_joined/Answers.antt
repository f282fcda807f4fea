use Rattle.std.proofs.Common.{◌≡◌, ◌+◌, ℕ, Bool, List, [], ◌∷◌, ◌++◌, length, take, true, false, if◌then◌else◌}
use Rattle.std.proofs.Common.{◌<◌, append_assoc, sym, ap, subst, arith, ◌∙◌}
use Rattle.std.proofs.lemmas.List.{append-nil, length-append}
use Rattle.ent_run.proofs.Merged.{numbers_among, numbers_more}
use Rattle.ent_run.proofs.groups.gather_joined.Goals as goal
use Rattle.ent_run.proofs.groups.gather_joined.Goals.{then-is_one_of, else-is_one_of}

next_numbers : (c : goal.Joined-is_one_of) (b : Bool) → c.is_one_of.result ≡ b
    → numbers_among c.args.numbers.now (take (c.loop-place.place + 1) c.args.members.now)
    ≡ numbers_among c.args.numbers.now (take c.loop-place.place c.args.members.now)
    ++ (if b then c.at-member.result.now.tx ∷ [] else [])
next_numbers c b is =
    numbers_more c.args.numbers.now c.args.members.now c.loop-place.place c.at-member.result.now b
    (subst (λ (n : ℕ). c.loop-place.place < n) c.len-place-end.ensures c.loop-place-test.true)
    (c.at-member.ensures c.at-member.result.now)
    (sym c.is_one_of.ensures ∙ is)

pub loop-place-preserved : goal.loop-place-preserved
loop-place-preserved c =
    elim c.if-is_one_of.branch [
      | then-is_one_of w ↦ record {
        so_far = w.joined-is ∙ w.push.ensures
            ∙ ap (λ (ls : List ℕ). ls ++ w.tx.result ∷ []) c.loop-place.invariant.so_far
            ∙ append_assoc c.args.joined.now
            (numbers_among c.args.numbers.now (take c.loop-place.place c.args.members.now)) (w.tx.result ∷ [])
            ∙ ap (λ (tx : ℕ). c.args.joined.now
            ++ (numbers_among c.args.numbers.now (take c.loop-place.place c.args.members.now) ++ tx ∷ []))
            w.tx.ensures
            ∙ ap (λ (ls : List ℕ). c.args.joined.now ++ ls) (sym (next_numbers c true w.if-is_one_of.true));
        room = omega (
          arith,
          ap length (w.joined-is ∙ w.push.ensures),
          length-append c.loop-place.joined (w.tx.result ∷ []),
          c.loop-place.invariant.room,
        );
        bound = c.loop-place.invariant.bound;
      }
      | else-is_one_of w ↦ record {
        so_far = w.joined-is ∙ c.loop-place.invariant.so_far
            ∙ ap (λ (ls : List ℕ). c.args.joined.now ++ ls)
            (sym (next_numbers c false w.if-is_one_of.false ∙ append-nil _));
        room = omega (arith, ap length w.joined-is, c.loop-place.invariant.room);
        bound = c.loop-place.invariant.bound;
      }
    ]
