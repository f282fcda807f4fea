use Rattle.std.proofs.Common.{◌≡◌, ℕ, ◌+◌, ◌-◌, ◌<◌, ◌≤◌, [], ◌∷◌, ◌++◌, List, length, take, drop, insert, set, arith}
use Rattle.std.proofs.Common.{refl, sym, ap, ◌∙◌}
use Rattle.ent_group.specs.declared.groups.Membership.{Membership}
use Rattle.std.proofs.lemmas.List.{take_more_set, drop-append-le, drop_at, take_at, take-set-le, take-take, length-drop}
use Rattle.std.proofs.lemmas.List.{length-take, length-append, length-set}
use Rattle.std.proofs.lemmas.Slice.{between_is, take-put_mid}
use borrow.Rule.Slice.PartMut.{put_mid}
use Rattle.ent_group.proofs.groups.put_at.Goals as goal

-- a list whose last element goes to the front
turned : (front : List Membership) (m : Membership) → drop (length (front ++ m ∷ []) - 1) (front ++ m ∷ [])
    ++ take (length (front ++ m ∷ []) - 1) (front ++ m ∷ []) ≡ m ∷ front
turned front m =
    let last : length (front ++ m ∷ []) - 1 ≡ length front = omega (arith, length-append front (m ∷ [])) in
    rw (last, drop_at front (m ∷ []) (length front) refl, take_at front (m ∷ []) (length front) refl) refl

put_in : (xs ys : List Membership) (at len : ℕ) (m : Membership) → at ≤ len → len < length xs
    → ys ≡ m ∷ drop at (take len xs) →
    take (len + 1) (put_mid at (len + 1 - at) (set xs len m) ys) ≡ insert (take len xs) at m
put_in xs ys at len m place room is =
    let long : length ys ≡ 1 + (len - at) =
    ap length is ∙ omega (arith, length-drop at (take len xs), length-take len xs) in
    take-put_mid at (len + 1 - at) (set xs len m) ys (len + 1) (omega arith) (omega (arith, length-set xs len m))
    ∙ ap (λ (zs : List Membership). zs ++ ys) (take-set-le at xs len m place ∙ sym (take-take at len xs place))
    ∙ ap (λ (zs : List Membership). take at (take len xs) ++ zs) is

pub returns : goal.returns
returns c =
    let xs = c.args.memberships.now in
    let m = c.args.membership in
    let part : take (c.args.len + 1 - c.args.at) (drop c.args.at (set xs c.args.len m)) ≡ drop c.args.at
    (take c.args.len xs) ++ m ∷ [] =
    between_is (set xs c.args.len m) c.args.at (c.args.len + 1)
    ∙ ap (drop c.args.at) (take_more_set xs c.args.len m c.requires.room)
    ∙ drop-append-le c.args.at (take c.args.len xs) (m ∷ [])
    (omega (arith, length-take c.args.len xs, c.requires.room, c.requires.within)) in
    let shape : List Membership → List Membership = λ ys. drop (length ys - 1) ys ++ take (length ys - 1) ys in
    put_in xs c.rotate_right.new.self c.args.at c.args.len m c.requires.within c.requires.room
    (c.rotate_right.ensures.after ∙ ap shape part ∙ turned (drop c.args.at (take c.args.len xs)) m)
