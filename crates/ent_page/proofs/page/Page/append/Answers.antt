use Rattle.std.proofs.Common.{◌≡◌, ℕ, List, All, ◌++◌, ◌+◌, ◌-◌, ◌≤◌, length, ap, sym, subst, ◌∙◌, arith}
use Rattle.std.specs.List.{between, concat}
use Rattle.std.proofs.lemmas.List.{length-append}
use Rattle.ent_page.specs.Layout.{ends_from, pieces, start_of}
use Rattle.ent_page.proofs.Laid.{length-shown, place_le, part_order, part_within, part_appended, shown, made}
use Rattle.ent_page.proofs.page.Page.append.Goals as goal

pub start_at-start-requires : goal.start_at-start-requires
start_at-start-requires c =
    let n = length-shown c.other.inside.bytes.items c.other.inside.ends.items c.args.other.now c.other.view_is in
    omega (arith, n, ap length c.deref.ensures.value)

pub start_at-stop-requires : goal.start_at-stop-requires
start_at-stop-requires c =
    let n = length-shown c.other.inside.bytes.items c.other.inside.ends.items c.args.other.now c.other.view_is in
    omega (arith, n, ap length c.deref-2.ensures.value)

pub part_of-bytes-requires-clause-order : goal.part_of-bytes-requires-clause-order
part_of-bytes-requires-clause-order c =
    let bs = c.other.inside.bytes.items in
    let es = c.other.inside.ends.items in
    let n = length-shown bs es c.args.other.now c.other.view_is in
    let s : c.start_at-start.result ≡ start_of 0 c.other.inside.ends.items c.args.from = c.start_at-start.ensures
    ∙ ap (λ z. start_of 0 z c.args.from) c.deref.ensures.value in
    let t : c.start_at-stop.result ≡ start_of 0 c.other.inside.ends.items c.args.to = c.start_at-stop.ensures
    ∙ ap (λ z. start_of 0 z c.args.to) c.deref-2.ensures.value in
    omega (arith, part_order bs es c.other.invariant c.args.from c.args.to c.requires.order (omega (arith, n)))

pub part_of-bytes-requires-clause-within : goal.part_of-bytes-requires-clause-within
part_of-bytes-requires-clause-within c =
    let bs = c.other.inside.bytes.items in
    let es = c.other.inside.ends.items in
    let n = length-shown bs es c.args.other.now c.other.view_is in
    let t : c.start_at-stop.result ≡ start_of 0 c.other.inside.ends.items c.args.to = c.start_at-stop.ensures
    ∙ ap (λ z. start_of 0 z c.args.to) c.deref-2.ensures.value in
    omega (arith, place_le bs es c.other.invariant c.args.to (omega (arith, n)), ap length c.deref-3.ensures.value)

pub part_of-requires-clause-within : goal.part_of-requires-clause-within
part_of-requires-clause-within c =
    let n = length-shown c.other.inside.bytes.items c.other.inside.ends.items c.args.other.now c.other.view_is in
    omega (arith, n, ap length c.deref-4.ensures.value)

-- the ends that are put behind the others begin at the start, and lead no further than the bytes that are put there
within : (c : goal.After-part_of) → All
    (λ e. (c.start_at-start.result ≤ e) ×
    (e - c.start_at-start.result + c.len-base.result ≤ length c.extend_from_slice.new.self.items)) c.part_of.result.now
within c = λ k d lt.
    let bs = c.other.inside.bytes.items in
    let es = c.other.inside.ends.items in
    let n = length-shown bs es c.args.other.now c.other.view_is in
    let s : c.start_at-start.result ≡ start_of 0 c.other.inside.ends.items c.args.from = c.start_at-start.ensures
    ∙ ap (λ z. start_of 0 z c.args.from) c.deref.ensures.value in
    let t : c.start_at-stop.result ≡ start_of 0 c.other.inside.ends.items c.args.to = c.start_at-stop.ensures
    ∙ ap (λ z. start_of 0 z c.args.to) c.deref-2.ensures.value in
    let put : length c.extend_from_slice.new.self.items ≡ c.len-base.result + length
    (between (start_of 0 c.other.inside.ends.items c.args.from) (start_of 0 c.other.inside.ends.items c.args.to)
    c.other.inside.bytes.items) =
    ap length (c.in_ok-extend_from_slice.ensures.items
    ∙ ap (λ z. c.self.inside.bytes.items ++ z) (c.part_of-bytes.ensures
    ∙ (λ i. between (s i) (t i) (c.deref-3.ensures.value i))))
    ∙ omega (
      arith,
      length-append c.self.inside.bytes.items
          (between (start_of 0 es c.args.from) (start_of 0 es c.args.to) bs),
      c.len-base.ensures,
      c.self.inside.bytes.ok.0,
    ) in
    let P : List ℕ
    → Type 0 =
    λ xs. All
    (λ e. (c.start_at-start.result ≤ e) ×
    (e ≤ c.start_at-start.result + (length c.extend_from_slice.new.self.items - c.len-base.result))) xs in
    let both =
    subst P (sym c.part_of.ensures)
    (part_within bs es c.other.invariant c.args.from c.args.to c.requires.order
    (omega (arith, n)) c.deref-4.result.now c.start_at-start.result c.len-base.result
    (length c.extend_from_slice.new.self.items) c.deref-4.ensures.value s (omega (arith, put))) k d lt in
    (both.0, omega (arith, both, put))

pub push_ends-requires-clause-order : goal.push_ends-requires-clause-order
push_ends-requires-clause-order c = λ k d lt. (within c k d lt).0

pub push_ends-requires-clause-fits : goal.push_ends-requires-clause-fits
push_ends-requires-clause-fits c = λ k d lt.
    omega (arith, (within c k d lt).1, c.extend_from_slice.new.self.ok.0)

-- the keys of the page, and the part of the other's
abbrev keys : goal.After-push_ends → List (List ℕ)
keys c = pieces c.self.inside.bytes.items 0 c.self.inside.ends.items ++ between c.args.from c.args.to
    (pieces c.other.inside.bytes.items 0 c.other.inside.ends.items)

-- the arrays are made of these keys
are_made : (c : goal.After-push_ends) → (c.extend_from_slice.new.self.items ≡ concat (keys c)) ×
    (c.push_ends.new.new.items ≡ ends_from 0 (keys c))
are_made c =
    let bs = c.other.inside.bytes.items in
    let es = c.other.inside.ends.items in
    let mine = c.self.inside.bytes.items in
    let n = length-shown bs es c.args.other.now c.other.view_is in
    part_appended bs es c.other.invariant c.args.from c.args.to c.requires.order
    (omega (arith, n))
    mine c.self.inside.ends.items c.extend_from_slice.new.self.items c.push_ends.new.new.items c.deref-3.result.now
    c.deref-4.result.now c.reserve.new.self.items
    c.start_at-start.result c.start_at-stop.result c.len-base.result c.self.invariant c.deref-3.ensures.value
    c.deref-4.ensures.value c.reserve.ensures.items (c.start_at-start.ensures
    ∙ ap (λ z. start_of 0 z c.args.from) c.deref.ensures.value)
    (c.start_at-stop.ensures ∙ ap (λ z. start_of 0 z c.args.to) c.deref-2.ensures.value) (c.len-base.ensures
    ∙ c.self.inside.bytes.ok.0) (c.in_ok-extend_from_slice.ensures.items
    ∙ ap (λ z. mine ++ z) c.part_of-bytes.ensures) (rw c.part_of.ensures at c.push_ends.ensures)

pub invariant_of-self-2 : goal.invariant_of-self-2
invariant_of-self-2 c =
    made c.extend_from_slice.new.self.items c.push_ends.new.new.items (keys c) (are_made c).0 (are_made c).1

pub returns-clause-ok : goal.returns-clause-ok
returns-clause-ok c =
    shown c.extend_from_slice.new.self.items c.push_ends.new.new.items (keys c) (are_made c).0 (are_made c).1
    ∙ (λ i. c.self.view_is i ++ between c.args.from c.args.to (c.other.view_is i))
