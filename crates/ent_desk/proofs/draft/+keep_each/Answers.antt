use Rattle.std.proofs.Common.{◌≡◌, ◌+◌, ℕ, suc, List, ap, arith, length, subst}
use Rattle.ent_semantics.specs.declared.book.Entry.{Entry}
use Rattle.ent_desk.specs.Drafts.{AreDrafted, HaveCommitted}
use Rattle.ent_desk.proofs.Drafting.{drafted_on}
use Rattle.ent_desk.proofs.draft.+keep_each.Goals as goal

pub keep_each-requires : goal.keep_each-requires
keep_each-requires t c =
    let is = c.in-Some.ensures.cases.0 in
    let more = c.in-Some.more.now in
    let entry = c.in-Some.entry.now in
    let drafts = c.args.drafts.now.items in
    let long = ap length is in
    let all = subst (λ (l : List Entry). AreDrafted drafts l) is c.requires.drafted in
    let told = subst (λ (l : List Entry). HaveCommitted c.args.core.now c.args.number l) is c.requires.committed in
    let next : suc c.args.number ≡ c.args.number + 1 = omega arith in (
      omega (arith, long),
      (
        omega (arith, c.requires.bound, long),
        (
          omega (arith, c.requires.room, c.push_reserved.ensures.len, c.push_reserved.ensures.capacity, long),
          (
            drafted_on drafts c.take_draft-draft.new.drafts.items entry.tx more all.1
                c.take_draft-draft.ensures.others all.2,
            subst (λ (n : ℕ). HaveCommitted c.args.core.now n more) next told.1,
          ),
        ),
      ),
    )
