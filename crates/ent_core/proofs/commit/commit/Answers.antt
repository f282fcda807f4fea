use Rattle.std.proofs.Common.{◌≡◌, ◌≤◌, ◌+◌, ◌<◌, ◌++◌, ◌∷◌, ◌∙◌, ℕ, suc, List, [], Some, ap, arith, length, map}
use Rattle.std.proofs.Common.{refl, subst, sym}
use Rattle.std.specs.List.{AllByRecursion}
use Rattle.std.specs.Prelude.{All, filter, is_some}
use Rattle.std.proofs.lemmas.List.{length-append}
use Rattle.std.proofs.lemmas.Option.{same_Some}
use Rattle.ent_tree.specs.declared.limits.TheConstants.{MOST_SCRIPTS}
use Rattle.ent_form.specs.declared.fault.FormFault.{FormFault}
use Rattle.ent_run.specs.Places.{IsAt, found}
use Rattle.ent_members.specs.Order.{tx_of}
use Rattle.ent_run.specs.Run.{Run, with_run}
use Rattle.ent_protocol.specs.Begin.{BeginsCommit}
use Rattle.ent_protocol.specs.Commit.{commit_fates, entry_of, is_ready, preparing}
use Rattle.ent_protocol.specs.Event as replies
use Rattle.ent_protocol.specs.Member.{active_member}
use Rattle.ent_protocol.specs.State.{State, Member, members}
use Rattle.ent_members.specs.TransactionTable.{TransactionTable}
use Rattle.ent_semantics.specs.declared.book.Entry.{Entry}
use Rattle.ent_protocol_laws.specs.Attempts.{MayTakePart, StayWithin}
use Rattle.ent_tables.specs.Stored.{Stored}
use Rattle.ent_core.specs.Reply.{numbered_from}
use Rattle.ent_core.specs.Store.{IsKept}
use Rattle.ent_core.specs.contracts.store.Store.{the_view}
use Rattle.ent_waits.specs.Pooled.{IsPoolOf}
use Rattle.ent_core.specs.Begin.{IsUnposted}
use Rattle.ent_core.proofs.Begun.{found_at, kept_changed, kept_with}
use Rattle.ent_core.proofs.Committing.{commits, committed_all, committed_few, first_part, last_part, parts_numbered}
use Rattle.ent_core.proofs.Committing.{same_all, same_fates, same_length, same_numbers, waits}
use Rattle.ent_semantics.specs.declared.book.Fated.{Fated}
use Rattle.ent_protocol.specs.Member.{is_of}
use Rattle.ent_members.specs.ByNumber.{IsNumbered}
use Rattle.ent_core.proofs.Packing.{IsPackable, members_packed}
use Rattle.ent_core.proofs.Pooled.{kept_prepared}
use Rattle.ent_core.proofs.Settled.{settled_on}
use Rattle.ent_core.proofs.commit.commit.Goals as goal

pub prepare_at-requires : goal.prepare_at-requires
prepare_at-requires c =
    subst (λ (x : State). c.args.found.place < length x.active) (sym c.store.view_is) c.requires.free.at.in_range

-- ---- a member of its group isn't prepared

pub returns-in_default-clause-ok : goal.returns-in_default-clause-ok
returns-in_default-clause-ok c = λ member there.
    let s : State = the_view c.store.inside in
    let now = c.args.store.now in
    let mid : Run = c.prepare_at.new.self in
    let left : Run = c.commit.new.self in
    let stays : left ≡ mid = c.in_default.ensures.same refl in
    let tx = c.args.found.tx in
    let here : active_member s tx ≡ Some member = ap (λ (x : State). active_member x tx) c.store.view_is ∙ there in
    let one : c.member.result ≡ member =
    same_Some c.member.result member (sym c.member.ensures.there ∙ there) in
    let at = subst (λ (x : State). IsAt x.active tx c.args.found.place) (sym c.store.view_is) c.requires.free.at in
    let own : c.group-group.result ≡ member.group = c.group-group.ensures ∙ ap (λ (m : Member). m.group) one in
    let P : State → Type 0 = λ new. BeginsCommit {F = FormFault} (preparing now member) member.group
    (is_ready (preparing now member) member.group) replies.Prepared new in
    let same : with_run mid s ≡ record (with_run left s) { journal = c.reserve.new.self.items } =
    λ i. record (with_run ((sym stays) i) s) { journal = (sym c.reserve.ensures.items) i } in
    subst P same (waits s mid tx c.group-group.result member own (c.in_ok-prepare_at.ensures.ok tx at member here)
    FormFault now c.store.view_is (c.in_default.ensures.none refl s))

pub invariant_of-store-in_default : goal.invariant_of-store-in_default
invariant_of-store-in_default c =
    let inside = c.store.inside in
    let tx = c.args.found.tx in
    let at = subst (λ (x : State). IsAt x.active tx c.args.found.place) (sym c.store.view_is) c.requires.free.at in
    let there = ap is_some (found_at inside.run.active tx c.args.found.place at).1 in
    let idle = subst (λ (x : State). IsUnposted x tx) (sym c.store.view_is) c.requires.unposted in
    let K : Run → Type 0 = λ run. IsKept inside.catalogue.tables inside.opening inside.submitted.items
    inside.transaction_table inside.running run inside.tables inside.pool in (
      subst K (sym (c.in_default.ensures.same refl))
          (kept_changed inside.catalogue.tables inside.opening inside.submitted.items inside.transaction_table
          inside.running inside.run c.prepare_at.new.self inside.tables inside.pool inside.pool tx
          c.store.invariant.0 there
          (kept_prepared inside.submitted.items inside.run.active inside.pool c.store.invariant.0.posted tx inside.run
          c.prepare_at.new.self refl (c.in_ok-prepare_at.ensures.ok tx at) there idle)),
      c.store.invariant.1,
    )

-- ---- its group commits

-- one more is prepared than before
pub commit-requires-clause-room : goal.commit-requires-clause-room
commit-requires-clause-room c =
    let s : State = the_view c.store.inside in
    let run : Run = c.store.inside.run in
    let tx = c.args.found.tx in
    let at = subst (λ (x : State). IsAt x.active tx c.args.found.place) (sym c.store.view_is) c.requires.free.at in
    let there : found run.active tx ≡ Some c.member.result =
    ap (λ (x : State). active_member x tx) c.store.view_is ∙ c.member.ensures.there in
    let prepares = c.in_ok-prepare_at.ensures.ok tx at c.member.result there in
    omega (
      arith,
      c.prepared_len-most.ensures.len,
      c.in_ok-room.ensures.capacity,
      ap length prepares.prepared,
      length-append run.prepared (c.member.result ∷ []),
    )

pub commit-requires-2-clause-room : goal.commit-requires-2-clause-room
commit-requires-2-clause-room c =
    let s : State = the_view c.store.inside in
    let C : State → Type 0 = λ x. length x.fates + length x.dormant + length (members x) ≡ length x.submitted in
    let counted : C s = subst C (sym c.store.view_is) c.requires.counted in
    let tx = c.args.found.tx in
    let at = subst (λ (x : State). IsAt x.active tx c.args.found.place) (sym c.store.view_is) c.requires.free.at in
    let there : found c.store.inside.run.active tx ≡ Some c.member.result =
    ap (λ (x : State). active_member x tx) c.store.view_is ∙ c.member.ensures.there in
    let gone = filter (is_of c.group-group.result) c.prepare_at.new.self.prepared in
    let few = committed_few c.store.inside.run c.prepare_at.new.self tx c.group-group.result c.member.result gone there
    (c.in_ok-prepare_at.ensures.ok tx at c.member.result there) refl in
    let many = same_length c.in-Some.committed.items gone (c.in-Some.ensures.attempts s) in
    omega (arith, counted, c.store.invariant.0.known, few, many, ap length c.as_slice-2.ensures.value)

pub commit-requires-2-clause-numbers : goal.commit-requires-2-clause-numbers
commit-requires-2-clause-numbers c =
    let s : State = the_view c.store.inside in
    let run : Run = c.store.inside.run in
    let P : Member → Type 0 = MayTakePart s.submitted in
    let all : AllByRecursion P (run.prepared ++ run.active) =
    (subst StayWithin (sym c.store.view_is) c.requires.within).members in
    let tx = c.args.found.tx in
    let at = subst (λ (x : State). IsAt x.active tx c.args.found.place) (sym c.store.view_is) c.requires.free.at in
    let there : found run.active tx ≡ Some c.member.result =
    ap (λ (x : State). active_member x tx) c.store.view_is ∙ c.member.ensures.there in
    let gone = filter (is_of c.group-group.result) c.prepare_at.new.self.prepared in
    let known = c.store.inside.transaction_table.known in
    let among : AllByRecursion P gone =
    committed_all P run c.prepare_at.new.self tx c.group-group.result c.member.result gone there
    (c.in_ok-prepare_at.ensures.ok tx at c.member.result there) refl (first_part P run.prepared run.active all)
    (last_part P run.prepared run.active all) in
    subst (λ (ms : List Member). AllByRecursion (λ (m : Member). IsNumbered known m.tx) ms)
    (sym c.as_slice-2.ensures.value)
    (same_all c.in-Some.committed.items gone (c.in-Some.ensures.attempts s) (IsNumbered known)
    (parts_numbered s.submitted known gone c.store.invariant.0.known among))

pub of-members-requires : goal.of-members-requires
of-members-requires c =
    let s : State = the_view c.store.inside in
    let run : Run = c.store.inside.run in
    let P : Member → Type 0 = MayTakePart s.submitted in
    let F : State → Type 0 = λ x. length x.submitted ≤ MOST_SCRIPTS in
    let all : AllByRecursion P (run.prepared ++ run.active) =
    (subst StayWithin (sym c.store.view_is) c.requires.within).members in
    let tx = c.args.found.tx in
    let at = subst (λ (x : State). IsAt x.active tx c.args.found.place) (sym c.store.view_is) c.requires.free.at in
    let there : found run.active tx ≡ Some c.member.result =
    ap (λ (x : State). active_member x tx) c.store.view_is ∙ c.member.ensures.there in
    let gone : List Member = filter (is_of c.group-group.result) c.prepare_at.new.self.prepared in
    let among : AllByRecursion P gone =
    committed_all P run c.prepare_at.new.self tx c.group-group.result c.member.result gone there
    (c.in_ok-prepare_at.ensures.ok tx at c.member.result there) refl (first_part P run.prepared run.active all)
    (last_part P run.prepared run.active all) in
    let are : c.member_numbers-numbers.result ≡ map tx_of gone =
    c.member_numbers-numbers.ensures ∙ ap (map tx_of) c.as_slice.ensures.value
    ∙ same_numbers c.in-Some.committed.items gone (c.in-Some.ensures.attempts s) in
    subst (All IsPackable) (sym are)
    (members_packed s.submitted (subst F (sym c.store.view_is) c.requires.few) gone among)

pub returns-clause-ok : goal.returns-clause-ok
returns-clause-ok c = λ member there.
    let s : State = the_view c.store.inside in
    let now = c.args.store.now in
    let mid : Run = c.prepare_at.new.self in
    let left : Run = c.commit.new.self in
    let committed : List Member = c.in-Some.committed.items in
    let gone : List Member = filter (is_of c.group-group.result) mid.prepared in
    let attempts = c.in-Some.ensures.attempts s in
    let numbers : List ℕ = c.of-members.result in
    let first : ℕ = c.len.result + 1 in
    let tx = c.args.found.tx in
    let here : active_member s tx ≡ Some member = ap (λ (x : State). active_member x tx) c.store.view_is ∙ there in
    let one : c.member.result ≡ member =
    same_Some c.member.result member (sym c.member.ensures.there ∙ there) in
    let at = subst (λ (x : State). IsAt x.active tx c.args.found.place) (sym c.store.view_is) c.requires.free.at in
    let own : c.group-group.result ≡ member.group = c.group-group.ensures ∙ ap (λ (m : Member). m.group) one in
    let listed : c.member_numbers-numbers.result ≡ map tx_of gone =
    c.member_numbers-numbers.ensures ∙ ap (map tx_of) c.as_slice.ensures.value
    ∙ same_numbers committed gone attempts in
    let numbers_are : numbers ≡ map tx_of gone = c.of-members.ensures ∙ listed in
    let first_is : first ≡ suc (length s.journal) =
    omega (arith, c.len.ensures, c.reserve.new.self.ok.0, ap length c.reserve.ensures.items) in
    let entered = c.enter.ensures.entries
    ∙ ap (λ (entries : List Entry). entries ++ map entry_of committed) c.reserve.ensures.items
    ∙ ap (λ (entries : List Entry). s.journal ++ entries) (c.in-Some.ensures.entries s) in
    let fated = ap (λ (transaction_table : TransactionTable). transaction_table.fates) c.commit-2.ensures
    ∙ ap (λ (all : List Member). s.fates ++ commit_fates first all) c.as_slice-2.ensures.value
    ∙ ap (λ (fates : List Fated). s.fates ++ fates) (same_fates committed gone attempts first) in
    let settled = c.settle.ensures.members gone listed in
    let P : State → Type 0 = λ new. BeginsCommit {F = FormFault} (preparing now member) member.group
    (is_ready (preparing now member) member.group) (replies.Committed (numbered_from first numbers)) new in
    let mark : State = record s {
      prepared = left.prepared;
      active = left.active;
      changes = c.settle.new.self.changes;
      journal = c.enter.new.journal.items;
      fates = c.commit-2.new.self.fates;
    } in
    let same : mark ≡ record mark { dormant = c.commit-2.new.self.dormant; tables = c.settle.new.self.tables } =
    λ i. record mark {
      dormant = (sym (ap (λ (transaction_table : TransactionTable). transaction_table.dormant) c.commit-2.ensures)) i;
      tables = (sym (ap (λ (stored : Stored). stored.tables) settled)) i;
    } in
    subst P same (commits s mid tx c.group-group.result member own (c.in_ok-prepare_at.ensures.ok tx at member here)
    FormFault now left first gone numbers c.enter.new.journal.items c.commit-2.new.self.fates
    c.settle.new.self.changes c.store.view_is (c.in-Some.ensures.ready refl s)
    refl (c.in-Some.ensures.prepared refl) (c.in-Some.ensures.active refl) numbers_are first_is entered fated
    (ap (λ (stored : Stored). stored.changes) settled))

pub invariant_of-store-2 : goal.invariant_of-store-2
invariant_of-store-2 c =
    let inside = c.store.inside in
    let tx = c.args.found.tx in
    let at = subst (λ (x : State). IsAt x.active tx c.args.found.place) (sym c.store.view_is) c.requires.free.at in
    let there = ap is_some (found_at inside.run.active tx c.args.found.place at).1 in
    let idle = subst (λ (x : State). IsUnposted x tx) (sym c.store.view_is) c.requires.unposted in
    let pooled = kept_prepared inside.submitted.items inside.run.active inside.pool c.store.invariant.0.posted tx
    inside.run c.prepare_at.new.self refl (c.in_ok-prepare_at.ensures.ok tx at) there idle in (
      kept_with inside.catalogue.tables inside.opening inside.submitted.items inside.transaction_table
          c.commit-2.new.self inside.running inside.run c.commit.new.self inside.tables c.settle.new.self inside.pool
          inside.pool tx c.store.invariant.0 there
          (ap (λ (transaction_table : TransactionTable). transaction_table.dormant) c.commit-2.ensures)
          (ap (λ (transaction_table : TransactionTable). transaction_table.known) c.commit-2.ensures)
          (ap (λ (stored : Stored). stored.kinds) c.settle.ensures.numbers)
          (subst (λ (ms : List Member). IsPoolOf inside.submitted.items ms inside.pool)
          (sym (c.in-Some.ensures.active refl)) pooled),
      settled_on inside.settled inside.joints.items inside.transaction_table.fates _ c.commit-2.new.self.fates
          (ap (λ (transaction_table : TransactionTable). transaction_table.fates) c.commit-2.ensures)
          c.store.invariant.1,
    )
