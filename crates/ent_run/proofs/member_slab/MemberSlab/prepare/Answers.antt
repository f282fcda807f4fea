use Rattle.std.proofs.Common.{◌≡◌, ◌<◌, List, ℕ, [], ◌∷◌, ◌++◌, not, get_or, filter, length, ap, sym, subst, ◌∙◌}
use Rattle.std.specs.List.{remove}
use Rattle.std.proofs.lemmas.List.{length-map, map-append}
use Rattle.ent_protocol.specs.Member.{is_tx}
use Rattle.ent_protocol.specs.State.{Member}
use Rattle.ent_run.specs.MemberSlab.{AreKeys}
use Rattle.ent_run.specs.Run.{Run}
use Rattle.ent_run.specs.UnderKeys.{member_under, members_under}
use Rattle.ent_run.proofs.InSlab.{at_under}
use Rattle.ent_run.proofs.Keys.{moved_keys, under_remove}
use Rattle.ent_run.proofs.OneMember.{found_at, removed_at}
use Rattle.ent_run.proofs.member_slab.MemberSlab.prepare.Goals as goal
use Rattle.ent_run.proofs.member_slab.MemberSlab.prepare.Goals.{After-push_reserved}

low : (c : After-push_reserved) → c.args.place < length c.self.inside.active.items
low c =
    subst (λ (n : ℕ). c.args.place < n) (length-map c.self.inside.active.items (member_under c.self.inside.live))
    (subst (λ (run : Run). c.args.place < length run.active) (sym c.self.view_is) c.requires.within)

last : (c : After-push_reserved)
    → c.push_reserved.new.self.items ≡ c.self.inside.prepared.items ++ c.remove-key.result ∷ []
last c =
    c.push_reserved.ensures.items
    ∙ ap (λ (keys : List ℕ). keys ++ c.remove-key.result ∷ []) c.in_ok-reserve.ensures.items

pub invariant_of-self-2 : goal.invariant_of-self-2
invariant_of-self-2 c =
    let w = (goal.at.invariant_of-self-2 c).After-push_reserved in
    let inside = c.self.inside in
    subst (λ (keys : List ℕ). AreKeys inside.live keys c.remove-key.new.self.items) (sym (last w))
    (subst (λ (keys : List ℕ). AreKeys inside.live (inside.prepared.items ++ c.remove-key.result ∷ []) keys)
    (sym c.remove-key.ensures.items)
    (moved_keys inside.live inside.prepared.items inside.active.items c.args.place c.remove-key.result (low w)
    c.remove-key.ensures.value c.self.invariant))

pub returns-clause-ok : goal.returns-clause-ok
returns-clause-ok c = λ tx at member there.
    let w = (goal.at.returns-clause-ok c).After-push_reserved in
    let inside = c.self.inside in
    let active = c.args.self.now.active in
    let place = c.args.place in
    let key = c.remove-key.result in
    let same : get_or active place member ≡ member = found_at active tx place member member at there in
    let own : member_under inside.live key ≡ member = ap (member_under inside.live) c.remove-key.ensures.value
    ∙ sym (at_under inside.live inside.active.items place key member (low w))
    ∙ ap (λ (run : Run). get_or run.active place member) c.self.view_is ∙ same in
    let prepared_are : members_under inside.live inside.prepared.items ≡ c.args.self.now.prepared =
    ap (λ (run : Run). run.prepared) c.self.view_is in
    record {
      prepared = ap (members_under inside.live) (last w)
          ∙ map-append (member_under inside.live) inside.prepared.items (key ∷ [])
          ∙ (λ i. prepared_are i ++ own i ∷ []);
      active = ap (members_under inside.live) c.remove-key.ensures.items
          ∙ under_remove inside.live inside.active.items place
          ∙ ap (λ (run : Run). remove run.active place) c.self.view_is
          ∙ removed_at active place member c.requires.distinct at.in_range
          ∙ ap (λ (m : Member). filter (λ other. not (is_tx m.tx other)) active) same;
    }
