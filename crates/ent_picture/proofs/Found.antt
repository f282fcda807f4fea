-- Whom a search finds, put together.
use Rattle.std.proofs.Common.{◌≡◌, ℕ, List, [], ◌++◌, ap, ◌∙◌}
use Rattle.std.specs.Prelude.{filter}
use Rattle.std.specs.List.{flat_map}
use Rattle.ent_picture.specs.declared.exchange.Exchange.{Exchange}
use Rattle.ent_picture.specs.declared.joints.JointAnswer.{JointAnswer}
use Rattle.ent_picture.specs.Members.{companies_of, if_met, is_picked, picked_and_met, started}

pub all_found : (trace : List Exchange) (joints : List JointAnswer)
    (picked empty members given first second third : List ℕ)
    → empty ≡ [] → given ≡ members → members ≡ started trace → first ≡ empty ++ filter (is_picked picked) given
    → second ≡ first ++ flat_map (λ joint. if_met picked joint.members.items) joints
    → third ≡ second ++ flat_map (λ exchange. flat_map (if_met picked) (companies_of exchange.event exchange.reply))
    trace
    → third ≡ picked_and_met trace joints picked
all_found trace joints picked empty members given first second third none is named one two three =
    let partners = flat_map (λ (joint : JointAnswer). if_met picked joint.members.items) joints in
    let others = flat_map (λ (exchange : Exchange). flat_map (if_met picked)
    (companies_of exchange.event exchange.reply)) trace in
    three ∙ ap (λ (l : List ℕ). l ++ others) (two ∙ ap (λ (l : List ℕ). l ++ partners)
    (one ∙ (ap (λ (l : List ℕ). l ++ filter (is_picked picked) given) none
    ∙ ap (λ (l : List ℕ). filter (is_picked picked) l) (is ∙ named))))
