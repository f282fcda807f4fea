-- The members of the runs of a trace, and who meets whom.
use Rattle.std.specs.Prelude.{◌==◌, ◌++◌, ℕ, Bool, List, [], ◌∷◌, map, filter, if◌then◌else◌}
use Rattle.std.specs.List.{flat_map, list_any}
use Rattle.ent_picture.specs.declared.exchange.Commit.{Commit}
use Rattle.ent_picture.specs.declared.exchange.Event.{Event}
use Rattle.ent_picture.specs.declared.exchange.Event.TheVariants.{Begin}
use Rattle.ent_picture.specs.declared.exchange.Exchange.{Exchange}
use Rattle.ent_picture.specs.declared.exchange.Reply.{Reply}
use Rattle.ent_picture.specs.declared.exchange.Reply.TheVariants.{Blocked, Broken, Committed, Failed}
use Rattle.ent_picture.specs.declared.exchange.Reply.TheVariants.{HeldBack, RolledBack, Started}
use Rattle.ent_picture.specs.declared.joints.JointAnswer.{JointAnswer}
use Rattle.ent_picture.specs.declared.picture.Lane.{Lane}

abbrev pub members_of_start : Reply → List ℕ
members_of_start (Started members) = members.items
members_of_start _ = []

-- all that a trace names as members of a run that starts, in order, as often as it does
abbrev pub started : List Exchange → List ℕ
started trace = flat_map (λ exchange. members_of_start exchange.reply) trace

-- the transactions of lanes
abbrev pub members_of_lanes : List Lane → List ℕ
members_of_lanes lanes = map (λ lane. lane.tx) lanes

-- ---- who meets

abbrev pub members_of_commits : List Commit → List ℕ
members_of_commits commits = map (λ commit. commit.tx) commits

-- the transaction that is begun meets these
abbrev pub begun_with : Event → List ℕ → List (List ℕ)
begun_with (Begin tx) others = (tx ∷ others) ∷ []
begun_with _ others = []

-- Those who meet in an exchange, company by company: who begins a statement and whoever blocks it, or for whom it is
-- held back; those who commit or are rolled back in one event; those of a cycle.
abbrev pub companies_of : Event → Reply → List (List ℕ)
companies_of event (Blocked holder) = begun_with event (holder ∷ [])
companies_of event (HeldBack demand) = begun_with event (demand.asker ∷ demand.first ∷ demand.second ∷ [])
companies_of event (Committed commits) = members_of_commits commits.items ∷ []
companies_of event (RolledBack group) = group.items ∷ []
companies_of event (Failed failure group) = group.items ∷ []
companies_of event (Broken cycle group) = cycle.items ∷ group.items ∷ []
companies_of event _ = []

abbrev pub is_picked : List ℕ → ℕ → Bool
is_picked picked tx = list_any (λ other. other == tx) picked

-- a company, where one of it is picked
abbrev pub if_met : List ℕ → List ℕ → List ℕ
if_met picked company = if list_any (is_picked picked) company then company else []

-- those who are picked and members of a run, and whoever met one who is picked
abbrev pub picked_and_met : List Exchange → List JointAnswer → List ℕ → List ℕ
picked_and_met trace joints picked =
    (filter (is_picked picked) (started trace) ++ flat_map (λ joint. if_met picked joint.members.items) joints)
    ++ flat_map (λ exchange. flat_map (if_met picked) (companies_of exchange.event exchange.reply)) trace
