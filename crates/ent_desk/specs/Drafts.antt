-- What is drafted of a group before it commits.
use Rattle.std.specs.Prelude.{◌≡◌, ◌≢◌, ◌≤◌, ◌==◌, ◌&&◌, ℕ, suc, Bool, true, false, not, List, [], ◌∷◌, map, length}
use Rattle.std.specs.Prelude.{Option, Some, if◌then◌else◌, find, drop}
use Rattle.std.specs.List.{AllByRecursion, list_any}
use Rattle.ent_group.specs.declared.members.TheConstants.{MOST_MEMBERS}
use Rattle.ent_semantics.specs.declared.book.Entry.{Entry}
use Rattle.ent_semantics.specs.declared.book.Fate.TheVariants.{Committed}
use Rattle.ent_protocol.specs.Lookup.{Standing, Commit, Prepared, Ready, answers_of, group_of, standing}
use Rattle.ent_protocol.specs.State.{State}
use Rattle.ent_desk.specs.Told.{fate_in}
use Rattle.ent_desk.specs.declared.draft.ReceiptDraft.{ReceiptDraft}

-- ---- drafts

-- what is drafted of a member, and of its entry
abbrev pub draft_now : State → ℕ → ReceiptDraft
draft_now core tx = record { tx = tx; answers = answers_of core tx }

abbrev pub draft_of : Entry → ReceiptDraft
draft_of entry = record { tx = entry.tx; answers = entry.answers }

abbrev pub stands_prepared : Option Standing → Bool
stands_prepared (Some Prepared) = true
stands_prepared other = false

-- a transaction is another than this one, and isn't prepared
abbrev pub keeps_waiting : State → ℕ → ℕ → Bool
keeps_waiting core tx other = not (other == tx) && not (stands_prepared (standing core other))

-- the drafts of a member's group, where all others of it are prepared
abbrev pub drafted : State → ℕ → List ReceiptDraft
drafted core tx =
    if list_any (keeps_waiting core tx) (group_of core tx) then [] else map (draft_now core) (group_of core tx)

-- these are drafted for a member, where it is at its COMMIT
abbrev pub AreDraftedFor : State → ℕ → List ReceiptDraft → Type 0
AreDraftedFor core tx drafts = standing core tx ≡ Some (Ready Commit) → drafts ≡ drafted core tx

-- the first draft of a transaction
abbrev pub draft_among : List ReceiptDraft → ℕ → Option ReceiptDraft
draft_among drafts tx = find (λ draft. draft.tx == tx) drafts

-- ---- the entries that are made

-- each entry is drafted, and no two are of one transaction
abbrev pub AreDrafted : List ReceiptDraft → List Entry → Type 0
AreDrafted drafts [] = Unit {0}
AreDrafted drafts (entry ∷ more) =
    (draft_among drafts entry.tx ≡ Some (draft_of entry)) × AllByRecursion (λ other. other.tx ≢ entry.tx) more
    × AreDrafted drafts more

-- the transaction of each entry has committed under its number, the first having this one
abbrev pub HaveCommitted : State → ℕ → List Entry → Type 0
HaveCommitted core next [] = Unit {0}
HaveCommitted core next (entry ∷ more) =
    ((runs : ℕ) × (fate_in (standing core entry.tx) ≡ Some (Committed next runs))) × HaveCommitted core (suc next) more

-- The entries of the journal behind so many are those of one group: there are few, each is drafted, and its transaction
-- has committed.
pub record AreOfGroup (core : State) (before : ℕ) (drafts : List ReceiptDraft) : Type 0 where
  pub within : before ≤ length core.journal
  pub few : length (drop before core.journal) ≤ MOST_MEMBERS
  pub are_drafted : AreDrafted drafts (drop before core.journal)
  pub have_committed : HaveCommitted core (suc before) (drop before core.journal)
