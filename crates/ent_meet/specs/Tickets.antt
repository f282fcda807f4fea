-- The text of tickets: what became of each, and the answers of those that committed.
use Rattle.std.specs.Prelude.{ℕ, zero, suc, ◌+◌, ◌-◌, ◌==◌, List, [], ◌∷◌, ◌++◌, length, map, codes, Option, Some, None}
use Rattle.std.specs.Prelude.{if◌then◌else◌}
use Rattle.std.specs.Fmt.{decimal}
use denote.Ref.{Bor}
use Rattle.ent_book.specs.Report.{answers_text, fate_text, line}
use Rattle.ent_feed.specs.Feed.{from}
use Rattle.ent_feed.specs.Telling.{all_commits}
use Rattle.ent_feed.specs.declared.group.Commit.{Commit}
use Rattle.ent_room.specs.Room.{Room}
use Rattle.ent_room.specs.State.{submissions_of}
use Rattle.ent_semantics.specs.declared.answer.Answer.{Answer}
use Rattle.ent_semantics.specs.declared.book.Fate.{Fate}
use Rattle.ent_semantics.specs.declared.book.Fate.TheVariants as fates
use Rattle.ent_waiting.specs.Ended.{ended_of}
use Rattle.ent_waiting.specs.WaitingList.{WaitingList}
use Rattle.ent_waiting.specs.declared.ended.Ended.{Ended}
use Rattle.ent_waiting.specs.declared.ended.Ending.{Ending}
use Rattle.ent_waiting.specs.declared.ended.Ending.TheVariants as endings
use Rattle.ent_meet.specs.declared.tickets.Told.{Told as Lent}

-- a commit, with its number over all epochs
pub record Told : Type 0 where
  pub number : ℕ
  pub commit : Commit

-- the commit of a ticket among commits, the first of which has this number
abbrev pub told_from : ℕ → List Commit → ℕ → Option Told
told_from number [] ticket = None
told_from number (commit ∷ more) ticket =
    if commit.ticket == ticket then Some (record { number = number; commit = commit }) else
    told_from (number + 1) more ticket

-- commits that are borrowed
abbrev pub commits_seen : List (Bor Commit) → List Commit
commits_seen commits = map (λ commit. commit.now) commits

abbrev pub told_seen : Option Lent → Option Told
told_seen None = None
told_seen (Some told) = Some (record { number = told.number; commit = told.commit.now })

-- how a script ended after so many runs, of which no commit is told
abbrev pub fate_after : Ending → ℕ → Option Fate
fate_after (endings.Committed epoch number) runs = Some (fates.Committed number runs)
fate_after endings.RolledBack runs = Some (fates.RolledBack runs)
fate_after (endings.Failed failure) runs = Some (fates.Failed failure runs)
fate_after endings.GaveUp runs = Some (fates.GaveUp runs)
fate_after endings.Withdrawn runs = None

-- what became of a script after so many runs: it committed, as is told, or ended otherwise, or it waits
abbrev pub fate_of : Option Told → Option Ended → ℕ → Option Fate
fate_of (Some told) ended runs = Some (fates.Committed told.number runs)
fate_of None (Some ended) runs = fate_after ended.ending runs
fate_of None None runs = None

abbrev pub standing_text : Option Fate → ℕ → List ℕ
standing_text (Some fate) runs = fate_text fate
standing_text None runs = codes "waits " ++ decimal runs

abbrev pub told_answers : Option Told → List Answer
told_answers (Some told) = told.commit.answers
told_answers None = []

-- how many runs the script of a ticket was in
abbrev pub runs_of : WaitingList → ℕ → ℕ
runs_of list ticket = length (submissions_of list ticket)

abbrev pub ticket_as : ℕ → Option Told → Option Ended → ℕ → List ℕ
ticket_as ticket told ended runs =
    line (codes "tx " ++ (decimal ticket ++ (codes " " ++ standing_text (fate_of told ended runs) runs)))
    ++ answers_text 1 (told_answers told)

-- a ticket: what became of it after how many runs, then its answers
abbrev pub ticket_text : WaitingList → List Commit → ℕ → List ℕ
ticket_text list commits ticket =
    ticket_as ticket (told_from 1 commits ticket) (ended_of ticket list.ended) (runs_of list ticket)

-- so many tickets, from 1
abbrev pub tickets_text : WaitingList → List Commit → ℕ → List ℕ
tickets_text list commits zero = []
tickets_text list commits (suc count) =
    tickets_text list commits count ++ ticket_text list commits (suc count)

-- the commits that the groups of a room tell, in order
abbrev pub commits_of : Room → List Commit
commits_of room = all_commits (from 0 room.admission.feed.groups)

-- all tickets of a room
abbrev pub room_tickets_text : Room → List ℕ
room_tickets_text room = tickets_text room.admission.list (commits_of room) (room.admission.list.next - 1)
