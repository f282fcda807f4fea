-- The lines of a trace, without their ends: which ones tell an exchange.
use Rattle.std.specs.Prelude.{◌≡◌, ◌≢◌, ◌<◌, ◌+◌, ◌⊎◌, ◌++◌, ◌∷◌, ℕ, List, [], Bool, false, not, Option, Some, None}
use Rattle.std.specs.Prelude.{codes, length, take, get_or, max, eqb}
use Rattle.std.specs.Fmt.{decimal}
use Rattle.std.specs.List.{filter, flat_map, starts_with}
use Rattle.ent_value.specs.declared.refusal.Refusal.{Refusal}
use Rattle.ent_value.specs.declared.refusal.Refusal.TheVariants.{Memory, Fault}
use Rattle.ent_semantics.specs.Failure.{failure_name}
use Rattle.ent_picture.specs.declared.exchange.Event.{Event}
use Rattle.ent_picture.specs.declared.exchange.Event.TheVariants as events
use Rattle.ent_picture.specs.declared.exchange.Exchange.{Exchange}
use Rattle.ent_picture.specs.declared.exchange.Reply.{Reply}
use Rattle.ent_picture.specs.declared.exchange.Reply.TheVariants as replies
use Rattle.ent_picture.specs.declared.fault.StrangeLine.{StrangeLine}

-- ---- numbers

-- a number behind a blank
abbrev pub numbered : ℕ → List ℕ
numbered n = codes " " ++ decimal n

-- numbers, each behind a blank
abbrev pub listed : List ℕ → List ℕ
listed numbers = flat_map numbered numbers

-- two numbers with a point between them, behind a blank
abbrev pub paired : ℕ → ℕ → List ℕ
paired first second = numbered first ++ (codes "." ++ decimal second)

-- ---- an event, a reply

abbrev pub event_line : Event → List ℕ
event_line events.StartRun = codes "start_run"
event_line (events.Begin tx) = codes "begin" ++ numbered tx
event_line (events.Finish job) = codes "finish" ++ numbered job
event_line events.Pick = codes "pick"
event_line (events.JoinAnswer job) = codes "join_answer" ++ numbered job
event_line events.BreakCycle = codes "break_cycle"
event_line events.EndRun = codes "end_run"
event_line events.Recall = codes "recall"

abbrev pub reply_line : Reply → List ℕ
reply_line (replies.Started members) = codes "started" ++ listed members.items
reply_line (replies.Blocked tx) = codes "blocked" ++ numbered tx
reply_line (replies.Lent job) = codes "lent" ++ numbered job
reply_line (replies.HeldBack demand) =
    codes "held back" ++ (paired demand.asker demand.post ++ listed (demand.first ∷ demand.second ∷ []))
reply_line replies.Posted = codes "posted"
reply_line replies.Prepared = codes "prepared"
reply_line (replies.Committed commits) =
    codes "committed" ++ flat_map (λ commit. paired commit.number commit.tx) commits.items
reply_line (replies.RolledBack group) = codes "rolled back" ++ listed group.items
reply_line (replies.Stepped answer) = codes "stepped " ++ answer.items
reply_line (replies.Failed failure group) = codes "failed " ++ (failure_name failure ++ listed group.items)
reply_line replies.Nothing = codes "nothing"
reply_line replies.Answered = codes "answered"
reply_line replies.NoChoice = codes "no choice"
reply_line (replies.Broken cycle group) =
    codes "broken" ++ (listed cycle.items ++ (codes " group" ++ listed group.items))
reply_line replies.NoCycle = codes "no cycle"
reply_line (replies.Ended members) = codes "ended" ++ listed members.items
reply_line replies.Recalled = codes "recalled"
reply_line (replies.Refused words) = codes "E" ++ words.items

-- ---- a trace

-- the line of an event and that of its reply
abbrev pub exchange_lines : Exchange → List (List ℕ)
exchange_lines exchange = event_line exchange.event ∷ reply_line exchange.reply ∷ []

abbrev pub trace_lines : List Exchange → List (List ℕ)
trace_lines trace = flat_map exchange_lines trace

-- the line of an event whose reply comes next
abbrev pub waiting_lines : Option Event → List (List ℕ)
waiting_lines None = []
waiting_lines (Some event) = event_line event ∷ []

-- what the program says beside its trace
abbrev pub is_notice : List ℕ → Bool
is_notice line = starts_with eqb line (codes "entangle: ")

-- the other lines, in order
abbrev pub told : List (List ℕ) → List (List ℕ)
told lines = filter (λ line. not (is_notice line)) lines

-- the lines of exchanges, in order, and of an event that waits for its reply
abbrev pub lines_of : List Exchange → Option Event → List (List ℕ)
lines_of trace waiting = trace_lines trace ++ waiting_lines waiting

-- ---- what isn't a trace, by its lines, which are counted from 1

-- a line is told, and those before it are of exchanges, and of an event that may wait
abbrev pub IsStrange : List (List ℕ) → ℕ → Type 0
IsStrange lines line = (k : ℕ) × (trace : List Exchange) × (waiting : Option Event)
    × (line ≡ k + 1) × (k < length lines)
    × (told (take k lines) ≡ lines_of trace waiting) × (is_notice (get_or lines k []) ≡ false)

-- the last line, or the first of an empty text: all are read, and an event waits still, or nothing is told
abbrev pub BreaksOff : List (List ℕ) → ℕ → Type 0
BreaksOff lines line = (trace : List Exchange) × (waiting : Option Event) × (line ≡ max (length lines) 1)
    × (told lines ≡ lines_of trace waiting) × ((waiting ≢ None) ⊎ (trace ≡ []))

-- where a text isn't a trace, unless memory ran out
abbrev pub IsWhereItFails : List (List ℕ) → Refusal StrangeLine → Type 0
IsWhereItFails lines Memory = Unit {0}
IsWhereItFails lines (Fault strange) = IsStrange lines strange.line ⊎ BreaksOff lines strange.line
