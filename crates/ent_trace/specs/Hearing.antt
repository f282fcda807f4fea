-- What a taker of notes hears.
use Rattle.ent_reasons.specs.News.{IsHeard}
use Rattle.ent_sched.specs.Watching.{Heard}
use Rattle.ent_trace.specs.declared.note_taker.NoteTaker.{NoteTaker}

-- the notes go on by an event and its reply, whatever the state behind them
abbrev pub Hears : NoteTaker → Heard → NoteTaker → Type 0
Hears old heard new = IsHeard old.notes heard.one new.notes
