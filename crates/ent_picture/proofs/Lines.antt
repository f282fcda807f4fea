-- The lines of exchanges.
use Rattle.std.proofs.Common.{◌≡◌, ◌+◌, ◌<◌, ℕ, List, [], ◌∷◌, ◌++◌, Bool, true, false, not, cond, Option, None, Some}
use Rattle.std.proofs.Common.{length, take, get_or, refl, sym, ap, subst, ◌∙◌, append-nil, append_assoc, take_all, eqb}
use Rattle.std.proofs.Common.{arith}
use Rattle.std.specs.Prelude.{◌≢◌, is_some}
use Rattle.std.proofs.lemmas.Bool.{eqb-true, false≢true, true≢false}
use Rattle.std.proofs.lemmas.List.{get_or_default}
use Rattle.std.proofs.lemmas.List.Elements.{filter_more}
use Rattle.ent_picture.specs.declared.exchange.Event.{Event}
use Rattle.ent_picture.specs.declared.exchange.Exchange.{Exchange}
use Rattle.ent_picture.specs.Trace.{event_line, reply_line, exchange_lines, trace_lines, lines_of, is_notice, told}
use Rattle.ent_picture.specs.Trace.{IsStrange}

trace_more : (trace : List Exchange) (x : Exchange) → trace_lines (trace ++ x ∷ []) ≡ trace_lines trace
    ++ exchange_lines x
trace_more [] x = refl
trace_more (e ∷ trace) x = ap (λ rest. event_line e.event ∷ reply_line e.reply ∷ rest) (trace_more trace x)

-- an event is read
pub waits : (trace : List Exchange) (event : Event) (line : List ℕ) (waiting : Option Event) → waiting ≡ None
    → line ≡ event_line event → lines_of trace (Some event) ≡ lines_of trace waiting ++ (line ∷ [])
waits trace event line waiting none is =
    ap (λ (l : List ℕ). trace_lines trace ++ (l ∷ [])) (sym is)
    ∙ (ap (λ (ls : List (List ℕ)). ls ++ (line ∷ [])) (sym (append-nil (trace_lines trace)))
    ∙ ap (λ (w : Option Event). lines_of trace w ++ (line ∷ [])) (sym none))

-- its reply is read
pub replied : (trace : List Exchange) (x : Exchange) (line : List ℕ) (waiting : Option Event) → waiting ≡ Some x.event
    → line ≡ reply_line x.reply → lines_of (trace ++ x ∷ []) None ≡ lines_of trace waiting ++ (line ∷ [])
replied trace x line waiting some is =
    append-nil (trace_lines (trace ++ x ∷ [])) ∙ (trace_more trace x
    ∙ (ap (λ (l : List ℕ). trace_lines trace ++ (event_line x.event ∷ l ∷ [])) (sym is)
    ∙ (sym (append_assoc (trace_lines trace) (event_line x.event ∷ []) (line ∷ []))
    ∙ ap (λ (w : Option Event). lines_of trace w ++ (line ∷ [])) (sym some))))

-- a line that is told comes behind those before it
told_more : (lines : List (List ℕ)) (k : ℕ) (line : List ℕ) → k < length lines → line ≡ get_or lines k line
    → is_notice line ≡ false → told (take (k + 1) lines) ≡ told (take k lines) ++ (line ∷ [])
told_more lines k line less is other =
    filter_more (λ (l : List ℕ). not (is_notice l)) lines k line less
    ∙ (ap (λ (l : List ℕ). told (take k lines) ++ cond (not (is_notice l)) (l ∷ []) []) (sym is)
    ∙ ap (λ (b : Bool). told (take k lines) ++ cond (not b) (line ∷ []) []) other)

-- a notice makes no difference
told_same : (lines : List (List ℕ)) (k : ℕ) (line : List ℕ) → k < length lines → line ≡ get_or lines k line
    → is_notice line ≡ true → told (take (k + 1) lines) ≡ told (take k lines)
told_same lines k line less is notice =
    filter_more (λ (l : List ℕ). not (is_notice l)) lines k line less
    ∙ (ap (λ (l : List ℕ). told (take k lines) ++ cond (not (is_notice l)) (l ∷ []) []) (sym is)
    ∙ (ap (λ (b : Bool). told (take k lines) ++ cond (not b) (line ∷ []) []) notice ∙ append-nil (told (take k lines))))

-- the next line is read
pub read_on : (lines : List (List ℕ)) (k : ℕ) (line : List ℕ) (before after : List (List ℕ))
    → (k < length lines) × (line ≡ get_or lines k line) → told (take k lines) ≡ before → after ≡ before ++ (line ∷ [])
    → is_notice line ≡ false → told (take (k + 1) lines) ≡ after
read_on lines k line before after at read more other =
    told_more lines k line at.0 at.1 other ∙ (ap (λ (l : List (List ℕ)). l ++ (line ∷ [])) read ∙ sym more)

-- the next line is a notice
pub passed : (lines : List (List ℕ)) (k : ℕ) (line : List ℕ) (before : List (List ℕ))
    → (k < length lines) × (line ≡ get_or lines k line) → told (take k lines) ≡ before → is_notice line ≡ true
    → told (take (k + 1) lines) ≡ before
passed lines k line before at read notice = told_same lines k line at.0 at.1 notice ∙ read

-- the next line can't stand there
pub strange : (lines : List (List ℕ)) (k number : ℕ) (line : List ℕ) (trace : List Exchange) (waiting : Option Event)
    → (k < length lines) × (line ≡ get_or lines k line) → number ≡ k + 1 → told (take k lines) ≡ lines_of trace waiting
    → is_notice line ≡ false → IsStrange lines number
strange lines k number line trace waiting at count read other = (
  k,
  trace,
  waiting,
  count,
  at.0,
  read,
  subst (λ (l : List ℕ). is_notice l ≡ false) (at.1 ∙ get_or_default lines k line [] at.0) other,
)

-- all lines are read
pub all_read : (lines : List (List ℕ)) (k : ℕ) (before : List (List ℕ)) → k ≡ length lines
    → told (take k lines) ≡ before
    → told lines ≡ before
all_read lines k before all read = ap told (sym (take_all k lines (omega (arith, all)))) ∙ read

-- an event that waits is there
pub is_there : (waiting : Option Event) → is_some waiting ≡ true → waiting ≢ None
is_there None some = absurd (false≢true some)
is_there (Some event) some = λ none. absurd (true≢false (sym some ∙ ap is_some none))

-- none waits
pub is_absent : (waiting : Option Event) → is_some waiting ≡ false → waiting ≡ None
is_absent None none = refl
is_absent (Some event) none = absurd (true≢false none)

-- nothing was told
pub is_nothing : (trace : List Exchange) (n : ℕ) → n ≡ length trace → eqb n 0 ≡ true → trace ≡ []
is_nothing [] n size empty = refl
is_nothing (x ∷ trace) n size empty = absurd (omega (arith, size, eqb-true n 0 empty))

-- all lines are exchanges'
pub all_told : (trace : List Exchange) (waiting : Option Event) (told_lines : List (List ℕ)) → waiting ≡ None
    → told_lines ≡ lines_of trace waiting → told_lines ≡ trace_lines trace
all_told trace waiting told_lines none read =
    read ∙ (ap (λ (w : Option Event). lines_of trace w) none ∙ append-nil (trace_lines trace))
