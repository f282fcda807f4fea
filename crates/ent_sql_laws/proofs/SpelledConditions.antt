-- What conditions of an entangled SELECT spell.
use Rattle.std.proofs.Common.{ℕ, ◌≤◌, ◌-◌, List, [], ◌∷◌, ◌++◌, length, refl, ap, sym, ◌∙◌, subst, arith, append_assoc}
use Rattle.std.proofs.Common.{◌⊎◌, inl, inr}
use Rattle.ent_text.specs.declared.keyword.Keyword.TheVariants as words
use Rattle.ent_text.specs.declared.symbol.Symbol.TheVariants as signs
use Rattle.ent_text.specs.declared.token.Token.{Token}
use Rattle.ent_text.specs.declared.token.TokenKind.TheVariants as kinds
use Rattle.ent_tree.specs.declared.limits.TheConstants.{MOST_PARTS}
use Rattle.ent_tree.specs.declared.operand.Comparison.{Comparison}
use Rattle.ent_tree.specs.declared.select.Select.{Select}
use Rattle.ent_tree.specs.declared.entangled.Term.{Term}
use Rattle.ent_tree.specs.declared.entangled.Tuple.{Tuple}
use Rattle.ent_tree.specs.declared.entangled.Condition.{Condition}
use Rattle.ent_tree.specs.declared.entangled.Condition.TheVariants as conditions
use Rattle.ent_tree.specs.Places.{term_place}
use Rattle.ent_text.specs.declared.divider.Divider.TheVariants.{Comma}
use Rattle.ent_text.specs.Phrase.{Phrase, ◌⨾◌}
use Rattle.ent_text.specs.GrammarSpelling.{chained}
use Rattle.ent_sql.specs.Entangling as grammar
use Rattle.ent_sql_laws.specs.Phrases.{Standing}
use Rattle.ent_sql_laws.specs.Phrases as phrases
use Rattle.ent_sql_laws.specs.Operands as operands
use Rattle.ent_sql_laws.specs.Selects.{select}
use Rattle.ent_sql_laws.specs.Entangling as said
use Rattle.ent_sql_laws.proofs.Shapes.{Spelled, Made, made_gives, spelled_as, word_spelled, sign_spelled}
use Rattle.ent_sql_laws.proofs.Shapes.{last_spelled, then_spelled, mark_spelled, end_spelled}
use Rattle.ent_sql_laws.proofs.Shapes.{behind_spelled, chain_spelled, either_spelled, more_spelled, listed_spelled}
use Rattle.ent_sql_laws.proofs.Shapes.{join}
use Rattle.ent_sql_laws.proofs.SpelledOperands.{identifier_spelled, term_spelled, comparison_spelled}
use Rattle.ent_sql_laws.proofs.SpelledSelects.{select_spelled}

-- ---- phrases one behind the other

pub to_left : {before between behind : Phrase} {tokens : List Token} → (before ⨾ (between ⨾ behind)) tokens
    → ((before ⨾ between) ⨾ behind) tokens
to_left h =
    join (h.front ++ h.second.front) h.second.back
    (h.whole ∙ ap (λ (l : List Token). h.front ++ l) h.second.whole
    ∙ sym (append_assoc h.front h.second.front h.second.back))
    (join h.front h.second.front refl h.first h.second.first) h.second.second

pub to_right : {before between behind : Phrase} {tokens : List Token} → ((before ⨾ between) ⨾ behind) tokens
    → (before ⨾ (between ⨾ behind)) tokens
to_right h =
    join h.first.front (h.first.back ++ h.back)
    (h.whole ∙ ap (λ (l : List Token). l ++ h.back) h.first.whole
    ∙ append_assoc h.first.front h.first.back h.back)
    h.first.first (join h.first.back h.back refl h.first.second h.second)

-- ---- membership

pub relation_spelled : Spelled grammar.relation said.relation
unfolding grammar.relation
relation_spelled = behind_spelled (word_spelled words.Answer) identifier_spelled

abbrev OfSelect : Tuple → Condition → Phrase
OfSelect t = Made {P = Select × Unit {0}} (λ parts. conditions.InSelect t parts.0)
    (λ parts. phrases.sign signs.Open ⨾ select parts.0 ⨾ phrases.sign signs.Close)

abbrev OfAnswer : Tuple → Condition → Phrase
OfAnswer t = Made (λ r. conditions.InAnswer t r) said.relation

-- IN .. behind a tuple
abbrev Member : Tuple → Condition → Phrase
Member t y = phrases.word words.In ⨾ (λ tokens. OfSelect t y tokens ⊎ OfAnswer t y tokens)

membership_spelled : (t : Tuple) → Spelled (grammar.membership t) (Member t)
unfolding grammar.membership
membership_spelled t =
    behind_spelled (word_spelled words.In)
    (either_spelled
    (mark_spelled (sign_spelled signs.Open)
    (λ place. then_spelled (λ s parts. conditions.InSelect t s) (λ s parts. phrases.sign signs.Close) select_spelled
    (λ s. end_spelled (conditions.InSelect t s) (sign_spelled signs.Close))))
    (last_spelled (λ r. conditions.InAnswer t r) relation_spelled))

member_to : (t : Tuple) (y : Condition) (tokens : List Token) → (said.tuple t ⨾ Member t y) tokens
    → said.condition y tokens
member_to t y tokens h = on h.second.second
  where
    on : OfSelect t y h.second.back ⊎ OfAnswer t y h.second.back → said.condition y tokens
    on (inl k) =
        made_gives (λ z. said.condition z tokens)
        (λ parts l. join h.front h.back h.whole h.first
        (join h.second.front h.second.back h.second.whole h.second.first l)) k
    on (inr k) =
        made_gives (λ z. said.condition z tokens)
        (λ parts l. join h.front h.back h.whole h.first
        (join h.second.front h.second.back h.second.whole h.second.first l)) k

-- ---- a tuple in brackets, and without

abbrev Bracketed : Condition → Phrase
Bracketed = chained (λ place. Standing place (kinds.Sign signs.Open))
    (λ place. chained (phrases.listed MOST_PARTS Comma operands.term)
    (λ members y. phrases.sign signs.Close ⨾ Member (record { place = place; terms = members }) y))

bracketed_spelled : Spelled grammar.bracketed Bracketed
unfolding grammar.bracketed
bracketed_spelled =
    chain_spelled (sign_spelled signs.Open)
    (λ place. chain_spelled (listed_spelled MOST_PARTS Comma (omega arith) term_spelled)
    (λ members. behind_spelled (sign_spelled signs.Close)
    (membership_spelled (record { place = place; terms = members }))))

abbrev ComparedWith : Term → Condition → Phrase
ComparedWith first = Made {P = Comparison × Term}
    (λ parts. conditions.Test (record { left = first; comparison = parts.0; right = parts.1 }))
    (λ parts. operands.comparison parts.0 ⨾ operands.term parts.1)

abbrev Unbracketed : Term → Condition → Phrase
Unbracketed first = chained (phrases.many (MOST_PARTS - 1) (λ y. phrases.divides Comma ⨾ operands.term y))
    (λ others. Member (record { place = term_place first; terms = first ∷ others }))

abbrev BehindTerm : Term → Condition → Phrase
BehindTerm first y tokens = ComparedWith first y tokens ⊎ Unbracketed first y tokens

behind_term_spelled : (first : Term) → Spelled (grammar.condition_behind first) (BehindTerm first)
unfolding grammar.condition_behind grammar.comparison_behind grammar.tuple_behind
behind_term_spelled first =
    either_spelled
    (then_spelled (λ c r. conditions.Test (record { left = first; comparison = c; right = r }))
    (λ c r. operands.term r) comparison_spelled
    (λ c. last_spelled (λ r. conditions.Test (record { left = first; comparison = c; right = r })) term_spelled))
    (chain_spelled (more_spelled (MOST_PARTS - 1) Comma term_spelled)
    (λ others. membership_spelled (record { place = term_place first; terms = first ∷ others })))

abbrev AnyCondition : Condition → Phrase
AnyCondition y tokens = Bracketed y tokens ⊎ chained operands.term BehindTerm y tokens

condition_to : (y : Condition) (tokens : List Token) → AnyCondition y tokens → said.condition y tokens
condition_to y tokens (inl h) =
    let t : Tuple = record { place = h.0; terms = h.1.second.0 } in
    let inner = to_left h.1.second.1 in
    let whole = to_left (join h.1.front h.1.back h.1.whole h.1.first inner) in
    member_to t y tokens (join whole.front whole.back whole.whole (inl whole.first) whole.second)
condition_to y tokens (inr h) = on h.1.second
  where
    on : BehindTerm h.0 y h.1.back → said.condition y tokens
    on (inl k) = made_gives (λ z. said.condition z tokens) (λ parts l. join h.1.front h.1.back h.1.whole h.1.first l) k
    on (inr k) =
        let t : Tuple = record { place = term_place h.0; terms = h.0 ∷ k.0 } in
        let long : length (h.0 ∷ k.0) ≤ MOST_PARTS = omega (arith, k.1.first.0) in
        let parts = to_left {behind = Member t y} (join h.1.front h.1.back h.1.whole h.1.first
        (join k.1.front k.1.back k.1.whole k.1.first.1 k.1.second)) in
        member_to t y tokens (join parts.front parts.back parts.whole (inr (refl, (long, parts.first))) parts.second)

member_from : (place : ℕ) (ts : List Term) (y : Condition) (tokens : List Token)
    → (said.tuple (record { place = place; terms = ts }) ⨾ Member (record { place = place; terms = ts }) y) tokens
    → AnyCondition y tokens
member_from place ts y tokens h = on ts h.first h.second
  where
    on : (ts : List Term) → said.tuple (record { place = place; terms = ts }) h.front
        → Member (record { place = place; terms = ts }) y h.back → AnyCondition y tokens
    on ts (inl k) m =
        let t : Tuple = record { place = place; terms = ts } in
        let parts = to_right {behind = Member t y} (join h.front h.back h.whole k m) in
        let inner = to_right {behind = Member t y}
        (join parts.second.front parts.second.back parts.second.whole parts.second.first
        parts.second.second) in
        inl (place, join parts.front parts.back parts.whole parts.first (ts, inner))
    on [] (inr k) m = absurd k
    on (x ∷ xs) (inr k) m =
        let t : Tuple = record { place = term_place x; terms = x ∷ xs } in
        let member = subst (λ (n : ℕ). Member (record { place = n; terms = x ∷ xs }) y h.back) k.0 m in
        let parts = to_right {behind = Member t y} (join h.front h.back h.whole k.1.1 member) in
        let few : length xs ≤ MOST_PARTS - 1 = omega (arith, k.1.0) in
        inr (
          x,
          join parts.front parts.back parts.whole parts.first
              (inr (
                xs,
                join parts.second.front parts.second.back parts.second.whole (few, parts.second.first)
                    parts.second.second,
              )),
        )

condition_from : (y : Condition) (tokens : List Token) → said.condition y tokens → AnyCondition y tokens
condition_from (conditions.InSelect t s) tokens h =
    member_from t.place t.terms (conditions.InSelect t s) tokens
    (join h.front h.back h.whole h.first (join h.second.front h.second.back h.second.whole h.second.first
    (inl (record { parts = (s, tt); is = refl; spelled = h.second.second }))))
condition_from (conditions.InAnswer t r) tokens h =
    member_from t.place t.terms (conditions.InAnswer t r) tokens
    (join h.front h.back h.whole h.first (join h.second.front h.second.back h.second.whole h.second.first
    (inr (record { parts = r; is = refl; spelled = h.second.second }))))
condition_from (conditions.Test t) tokens h =
    inr (
      t.left,
      join h.front h.back h.whole h.first
          (inl (record { parts = (t.comparison, t.right); is = refl; spelled = h.second })),
    )

pub condition_spelled : Spelled grammar.condition said.condition
unfolding grammar.condition
condition_spelled =
    spelled_as (either_spelled bracketed_spelled (chain_spelled term_spelled behind_term_spelled)) condition_to
    condition_from
