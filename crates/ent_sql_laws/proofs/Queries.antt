-- What either SELECT spells.
use Rattle.std.proofs.Common.{◌≡◌, ℕ, ◌≤◌, ◌-◌, Bool, true, false, cond, List, [], ◌∷◌, ◌++◌, length, refl, ap, sym}
use Rattle.std.proofs.Common.{◌∙◌, subst, arith, append_assoc, Option, Some, None, ◌⊎◌, inl, inr}
use Rattle.std.proofs.lemmas.List.{append-nil, length-append}
use Rattle.ent_text.specs.declared.keyword.Keyword.TheVariants as words
use Rattle.ent_text.specs.declared.symbol.Symbol.TheVariants as signs
use Rattle.ent_text.specs.declared.token.Token.{Token}
use Rattle.ent_text.specs.declared.token.TokenKind.TheVariants as kinds
use Rattle.ent_tree.specs.declared.limits.TheConstants.{MOST_PARTS}
use Rattle.ent_tree.specs.declared.operand.Identifier.{Identifier}
use Rattle.ent_tree.specs.declared.operand.Operand.{Operand}
use Rattle.ent_tree.specs.declared.select.Items.{Items}
use Rattle.ent_tree.specs.declared.select.Items.TheVariants.{All, Listed}
use Rattle.ent_tree.specs.declared.select.Select.{Select}
use Rattle.ent_tree.specs.declared.entangled.EntangledItem.{EntangledItem}
use Rattle.ent_tree.specs.declared.entangled.Condition.{Condition}
use Rattle.ent_tree.specs.declared.entangled.Entangled.{Entangled}
use Rattle.ent_tree.specs.declared.script.Statement.{Statement}
use Rattle.ent_tree.specs.declared.script.Statement.TheVariants as statements
use Rattle.ent_text.specs.declared.divider.Divider.TheVariants.{Comma, And}
use Rattle.ent_text.specs.Class.{one}
use Rattle.ent_text.specs.Phrase.{Phrase, ◌⨾◌, nothing, all}
use Rattle.ent_text.specs.GrammarSpelling.{chained}
use Rattle.ent_sql.specs.Entangling as grammar
use Rattle.ent_sql.specs.Entangling.{are_terms, items_of}
use Rattle.ent_sql_laws.specs.Phrases.{Standing}
use Rattle.ent_sql_laws.specs.Phrases as phrases
use Rattle.ent_sql_laws.specs.Operands as operands
use Rattle.ent_sql_laws.specs.Selects as selects
use Rattle.ent_sql_laws.specs.Entangling as said
use Rattle.ent_sql_laws.specs.Scripts as scripts
use Rattle.ent_sql_laws.proofs.Shapes.{Spelled, Made, made_gives, made_spelled, either_made, spelled_as, word_spelled}
use Rattle.ent_sql_laws.proofs.Shapes.{sign_spelled, standing_spelled, give_spelled, last_spelled, then_spelled}
use Rattle.ent_sql_laws.proofs.Shapes.{mark_spelled, end_spelled, behind_spelled, chain_spelled, either_spelled}
use Rattle.ent_sql_laws.proofs.Shapes.{if_spelled, more_spelled, listed_spelled, join}
use Rattle.ent_sql_laws.proofs.SpelledOperands.{host_variable_spelled, operand_spelled, term_spelled}
use Rattle.ent_sql_laws.proofs.SpelledSelects.{BehindItems, select_behind_spelled}
use Rattle.ent_sql_laws.proofs.SpelledConditions.{to_left, to_right, relation_spelled, condition_spelled}
use Rattle.ent_sql_laws.proofs.SpelledItems.{another, heading, items_to, split, items_length}

-- ---- parts

pub binding_spelled : Spelled grammar.binding said.binding
unfolding grammar.binding
binding_spelled =
    either_made said.binding
    (mark_spelled (word_spelled words.As) (λ place. last_spelled (λ v. Some v) host_variable_spelled))
    (give_spelled None) (λ parts tokens h. h) (λ parts tokens h. h) from
  where
    from : (y : Option Identifier) (tokens : List Token) → said.binding y tokens
        → Made (λ v. Some v) (λ v. phrases.word words.As ⨾ operands.host_variable v) y tokens
        ⊎ Made {P = Unit {0}} (λ parts. None) (λ parts. nothing) y tokens
    from None tokens h = inr (record { parts = tt; is = refl; spelled = h })
    from (Some v) tokens h = inl (record { parts = v; is = refl; spelled = h })

pub item_spelled : Spelled grammar.entangled_item said.entangled_item
unfolding grammar.entangled_item
item_spelled =
    made_spelled said.entangled_item
    (then_spelled _ _ term_spelled (λ t. last_spelled (λ b. record { term = t; binds = b }) binding_spelled))
    (λ parts tokens h. h) (λ y tokens h. record { parts = (y.term, y.binds); is = refl; spelled = h })

abbrev Conditions : List Condition → Phrase
Conditions cs = phrases.word words.Where ⨾ phrases.listed MOST_PARTS And said.condition cs

abbrev NoConditions : List Condition → Phrase
NoConditions = Made {P = Unit {0}} (λ parts. []) (λ parts. nothing)

conditions_to : (cs : List Condition) (tokens : List Token) → Conditions cs tokens ⊎ NoConditions cs tokens
    → said.conditions_clause cs tokens
conditions_to [] tokens (inl h) = absurd h.second
conditions_to (c ∷ cs) tokens (inl h) = h
conditions_to cs tokens (inr h) = made_gives (λ z. said.conditions_clause z tokens) (λ parts none. none) h

conditions_from : (cs : List Condition) (tokens : List Token) → said.conditions_clause cs tokens
    → Conditions cs tokens ⊎ NoConditions cs tokens
conditions_from [] tokens h = inr (record { parts = tt; is = refl; spelled = h })
conditions_from (c ∷ cs) tokens h = inl h

pub conditions_spelled : Spelled grammar.entangled_conditions said.conditions_clause
unfolding grammar.entangled_conditions
conditions_spelled =
    spelled_as
    (either_spelled
    (behind_spelled (word_spelled words.Where) (listed_spelled MOST_PARTS And (omega arith) condition_spelled))
    (give_spelled [])) conditions_to conditions_from

-- ---- the items

-- what stands behind the operands of an entangled SELECT, up to INTO
abbrev Bound : List Operand → List EntangledItem → Phrase
Bound xs = Made {P = Identifier × List EntangledItem} (λ parts. items_of xs (Some parts.0) ++ parts.1)
    (λ parts. phrases.word words.As ⨾ operands.host_variable parts.0
    ⨾ phrases.many (MOST_PARTS - length (items_of xs (Some parts.0))) (another said.entangled_item) parts.1)

abbrev Free : List Operand → List EntangledItem → Phrase
Free xs = Made {P = Unit {0}} (λ parts. items_of xs None) (λ parts. nothing)

abbrev BehindOperands : List Operand → List EntangledItem → Phrase
BehindOperands xs y tokens = Bound xs y tokens ⊎ Free xs y tokens

items_spelled : (xs : List Operand) → Spelled (grammar.entangled_items xs) (BehindOperands xs)
unfolding grammar.entangled_items
items_spelled xs =
    either_spelled
    (mark_spelled (word_spelled words.As)
    (λ place. then_spelled (λ v others. items_of xs (Some v) ++ others)
    (λ v. phrases.many (MOST_PARTS - length (items_of xs (Some v))) (another said.entangled_item))
    host_variable_spelled
    (λ v. last_spelled (λ others. items_of xs (Some v) ++ others)
    (more_spelled (MOST_PARTS - length (items_of xs (Some v))) Comma item_spelled))))
    (give_spelled (items_of xs None))

-- items of an entangled SELECT are as many as their limit at most
few_items : (xs : List Operand) (b : Option Identifier) (others : List EntangledItem) → length xs ≤ MOST_PARTS
    → length others ≤ MOST_PARTS - length (items_of xs b) → length (items_of xs b ++ others) ≤ MOST_PARTS
few_items xs b others few more =
    let same = items_length xs b in omega (arith, length-append (items_of xs b) others)

as_listed : (items : List EntangledItem) (tokens : List Token) → length items ≤ MOST_PARTS
    → heading said.entangled_item items tokens → phrases.listed MOST_PARTS Comma said.entangled_item items tokens
as_listed [] tokens few h = h
as_listed (i ∷ items) tokens few h = (few, h)

listed_to : (xs : List Operand) (items : List EntangledItem) (front back : List Token) → are_terms xs ≡ true
    → phrases.listed MOST_PARTS Comma operands.operand xs front → BehindOperands xs items back
    → phrases.listed MOST_PARTS Comma said.entangled_item items (front ++ back)
listed_to [] items front back e h k = absurd h
listed_to (x ∷ xs) items front back e h (inl k) =
    let v = k.parts.0 in
    let others = k.parts.1 in
    let bound = to_left k.spelled in
    let whole : front ++ back ≡ h.1.front ++ (h.1.back ++ (bound.front ++ bound.back)) =
    ap (λ (l : List Token). l ++ back) h.1.whole ∙ append_assoc h.1.front h.1.back back
    ∙ ap (λ (l : List Token). h.1.front ++ (h.1.back ++ l)) bound.whole in
    let made = items_to x xs (Some v) others h.1.front h.1.back bound.front bound.back e h.1.first h.1.second
    bound.first bound.second.1 in
    let few = few_items (x ∷ xs) (Some v) others h.0 bound.second.0 in
    subst (λ y. phrases.listed MOST_PARTS Comma said.entangled_item y (front ++ back)) (sym k.is)
    (as_listed (items_of (x ∷ xs) (Some v) ++ others) (front ++ back) few
    (subst (heading said.entangled_item (items_of (x ∷ xs) (Some v) ++ others)) (sym whole) made))
listed_to (x ∷ xs) items front back e h (inr k) =
    let whole : front ++ back ≡ h.1.front ++ (h.1.back ++ ([] ++ [])) =
    ap (λ (l : List Token). front ++ l) k.spelled ∙ append-nil front ∙ h.1.whole
    ∙ ap (λ (l : List Token). h.1.front ++ l) (sym (append-nil h.1.back)) in
    let made = items_to x xs None [] h.1.front h.1.back [] [] e h.1.first h.1.second refl refl in
    let same : items ≡ items_of (x ∷ xs) None ++ [] = k.is ∙ sym (append-nil (items_of (x ∷ xs) None)) in
    let few = few_items (x ∷ xs) None [] h.0 (omega arith) in
    subst (λ y. phrases.listed MOST_PARTS Comma said.entangled_item y (front ++ back)) (sym same)
    (as_listed (items_of (x ∷ xs) None ++ []) (front ++ back) few
    (subst (heading said.entangled_item (items_of (x ∷ xs) None ++ [])) (sym whole) made))

-- as operands, and what stands behind them
record AsOperands (items : List EntangledItem) (tokens : List Token) : Type 0 where
  pub xs : List Operand
  pub are : are_terms xs ≡ true
  pub spelled : (phrases.listed MOST_PARTS Comma operands.operand xs ⨾ BehindOperands xs items) tokens

behind_from : (xs : List Operand) (items : List EntangledItem) (b : Option Identifier) (others : List EntangledItem)
    (last behind : List Token) → items ≡ items_of xs b ++ others → length items ≤ MOST_PARTS
    → said.binding b last → all (another said.entangled_item) others behind → (b ≡ None → others ≡ [])
    → BehindOperands xs items (last ++ behind)
behind_from xs items (Some v) others last behind is few h k none =
    let same = items_length xs (Some v) in
    let long = ap length is in
    let room : length others ≤ MOST_PARTS - length (items_of xs (Some v)) =
    omega (arith, length-append (items_of xs (Some v)) others) in
    inl (record { parts = (v, others); is = is; spelled = to_right (join last behind refl h (room, k)) })
behind_from xs items None others last behind is few h k none =
    let empty = none refl in
    let rest : behind ≡ [] = subst (λ ys. all (another said.entangled_item) ys behind) empty k in
    inr (record {
      parts = tt;
      is = is ∙ ap (λ (l : List EntangledItem). items_of xs None ++ l) empty ∙ append-nil (items_of xs None);
      spelled = ap (λ (l : List Token). l ++ behind) h ∙ rest;
    })

heading_from : (items : List EntangledItem) (tokens : List Token) → length items ≤ MOST_PARTS
    → heading said.entangled_item items tokens → AsOperands items tokens
heading_from items tokens few h =
    let s = split items tokens h in
    let xs = s.head ∷ s.tail in
    let same = items_length xs s.binds in
    let long = ap length s.is in
    let short : length xs ≤ MOST_PARTS = omega (arith, length-append (items_of xs s.binds) s.others) in
    record {
      xs = xs;
      are = s.are;
      spelled = join (s.first ++ s.more) (s.last ++ s.behind)
          (s.whole ∙ sym (append_assoc s.first s.more (s.last ++ s.behind)))
          (short, join s.first s.more refl s.head_said s.tail_said)
          (behind_from xs items s.binds s.others s.last s.behind s.is few s.binding_said s.others_said s.none);
    }

listed_from : (items : List EntangledItem) (tokens : List Token)
    → phrases.listed MOST_PARTS Comma said.entangled_item items tokens → AsOperands items tokens
listed_from [] tokens h = absurd h
listed_from (i ∷ items) tokens h = heading_from (i ∷ items) tokens h.0 h.1

-- ---- the whole

-- an entangled SELECT of these items, and what stands behind them
abbrev BehindShown : List EntangledItem → Entangled → Phrase
BehindShown items =
    Made {P = ℕ × (List Identifier × (List Condition × Unit {0}))}
    (λ parts. record { items = items; place = parts.0; relations = parts.1.0; conditions = parts.1.1.0 })
    (λ parts. Standing parts.0 (kinds.Word words.Into) ⨾ phrases.listed MOST_PARTS Comma said.relation parts.1.0
    ⨾ said.conditions_clause parts.1.1.0 ⨾ phrases.word words.Choose ⨾ phrases.single (kinds.Number 1))

shown_spelled : (items : List EntangledItem) → Spelled (grammar.entangled_behind items) (BehindShown items)
unfolding grammar.entangled_behind
shown_spelled items =
    then_spelled _ _ (word_spelled words.Into)
    (λ place. then_spelled _ _ (listed_spelled MOST_PARTS Comma (omega arith) relation_spelled)
    (λ relations. then_spelled _ _ conditions_spelled
    (λ found. mark_spelled (word_spelled words.Choose)
    (λ at. end_spelled (record { items = items; place = place; relations = relations; conditions = found })
    (standing_spelled one (λ y. tt))))))

-- a SELECT of operands over tables, and an entangled one
abbrev Ordinary : List Operand → Statement → Phrase
Ordinary xs = Made (λ s. statements.Select s) (BehindItems (Listed xs))

abbrev Entangling : List Operand → Statement → Phrase
Entangling xs = chained (BehindOperands xs) (λ shown. Made (λ e. statements.Entangled e) (BehindShown shown))

abbrev EitherOf : List Operand → Statement → Phrase
EitherOf xs y tokens = Ordinary xs y tokens ⊎ Entangling xs y tokens

abbrev BehindList : List Operand → Statement → Phrase
BehindList xs = cond (are_terms xs) (EitherOf xs) (Ordinary xs)

ordinary_spelled : (xs : List Operand) → Spelled (grammar.ordinary xs) (Ordinary xs)
unfolding grammar.ordinary
ordinary_spelled xs = last_spelled (λ s. statements.Select s) (select_behind_spelled (Listed xs))

entangling_spelled : (xs : List Operand) → Spelled (grammar.entangled xs) (Entangling xs)
unfolding grammar.entangled
entangling_spelled xs =
    chain_spelled (items_spelled xs) (λ shown. last_spelled (λ e. statements.Entangled e) (shown_spelled shown))

abbrev AllShown : Statement → Phrase
AllShown y = phrases.sign signs.Star ⨾ Made (λ s. statements.Select s) (BehindItems All) y

-- what stands behind the first word
abbrev BehindWord : Statement → Phrase
BehindWord (statements.Select s) = selects.items s.items ⨾ selects.behind_items s
BehindWord (statements.Entangled e) =
    phrases.listed MOST_PARTS Comma said.entangled_item e.items ⨾ said.behind_items e
BehindWord _ = λ tokens. ⊥

abbrev AnyShown : Statement → Phrase
AnyShown y tokens = AllShown y tokens ⊎ chained (phrases.listed MOST_PARTS Comma operands.operand) BehindList y tokens

select_to : (shown : Items) (y : Statement) (tokens front back : List Token) → tokens ≡ front ++ back
    → selects.items shown front → Made (λ s. statements.Select s) (BehindItems shown) y back → BehindWord y tokens
select_to shown y tokens front back whole h k =
    made_gives (λ z. BehindWord z tokens)
    (λ s l. made_gives (λ w. BehindWord (statements.Select w) tokens) (λ parts m. join front back whole h m) l) k

entangling_to : (xs : List Operand) (y : Statement) (tokens front back : List Token) → tokens ≡ front ++ back
    → are_terms xs ≡ true → phrases.listed MOST_PARTS Comma operands.operand xs front → Entangling xs y back
    → BehindWord y tokens
entangling_to xs y tokens front back whole are h k =
    let is : tokens ≡ (front ++ k.1.front) ++ k.1.back =
    whole ∙ ap (λ (l : List Token). front ++ l) k.1.whole ∙ sym (append_assoc front k.1.front k.1.back) in
    made_gives (λ z. BehindWord z tokens)
    (λ e l. made_gives (λ w. BehindWord (statements.Entangled w) tokens)
    (λ parts m. join (front ++ k.1.front) k.1.back is (listed_to xs k.0 front k.1.front are h k.1.first) m) l)
    k.1.second

list_to : (xs : List Operand) (y : Statement) (tokens front back : List Token) → tokens ≡ front ++ back
    → phrases.listed MOST_PARTS Comma operands.operand xs front → (b : Bool) → are_terms xs ≡ b
    → cond b (EitherOf xs) (Ordinary xs) y back → BehindWord y tokens
list_to xs y tokens front back whole h true are (inl k) = select_to (Listed xs) y tokens front back whole h k
list_to xs y tokens front back whole h true are (inr k) = entangling_to xs y tokens front back whole are h k
list_to xs y tokens front back whole h false are k = select_to (Listed xs) y tokens front back whole h k

shown_to : (y : Statement) (tokens : List Token) → AnyShown y tokens → BehindWord y tokens
shown_to y tokens (inl h) = select_to All y tokens h.front h.back h.whole h.first h.second
shown_to y tokens (inr h) =
    list_to h.0 y tokens h.1.front h.1.back h.1.whole h.1.first (are_terms h.0) refl h.1.second

ordinary_in : (b : Bool) (xs : List Operand) (y : Statement) (tokens : List Token) → Ordinary xs y tokens
    → cond b (EitherOf xs) (Ordinary xs) y tokens
ordinary_in true xs y tokens h = inl h
ordinary_in false xs y tokens h = h

select_from : (shown : Items) (s : Select) (tokens : List Token) → shown ≡ s.items
    → (selects.items shown ⨾ selects.behind_items s) tokens → AnyShown (statements.Select s) tokens
select_from All s tokens same h =
    inl (join h.front h.back h.whole h.first (record {
      parts = s;
      is = refl;
      spelled = record {
        parts = (s.sources, s.tests);
        is = λ i. record { items = sym same i; sources = s.sources; tests = s.tests };
        spelled = h.second;
      };
    }))
select_from (Listed xs) s tokens same h =
    inr (
      xs,
      join h.front h.back h.whole h.first (ordinary_in (are_terms xs) xs (statements.Select s) h.back (record {
        parts = s;
        is = refl;
        spelled = record {
          parts = (s.sources, s.tests);
          is = λ i. record { items = sym same i; sources = s.sources; tests = s.tests };
          spelled = h.second;
        };
      })),
    )

entangled_from : (e : Entangled) (tokens : List Token) → BehindWord (statements.Entangled e) tokens
    → AnyShown (statements.Entangled e) tokens
entangled_from e tokens h =
    let found = listed_from e.items h.front h.first in
    let front = found.spelled.front in
    let back = found.spelled.back in
    let whole : tokens ≡ front ++ (back ++ h.back) =
    h.whole ∙ ap (λ (l : List Token). l ++ h.back) found.spelled.whole ∙ append_assoc front back h.back in
    let entangling : EitherOf found.xs (statements.Entangled e) (back ++ h.back) =
    inr (
      e.items,
      join back h.back refl found.spelled.second (record {
        parts = e;
        is = refl;
        spelled = record {
          parts = (e.place, (e.relations, (e.conditions, tt)));
          is = refl;
          spelled = h.second;
        };
      }),
    ) in
    inr (
      found.xs,
      join front (back ++ h.back) whole found.spelled.first
          (subst (λ (b : Bool). cond b (EitherOf found.xs) (Ordinary found.xs) (statements.Entangled e)
          (back ++ h.back))
          (sym found.are) entangling),
    )

shown_from : (y : Statement) (tokens : List Token) → BehindWord y tokens → AnyShown y tokens
shown_from (statements.Select s) tokens h = select_from s.items s tokens refl h
shown_from (statements.Entangled e) tokens h = entangled_from e tokens h
shown_from (statements.Insert i) tokens h = absurd h
shown_from (statements.Delete d) tokens h = absurd h
shown_from (statements.Update u) tokens h = absurd h
shown_from (statements.Set s) tokens h = absurd h

query_to : (y : Statement) (tokens : List Token) → (phrases.word words.Select ⨾ BehindWord y) tokens
    → scripts.query y tokens
query_to (statements.Select s) tokens h = h
query_to (statements.Entangled e) tokens h = h
query_to (statements.Insert i) tokens h = h.second
query_to (statements.Delete d) tokens h = h.second
query_to (statements.Update u) tokens h = h.second
query_to (statements.Set s) tokens h = h.second

query_from : (y : Statement) (tokens : List Token) → scripts.query y tokens
    → (phrases.word words.Select ⨾ BehindWord y) tokens
query_from (statements.Select s) tokens h = h
query_from (statements.Entangled e) tokens h = h
query_from (statements.Insert i) tokens h = absurd h
query_from (statements.Delete d) tokens h = absurd h
query_from (statements.Update u) tokens h = absurd h
query_from (statements.Set s) tokens h = absurd h

pub query_spelled : Spelled grammar.query scripts.query
unfolding grammar.query
query_spelled =
    spelled_as
    (behind_spelled (word_spelled words.Select)
    (spelled_as
    (either_spelled
    (behind_spelled (sign_spelled signs.Star)
    (last_spelled (λ s. statements.Select s) (select_behind_spelled All)))
    (chain_spelled (listed_spelled MOST_PARTS Comma (omega arith) operand_spelled)
    (λ xs. if_spelled (are_terms xs) (either_spelled (ordinary_spelled xs) (entangling_spelled xs))
    (ordinary_spelled xs)))) shown_to shown_from)) query_to query_from
