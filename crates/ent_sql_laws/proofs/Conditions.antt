-- Conditions and what stands behind the items of an entangled SELECT are read again.
use Rattle.std.proofs.Common.{◌≡◌, ◌≤◌, List, [], ◌∷◌, ◌++◌, map, length, refl, ap, sym, ◌∙◌, arith, append_assoc}
use Rattle.std.proofs.lemmas.List.{append-nil}
use Rattle.ent_text.specs.declared.token.TokenKind.TheVariants.{Word, Number, Sign}
use Rattle.ent_text.specs.declared.keyword.Keyword.TheVariants as keywords
use Rattle.ent_text.specs.declared.symbol.Symbol.TheVariants as symbols
use Rattle.ent_tree.specs.declared.limits.TheConstants.{MOST_PARTS}
use Rattle.ent_tree.specs.declared.operand.Identifier.{Identifier}
use Rattle.ent_tree.specs.declared.select.Select.{Select}
use Rattle.ent_tree.specs.declared.statement.Insert.{Insert}
use Rattle.ent_tree.specs.declared.entangled.EntangledItem.{EntangledItem}
use Rattle.ent_tree.specs.declared.entangled.Tuple.{Tuple}
use Rattle.ent_tree.specs.declared.entangled.Condition.{Condition}
use Rattle.ent_tree.specs.declared.entangled.Condition.TheVariants as conditions
use Rattle.ent_tree.specs.declared.entangled.Entangled.{Entangled}
use Rattle.ent_tree.specs.Places.{unplaced_identifier, unplaced_specification, unplaced_term, unplaced_tuple}
use Rattle.ent_tree.specs.Places.{unplaced_condition, unplaced_item, unplaced_entangled, unplaced_insert}
use Rattle.ent_text.specs.declared.divider.Divider.TheVariants.{Comma, And}
use Rattle.ent_text.specs.Class.{word, sign, one}
use Rattle.ent_sql.specs.Operands as operands
use Rattle.ent_sql.specs.Tables as tables
use Rattle.ent_sql.specs.Entangling as grammar
use Rattle.ent_print.specs.Lexeme.{Lexeme, Token}
use Rattle.ent_print.specs.Reading.{kinds_of}
use Rattle.ent_print.specs.Spelling.{word as word_lexeme, sign as symbol_lexeme, in_parentheses, comma_list}
use Rattle.ent_print.specs.Spelling.{where_clause, specification_spelling, term_spelling, tuple_spelling}
use Rattle.ent_print.specs.Spelling.{relation_spelling, condition_spelling, select_spelling, insert_spelling}
use Rattle.ent_print.specs.Spelling.{comparison_symbol}
use Rattle.ent_sql_laws.specs.Again.{Rereads}
use Rattle.ent_sql_laws.specs.Fits.{Each, HasParts, SelectFits, ConditionFits, EntangledFits}
use Rattle.ent_sql_laws.proofs.Combining.{again_then, again_mark, again_give, again_left, again_right}
use Rattle.ent_sql_laws.proofs.Operands.{again_identifier, again_specification, again_term, again_comparison}
use Rattle.ent_sql_laws.proofs.Lists.{Again, kinds_append, again_listed, each_so}
use Rattle.ent_sql_laws.proofs.Selects.{again_select}

-- a closing bracket, and what stands behind it
closed_kinds : (inner rest : List Lexeme)
    → kinds_of ((inner ++ symbol_lexeme symbols.Close ∷ []) ++ rest) ≡ kinds_of inner ++ Sign symbols.Close ∷
    kinds_of rest
closed_kinds inner rest =
    ap kinds_of (append_assoc inner (symbol_lexeme symbols.Close ∷ []) rest)
    ∙ kinds_append inner (symbol_lexeme symbols.Close ∷ rest)

again_row : (s : Insert) → HasParts s.values MOST_PARTS
    → Rereads (tables.row operands.value) (λ r. (unplaced_identifier r.0 ≡ unplaced_identifier s.table)
    × (map unplaced_specification r.2 ≡ map unplaced_specification s.values)) (kinds_of (insert_spelling s))
unfolding tables.row
again_row s has =
    let values = comma_list specification_spelling s.values in
    again_mark (word keywords.Insert) (λ place. (place, refl))
    (λ place. again_mark (word keywords.Into) (λ place. (place, refl))
    (λ place. again_then
    {ys = Word keywords.Values ∷ Sign symbols.Open ∷ kinds_of (values ++ symbol_lexeme symbols.Close ∷ [])}
    refl (again_identifier s.table)
    (λ table e. again_mark (word keywords.Values) (λ place. (place, refl))
    (λ place. again_mark (sign symbols.Open) (λ place. (place, refl))
    (λ at. again_then {ys = Sign symbols.Close ∷ []} (kinds_append values (symbol_lexeme symbols.Close ∷ []))
    (again_listed MOST_PARTS Comma operands.value specification_spelling unplaced_specification (λ x. Unit {0})
    (λ x h. again_specification x) s.values (each_so s.values) has)
    (λ parts f. again_mark (sign symbols.Close) (λ place. (place, refl)) (λ place. again_give (e, f))))))))

pub again_insert : (s : Insert) → HasParts s.values MOST_PARTS → Again tables.insert insert_spelling unplaced_insert s
unfolding tables.insert
again_insert s has =
    again_then {ys = []} (sym (append-nil (kinds_of (insert_spelling s)))) (again_row s has)
    (λ r h. again_give (λ i. record { table = h.0 i; place = 0; values = h.1 i }))

pub again_relation : (r : Identifier) → Again grammar.relation relation_spelling unplaced_identifier r
unfolding grammar.relation
again_relation r = again_mark (word keywords.Answer) (λ place. (place, refl)) (λ place. again_identifier r)

-- ---- conditions

in_select : (tuple such : Tuple) (s : Select) → unplaced_tuple such ≡ unplaced_tuple tuple → SelectFits s
    → Rereads (grammar.membership such) (λ y. unplaced_condition y ≡ unplaced_condition (conditions.InSelect tuple s))
    (kinds_of (word_lexeme keywords.In ∷ in_parentheses (select_spelling s)))
unfolding grammar.membership
in_select tuple such s t fits =
    again_mark (word keywords.In) (λ place. (place, refl))
    (λ place. again_left (again_mark (sign symbols.Open) (λ place. (place, refl))
    (λ place. again_then {ys = Sign symbols.Close ∷ []}
    (kinds_append (select_spelling s) (symbol_lexeme symbols.Close ∷ [])) (again_select s fits)
    (λ x e. again_mark (sign symbols.Close) (λ place. (place, refl))
    (λ place. again_give (λ i. conditions.InSelect (t i) (e i)))))))

in_answer : (tuple such : Tuple) (r : Identifier) → unplaced_tuple such ≡ unplaced_tuple tuple
    → Rereads (grammar.membership such) (λ y. unplaced_condition y ≡ unplaced_condition (conditions.InAnswer tuple r))
    (kinds_of (word_lexeme keywords.In ∷ relation_spelling r))
unfolding grammar.membership
in_answer tuple such r t =
    again_mark (word keywords.In) (λ place. (place, refl))
    (λ place. again_right (again_then {ys = []} refl (again_relation r)
    (λ x e. again_give (λ i. conditions.InAnswer (t i) (e i)))))

-- a tuple in parentheses, and what stands behind it
bracketed : (tuple : Tuple) (wanted : Condition) (rest : List Lexeme) → HasParts tuple.terms MOST_PARTS
    → ((such : Tuple) → unplaced_tuple such ≡ unplaced_tuple tuple
    → Rereads (grammar.membership such) (λ y. unplaced_condition y ≡ unplaced_condition wanted) (kinds_of rest))
    → Rereads grammar.condition (λ y. unplaced_condition y ≡ unplaced_condition wanted)
    (kinds_of (tuple_spelling tuple ++ rest))
unfolding grammar.condition grammar.bracketed
bracketed tuple wanted rest has behind =
    let members = comma_list term_spelling tuple.terms in
    again_left (again_mark (sign symbols.Open) (λ place. (place, refl))
    (λ at. again_then {ys = Sign symbols.Close ∷ kinds_of rest} (closed_kinds members rest)
    (again_listed MOST_PARTS Comma operands.term term_spelling unplaced_term (λ x. Unit {0}) (λ x h. again_term x)
    tuple.terms (each_so tuple.terms) has)
    (λ terms e. again_mark (sign symbols.Close) (λ place. (place, refl))
    (λ place. behind (record { place = at; terms = terms }) (λ i. record { place = 0; terms = e i })))))

pub again_condition : (c : Condition) → ConditionFits c
    → Again grammar.condition condition_spelling unplaced_condition c
unfolding grammar.condition grammar.condition_behind grammar.comparison_behind
again_condition (conditions.InSelect tuple s) fits =
    bracketed tuple (conditions.InSelect tuple s) (word_lexeme keywords.In ∷ in_parentheses (select_spelling s)) fits.0
    (λ such t. in_select tuple such s t fits.1)
again_condition (conditions.InAnswer tuple r) fits =
    bracketed tuple (conditions.InAnswer tuple r) (word_lexeme keywords.In ∷ relation_spelling r) fits
    (λ such t. in_answer tuple such r t)
again_condition (conditions.Test t) fits =
    let right = term_spelling t.right in
    again_right (again_then {ys = Sign (comparison_symbol t.comparison) ∷ kinds_of right}
    (kinds_append (term_spelling t.left) (symbol_lexeme (comparison_symbol t.comparison) ∷ right)) (again_term t.left)
    (λ x e. again_left (again_then {ys = kinds_of right} refl (again_comparison t.comparison)
    (λ c f. again_then {ys = []} (sym (append-nil (kinds_of right))) (again_term t.right)
    (λ y g. again_give (λ i. conditions.Test (record { left = e i; comparison = f i; right = g i })))))))

again_conditions : (cs : List Condition) → length cs ≤ MOST_PARTS → Each ConditionFits cs
    → Again grammar.entangled_conditions (where_clause condition_spelling) (map unplaced_condition) cs
unfolding grammar.entangled_conditions
again_conditions [] small fits = again_right (again_give refl)
again_conditions (c ∷ cs) small fits =
    again_left (again_mark (word keywords.Where) (λ place. (place, refl))
    (λ place. again_listed MOST_PARTS And grammar.condition condition_spelling unplaced_condition ConditionFits
    again_condition (c ∷ cs) fits (omega arith, small)))

-- from INTO on
abbrev pub into_spelling : Entangled → List Lexeme
into_spelling e =
    word_lexeme keywords.Into ∷ (comma_list relation_spelling e.relations
    ++ (where_clause condition_spelling e.conditions ++ word_lexeme keywords.Choose ∷ Token (Number 1) ∷ []))

pub again_entangled_behind : (such : List EntangledItem) (e : Entangled)
    → map unplaced_item such ≡ map unplaced_item e.items → EntangledFits e
    → Rereads (grammar.entangled_behind such) (λ y. unplaced_entangled y ≡ unplaced_entangled e)
    (kinds_of (into_spelling e))
unfolding grammar.entangled_behind
again_entangled_behind such e same fits =
    let found = where_clause condition_spelling e.conditions in
    let choose = word_lexeme keywords.Choose ∷ Token (Number 1) ∷ [] in
    again_mark (word keywords.Into) (λ place. (place, refl))
    (λ place. again_then {ys = kinds_of (found ++ choose)}
    (kinds_append (comma_list relation_spelling e.relations) (found ++ choose))
    (again_listed MOST_PARTS Comma grammar.relation relation_spelling unplaced_identifier (λ x. Unit {0})
    (λ x h. again_relation x) e.relations (each_so e.relations) fits.1)
    (λ relations f. again_then {ys = kinds_of choose} (kinds_append found choose)
    (again_conditions e.conditions fits.2 fits.3)
    (λ conditions g. again_mark (word keywords.Choose) (λ place. (place, refl))
    (λ place. again_mark one (λ place. (place, refl))
    (λ place. again_give (λ i. record { items = same i; place = 0; relations = f i; conditions = g i }))))))
