-- Either SELECT, statements and scripts are read again.
use Rattle.std.proofs.Common.{◌≡◌, ℕ, ◌-◌, ◌≤◌, Bool, true, false, cond, List, [], ◌∷◌, ◌++◌, map, length, refl, ap}
use Rattle.std.proofs.Common.{sym, ◌∙◌, subst, arith, append_assoc, Option, None, Some}
use Rattle.std.specs.Option.{option_map}
use Rattle.std.specs.List.{flat_map}
use Rattle.std.proofs.lemmas.List.{append-nil, length-map}
use Rattle.ent_text.specs.declared.token.TokenKind.{TokenKind}
use Rattle.ent_text.specs.declared.token.TokenKind.TheVariants.{Word, Number, Sign}
use Rattle.ent_text.specs.declared.keyword.Keyword.TheVariants as keywords
use Rattle.ent_text.specs.declared.symbol.Symbol.TheVariants as symbols
use Rattle.ent_tree.specs.declared.limits.TheConstants.{MOST_PARTS, MOST_STATEMENTS, MOST_SCRIPTS, MOST_RUNS}
use Rattle.ent_tree.specs.declared.operand.Identifier.{Identifier}
use Rattle.ent_tree.specs.declared.operand.Operand.{Operand}
use Rattle.ent_tree.specs.declared.select.Items.{Items}
use Rattle.ent_tree.specs.declared.select.Items.TheVariants.{All, Listed}
use Rattle.ent_tree.specs.declared.select.Select.{Select}
use Rattle.ent_tree.specs.declared.entangled.EntangledItem.{EntangledItem}
use Rattle.ent_tree.specs.declared.entangled.Entangled.{Entangled}
use Rattle.ent_tree.specs.declared.script.Statement.{Statement}
use Rattle.ent_tree.specs.declared.script.Statement.TheVariants as statements
use Rattle.ent_tree.specs.declared.script.End.{End}
use Rattle.ent_tree.specs.declared.script.End.TheVariants as ends
use Rattle.ent_tree.specs.declared.script.Script.{Script}
use Rattle.ent_tree.specs.Places.{unplaced_identifier, unplaced_operand, unplaced_items, unplaced_select}
use Rattle.ent_tree.specs.Places.{unplaced_item, unplaced_entangled, unplaced_statement, unplaced_script}
use Rattle.ent_text.specs.declared.divider.Divider.TheVariants.{Comma}
use Rattle.ent_text.specs.Class.{word, sign}
use Rattle.ent_text.specs.Grammar.{pick}
use Rattle.ent_sql.specs.Operands as operands
use Rattle.ent_sql.specs.Entangling as grammar
use Rattle.ent_sql.specs.Statements as statement_grammar
use Rattle.ent_sql.specs.Scripts as script_grammar
use Rattle.ent_print.specs.Lexeme.{Lexeme}
use Rattle.ent_print.specs.Reading.{kinds_of}
use Rattle.ent_print.specs.Spelling.{word as word_lexeme, sign as symbol_lexeme, comma_list, each_behind}
use Rattle.ent_print.specs.Spelling.{operand_spelling, source_spelling, tests_clause, items_spelling, select_spelling}
use Rattle.ent_print.specs.Spelling.{binding_spelling, entangled_item_spelling, entangled_spelling, end_word}
use Rattle.ent_print.specs.Spelling.{statement_spelling, line_spelling, script_spelling, term_spelling}
use Rattle.ent_sql_laws.specs.Again.{Rereads}
use Rattle.ent_sql_laws.specs.Itself.{IsAlone}
use Rattle.ent_sql_laws.specs.Fits.{ItemsFit, HasParts, SelectFits, EntangledFits, StatementFits, ScriptFits}
use Rattle.ent_sql_laws.proofs.Combining.{again_then, again_mark, again_give, again_left, again_right}
use Rattle.ent_sql_laws.proofs.Combining.{again_as, again_up_to, again_none}
use Rattle.ent_sql_laws.proofs.Operands.{again_host_variable, again_operand, again_term}
use Rattle.ent_sql_laws.proofs.Lists.{Again, kinds_append, again_listed, again_more, again_many, each_so}
use Rattle.ent_sql_laws.proofs.Selects.{again_select_behind}
use Rattle.ent_sql_laws.proofs.Statements.{again_delete, again_update, again_set}
use Rattle.ent_sql_laws.proofs.Conditions.{again_insert, into_spelling, again_entangled_behind}
use Rattle.ent_sql_laws.proofs.Items.{heads, first_bound, others, such_are_terms, same_items, lengths, items_length}
use Rattle.ent_sql_laws.proofs.Items.{none_behind, items_alike}

again_binding : (b : Option Identifier)
    → Rereads grammar.binding (λ y. option_map unplaced_identifier y ≡ option_map unplaced_identifier b)
    (kinds_of (binding_spelling b))
unfolding grammar.binding
again_binding None = again_right (again_give refl)
again_binding (Some v) =
    again_left (again_mark (word keywords.As) (λ place. (place, refl))
    (λ place. again_then {ys = []} refl (again_host_variable v) (λ x e. again_give (λ i. Some (e i)))))

again_item : (x : EntangledItem) → Again grammar.entangled_item entangled_item_spelling unplaced_item x
unfolding grammar.entangled_item
again_item x =
    again_then {ys = kinds_of (binding_spelling x.binds)} (kinds_append (term_spelling x.term) (binding_spelling
    x.binds))
    (again_term x.term)
    (λ t e. again_then {ys = []} (sym (append-nil (kinds_of (binding_spelling x.binds)))) (again_binding x.binds)
    (λ b f. again_give (λ i. record { term = e i; binds = f i })))

-- ---- the items of an entangled SELECT behind those that were read as operands

same_length : (xs : List EntangledItem) (os : List Operand)
    → map unplaced_operand os ≡ map unplaced_operand (heads xs) → length os ≡ length (heads xs)
same_length xs os e = sym (length-map os unplaced_operand) ∙ ap length e ∙ length-map (heads xs) unplaced_operand

again_entangled_items : (xs : List EntangledItem) (os : List Operand)
    → map unplaced_operand os ≡ map unplaced_operand (heads xs) → length xs ≤ MOST_PARTS
    → Rereads (grammar.entangled_items os) (λ ys. map unplaced_item ys ≡ map unplaced_item xs)
    (kinds_of (binding_spelling (first_bound xs)
    ++ each_behind (symbol_lexeme symbols.Comma) entangled_item_spelling (others xs)))
unfolding grammar.entangled_items
again_entangled_items xs os e small = on (first_bound xs) refl
  where
    on : (b : Option Identifier) → first_bound xs ≡ b
        → Rereads (grammar.entangled_items os) (λ ys. map unplaced_item ys ≡ map unplaced_item xs)
        (kinds_of (binding_spelling b
        ++ each_behind (symbol_lexeme symbols.Comma) entangled_item_spelling (others xs)))
    on None is =
        again_as (ap (λ (l : List EntangledItem). kinds_of (each_behind (symbol_lexeme symbols.Comma)
        entangled_item_spelling l)) (none_behind xs is))
        (again_right (again_give (ap (map unplaced_item) (sym (append-nil (grammar.items_of os None)))
        ∙ same_items xs os None [] e (ap (option_map unplaced_identifier) (sym is))
        (ap (map unplaced_item) (sym (none_behind xs is))))))
    on (Some v) is =
        let behind = each_behind (symbol_lexeme symbols.Comma) entangled_item_spelling (others xs) in
        again_left (again_mark (word keywords.As) (λ place. (place, refl))
        (λ place. again_then {ys = kinds_of behind} refl (again_host_variable v)
        (λ w f. again_then {ys = []} (sym (append-nil (kinds_of behind)))
        (again_more (MOST_PARTS - length (grammar.items_of os (Some w))) Comma grammar.entangled_item
        entangled_item_spelling unplaced_item (λ x. Unit {0}) (λ x h. again_item x) (others xs) (each_so (others xs))
        (omega (arith, items_length os (Some w), same_length xs os e, lengths xs)))
        (λ ys g. again_give (same_items xs os (Some w) ys e
        ((λ i. Some (f i)) ∙ ap (option_map unplaced_identifier) (sym is)) g)))))

-- ---- either SELECT

again_query_select : (s : Select) → SelectFits s
    → Rereads grammar.query (λ y. unplaced_statement y ≡ statements.Select (unplaced_select s))
    (kinds_of (select_spelling s))
unfolding grammar.query grammar.ordinary
again_query_select s fits = on s.items fits.0 refl
  where
    rest : List Lexeme
    rest = word_lexeme keywords.From ∷ (comma_list source_spelling s.sources ++ tests_clause s.tests)

    ordinary : (os : List Operand) (shown : List Operand) → s.items ≡ Listed shown
        → map unplaced_operand os ≡ map unplaced_operand shown
        → Rereads (grammar.ordinary os) (λ y. unplaced_statement y ≡ statements.Select (unplaced_select s))
        (kinds_of rest)
    ordinary os shown is e =
        again_then {ys = []} (sym (append-nil (kinds_of rest)))
        (again_select_behind s.items (Listed os) s (ap (λ (l : List Operand). Listed l) e ∙ ap unplaced_items (sym is))
        fits.1 fits.2)
        (λ x f. again_give (λ i. statements.Select (f i)))

    either : (os shown : List Operand) → s.items ≡ Listed shown
        → map unplaced_operand os ≡ map unplaced_operand shown → (b : Bool)
        → Rereads (cond b (pick (grammar.ordinary os) (grammar.entangled os)) (grammar.ordinary os))
        (λ y. unplaced_statement y ≡ statements.Select (unplaced_select s)) (kinds_of rest)
    either os shown is e true = again_left (ordinary os shown is e)
    either os shown is e false = ordinary os shown is e

    on : (shown : Items) → ItemsFit shown → s.items ≡ shown
        → Rereads grammar.query (λ y. unplaced_statement y ≡ statements.Select (unplaced_select s))
        (kinds_of (word_lexeme keywords.Select ∷ (items_spelling shown ++ rest)))
    on All fit is =
        again_mark (word keywords.Select) (λ place. (place, refl))
        (λ place. again_left (again_mark (sign symbols.Star) (λ place. (place, refl))
        (λ place. again_then {ys = []} (sym (append-nil (kinds_of rest)))
        (again_select_behind s.items All s (ap unplaced_items (sym is)) fits.1 fits.2)
        (λ x f. again_give (λ i. statements.Select (f i))))))
    on (Listed shown) fit is =
        again_mark (word keywords.Select) (λ place. (place, refl))
        (λ place. again_right (again_then {ys = kinds_of rest} (kinds_append (comma_list operand_spelling shown) rest)
        (again_listed MOST_PARTS Comma operands.operand operand_spelling unplaced_operand (λ x. Unit {0})
        (λ x h. again_operand x) shown (each_so shown) fit)
        (λ os e. either os shown is e (grammar.are_terms os))))

heads_fit : (xs : List EntangledItem) → HasParts xs MOST_PARTS → HasParts (heads xs) MOST_PARTS
heads_fit [] has = absurd (omega (arith, has.0))
heads_fit (x ∷ xs) has = (omega arith, omega (arith, lengths (x ∷ xs), has.1))

again_query_entangled : (e : Entangled) → EntangledFits e
    → Rereads grammar.query (λ y. unplaced_statement y ≡ statements.Entangled (unplaced_entangled e))
    (kinds_of (entangled_spelling e))
unfolding grammar.query grammar.entangled
again_query_entangled e fits =
    let shown = comma_list operand_spelling (heads e.items) in
    let bound = binding_spelling (first_bound e.items)
    ++ each_behind (symbol_lexeme symbols.Comma) entangled_item_spelling (others e.items) in
    let into = into_spelling e in
    again_mark (word keywords.Select) (λ place. (place, refl))
    (λ place. again_right (again_then {ys = kinds_of (bound ++ into)}
    (ap (λ (l : List Lexeme). kinds_of (l ++ into)) (items_alike e.items)
    ∙ ap kinds_of (append_assoc shown bound into) ∙ kinds_append shown (bound ++ into))
    (again_listed MOST_PARTS Comma operands.operand operand_spelling unplaced_operand (λ x. Unit {0})
    (λ x h. again_operand x) (heads e.items) (each_so (heads e.items)) (heads_fit e.items fits.0))
    (λ os f. chosen os (such_are_terms e.items os f) (again_right
    (again_then {ys = kinds_of into} (kinds_append bound into) (again_entangled_items e.items os f fits.0.1)
    (λ such g. again_then {ys = []} (sym (append-nil (kinds_of into))) (again_entangled_behind such e g fits)
    (λ x h. again_give (λ i. statements.Entangled (h i)))))))))
  where
    chosen : (os : List Operand) → grammar.are_terms os ≡ true → {ks : List TokenKind}
        → Rereads (pick (grammar.ordinary os) (grammar.entangled os))
        (λ y. unplaced_statement y ≡ statements.Entangled (unplaced_entangled e)) ks
        → Rereads (cond (grammar.are_terms os) (pick (grammar.ordinary os) (grammar.entangled os)) (grammar.ordinary
        os))
        (λ y. unplaced_statement y ≡ statements.Entangled (unplaced_entangled e)) ks
    chosen os is {ks = ks} read =
        subst (λ (b : Bool). Rereads (cond b (pick (grammar.ordinary os) (grammar.entangled os)) (grammar.ordinary os))
        (λ y. unplaced_statement y ≡ statements.Entangled (unplaced_entangled e)) ks) (sym is) read

-- ---- statements and scripts

again_statement : (s : Statement) → StatementFits s
    → Again statement_grammar.statement statement_spelling unplaced_statement s
unfolding statement_grammar.statement
again_statement (statements.Select s) fits =
    again_right (again_right (again_right (again_right (again_query_select s fits))))
again_statement (statements.Entangled e) fits =
    again_right (again_right (again_right (again_right (again_query_entangled e fits))))
again_statement (statements.Insert s) fits =
    again_left (again_then {ys = []} (sym (append-nil (kinds_of (statement_spelling (statements.Insert s)))))
    (again_insert s fits) (λ x e. again_give (λ i. statements.Insert (e i))))
again_statement (statements.Delete s) fits =
    again_right (again_left (again_then {ys = []}
    (sym (append-nil (kinds_of (statement_spelling (statements.Delete s))))) (again_delete s fits)
    (λ x e. again_give (λ i. statements.Delete (e i)))))
again_statement (statements.Update s) fits =
    again_right (again_right (again_left (again_then {ys = []}
    (sym (append-nil (kinds_of (statement_spelling (statements.Update s))))) (again_update s fits.0 fits.1)
    (λ x e. again_give (λ i. statements.Update (e i))))))
again_statement (statements.Set s) fits =
    again_right (again_right (again_right (again_left (again_then {ys = []}
    (sym (append-nil (kinds_of (statement_spelling (statements.Set s))))) (again_set s)
    (λ x e. again_give (λ i. statements.Set (e i)))))))

again_line : (s : Statement) → StatementFits s
    → Again statement_grammar.ended_statement line_spelling unplaced_statement s
unfolding statement_grammar.ended_statement
again_line s fits =
    again_then {ys = Sign symbols.Semicolon ∷ []} (kinds_append (statement_spelling s) (symbol_lexeme
    symbols.Semicolon ∷ []))
    (again_statement s fits)
    (λ x e. again_mark (sign symbols.Semicolon) (λ place. (place, refl)) (λ place. again_give e))

again_runs : (n : ℕ) → 1 ≤ n → n ≤ MOST_RUNS
    → Rereads script_grammar.within (λ y. y ≡ n) (Word keywords.Within ∷ Number n ∷ Word keywords.Runs ∷ [])
unfolding script_grammar.within
again_runs n low high =
    again_left (again_mark (word keywords.Within) (λ place. (place, refl))
    (λ place. again_then {ys = Word keywords.Runs ∷ []} refl (again_up_to MOST_RUNS n low high)
    (λ x e. again_mark (word keywords.Runs) (λ at. (at, refl)) (λ at. again_give e))))

again_ending : (e : End) → Rereads script_grammar.ending (λ y. y ≡ e) (Word (end_word e) ∷ [])
unfolding script_grammar.ending
again_ending ends.Commit =
    again_left (again_mark (word keywords.Commit) (λ place. (place, refl)) (λ place. again_give refl))
again_ending ends.Rollback =
    again_right (again_mark (word keywords.Rollback) (λ place. (place, refl)) (λ place. again_give refl))

pub again_script : (s : Script) → ScriptFits s → Again script_grammar.script script_spelling unplaced_script s
unfolding script_grammar.script
again_script s fits =
    let lines = flat_map line_spelling s.statements in
    let last = word_lexeme (end_word s.end) ∷ symbol_lexeme symbols.Semicolon ∷ [] in
    again_mark (word keywords.Begin) (λ place. (place, refl))
    (λ place. again_mark (word keywords.Transaction) (λ at. (at, refl))
    (λ place. again_then {ys = Sign symbols.Semicolon ∷ kinds_of (lines ++ last)} refl
    (again_runs s.within fits.0 fits.1)
    (λ runs e. again_mark (sign symbols.Semicolon) (λ at. (at, refl))
    (λ place. again_then {ys = kinds_of last} (kinds_append lines last)
    (again_many MOST_STATEMENTS statement_grammar.ended_statement line_spelling unplaced_statement StatementFits
    again_line s.statements fits.3 fits.2)
    (λ statements f. again_then {ys = Sign symbols.Semicolon ∷ []} refl (again_ending s.end)
    (λ end g. again_mark (sign symbols.Semicolon) (λ at. (at, refl))
    (λ place. again_give (λ i. record { within = e i; statements = f i; end = g i }))))))))

pub again_input : (s : Script) → ScriptFits s → Rereads script_grammar.input (IsAlone s) (kinds_of (script_spelling s))
unfolding script_grammar.input
again_input s fits =
    let whole = kinds_of (script_spelling s) in
    again_then {xs = []} {ys = whole} refl again_none
    (λ tables e. again_then {xs = []} {ys = whole} refl again_none
    (λ rows f. again_then {ys = []}
    (sym (append-nil (kinds_of (script_spelling s ++ [])) ∙ ap kinds_of (append-nil (script_spelling s))))
    (again_many MOST_SCRIPTS script_grammar.script script_spelling unplaced_script ScriptFits again_script (s ∷ [])
    (fits, tt) (omega arith))
    (λ scripts g. again_give (λ i. record { tables = e i; rows = f i }, g))))
