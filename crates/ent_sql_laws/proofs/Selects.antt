-- SELECT over tables, and the statements that change them, are read again.
use Rattle.std.proofs.Common.{◌≡◌, ◌≤◌, List, [], ◌∷◌, ◌++◌, length, refl, sym, arith}
use Rattle.std.proofs.Common.{Option, Some, None}
use Rattle.std.proofs.lemmas.List.{append-nil}
use Rattle.ent_text.specs.declared.token.TokenKind.TheVariants.{Word, Name}
use Rattle.ent_text.specs.declared.keyword.Keyword.TheVariants as keywords
use Rattle.ent_text.specs.declared.symbol.Symbol.TheVariants as symbols
use Rattle.ent_tree.specs.declared.limits.TheConstants.{MOST_PARTS, MOST_SOURCES}
use Rattle.ent_tree.specs.declared.operand.Identifier.{Identifier}
use Rattle.ent_tree.specs.declared.operand.Operand.{Operand}
use Rattle.ent_tree.specs.declared.operand.Test.{Test}
use Rattle.ent_tree.specs.declared.select.Source.{Source}
use Rattle.ent_tree.specs.declared.select.Items.{Items}
use Rattle.ent_tree.specs.declared.select.Items.TheVariants.{All, Listed}
use Rattle.ent_tree.specs.declared.select.Select.{Select}
use Rattle.ent_tree.specs.Places.{unplaced_operand, unplaced_test, unplaced_tests, unplaced_source}
use Rattle.ent_tree.specs.Places.{unplaced_items, unplaced_select}
use Rattle.ent_text.specs.declared.divider.Divider.TheVariants.{Comma, And}
use Rattle.ent_text.specs.Class.{word, sign}
use Rattle.ent_sql.specs.Operands as operands
use Rattle.ent_sql.specs.Selects as grammar
use Rattle.ent_print.specs.Reading.{kinds_of}
use Rattle.ent_print.specs.Spelling.{comma_list, operand_spelling, test_spelling, tests_clause}
use Rattle.ent_print.specs.Spelling.{source_spelling, items_spelling, select_spelling, word as word_lexeme}
use Rattle.ent_sql_laws.specs.Again.{Rereads}
use Rattle.ent_sql_laws.specs.Fits.{HasParts, ItemsFit, SelectFits}
use Rattle.ent_sql_laws.proofs.Combining.{again_then, again_mark, again_give, again_left, again_right}
use Rattle.ent_sql_laws.proofs.Operands.{again_identifier, again_operand}
use Rattle.ent_sql_laws.proofs.Lists.{Again, kinds_append, again_test, again_listed, each_so}

pub again_source : (s : Source) → Again grammar.source source_spelling unplaced_source s
unfolding grammar.source
again_source s = on s.alias
  where
    with_alias : Option Identifier → Source
    with_alias a = record { table = s.table; alias = a }

    on : (a : Option Identifier) → Again grammar.source source_spelling unplaced_source (with_alias a)
    on None =
        again_then {ys = []} refl (again_identifier s.table)
        (λ x e. again_right (again_right (again_give (λ i. record { table = e i; alias = None }))))
    on (Some a) =
        again_then {ys = Word keywords.As ∷ Name a.name ∷ []} refl (again_identifier s.table)
        (λ x e. again_left (again_mark (word keywords.As) (λ place. (place, refl))
        (λ place. again_then {ys = []} refl (again_identifier a)
        (λ y f. again_give (λ i. record { table = e i; alias = Some (f i) })))))

again_operand_test : (t : Test Operand)
    → Again (operands.compared operands.operand) (test_spelling operand_spelling) (unplaced_test unplaced_operand) t
again_operand_test t =
    again_test operands.operand operand_spelling unplaced_operand t (again_operand t.left) (again_operand t.right)

pub again_tests : (ts : List (Test Operand)) → length ts ≤ MOST_PARTS
    → Again grammar.tests tests_clause unplaced_tests ts
unfolding grammar.tests
again_tests [] small = again_right (again_give refl)
again_tests (t ∷ ts) small =
    again_left (again_mark (word keywords.Where) (λ place. (place, refl))
    (λ place. again_listed MOST_PARTS And (operands.compared operands.operand) (test_spelling operand_spelling)
    (unplaced_test unplaced_operand) (λ x. Unit {0}) (λ x h. again_operand_test x) (t ∷ ts) (each_so (t ∷ ts))
    (omega arith, small)))

-- what stands behind the items
pub again_select_behind : (items such : Items) (s : Select) → unplaced_items such ≡ unplaced_items s.items
    → HasParts s.sources MOST_SOURCES → length s.tests ≤ MOST_PARTS
    → Rereads (grammar.select_behind such) (λ y. unplaced_select y ≡ unplaced_select s)
    (kinds_of (word_lexeme keywords.From ∷ (comma_list source_spelling s.sources ++ tests_clause s.tests)))
unfolding grammar.select_behind
again_select_behind items such s e has small =
    again_mark (word keywords.From) (λ place. (place, refl))
    (λ place. again_then {ys = kinds_of (tests_clause s.tests)}
    (kinds_append (comma_list source_spelling s.sources) (tests_clause s.tests))
    (again_listed MOST_SOURCES Comma grammar.source source_spelling unplaced_source (λ x. Unit {0})
    (λ x h. again_source x) s.sources (each_so s.sources) has)
    (λ sources f. again_then {ys = []} (sym (append-nil (kinds_of (tests_clause s.tests)))) (again_tests s.tests small)
    (λ tests g. again_give (λ i. record { items = e i; sources = f i; tests = g i }))))

again_items : (shown : Items) → ItemsFit shown → Again grammar.items items_spelling unplaced_items shown
unfolding grammar.items
again_items All fits = again_left (again_mark (sign symbols.Star) (λ place. (place, refl)) (λ place. again_give refl))
again_items (Listed listed) fits =
    again_right (again_then {ys = []} (sym (append-nil (kinds_of (comma_list operand_spelling listed))))
    (again_listed MOST_PARTS Comma operands.operand operand_spelling unplaced_operand (λ x. Unit {0})
    (λ x h. again_operand x) listed (each_so listed) fits) (λ xs e. again_give (λ i. Listed (e i))))

pub again_select : (s : Select) → SelectFits s → Again grammar.select select_spelling unplaced_select s
unfolding grammar.select
again_select s fits =
    let rest = word_lexeme keywords.From ∷ (comma_list source_spelling s.sources ++ tests_clause s.tests) in
    again_mark (word keywords.Select) (λ place. (place, refl))
    (λ place. again_then {ys = kinds_of rest} (kinds_append (items_spelling s.items) rest) (again_items s.items fits.0)
    (λ such e. again_select_behind s.items such s e fits.1 fits.2))
