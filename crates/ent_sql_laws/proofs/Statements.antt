-- Statements other than SELECT are read again.
use Rattle.std.proofs.Common.{◌≤◌, [], ◌∷◌, ◌++◌, length, refl, sym}
use Rattle.std.proofs.lemmas.List.{append-nil}
use Rattle.ent_text.specs.declared.token.TokenKind.TheVariants.{Word, Sign}
use Rattle.ent_text.specs.declared.keyword.Keyword.TheVariants as keywords
use Rattle.ent_text.specs.declared.symbol.Symbol.TheVariants as symbols
use Rattle.ent_tree.specs.declared.limits.TheConstants.{MOST_PARTS}
use Rattle.ent_tree.specs.declared.statement.Delete.{Delete}
use Rattle.ent_tree.specs.declared.statement.Assignment.{Assignment}
use Rattle.ent_tree.specs.declared.statement.Update.{Update}
use Rattle.ent_tree.specs.declared.statement.Set.{Set}
use Rattle.ent_tree.specs.Places.{unplaced_operand, unplaced_specification, unplaced_delete, unplaced_assignment}
use Rattle.ent_tree.specs.Places.{unplaced_update, unplaced_set}
use Rattle.ent_text.specs.declared.divider.Divider.TheVariants.{Comma}
use Rattle.ent_text.specs.Class.{word, sign}
use Rattle.ent_sql.specs.Operands as operands
use Rattle.ent_sql.specs.Statements as grammar
use Rattle.ent_print.specs.Reading.{kinds_of}
use Rattle.ent_print.specs.Spelling.{operand_spelling, specification_spelling, expression_spelling, tests_clause}
use Rattle.ent_print.specs.Spelling.{comma_list, delete_spelling, assignment_spelling, update_spelling, set_spelling}
use Rattle.ent_sql_laws.specs.Fits.{HasParts}
use Rattle.ent_sql_laws.proofs.Combining.{again_then, again_mark, again_give}
use Rattle.ent_sql_laws.proofs.Operands.{again_identifier, again_host_variable, again_specification, again_operand}
use Rattle.ent_sql_laws.proofs.Lists.{Again, kinds_append, again_expression, again_listed, each_so}
use Rattle.ent_sql_laws.proofs.Selects.{again_tests}

pub again_delete : (d : Delete) → length d.tests ≤ MOST_PARTS → Again grammar.delete delete_spelling unplaced_delete d
unfolding grammar.delete
again_delete d small =
    again_mark (word keywords.Delete) (λ place. (place, refl))
    (λ place. again_mark (word keywords.From) (λ place. (place, refl))
    (λ place. again_then {ys = kinds_of (tests_clause d.tests)} refl (again_identifier d.table)
    (λ x e. again_then {ys = []} (sym (append-nil (kinds_of (tests_clause d.tests)))) (again_tests d.tests small)
    (λ tests g. again_give (λ i. record { table = e i; tests = g i })))))

pub again_assignment : (a : Assignment) → Again grammar.assignment assignment_spelling unplaced_assignment a
unfolding grammar.assignment
again_assignment a =
    let right = expression_spelling operand_spelling a.expression in
    again_then {ys = Sign symbols.Equal ∷ kinds_of right} refl (again_identifier a.column)
    (λ x e. again_mark (sign symbols.Equal) (λ place. (place, refl))
    (λ place. again_then {ys = []} (sym (append-nil (kinds_of right)))
    (again_expression operands.operand operand_spelling unplaced_operand again_operand a.expression)
    (λ y f. again_give (λ i. record { column = e i; expression = f i }))))

pub again_update : (u : Update) → HasParts u.assignments MOST_PARTS → length u.tests ≤ MOST_PARTS
    → Again grammar.update update_spelling unplaced_update u
unfolding grammar.update
again_update u has small =
    let assigned = comma_list assignment_spelling u.assignments in
    again_mark (word keywords.Update) (λ place. (place, refl))
    (λ place. again_then {ys = Word keywords.Set ∷ kinds_of (assigned ++ tests_clause u.tests)} refl
    (again_identifier u.table)
    (λ x e. again_mark (word keywords.Set) (λ place. (place, refl))
    (λ place. again_then {ys = kinds_of (tests_clause u.tests)} (kinds_append assigned (tests_clause u.tests))
    (again_listed MOST_PARTS Comma grammar.assignment assignment_spelling unplaced_assignment (λ x. Unit {0})
    (λ y h. again_assignment y) u.assignments (each_so u.assignments) has)
    (λ assignments f. again_then {ys = []} (sym (append-nil (kinds_of (tests_clause u.tests))))
    (again_tests u.tests small)
    (λ tests g. again_give (λ i. record { table = e i; assignments = f i; tests = g i }))))))

pub again_set : (s : Set) → Again grammar.set set_spelling unplaced_set s
unfolding grammar.set
again_set s =
    let right = expression_spelling specification_spelling s.expression in
    again_mark (word keywords.Set) (λ place. (place, refl))
    (λ place. again_then {ys = Sign symbols.Equal ∷ kinds_of right} refl (again_host_variable s.variable)
    (λ x e. again_mark (sign symbols.Equal) (λ place. (place, refl))
    (λ place. again_then {ys = []} (sym (append-nil (kinds_of right)))
    (again_expression operands.value specification_spelling unplaced_specification again_specification s.expression)
    (λ y f. again_give (λ i. record { variable = e i; expression = f i })))))
