-- SELECT over tables, and the statements that change them, that are read from tokens of whole characters.
use Rattle.std.proofs.Common.{List, [], ◌∷◌, ◌++◌, Option, Some, None}
use Rattle.std.specs.List.{AllByRecursion}
use Rattle.ent_text.specs.declared.keyword.Keyword.TheVariants as keywords
use Rattle.ent_tree.specs.declared.limits.TheConstants.{MOST_PARTS}
use Rattle.ent_tree.specs.declared.operand.Operand.{Operand}
use Rattle.ent_tree.specs.declared.operand.Identifier.{Identifier}
use Rattle.ent_tree.specs.declared.operand.Test.{Test}
use Rattle.ent_tree.specs.declared.select.Items.{Items}
use Rattle.ent_tree.specs.declared.select.Select.{Select}
use Rattle.ent_tree.specs.declared.select.Source.{Source}
use Rattle.ent_text.specs.declared.divider.Divider.TheVariants.{Comma, And}
use Rattle.ent_sql.specs.Operands as operands
use Rattle.ent_sql.specs.Tables as tables
use Rattle.ent_sql.specs.Selects as grammar
use Rattle.ent_sql.specs.Statements as statements
use Rattle.ent_print.specs.Spelling.{alias_spelling, assignment_spelling, comma_list, delete_spelling, insert_spelling}
use Rattle.ent_print.specs.Spelling.{items_spelling, operand_spelling, select_spelling, set_spelling, source_spelling}
use Rattle.ent_print.specs.Spelling.{specification_spelling, test_spelling, tests_clause, update_spelling, word}
use Rattle.ent_program_laws.proofs.Carrying.{Carries, carry_behind, carry_either, carry_give, carry_listed, carry_so}
use Rattle.ent_program_laws.proofs.Carrying.{carry_then}
use Rattle.ent_program_laws.proofs.Literals.{AreWhole, IsWhole, both_whole, brackets_whole, carry_expression}
use Rattle.ent_program_laws.proofs.Literals.{carry_operand, carry_test, carry_value, clause_whole, commas_whole}

-- ---- SELECT

alias_whole : (alias : Option Identifier) → AreWhole (alias_spelling alias)
alias_whole None = tt
alias_whole (Some alias) = (tt, (tt, tt))

sources_whole : (sources : List Source) → AllByRecursion (IsWhole source_spelling) sources
sources_whole [] = tt
sources_whole (source ∷ sources) = ((tt, alias_whole source.alias), sources_whole sources)

abbrev pub AreTestsWhole : List (Test Operand) → Type 0
AreTestsWhole tests = AreWhole (tests_clause tests)

pub carry_tests : Carries grammar.tests AreTestsWhole
unfolding grammar.tests
carry_tests =
    carry_either
    (carry_behind (λ place. carry_so (λ tests h. clause_whole (test_spelling operand_spelling) tests h)
    (carry_listed MOST_PARTS And (carry_test operands.operand operand_spelling carry_operand))))
    (carry_give tt)

abbrev pub AreItemsWhole : Items → Type 0
AreItemsWhole items = AreWhole (items_spelling items)

select_whole : (s : Select) → AreItemsWhole s.items → AreTestsWhole s.tests → IsWhole select_spelling s
select_whole s items tests =
    let sources = comma_list source_spelling s.sources in (
      tt,
      both_whole (items_spelling s.items) (word keywords.From ∷ (sources ++ tests_clause s.tests)) items (
        tt,
        both_whole sources (tests_clause s.tests)
            (commas_whole source_spelling s.sources (sources_whole s.sources)) tests,
      ),
    )

pub carry_select_behind : (shown : Items) → AreItemsWhole shown
    → Carries (grammar.select_behind shown) (IsWhole select_spelling)
unfolding grammar.select_behind
carry_select_behind shown h =
    carry_behind (λ place. carry_behind
    (λ sources. carry_then carry_tests
    (λ tests k. carry_give
    (select_whole (record { items = shown; sources = sources; tests = tests }) h k))))

carry_items : Carries grammar.items AreItemsWhole
unfolding grammar.items
carry_items =
    carry_either (carry_behind (λ place. carry_give (tt, tt)))
    (carry_then (carry_listed MOST_PARTS Comma carry_operand)
    (λ xs h. carry_give (commas_whole operand_spelling xs h)))

pub carry_select : Carries grammar.select (IsWhole select_spelling)
unfolding grammar.select
carry_select = carry_behind (λ place. carry_then carry_items (λ shown h. carry_select_behind shown h))

-- ---- the statements that change tables

pub carry_insert : Carries tables.insert (IsWhole insert_spelling)
unfolding tables.insert tables.row
carry_insert =
    carry_then
    (carry_behind (λ place. carry_behind (λ place. carry_behind
    (λ table. carry_behind (λ place. carry_behind (λ place. carry_then
    (carry_listed MOST_PARTS Comma carry_value)
    (λ parts k. carry_behind (λ place. carry_give
    {so = λ r. AllByRecursion (IsWhole specification_spelling) r.2} k))))))))
    (λ r h. carry_give (
      tt,
      (
        tt,
        (
          tt,
          (tt, brackets_whole (comma_list specification_spelling r.2) (commas_whole specification_spelling r.2 h)),
        ),
      ),
    ))

pub carry_delete : Carries statements.delete (IsWhole delete_spelling)
unfolding statements.delete
carry_delete =
    carry_behind (λ place. carry_behind (λ place. carry_behind
    (λ table. carry_then carry_tests (λ tests k. carry_give (tt, (tt, (tt, k)))))))

carry_assignment : Carries statements.assignment (IsWhole assignment_spelling)
unfolding statements.assignment
carry_assignment =
    carry_behind (λ column. carry_behind
    (λ place. carry_then (carry_expression operands.operand operand_spelling carry_operand)
    (λ e k. carry_give (tt, (tt, k)))))

pub carry_update : Carries statements.update (IsWhole update_spelling)
unfolding statements.update
carry_update =
    carry_behind (λ place. carry_behind
    (λ table. carry_behind (λ place. carry_then (carry_listed MOST_PARTS Comma carry_assignment)
    (λ assignments k. carry_then carry_tests
    (λ tests l. carry_give (
      tt,
      (
        tt,
        (
          tt,
          both_whole (comma_list assignment_spelling assignments) (tests_clause tests)
              (commas_whole assignment_spelling assignments k) l,
        ),
      ),
    ))))))

pub carry_set : Carries statements.set (IsWhole set_spelling)
unfolding statements.set
carry_set =
    carry_behind (λ place. carry_behind
    (λ v. carry_behind (λ place. carry_then (carry_expression operands.value specification_spelling carry_value)
    (λ e k. carry_give (tt, (tt, (tt, k)))))))
