-- SELECT over tables, and the statements that change them, that are read keep the limits and can be printed.
use Rattle.std.proofs.Common.{◌≤◌, List, [], ◌∷◌, ◌++◌, length, arith}
use Rattle.ent_text.specs.declared.keyword.Keyword.TheVariants as keywords
use Rattle.ent_text.specs.declared.symbol.Symbol.TheVariants as symbols
use Rattle.ent_text.specs.declared.token.TokenKind.TheVariants as kinds
use Rattle.ent_tree.specs.declared.limits.TheConstants.{MOST_PARTS, MOST_SOURCES}
use Rattle.ent_tree.specs.declared.operand.Operand.{Operand}
use Rattle.ent_tree.specs.declared.operand.Test.{Test}
use Rattle.ent_tree.specs.declared.select.Items.{Items}
use Rattle.ent_tree.specs.declared.select.Select.{Select}
use Rattle.ent_text.specs.declared.divider.Divider.TheVariants.{Comma, And}
use Rattle.ent_sql.specs.Operands as operands
use Rattle.ent_sql.specs.Tables as tables
use Rattle.ent_sql.specs.Selects as grammar
use Rattle.ent_sql.specs.Statements as statements
use Rattle.ent_print.specs.Lexeme.{Lexeme}
use Rattle.ent_print.specs.Reading.{CanStand, CanBeRead}
use Rattle.ent_print.specs.Spelling.{each_behind, separated, comma_list, where_clause, word, sign, in_parentheses}
use Rattle.ent_print.specs.Spelling.{specification_spelling, operand_spelling, test_spelling, tests_clause}
use Rattle.ent_print.specs.Spelling.{source_spelling, items_spelling, select_spelling}
use Rattle.ent_print.specs.Spelling.{insert_spelling, delete_spelling, assignment_spelling, update_spelling}
use Rattle.ent_print.specs.Spelling.{set_spelling}
use Rattle.ent_sql_laws.specs.Fits.{Each, HasParts, ItemsFit, SelectFits}
use Rattle.ent_sql_laws.proofs.Keeping.{Keeps, keep_give, keep_then, keep_behind, keep_either, keep_so, keep_listed}
use Rattle.ent_sql_laws.proofs.Keeping.{each_append}
use Rattle.ent_sql_laws.proofs.KeptOperands.{Printable, word_stands, sign_stands, keep_identifier}
use Rattle.ent_sql_laws.proofs.KeptOperands.{keep_host_variable, keep_value, keep_operand, keep_test, keep_expression}

-- ---- lists

pub behind_prints : {A : Type 0} (separator : Lexeme) (spelling : A → List Lexeme) (xs : List A)
    → CanBeRead separator → Each (Printable spelling) xs → Each CanBeRead (each_behind separator spelling xs)
behind_prints separator spelling [] can each = tt
behind_prints separator spelling (x ∷ xs) can each = (
  can,
  each_append CanBeRead (spelling x) (each_behind separator spelling xs) each.0
      (behind_prints separator spelling xs can each.1),
)

pub separated_prints : {A : Type 0} (separator : Lexeme) (spelling : A → List Lexeme) (xs : List A)
    → CanBeRead separator → Each (Printable spelling) xs → Each CanBeRead (separated separator spelling xs)
separated_prints separator spelling [] can each = tt
separated_prints separator spelling (x ∷ xs) can each =
    each_append CanBeRead (spelling x) (each_behind separator spelling xs) each.0
    (behind_prints separator spelling xs can each.1)

pub commas_print : {A : Type 0} (spelling : A → List Lexeme) (xs : List A) → Each (Printable spelling) xs
    → Each CanBeRead (comma_list spelling xs)
commas_print spelling xs each = separated_prints (sign symbols.Comma) spelling xs (sign_stands symbols.Comma) each

pub where_prints : {A : Type 0} (spelling : A → List Lexeme) (xs : List A) → Each (Printable spelling) xs
    → Each CanBeRead (where_clause spelling xs)
where_prints spelling [] each = tt
where_prints spelling (x ∷ xs) each =
    (word_stands keywords.Where, separated_prints (word keywords.And) spelling (x ∷ xs) (word_stands keywords.And) each)

pub brackets_print : (inner : List Lexeme) → Each CanBeRead inner → Each CanBeRead (in_parentheses inner)
brackets_print inner each = (
  sign_stands symbols.Open,
  each_append CanBeRead inner (sign symbols.Close ∷ []) each (sign_stands symbols.Close, tt),
)

-- ---- SELECT

keep_source : Keeps grammar.source (Printable source_spelling)
unfolding grammar.source
keep_source =
    keep_then keep_identifier
    (λ table h. keep_either
    (keep_behind (λ place. keep_then keep_identifier
    (λ alias k. keep_give (h, (word_stands keywords.As, (k, tt))))))
    (keep_either
    (keep_then keep_identifier (λ alias k. keep_give (h, (word_stands keywords.As, (k, tt)))))
    (keep_give (h, tt))))

-- a few tests, whose clause can be printed
abbrev pub TestsKept : List (Test Operand) → Type 0
TestsKept ts = (length ts ≤ MOST_PARTS) × Each CanBeRead (tests_clause ts)

pub keep_tests : Keeps grammar.tests TestsKept
unfolding grammar.tests
keep_tests =
    keep_either
    (keep_behind (λ place. keep_so (λ ts h. (h.1.1, where_prints (test_spelling operand_spelling) ts h.0))
    (keep_listed MOST_PARTS And (omega arith) (keep_test operands.operand operand_spelling keep_operand))))
    (keep_give (omega arith, tt))

abbrev pub ItemsKept : Items → Type 0
ItemsKept items = ItemsFit items × Each CanBeRead (items_spelling items)

abbrev pub SelectKept : Select → Type 0
SelectKept select = SelectFits select × Printable select_spelling select

select_prints : (s : Select) → Each CanBeRead (items_spelling s.items) → Each (Printable source_spelling) s.sources
    → Each CanBeRead (tests_clause s.tests) → Printable select_spelling s
select_prints s items sources tests =
    let behind = comma_list source_spelling s.sources ++ tests_clause s.tests in (
      word_stands keywords.Select,
      each_append CanBeRead (items_spelling s.items) (word keywords.From ∷ behind) items (
        word_stands keywords.From,
        each_append CanBeRead (comma_list source_spelling s.sources) (tests_clause s.tests)
            (commas_print source_spelling s.sources sources) tests,
      ),
    )

pub keep_select_behind : (shown : Items) → ItemsKept shown → Keeps (grammar.select_behind shown) SelectKept
unfolding grammar.select_behind
keep_select_behind shown h =
    keep_behind (λ place. keep_then (keep_listed MOST_SOURCES Comma (omega arith) keep_source)
    (λ sources k. keep_then keep_tests
    (λ tests l. keep_give (
      (h.0, k.1, l.0),
      select_prints (record { items = shown; sources = sources; tests = tests }) h.1 k.0 l.1,
    ))))

keep_items : Keeps grammar.items ItemsKept
unfolding grammar.items
keep_items =
    keep_either (keep_behind (λ place. keep_give (tt, (sign_stands symbols.Star, tt))))
    (keep_then (keep_listed MOST_PARTS Comma (omega arith) keep_operand)
    (λ xs h. keep_give (h.1, commas_print operand_spelling xs h.0)))

pub keep_select : Keeps grammar.select SelectKept
unfolding grammar.select
keep_select = keep_behind (λ place. keep_then keep_items (λ shown h. keep_select_behind shown h))

-- ---- the statements that change tables

pub keep_insert : Keeps tables.insert (λ s. HasParts s.values MOST_PARTS × Printable insert_spelling s)
unfolding tables.insert tables.row
keep_insert =
    keep_then
    (keep_behind (λ place. keep_behind (λ place. keep_then keep_identifier
    (λ table h. keep_behind (λ place. keep_behind (λ place. keep_then
    (keep_listed MOST_PARTS Comma (omega arith) keep_value)
    (λ parts k. keep_behind (λ place. keep_give {so = λ r. CanStand (kinds.Name r.0.name)
    × (Each (Printable specification_spelling) r.2 × HasParts r.2 MOST_PARTS)} (h, k)))))))))
    (λ r h. keep_give (
      h.1.1,
      (
        word_stands keywords.Insert,
        (
          word_stands keywords.Into,
          (
            h.0,
            (
              word_stands keywords.Values,
              brackets_print (comma_list specification_spelling r.2)
                  (commas_print specification_spelling r.2 h.1.0),
            ),
          ),
        ),
      ),
    ))

pub keep_delete : Keeps statements.delete (λ s. (length s.tests ≤ MOST_PARTS) × Printable delete_spelling s)
unfolding statements.delete
keep_delete =
    keep_behind (λ place. keep_behind (λ place. keep_then keep_identifier
    (λ table h. keep_then keep_tests
    (λ tests k. keep_give (k.0, (word_stands keywords.Delete, (word_stands keywords.From, (h, k.1))))))))

keep_assignment : Keeps statements.assignment (Printable assignment_spelling)
unfolding statements.assignment
keep_assignment =
    keep_then keep_identifier
    (λ column h. keep_behind (λ place. keep_then (keep_expression operands.operand operand_spelling keep_operand)
    (λ e k. keep_give (h, (sign_stands symbols.Equal, k)))))

pub keep_update : Keeps statements.update
    (λ s. (HasParts s.assignments MOST_PARTS × (length s.tests ≤ MOST_PARTS)) × Printable update_spelling s)
unfolding statements.update
keep_update =
    keep_behind (λ place. keep_then keep_identifier
    (λ table h. keep_behind (λ place. keep_then (keep_listed MOST_PARTS Comma (omega arith) keep_assignment)
    (λ assignments k. keep_then keep_tests
    (λ tests l. keep_give (
      (k.1, l.0),
      (
        word_stands keywords.Update,
        (
          h,
          (
            word_stands keywords.Set,
            each_append CanBeRead (comma_list assignment_spelling assignments) (tests_clause tests)
                (commas_print assignment_spelling assignments k.0) l.1,
          ),
        ),
      ),
    ))))))

pub keep_set : Keeps statements.set (Printable set_spelling)
unfolding statements.set
keep_set =
    keep_behind (λ place. keep_then keep_host_variable
    (λ v h. keep_behind (λ place. keep_then (keep_expression operands.value specification_spelling keep_value)
    (λ e k. keep_give (word_stands keywords.Set, (h, (sign_stands symbols.Equal, k)))))))
