-- One token decides how to go on, in every production.
use Rattle.std.proofs.Common.{◌≡◌, Bool, true, false, cond, List, [], ◌∷◌, ◌++◌, refl}
use Rattle.ent_text.specs.declared.symbol.Symbol.TheVariants as signs
use Rattle.ent_text.specs.declared.keyword.Keyword.TheVariants as words
use Rattle.ent_tree.specs.declared.operand.Operand.{Operand}
use Rattle.ent_tree.specs.declared.select.Items.{Items}
use Rattle.ent_tree.specs.declared.entangled.EntangledItem.{EntangledItem}
use Rattle.ent_tree.specs.declared.entangled.Tuple.{Tuple}
use Rattle.ent_text.specs.Class.{Class, word, sign, name, apart}
use Rattle.ent_tree.specs.declared.limits.TheConstants.{MOST_PARTS}
use Rattle.ent_text.specs.declared.divider.Divider.TheVariants.{Comma}
use Rattle.ent_text.specs.Grammar.{Grammar, pick, listed, firsts, nullable}
use Rattle.ent_text.specs.Foresight.{IsPredictive, if_some}
use Rattle.ent_sql.specs.Operands.{identifier, host_variable, negative, unsigned, positive, quoted, literal, value}
use Rattle.ent_sql.specs.Operands.{column_reference, operand, term, comparison, compared, expression_behind, expression}
use Rattle.ent_sql.specs.Tables.{kind, column, create, row, opening_row, insert}
use Rattle.ent_sql.specs.Selects.{source, tests, select_behind, items, select}
use Rattle.ent_sql.specs.Entangling.{binding, entangled_item, entangled_items, relation, membership, bracketed}
use Rattle.ent_sql.specs.Entangling.{comparison_behind, tuple_behind, condition_behind, condition, entangled_conditions}
use Rattle.ent_sql.specs.Entangling.{entangled_behind, ordinary, entangled, query, are_terms}
use Rattle.ent_sql.specs.Statements.{delete, assignment, update, set, statement, ended_statement}
use Rattle.ent_sql.specs.Scripts.{within, ending, script, input}

-- ---- operands

name_next : (follow : List Class) → IsPredictive identifier follow
unfolding identifier
name_next follow = λ n. (tt, tt)

variable_next : (follow : List Class) → IsPredictive host_variable follow
unfolding host_variable
variable_next follow = λ n. (tt, tt)

literal_next : (follow : List Class) → IsPredictive literal follow
unfolding literal negative unsigned positive quoted
literal_next follow = (refl, refl, λ p. (tt, λ n. (tt, tt)), (refl, refl, λ n. (tt, tt), λ t. (tt, tt)))

value_next : (follow : List Class) → IsPredictive value follow
unfolding value literal negative unsigned positive quoted host_variable
value_next follow = (refl, refl, λ v. (variable_next [], tt), λ l. (literal_next [], tt))

-- a token that an operand can't go on with
abbrev NoDot : List Class → Type 0
NoDot follow = apart (sign signs.Dot ∷ []) follow ≡ true

reference_next : (follow : List Class) → NoDot follow → IsPredictive column_reference follow
unfolding column_reference identifier
reference_next follow h = λ n. (name_next [], (refl, h, λ d. (tt, λ c. (name_next [], tt)), tt))

operand_next : (follow : List Class) → NoDot follow → IsPredictive operand follow
unfolding operand column_reference identifier value literal negative unsigned positive quoted host_variable
operand_next follow h = (refl, refl, λ c. (reference_next follow h, tt), λ v. (value_next [], tt))

term_next : (follow : List Class) → IsPredictive term follow
unfolding term identifier value literal negative unsigned positive quoted host_variable
term_next follow = (refl, refl, λ c. (name_next [], tt), λ v. (value_next [], tt))

comparison_next : (follow : List Class) → IsPredictive comparison follow
unfolding comparison
comparison_next follow = (
  refl,
  refl,
  λ p. (tt, tt),
  (
    refl,
    refl,
    λ p. (tt, tt),
    (refl, refl, λ p. (tt, tt), (refl, refl, λ p. (tt, tt), (refl, refl, λ p. (tt, tt), λ p. (tt, tt)))),
  ),
)

module _ {A : Type 0} (thing : Grammar A) (thing_next : (follow : List Class) → NoDot follow
    → IsPredictive thing follow) where
  test_next : (follow : List Class) → NoDot follow → IsPredictive (compared thing) follow
  unfolding compared comparison
  test_next follow h = λ l. (thing_next _ refl, λ c. (comparison_next [], λ r. (thing_next follow h, tt)))

  expression_next : (follow : List Class) → NoDot follow
      → apart (sign signs.Plus ∷ []) (sign signs.Minus ∷ follow) ≡ true → apart (sign signs.Minus ∷ []) follow ≡ true
      → IsPredictive (expression thing) follow
  unfolding expression expression_behind
  expression_next follow h plus minus =
      λ x. (
        thing_next _ h,
        (
          refl,
          plus,
          λ p. (tt, λ y. (thing_next follow h, tt)),
          (refl, minus, λ p. (tt, λ y. (thing_next follow h, tt)), tt),
        ),
      )

-- ---- tables and rows

column_next : (follow : List Class) → IsPredictive column follow
unfolding column identifier kind
column_next follow = λ n. (name_next [], λ k. ((refl, refl, λ p. (tt, tt), λ p. (tt, tt)), tt))

create_next : (follow : List Class) → IsPredictive create follow
unfolding create column identifier kind
create_next follow = λ p. (
  tt,
  λ q. (
    tt,
    λ n. (
      name_next [],
      λ o. (
        tt,
        λ cs. (
          (λ c. (column_next [], λ xs. ((refl, refl, refl, column_next []), tt))),
          λ c.
              (tt, λ e. (tt, tt)),
        ),
      ),
    ),
  ),
)

literals_next : (follow : List Class) → IsPredictive (row literal) follow
unfolding row identifier literal negative unsigned positive quoted
literals_next follow = λ p. (
  tt,
  λ q. (
    tt,
    λ n. (
      name_next [],
      λ v. (
        tt,
        λ o. (
          tt,
          λ xs. (
            (λ x. (literal_next [], λ ys. ((refl, refl, refl, literal_next []), tt))),
            λ c.
                (tt, tt),
          ),
        ),
      ),
    ),
  ),
)

values_next : (follow : List Class) → IsPredictive (row value) follow
unfolding row identifier value literal negative unsigned positive quoted host_variable
values_next follow = λ p. (
  tt,
  λ q. (
    tt,
    λ n. (
      name_next [],
      λ v.
          (tt, λ o. (tt, λ xs. ((λ x. (value_next [], λ ys. ((refl, refl, refl, value_next []), tt))), λ c. (tt, tt)))),
    ),
  ),
)

opening_row_next : (follow : List Class) → IsPredictive opening_row follow
unfolding opening_row
opening_row_next follow = λ r. (literals_next _, λ e. (tt, tt))

insert_next : (follow : List Class) → IsPredictive insert follow
unfolding insert
insert_next follow = λ r. (values_next _, tt)

-- ---- SELECT over tables

-- a token that a condition can't go on with
record Ends (follow : List Class) : Type 0 where
  no_dot : NoDot follow
  no_where : apart (word words.Where ∷ []) follow ≡ true
  no_and : apart (word words.And ∷ []) follow ≡ true

tests_next : (follow : List Class) → Ends follow → IsPredictive tests follow
unfolding tests compared operand column_reference identifier value literal negative unsigned positive quoted
    host_variable
tests_next follow h = (
  refl,
  h.no_where,
  λ p. (
    tt,
    λ x. (
      test_next operand operand_next _ h.no_dot,
      λ xs.
          ((refl, h.no_and, refl, test_next operand operand_next _ h.no_dot), tt),
    ),
  ),
  tt,
)

source_next : (follow : List Class) → apart (word words.As ∷ []) (name ∷ follow) ≡ true
    → apart (name ∷ []) follow ≡ true → IsPredictive source follow
unfolding source identifier
source_next follow h k =
    λ n. (name_next [], (refl, h, λ p. (tt, λ a. (name_next [], tt)), (refl, k, λ a. (name_next [], tt), tt)))

-- a token that a FROM can't go on with
record EndsFrom (follow : List Class) : Type 0 where
  ends : Ends follow
  no_as : apart (word words.As ∷ []) follow ≡ true
  no_name : apart (name ∷ []) follow ≡ true
  no_comma : apart (sign signs.Comma ∷ []) follow ≡ true

from_next : (shown : Items) (follow : List Class) → EndsFrom follow → IsPredictive (select_behind shown) follow
unfolding select_behind source identifier tests
from_next shown follow h = λ p. (
  tt,
  λ ss. (
    (λ s. (
      source_next follow h.no_as h.no_name,
      λ xs.
          ((refl, h.no_comma, refl, source_next follow h.no_as h.no_name), tt),
    )),
    λ ts. (tests_next follow h.ends, tt),
  ),
)

operands_next : (follow : List Class) → NoDot follow → apart (sign signs.Comma ∷ []) follow ≡ true
    → IsPredictive (listed MOST_PARTS Comma operand) follow
unfolding operand column_reference identifier value literal negative unsigned positive quoted host_variable
operands_next follow h k = λ x. (operand_next follow h, λ xs. ((refl, k, refl, operand_next follow h), tt))

select_next : (follow : List Class) → EndsFrom follow → IsPredictive select follow
unfolding select items select_behind operand column_reference identifier value literal negative unsigned positive quoted
    host_variable
select_next follow h = λ p. (
  tt,
  λ shown. (
    (refl, refl, λ q. (tt, tt), λ xs. (operands_next (word words.From ∷ []) refl refl, tt)),
    from_next
        shown follow h,
  ),
)

-- ---- entangled SELECT

item_next : (follow : List Class) → apart (word words.As ∷ []) follow ≡ true → IsPredictive entangled_item follow
unfolding entangled_item binding term identifier value literal negative unsigned positive quoted host_variable
item_next follow h = λ t. (term_next [], λ b. ((refl, h, λ p. (tt, λ v. (variable_next [], tt)), tt), tt))

entangled_items_next : (xs : List Operand) (follow : List Class) → apart (word words.As ∷ []) follow ≡ true
    → apart (sign signs.Comma ∷ []) follow ≡ true → IsPredictive (entangled_items xs) follow
unfolding entangled_items entangled_item binding term identifier value literal negative unsigned positive quoted
    host_variable
entangled_items_next xs follow h k =
    (refl, h, λ p. (tt, λ v. (variable_next [], λ others. ((refl, k, refl, item_next follow h), tt))), tt)

relation_next : (follow : List Class) → IsPredictive relation follow
unfolding relation identifier
relation_next follow = λ p. (tt, name_next [])

membership_next : (tuple : Tuple) (follow : List Class) → IsPredictive (membership tuple) follow
unfolding membership relation identifier select
membership_next tuple follow =
    λ p. (
      tt,
      (
        refl,
        refl,
        λ o. (
          tt,
          λ s. (
            select_next (sign signs.Close ∷ [])
                (record {
                  ends = record { no_dot = refl; no_where = refl; no_and = refl };
                  no_as = refl;
                  no_name = refl;
                  no_comma =
                      refl;
                }),
            λ c. (tt, tt),
          ),
        ),
        λ r. (relation_next [], tt),
      ),
    )

condition_next : (follow : List Class) → IsPredictive condition follow
unfolding condition bracketed condition_behind comparison_behind tuple_behind comparison membership term identifier
    value literal negative unsigned positive quoted host_variable
condition_next follow = (
  refl,
  refl,
  λ o. (
    tt,
    λ ts. (
      (λ t. (term_next [], λ xs. ((refl, refl, refl, term_next []), tt))),
      λ c.
          (tt, membership_next _ follow),
    ),
  ),
  λ first. (
    term_next [],
    (
      refl,
      refl,
      λ c. (comparison_next [], λ r. (term_next [], tt)),
      λ others.
          ((refl, refl, refl, term_next []), membership_next _ follow),
    ),
  ),
)

entangled_conditions_next : (follow : List Class) → apart (word words.Where ∷ []) follow ≡ true
    → apart (word words.And ∷ []) follow ≡ true → IsPredictive entangled_conditions follow
unfolding entangled_conditions condition bracketed condition_behind comparison_behind tuple_behind comparison membership
    term identifier value literal negative unsigned positive quoted host_variable
entangled_conditions_next follow h k =
    (refl, h, λ p. (tt, λ x. (condition_next _, λ xs. ((refl, k, refl, condition_next _), tt))), tt)

into_next : (shown : List EntangledItem) (follow : List Class) → IsPredictive (entangled_behind shown) follow
unfolding entangled_behind relation identifier entangled_conditions
into_next shown follow =
    λ p. (
      tt,
      λ rs. (
        (λ r. (relation_next [], λ xs. ((refl, refl, refl, relation_next []), tt))),
        λ cs.
            (entangled_conditions_next (word words.Choose ∷ []) refl refl, λ c. (tt, λ o. (tt, tt))),
      ),
    )

-- ---- statements

ordinary_next : (xs : List Operand) (follow : List Class) → EndsFrom follow → IsPredictive (ordinary xs) follow
unfolding ordinary
ordinary_next xs follow h = λ s. (from_next _ _ h, tt)

entangled_next : (xs : List Operand) (follow : List Class) → IsPredictive (entangled xs) follow
unfolding entangled entangled_behind
entangled_next xs follow = λ shown. (entangled_items_next xs _ refl refl, λ e. (into_next shown _, tt))

either_next : (xs : List Operand) (b : Bool) (follow : List Class) → EndsFrom follow
    → IsPredictive (cond b (pick (ordinary xs) (entangled xs)) (ordinary xs)) follow
unfolding ordinary select_behind entangled entangled_items entangled_behind
either_next xs true follow h = (refl, refl, ordinary_next xs follow h, entangled_next xs follow)
either_next xs false follow h = ordinary_next xs follow h

-- what stands behind the operands of a select list
abbrev Behind : List Operand → Bool → List Class → List Class
Behind xs b follow =
    firsts (cond b (pick (ordinary xs) (entangled xs)) (ordinary xs))
    ++ if_some (nullable (cond b (pick (ordinary xs) (entangled xs)) (ordinary xs))) follow

behind_no_dot : (xs : List Operand) (b : Bool) (follow : List Class) → NoDot (Behind xs b follow)
unfolding ordinary select_behind entangled entangled_items entangled_behind
behind_no_dot xs true follow = refl
behind_no_dot xs false follow = refl

behind_no_comma : (xs : List Operand) (b : Bool) (follow : List Class)
    → apart (sign signs.Comma ∷ []) (Behind xs b follow) ≡ true
unfolding ordinary select_behind entangled entangled_items entangled_behind
behind_no_comma xs true follow = refl
behind_no_comma xs false follow = refl

listed_next : (xs : List Operand) (b : Bool) (follow : List Class)
    → IsPredictive (listed MOST_PARTS Comma operand) (Behind xs b follow)
listed_next xs b follow = operands_next (Behind xs b follow) (behind_no_dot xs b follow) (behind_no_comma xs b follow)

query_next : (follow : List Class) → EndsFrom follow → IsPredictive query follow
unfolding query select_behind operand column_reference identifier value literal negative unsigned positive quoted
    host_variable
query_next follow h = λ p. (
  tt,
  (
    refl,
    refl,
    λ q. (tt, λ s. (from_next _ follow h, tt)),
    λ xs.
        (listed_next xs (are_terms xs) follow, either_next xs (are_terms xs) follow h),
  ),
)

assignment_next : (follow : List Class) → NoDot follow → apart (sign signs.Plus ∷ []) (sign signs.Minus ∷ follow) ≡ true
    → apart (sign signs.Minus ∷ []) follow ≡ true → IsPredictive assignment follow
unfolding assignment identifier
assignment_next follow h k l = λ n. (name_next [], λ e. (tt, λ x. (expression_next operand operand_next _ h k l, tt)))

delete_next : (follow : List Class) → Ends follow → IsPredictive delete follow
unfolding delete identifier
delete_next follow h = λ p. (tt, λ q. (tt, λ n. (name_next [], λ ts. (tests_next _ h, tt))))

update_next : (follow : List Class) → Ends follow → apart (sign signs.Comma ∷ []) follow ≡ true
    → apart (sign signs.Plus ∷ []) follow ≡ true → apart (sign signs.Minus ∷ []) follow ≡ true
    → IsPredictive update follow
unfolding update identifier assignment tests
update_next follow h k plus minus =
    λ p. (
      tt,
      λ n. (
        name_next [],
        λ q. (
          tt,
          λ xs. (
            (λ a. (
              assignment_next _ h.no_dot plus minus,
              λ ys.
                  ((refl, k, refl, assignment_next _ h.no_dot plus minus), tt),
            )),
            λ ts. (tests_next follow h, tt),
          ),
        ),
      ),
    )

set_next : (follow : List Class) → apart (sign signs.Plus ∷ []) (sign signs.Minus ∷ follow) ≡ true
    → apart (sign signs.Minus ∷ []) follow ≡ true → NoDot follow → IsPredictive set follow
unfolding set host_variable
set_next follow plus minus h =
    λ p. (tt, λ v. (variable_next [], λ e. (tt, λ x. (expression_next value (λ f k. value_next f) _ h plus minus, tt))))

-- behind a statement stands ";"
abbrev behind_statement : List Class
behind_statement = sign signs.Semicolon ∷ []

semicolon_ends : EndsFrom behind_statement
semicolon_ends = record {
  ends = record { no_dot = refl; no_where = refl; no_and = refl };
  no_as = refl;
  no_name = refl;
  no_comma = refl;
}

statement_next : IsPredictive statement behind_statement
unfolding statement insert row delete update set query
statement_next = (
  refl,
  refl,
  λ i. (insert_next behind_statement, tt),
  (
    refl,
    refl,
    λ d. (delete_next _ semicolon_ends.ends, tt),
    (
      refl,
      refl,
      λ u. (update_next _ semicolon_ends.ends refl refl refl, tt),
      (refl, refl, λ s. (set_next _ refl refl refl, tt), query_next _ semicolon_ends),
    ),
  ),
)

ended_next : (follow : List Class) → IsPredictive ended_statement follow
unfolding ended_statement
ended_next follow = λ s. (statement_next, λ e. (tt, tt))

-- ---- scripts

pub script_next : (follow : List Class) → IsPredictive script follow
unfolding script within ending ended_statement statement insert row delete update set query
script_next follow = λ b. (
  tt,
  λ t. (
    tt,
    λ n. (
      (refl, refl, λ w. (tt, λ n. (refl, λ r. (tt, tt))), tt),
      λ e. (
        tt,
        λ ss. (
          (refl, refl, refl, ended_next []),
          λ c.
              ((refl, refl, λ p. (tt, tt), λ p. (tt, tt)), λ e. (tt, tt)),
        ),
      ),
    ),
  ),
)

-- one token decides how to go on, wherever it stands in an input
pub input_next : IsPredictive input []
unfolding input create opening_row row script
input_next = λ ts. (
  (refl, refl, refl, create_next []),
  λ rs.
      ((refl, refl, refl, opening_row_next []), λ ss. ((refl, refl, refl, script_next _), tt)),
)
