-- Values, rows and answers as JSON.
use Rattle.std.specs.Prelude.{ℕ, List, ◌++◌, codes}
use Rattle.std.specs.Fmt.{decimal, signed_decimal}
use Rattle.ent_value.specs.declared.value.Value.{Value}
use Rattle.ent_value.specs.declared.value.Value.TheVariants as values
use Rattle.ent_semantics.specs.declared.answer.Answer.{Answer}
use Rattle.ent_semantics.specs.declared.answer.Answer.TheVariants as answers
use Rattle.ent_semantics.specs.declared.answer.Fact.{Fact}
use Rattle.ent_feed.specs.Json.{list_json, object_json, text_json}

abbrev pub value_json : Value → List ℕ
value_json (values.Int number) = signed_decimal number
value_json (values.Text text) = text_json text

-- the values of a row
abbrev pub row_json : List Value → List ℕ
row_json row = list_json value_json row

abbrev pub rows_json : List (List Value) → List ℕ
rows_json rows = list_json row_json rows

-- a row of an answer relation, under the relation's name
abbrev pub fact_json : Fact → List ℕ
fact_json fact = text_json fact.relation ++ (codes ":" ++ row_json fact.values)

-- what a statement answered, under the word of a report
abbrev pub answer_json : Answer → List ℕ
answer_json (answers.Count count) = codes "{\"count\":" ++ (decimal count ++ codes "}")
answer_json (answers.Value value) = codes "{\"set\":" ++ (value_json value ++ codes "}")
answer_json (answers.Rows rows) = codes "{\"rows\":" ++ (rows_json rows ++ codes "}")
answer_json (answers.Heads facts) = codes "{\"answer\":" ++ (object_json fact_json facts ++ codes "}")
