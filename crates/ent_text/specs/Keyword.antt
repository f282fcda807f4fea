-- Reserved words.
use Rattle.std.specs.Prelude.{ℕ, List, codes}
use Rattle.ent_text.specs.declared.keyword.Keyword.{Keyword}
use Rattle.ent_text.specs.declared.keyword.Keyword.TheVariants.{And, Answer, As, Begin, Choose, Commit, Create}
use Rattle.ent_text.specs.declared.keyword.Keyword.TheVariants.{Delete, From, In, Insert, Int, Into, Rollback, Runs}
use Rattle.ent_text.specs.declared.keyword.Keyword.TheVariants.{Select, Set, Table, Text, Transaction, Update, Values}
use Rattle.ent_text.specs.declared.keyword.Keyword.TheVariants.{Where, Within}

abbrev pub keyword_text : Keyword → List ℕ
keyword_text And = codes "AND"
keyword_text Answer = codes "ANSWER"
keyword_text As = codes "AS"
keyword_text Begin = codes "BEGIN"
keyword_text Choose = codes "CHOOSE"
keyword_text Commit = codes "COMMIT"
keyword_text Create = codes "CREATE"
keyword_text Delete = codes "DELETE"
keyword_text From = codes "FROM"
keyword_text In = codes "IN"
keyword_text Insert = codes "INSERT"
keyword_text Int = codes "INT"
keyword_text Into = codes "INTO"
keyword_text Rollback = codes "ROLLBACK"
keyword_text Runs = codes "RUNS"
keyword_text Select = codes "SELECT"
keyword_text Set = codes "SET"
keyword_text Table = codes "TABLE"
keyword_text Text = codes "TEXT"
keyword_text Transaction = codes "TRANSACTION"
keyword_text Update = codes "UPDATE"
keyword_text Values = codes "VALUES"
keyword_text Where = codes "WHERE"
keyword_text Within = codes "WITHIN"
