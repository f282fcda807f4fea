-- The line of a group.
use Rattle.std.specs.Prelude.{ℕ, List, [], ◌∷◌, ◌++◌, codes}
use Rattle.std.specs.Fmt.{decimal}
use Rattle.ent_rel.specs.declared.change.Delta.{Delta}
use Rattle.ent_semantics.specs.Failure.{failure_name}
use Rattle.ent_feed.specs.declared.group.Commit.{Commit}
use Rattle.ent_feed.specs.declared.group.EndedTicket.{EndedTicket}
use Rattle.ent_feed.specs.declared.group.Group.{Group}
use Rattle.ent_feed.specs.declared.group.OtherEnding.{OtherEnding}
use Rattle.ent_feed.specs.declared.group.OtherEnding.TheVariants as endings
use Rattle.ent_feed.specs.declared.group.TableChange.{TableChange}
use Rattle.ent_feed.specs.AnswerJson.{answer_json, rows_json}
use Rattle.ent_feed.specs.Json.{list_json, object_json, text_json}

abbrev pub commit_json : Commit → List ℕ
commit_json commit =
    codes "{\"ticket\":" ++ (decimal commit.ticket
    ++ (codes ",\"number\":" ++ (decimal commit.number
    ++ (codes ",\"answers\":" ++ (list_json answer_json commit.answers ++ codes "}")))))

abbrev pub delta_json : Delta → List ℕ
delta_json delta =
    codes "{\"removed\":" ++ (rows_json delta.removed
    ++ (codes ",\"added\":" ++ (rows_json delta.added ++ codes "}")))

-- the change of a table, under the table's name
abbrev pub change_json : TableChange → List ℕ
change_json change = text_json change.table ++ (codes ":" ++ delta_json change.delta)

-- how a ticket ended that didn't commit
abbrev pub ending_json : OtherEnding → List ℕ
ending_json endings.RolledBack = codes "\"rolled back\""
ending_json (endings.Failed failure) = codes "\"failed\",\"failure\":\"" ++ (failure_name failure ++ codes "\"")
ending_json endings.GaveUp = codes "\"gave up\""

abbrev pub ended_json : EndedTicket → List ℕ
ended_json ended =
    codes "{\"ticket\":" ++ (decimal ended.ticket
    ++ (codes ",\"ending\":" ++ (ending_json ended.ending ++ codes "}")))

abbrev pub group_json : Group → List ℕ
group_json group =
    codes "{\"group\":" ++ (decimal group.number
    ++ (codes ",\"epoch\":" ++ (decimal group.epoch
    ++ (codes ",\"commits\":" ++ (list_json commit_json group.commits
    ++ (codes ",\"changes\":" ++ (object_json change_json group.changes
    ++ (codes ",\"ended\":" ++ (list_json ended_json group.ended ++ codes "}")))))))))

-- a group, and the end of the line
abbrev pub group_line : Group → List ℕ
group_line group = group_json group ++ 10 ∷ []
