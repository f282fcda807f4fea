use Rattle.std.proofs.Common.{◌≡◌, ◌++◌, drop}
use Rattle.ent_feed.specs.Json.{more_json}
use Rattle.ent_feed.proofs.json.put_more.Given as goal

-- what is out, and the JSON of what is left
abbrev pub invariant-loop-item : goal.invariant-loop-item
invariant-loop-item g l =
    l.out.items ++ more_json g.T.Json.json (drop l.item-index l.items)
    ≡ l.fn.out.items ++ more_json g.T.Json.json l.items
