use Rattle.std.proofs.Common.{◌≡◌, ℕ, List, [], ◌∷◌, ◌++◌, ap, ◌∙◌}
use Rattle.std.specs.Prelude.{codes}
use Rattle.std.specs.Fmt.{decimal}
use Rattle.ent_feed.specs.Json.{list_json, object_json}
use Rattle.ent_feed.specs.Line.{change_json, commit_json, ended_json}
use Rattle.ent_feed.proofs.Pieces.{before}
use Rattle.ent_feed.proofs.line.GroupJson.put.Goals as goal

pub returns : goal.returns
returns c =
    let group = c.args.self.now in
    let one : List ℕ = codes "{\"group\":" ++ decimal group.number in
    let two : List ℕ = codes ",\"epoch\":" ++ decimal group.epoch in
    let three : List ℕ = codes ",\"commits\":" ++ list_json commit_json group.commits in
    let four : List ℕ = codes ",\"changes\":" in
    let five : List ℕ = object_json change_json group.changes in
    let six : List ℕ = codes ",\"ended\":" ++ list_json ended_json group.ended in
    let end : List ℕ = 125 ∷ [] in
    let third : c.put_listed.new.out.items ≡ c.put_numbered-2.new.out.items ++ three =
    c.in_ok-put_listed.ensures
    ∙ ap (λ xs. c.put_numbered-2.new.out.items ++ (codes ",\"commits\":" ++ list_json commit_json xs))
    c.as_slice.ensures in
    let fifth : c.put_object.new.out.items ≡ c.extend_from_slice.new.self.items ++ five =
    c.in_ok-put_object.ensures
    ∙ ap (λ xs. c.extend_from_slice.new.self.items ++ object_json change_json xs) c.as_slice-2.ensures in
    let sixth : c.put_listed-2.new.out.items ≡ c.put_object.new.out.items ++ six =
    c.in_ok-put_listed-2.ensures
    ∙ ap (λ xs. c.put_object.new.out.items ++ (codes ",\"ended\":" ++ list_json ended_json xs)) c.as_slice-3.ensures in
    before _ one _ (two ++ (three ++ (four ++ (five ++ (six ++ end))))) _ c.in_ok-put_numbered.ensures
    (before _ two _ (three ++ (four ++ (five ++ (six ++ end)))) _ c.in_ok-put_numbered-2.ensures
    (before _ three _ (four ++ (five ++ (six ++ end))) _ third
    (before _ four _ (five ++ (six ++ end)) _ c.in_ok-extend_from_slice.ensures.items
    (before _ five _ (six ++ end) _ fifth
    (before _ six _ end _ sixth c.in_ok-push.ensures.items)))))
