use Rattle.std.proofs.Common.{◌≡◌, ℕ, List, [], ◌∷◌, ◌++◌, ap, ◌∙◌}
use Rattle.std.specs.Prelude.{codes}
use Rattle.std.specs.Fmt.{decimal}
use Rattle.ent_feed.specs.AnswerJson.{answer_json}
use Rattle.ent_feed.specs.Json.{list_json}
use Rattle.ent_feed.proofs.Pieces.{before}
use Rattle.ent_feed.proofs.line.CommitJson.put.Goals as goal

pub returns : goal.returns
returns c =
    let out = c.args.out.now.items in
    let commit = c.args.self.now in
    let one : List ℕ = codes "{\"ticket\":" ++ decimal commit.ticket in
    let two : List ℕ = codes ",\"number\":" ++ decimal commit.number in
    let three : List ℕ = codes ",\"answers\":" ++ list_json answer_json commit.answers in
    let end : List ℕ = 125 ∷ [] in
    let first : c.put_numbered.new.out.items ≡ out ++ one =
    c.in_ok-put_numbered.ensures ∙ ap (λ n. out ++ (codes "{\"ticket\":" ++ decimal n)) c.number.ensures in
    let second : c.put_numbered-2.new.out.items ≡ c.put_numbered.new.out.items ++ two =
    c.in_ok-put_numbered-2.ensures in
    let third : c.put_listed.new.out.items ≡ c.put_numbered-2.new.out.items ++ three =
    c.in_ok-put_listed.ensures
    ∙ ap (λ xs. c.put_numbered-2.new.out.items ++ (codes ",\"answers\":" ++ list_json answer_json xs))
    c.as_slice.ensures in
    before out one _ (two ++ (three ++ end)) _ first
    (before _ two _ (three ++ end) _ second (before _ three _ end _ third c.in_ok-push.ensures.items))
