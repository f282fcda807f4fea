use Rattle.std.proofs.Common.{◌≡◌, ℕ, List, [], ◌∷◌, ◌++◌, ap, ◌∙◌}
use Rattle.std.specs.Prelude.{codes}
use Rattle.ent_feed.specs.AnswerJson.{rows_json}
use Rattle.ent_feed.proofs.Pieces.{before}
use Rattle.ent_feed.proofs.line.DeltaJson.put.Goals as goal

pub returns : goal.returns
returns c =
    let out = c.args.out.now.items in
    let delta = c.args.self.now in
    let one : List ℕ = codes "{\"removed\":" ++ rows_json delta.removed in
    let two : List ℕ = codes ",\"added\":" ++ rows_json delta.added in
    let end : List ℕ = 125 ∷ [] in
    let first : c.put_listed.new.out.items ≡ out ++ one =
    c.in_ok-put_listed.ensures ∙ ap (λ rows. out ++ (codes "{\"removed\":" ++ rows_json rows)) c.as_slice.ensures in
    let second : c.put_listed-2.new.out.items ≡ c.put_listed.new.out.items ++ two =
    c.in_ok-put_listed-2.ensures
    ∙ ap (λ rows. c.put_listed.new.out.items ++ (codes ",\"added\":" ++ rows_json rows)) c.as_slice-2.ensures in
    before out one _ (two ++ end) _ first (before _ two _ end _ second c.in_ok-push.ensures.items)
