use Rattle.std.proofs.Common.{◌++◌, ◌∷◌, [], ap, ◌∙◌}
use Rattle.ent_page.specs.Layout.{pieces}
use Rattle.ent_page.proofs.Laid.{pushed, shown, made}
use Rattle.ent_page.proofs.page.Page.push.Goals as goal

pub invariant_of-self-2 : goal.invariant_of-self-2
invariant_of-self-2 c =
    let b = c.self.inside.bytes.items in
    let e = c.self.inside.ends.items in
    let key = c.args.key.now in
    let both =
    pushed b e c.reserve.new.self.items c.extend_from_slice.new.self.items c.push_reserved.new.self.items key
    c.len.result c.self.invariant c.reserve.ensures.items c.in_ok-extend_from_slice.ensures.items
    c.push_reserved.ensures.items (c.len.ensures ∙ c.extend_from_slice.new.self.ok.0) in
    made c.extend_from_slice.new.self.items c.push_reserved.new.self.items (pieces b 0 e ++ key ∷ []) both.0 both.1

pub returns-clause-ok : goal.returns-clause-ok
returns-clause-ok c =
    let b = c.self.inside.bytes.items in
    let e = c.self.inside.ends.items in
    let key = c.args.key.now in
    let both =
    pushed b e c.reserve.new.self.items c.extend_from_slice.new.self.items c.push_reserved.new.self.items key
    c.len.result c.self.invariant c.reserve.ensures.items c.in_ok-extend_from_slice.ensures.items
    c.push_reserved.ensures.items (c.len.ensures ∙ c.extend_from_slice.new.self.ok.0) in
    shown c.extend_from_slice.new.self.items c.push_reserved.new.self.items (pieces b 0 e ++ key ∷ []) both.0 both.1
    ∙ ap (λ ks. ks ++ key ∷ []) c.self.view_is
