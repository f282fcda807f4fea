-- Statements that are lent, and posted ones that are picked, with the tables that they use.
use Rattle.std.proofs.Common.{List, [], ◌∷◌, map, refl, sym, ap, subst, Contains}
use Rattle.ent_tree.specs.declared.declaration.Create.{Create}
use Rattle.ent_semantics.specs.Form.{Tables}
use Rattle.ent_protocol.specs.Member.{seen_now}
use Rattle.ent_protocol.specs.State.{Use}
use Rattle.ent_job.specs.Work.{AreUsed}
use Rattle.ent_lists.specs.Elements.{contains_in, of_map, to_map}

pub lent_used : (creates : List Create) (tables : Tables) (uses : List Use)
    → AreUsed uses (seen_now creates tables uses)
lent_used creates tables [] = refl
lent_used creates tables (own ∷ uses) = ap (λ numbers. own.table ∷ numbers) (lent_used creates tables uses)
