-- The rule of postconditions: what a member demands is a head of a member of the same joint answer.
use Rattle.std.specs.Prelude.{ℕ, suc, Bool, List, [], ◌∷◌, ◌++◌, filter}
use Rattle.std.specs.List.{flat_map, list_all, list_any}
use Rattle.ent_semantics.specs.declared.answer.Fact.{Fact}
use Rattle.ent_semantics.specs.declared.book.JointAnswer.{JointAnswer}
use Rattle.ent_semantics.specs.declared.book.Member.{Member}
use Rattle.ent_semantics.specs.Joint.{read_view_heads, read_view_posts}
use Rattle.ent_semantics.specs.Serial.{ReadView}
use Rattle.ent_history.specs.Alike.{same_fact}
use Rattle.ent_history.specs.Joint.{stands_among}
use Rattle.ent_history.specs.Journal.{unless}
use Rattle.ent_history.specs.declared.finding.Finding.{Finding}
use Rattle.ent_history.specs.declared.finding.Rule.TheVariants as rules
use Rattle.ent_history.specs.declared.finding.Thing.TheVariants as things

abbrev pub is_offered : List Fact → Fact → Bool
is_offered heads post = list_any (same_fact post) heads

module _ (run : List ReadView) where
  -- the statements of the run that are among these members
  abbrev pub read_views_of : List Member → List ReadView
  read_views_of members = filter (λ read_view. stands_among read_view.tx read_view.place members) run

  abbrev pub are_met : List Member → Bool
  are_met members =
      let own = read_views_of members in
      list_all (is_offered (flat_map read_view_heads own)) (flat_map read_view_posts own)

  -- joint answers, the first of this number
  abbrev pub post_findings : ℕ → List JointAnswer → List Finding
  post_findings number [] = []
  post_findings number (joint ∷ more) =
      unless (are_met joint.members) rules.Post (things.Joint number) ++ post_findings (suc number) more
