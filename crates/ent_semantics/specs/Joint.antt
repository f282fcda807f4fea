-- Good joint answers: entangled statements of a run that give each other what they demand.
use Rattle.std.specs.Prelude.{◌≡◌, ◌≢◌, true, List, [], AllPairs, Contains}
use Rattle.ent_tree.specs.declared.declaration.Create.{Create}
use Rattle.ent_semantics.specs.declared.answer.Fact.{Fact}
use Rattle.ent_semantics.specs.declared.book.Member.{Member}
use Rattle.ent_semantics.specs.Entangled.{heads, posts, is_grounding}
use Rattle.ent_semantics.specs.Serial.{ReadView}

-- an entangled statement of a run as the member of a joint answer, its grounding being the oracle's answer
abbrev pub member_of : ReadView → Member
member_of read_view = record { tx = read_view.tx; place = read_view.place; grounding = read_view.valuation }

-- what a statement offers under its grounding
abbrev pub read_view_heads : ReadView → List Fact
read_view_heads read_view = heads read_view.environment read_view.entangled read_view.valuation

-- what it demands
abbrev pub read_view_posts : ReadView → List Fact
read_view_posts read_view = posts read_view.environment read_view.entangled read_view.valuation

-- its grounding is one over the database that it sees
abbrev pub IsGrounded : List Create → ReadView → Type 0
IsGrounded declared read_view =
    is_grounding declared read_view.database read_view.environment read_view.entangled read_view.valuation ≡ true

-- a statement of the run is a member of a joint answer
abbrev pub StandsIn : List ReadView → List Member → ReadView → Type 0
StandsIn run members read_view = Contains run read_view × Contains members (member_of read_view)

-- a fact is a head of a member
abbrev pub IsOffered : List ReadView → List Member → Fact → Type 0
IsOffered run members fact =
    (partner : ReadView) × StandsIn run members partner × Contains (read_view_heads partner) fact

-- over a run whose entangled statements see this
pub record IsGood (declared : List Create) (run : List ReadView) (members : List Member) : Type 0 where
  -- there is a member
  pub some : members ≢ []
  -- its members are of distinct transactions
  pub distinct : AllPairs (λ (first second : Member). first.tx ≢ second.tx) members
  -- each is an entangled statement of the run, with the oracle's answer
  pub of_run : (member : Member) → Contains members member
      → (read_view : ReadView) × Contains run read_view × (member ≡ member_of read_view)
  -- each grounding is one over the database that the member sees
  pub grounded : (read_view : ReadView) → StandsIn run members read_view → IsGrounded declared read_view
  -- each postcondition of a member is a head of a member of the same joint answer
  pub met : (read_view : ReadView) → StandsIn run members read_view
      → (post : Fact) → Contains (read_view_posts read_view) post → IsOffered run members post
