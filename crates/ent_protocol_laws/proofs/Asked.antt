-- Who asks: posted statements of a component are of posted members.
use Rattle.std.proofs.Common.{◌≡◌, ◌≤◌, Bool, true, false, List, [], ◌∷◌, length, refl, ◌∙◌}
use Rattle.std.proofs.Common.{arith, Contains}
use Rattle.ent_value.specs.declared.value.Value.{Value}
use Rattle.ent_semantics.specs.declared.entangled.Entangled.{Entangled}
use Rattle.ent_semantics.specs.Pool.{Posted}
use Rattle.ent_protocol.specs.Member.{Next, Ordinary, Asks, Commits, RollsBack, next_of, posted_by, pool}
use Rattle.ent_protocol.specs.PoolEvents.{IsPresentComponent}
use Rattle.ent_protocol.specs.PostedBy.{IsPosted, in_pool, is_present, posted_next}
use Rattle.ent_protocol.specs.State.{State, Member}
use Rattle.ent_lists.specs.Elements.{In}

pub same_asks : (x y : Entangled Value) → Asks x ≡ Asks y → x ≡ y
same_asks x y e = cc

-- of a member one statement at most
pub asks_once : (s : State) (m : Member) → length (posted_by s m) ≤ 1
asks_once s m = by m.posted refl (next_of s m) refl
  where
    by : (b : Bool) → m.posted ≡ b → (n : Next) → next_of s m ≡ n → length (posted_by s m) ≤ 1
    by true posted (Asks statement) next = rw (posted, posted_next s m posted ∙ next) (omega arith)
    by true posted (Ordinary statement) next = rw (posted, posted_next s m posted ∙ next) (omega arith)
    by true posted Commits next = rw (posted, posted_next s m posted ∙ next) (omega arith)
    by true posted RollsBack next = rw (posted, posted_next s m posted ∙ next) (omega arith)
    by false posted n next = rw posted (omega arith)

pub asker_of : (s : State) (asked : List Posted) → IsPresentComponent s asked → (query : Posted) → In query asked
    → IsPosted s query
asker_of s asked component query at =
    in_pool s query (is_present (pool s) asked component query at)
