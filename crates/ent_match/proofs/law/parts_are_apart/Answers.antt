use Rattle.ent_match.proofs.Parts.{component_in, component_of, part_of_part, remains_in, remains_of}
use Rattle.ent_match.proofs.law.parts_are_apart.Goals as goal

pub returns-clause-remainder : goal.returns-clause-remainder
returns-clause-remainder c = λ pool part member ordered is inside. (
  λ remains. remains_in pool part ordered is member inside remains,
  λ remains. remains_of pool part ordered is member remains,
)

pub returns-clause-component : goal.returns-clause-component
returns-clause-component c = λ pool part members ordered is own. component_of pool part ordered is members own

pub returns-clause-own_component : goal.returns-clause-own_component
returns-clause-own_component c = λ pool part members shared ordered is whole there here.
    component_in pool part ordered is members shared whole there here

pub returns-clause-part_of_part : goal.returns-clause-part_of_part
returns-clause-part_of_part c = part_of_part
