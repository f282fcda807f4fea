-- Laws of names: they are compared exactly.
use Rattle.std.proofs.Common.{◌≡◌, true, sym}
use Rattle.std.specs.Cmp.Lexicographic.{same_text}
use Rattle.std.proofs.lemmas.Cmp.{nat_list_eq_equiv}
use Rattle.ent_semantics.specs.Database.{Name, same_name}

pub equal_names : (first second : Name) → same_name first second ≡ true → first ≡ second
equal_names first second e = same_text first second (sym e)

pub name_itself : (name : Name) → same_name name name ≡ true
name_itself name = nat_list_eq_equiv.refl name

pub names_turned : (first second : Name) → same_name first second ≡ same_name second first
names_turned first second = nat_list_eq_equiv.symm first second
