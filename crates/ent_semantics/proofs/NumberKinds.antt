-- A number that fits into 64 bits is a value of the kind of numbers.
use Rattle.std.proofs.Common.{◌≡◌, ℤ, Bool, true, false, cond, Some, None, sym, ap}
use Rattle.ent_value.specs.Value.{kind_of}
use Rattle.ent_value.specs.declared.value.Kind.TheVariants as kinds
use Rattle.ent_value.specs.declared.value.Value.{Value}
use Rattle.ent_value.specs.declared.value.Value.TheVariants as values
use Rattle.ent_semantics.specs.Term.{in_64_bits, is_64_bits}

pub number_kind : (number : ℤ) (value : Value) → in_64_bits number ≡ Some value → kind_of value ≡ kinds.Int
number_kind number value e = by (is_64_bits number) e
  where
    by : (b : Bool) → cond b (Some (values.Int number)) None ≡ Some value → kind_of value ≡ kinds.Int
    by true e = let is : values.Int number ≡ value = cc in sym (ap kind_of is)
    by false e = cc
