-- Kinds of values are compared, and kinds that compare alike are equal.
use Rattle.std.specs.Prelude.{Bool, true, false}
use Rattle.std.proofs.Common.{◌≡◌, refl}
use Rattle.ent_value.specs.declared.value.Kind.{Kind}
use Rattle.ent_value.specs.declared.value.Kind.TheVariants as kinds

abbrev pub same_kind : Kind → Kind → Bool
same_kind kinds.Int kinds.Int = true
same_kind kinds.Text kinds.Text = true
same_kind _ _ = false

pub kind_itself : (kind : Kind) → same_kind kind kind ≡ true
kind_itself kinds.Int = refl
kind_itself kinds.Text = refl

pub equal_kinds : (left right : Kind) → same_kind left right ≡ true → left ≡ right
equal_kinds kinds.Int kinds.Int e = refl
equal_kinds kinds.Int kinds.Text e = cc
equal_kinds kinds.Text kinds.Int e = cc
equal_kinds kinds.Text kinds.Text e = refl
