-- What the values in memory stand for.
use Rattle.std.specs.Prelude.{ℕ, List, map}
use denote.Ref.{Bor}
use Rattle.sp_spec_text.specs.Declared as spec
use Rattle.sp_declared.specs.declared.builtins.Builtin.{Builtin}
use Rattle.sp_declared.specs.declared.builtins.Builtin.TheVariants as b

abbrev pub builtin : Builtin → spec.Builtin
builtin b.Hashing = spec.hashing
builtin b.SymmetricEncryption = spec.symmetric_encryption
builtin b.AsymmetricEncryption = spec.asymmetric_encryption
builtin b.Signing = spec.signing
builtin b.RevealingSigning = spec.revealing_signing

-- names that are kept as parts of a text
abbrev pub texts_of : List (Bor (List ℕ)) → List (List ℕ)
texts_of names = map (λ n. n.now) names
