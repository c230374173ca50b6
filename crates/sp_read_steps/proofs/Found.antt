-- Pairs that are found are one.
use Rattle.std.proofs.Common.{◌≡◌, Option, Some, ap}

pub some_both : {A B : Type 0} {a c : A} {b d : B} → ◌≡◌ {A = Option (A × B)} (Some (a, b)) (Some (c, d)) → (a ≡ c) × (b ≡ d)
some_both {A} {B} {a} {c} {b} {d} h =
    let e : ◌≡◌ {A = A × B} (a, b) (c, d) = cc in
    (ap (λ (x : A × B). x.0) e, ap (λ (x : A × B). x.1) e)
