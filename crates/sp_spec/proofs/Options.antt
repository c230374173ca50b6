-- What an option is made of where it is there, and what follows where a result is.
use Rattle.std.proofs.Common.{◌≡◌, Bool, true, false, if◌then◌else◌, List, ◌++◌, Option, Some, None, option_map, option_and_then, Result, Ok, Err, IfOk, OnOk, refl}

pub some_same : {A : Type 0} (x y : A) → Some x ≡ Some y → y ≡ x
some_same x y e = let g : y ≡ x = cc in g

-- what is there under a test
pub if_some : {A : Type 0} (b : Bool) (o : Option A) (y : A) → (if b then o else None) ≡ Some y → (b ≡ true) × (o ≡ Some y)
if_some true o y e = (refl, e)
if_some false o y e = absurd cc

pub then_if : {A : Type 0} (b : Bool) (o : Option A) → b ≡ true → (if b then o else None) ≡ o
then_if true o e = refl
then_if false o e = absurd cc

pub mapped : {A B : Type 0} (f : A → B) (o : Option A) (y : B) → option_map f o ≡ Some y → (x : A) × (o ≡ Some x) × (y ≡ f x)
mapped f None y e = absurd cc
mapped f (Some x) y e = (x, refl, let g : y ≡ f x = cc in g)

pub then_some : {A B : Type 0} (f : A → Option B) (o : Option A) (y : B) → option_and_then f o ≡ Some y → (x : A) × (o ≡ Some x) × (f x ≡ Some y)
then_some f None y e = absurd cc
then_some f (Some x) y e = (x, refl, e)

pub ok_so : {T E : Type 0} (r : Result T E) (P Q : T → Type 0) → ((x : T) → P x → Q x) → IfOk r P → IfOk r Q
ok_so (Ok x) P Q h k = h x k
ok_so (Err e) P Q h k = k

pub on_so : {T E : Type 0} (r : Result T E) (P Q : Type 0) → (P → Q) → OnOk r P → OnOk r Q
on_so (Ok x) P Q h k = h k
on_so (Err e) P Q h k = k

-- these, and then those that are there
abbrev pub behind : {A : Type 0} → List A → Option (List A) → Option (List A)
behind front o = option_map (λ rest. front ++ rest) o
