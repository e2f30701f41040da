-- What an answer is, by the question whether it is one. Assumes nothing.
use Rattle.std.proofs.Common.{◌≡◌, true, false, is_some, is_ok, Some, None, Ok, Err, Option, Result, refl}

pub none_there : {X : Type 0} (o : Option X) → is_some o ≡ false → o ≡ None
none_there None e = refl
none_there (Some x) e = absurd cc

pub all_right : {E : Type 0} (r : Result (Unit {0}) E) → is_ok r ≡ true → r ≡ Ok tt
all_right (Ok u) e = refl
all_right (Err r) e = absurd cc
