-- What holds of an answer that isn't an error, and of one that is.
use Rattle.std.specs.Prelude.{Result, Ok, Err, OnOk, OnErr}

pub on_ok : {A E P Q : Type 0} (r : Result A E) → (P → Q) → OnOk r P → OnOk r Q
on_ok (Ok x) f h = f h
on_ok (Err e) f h = tt

pub either_way : {A E P Q R : Type 0} (r : Result A E) → OnOk r P → OnErr r Q → (P → R) → (Q → R) → R
either_way (Ok x) p q f g = f p
either_way (Err e) p q f g = g q
