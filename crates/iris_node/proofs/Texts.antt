-- Whether bytes are a text, as a test.
use Rattle.std.proofs.Common.{◌≡◌, ℕ, List, Bool, true, false, refl}
use Rattle.std.specs.Prelude.{IsUtf8}
use Rattle.std.specs.Str.{is_utf8}
use Rattle.std.proofs.lemmas.Str.{IsUtf8-from_is_utf8, is_utf8-from_IsUtf8}

not_so : (P : Type 0) (b : Bool) → (b ≡ true → P) → (P → ⊥) → b ≡ false
not_so P true f n = absurd (n (f refl))
not_so P false f n = refl

pub is_no_text : (bytes : List ℕ) → (IsUtf8 bytes → ⊥) → is_utf8 bytes ≡ false
is_no_text bytes n = not_so (IsUtf8 bytes) (is_utf8 bytes) (IsUtf8-from_is_utf8 bytes) n

pub is_text : (bytes : List ℕ) → IsUtf8 bytes → is_utf8 bytes ≡ true
is_text bytes u = is_utf8-from_IsUtf8 bytes u
