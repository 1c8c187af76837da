-- The digits of a key, and decoding into room for 32 bytes.
use Rattle.std.proofs.Common.{◌≡◌, ◌∙◌, sym, ap, refl, arith, ℕ, ◌*◌, ◌<◌, ◌≤◌, List, [], ◌∷◌, map, length, slice_index_or, Bor}
use Rattle.std.specs.Prelude.{Option, Some, None, Result, Ok, IfSome, IfNone}
use Rattle.std.specs.Result.{result_ok}
use Rattle.hex.specs.Hex.{decode_sized}
use Rattle.hex.specs.declared.error.FromHexError.{FromHexError}
use Rattle.hex.proofs.HexLemmas.{decode_sized-twice, decode_of-ok}
use Rattle.iris.specs.Words.{IsKey, IsCommand}

-- a key's digits decode into 32 bytes
pub key_sized : (s master : List ℕ) → IsKey s master → decode_sized s 32 ≡ Ok master
key_sized s master h =
    let twice : length s ≡ 2 * 32 = (decode_of-ok s master h.0).2 ∙ ap (λ n. 2 * n) h.1 in
    decode_sized-twice s 32 twice ∙ h.0

-- what doesn't decode into 32 bytes is no key's digits
pub no_key : (s : List ℕ) (r : Result (List ℕ) FromHexError) (o : Option (List ℕ))
    → r ≡ decode_sized s 32 → o ≡ result_ok r → IfNone o ((master : List ℕ) → IsKey s master → ⊥)
no_key s r None sized ok =
    λ master key. let h : None ≡ Some master = ok ∙ ap result_ok (sized ∙ key_sized s master key) in cc h
no_key s r (Some m) sized ok = tt

-- two words
pub two_words : (ws : List (Bor (List ℕ))) (d : Bor (List ℕ)) → 2 ≤ length ws → length ws < 3
    → map (λ word. word.now) ws ≡ (slice_index_or ws 0 d).now ∷ (slice_index_or ws 1 d).now ∷ []
two_words [] d low high = grind arith
two_words (a ∷ []) d low high = grind arith
two_words (a ∷ b ∷ []) d low high = refl
two_words (a ∷ b ∷ c ∷ ws) d low high = grind arith

-- a key after the command's word
pub words_some : (ws : List (List ℕ)) (first digits command : List ℕ) (key : Option (List ℕ)) → ws ≡ first ∷ digits ∷ []
    → first ≡ command → IfSome key (λ master. IsKey digits master) → IfSome key (λ master. IsCommand command ws master)
words_some ws first digits command None two same spelled = tt
words_some ws first digits command (Some master) two same spelled = (digits, two ∙ ap (λ word. word ∷ digits ∷ []) same, spelled)

-- no key as the second word
pub words_none : (ws : List (List ℕ)) (first digits command : List ℕ) (key : Option (List ℕ)) → ws ≡ first ∷ digits ∷ []
    → IfNone key ((master : List ℕ) → IsKey digits master → ⊥) → IfNone key ((master : List ℕ) → IsCommand command ws master → ⊥)
words_none ws first digits command None two none =
    λ master are. let same : digits ≡ are.0 = cc (sym two ∙ are.1) in none master (rw same are.2)
words_none ws first digits command (Some master) two none = tt

-- another word than the command's
pub words_other : (ws : List (List ℕ)) (first digits command : List ℕ) → ws ≡ first ∷ digits ∷ [] → (first ≡ command → ⊥)
    → (master : List ℕ) → IsCommand command ws master → ⊥
words_other ws first digits command two differ master are = differ (cc (sym two ∙ are.1))
