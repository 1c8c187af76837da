-- A path word has one first byte, and spells one list of bytes.
use Rattle.std.proofs.Common.{◌≡◌, ℕ, ◌<◌, ◌≤◌, List, [], ◌∷◌, ◌++◌, length, get_or, take, drop, refl, sym, ap, ◌∙◌, subst, arith, append_assoc, Ok, Err, lit<}
use Rattle.std.specs.Prelude.{Result, MatchResult}
use Rattle.std.proofs.lemmas.List.{append-nil}
use Rattle.hex.specs.Hex.{decode_of, decode_sized}
use Rattle.hex.specs.declared.error.FromHexError.{FromHexError}
use Rattle.hex.proofs.HexLemmas.{decode_of-ok, decode_sized-twice}
use Rattle.iris_script.specs.Words.{IsHexOf}
use Rattle.iris_script.specs.Paths.{Begins, IsUnescaped, Unescapes}
use Rattle.iris_script.specs.Paths.Begins.{Plain, Escaped}
use Rattle.iris_script.proofs.Cutting.{IsHexOf-same}

-- one first byte, and one rest
pub Begins-same : (word : List ℕ) (b c : ℕ) (r s : List ℕ) → Begins word b r → Begins word c s → (b ≡ c) × (r ≡ s)
Begins-same word b c r s (Plain p e) (Plain q f) =
    let g : b ∷ r ≡ c ∷ s = sym e ∙ f in
    (ap (λ (t : List ℕ). get_or t 0 0) g, ap (λ (t : List ℕ). drop 1 t) g)
Begins-same word b c r s (Plain p e) (Escaped high low h f) =
    let g : b ∷ r ≡ 37 ∷ high ∷ low ∷ s = sym e ∙ f in
    absurd (p.1 (ap (λ (t : List ℕ). get_or t 0 0) g))
Begins-same word b c r s (Escaped high low h e) (Plain q f) =
    let g : c ∷ s ≡ 37 ∷ high ∷ low ∷ r = sym f ∙ e in
    absurd (q.1 (ap (λ (t : List ℕ). get_or t 0 0) g))
Begins-same word b c r s (Escaped high low h e) (Escaped high' low' k f) =
    let g : 37 ∷ high ∷ low ∷ r ≡ 37 ∷ high' ∷ low' ∷ s = sym e ∙ f in
    let pair : high ∷ low ∷ [] ≡ high' ∷ low' ∷ [] = ap (λ (t : List ℕ). take 2 (drop 1 t)) g in
    let P : List ℕ → Type 0 = λ t. IsHexOf t (c ∷ []) in
    let bytes = IsHexOf-same (high ∷ low ∷ []) (b ∷ []) (c ∷ []) h (subst P (sym pair) k) in
    (ap (λ (t : List ℕ). get_or t 0 0) bytes, ap (λ (t : List ℕ). drop 3 t) g)

-- an empty word begins with nothing
Begins-empty : (b : ℕ) (rest : List ℕ) → Begins [] b rest → ⊥
Begins-empty b rest (Plain p e) = cc e
Begins-empty b rest (Escaped high low h e) = cc e

-- what decoding into room answered
pub decoded : (r : Result (List ℕ) FromHexError) (answer : Result Unit FromHexError) (out : List ℕ)
    → MatchResult r (λ bytes. (answer ≡ Ok tt) × (out ≡ bytes)) (λ e. answer ≡ Err e) → answer ≡ Ok tt → r ≡ Ok out
decoded (Ok bytes) answer out h k = ap Ok (sym h.1)
decoded (Err e) answer out h k = cc (h, k)

-- two digits after a `%`
escaped_at : (x high low : ℕ) (rest out : List ℕ) → x ≡ 37 → length out ≡ 1 → decode_of (high ∷ low ∷ []) ≡ Ok out
    → Begins (x ∷ high ∷ low ∷ rest) (get_or out 0 0) rest
escaped_at x high low rest [] percent one h = absurd (omega arith)
escaped_at x high low rest (b ∷ []) percent one h = Escaped high low (lit< tt, h) (ap (λ v. v ∷ high ∷ low ∷ rest) percent)
escaped_at x high low rest (b ∷ c ∷ out) percent one h = absurd (omega arith)

-- an escape that decodes
pub Begins-escaped : (word out : List ℕ) → 3 ≤ length word → get_or word 0 0 ≡ 37 → decode_sized (take 2 (drop 1 word)) 1 ≡ Ok out
    → Begins word (get_or out 0 0) (drop 3 word)
Begins-escaped [] out long percent decodes = absurd (omega arith)
Begins-escaped (x ∷ []) out long percent decodes = absurd (omega arith)
Begins-escaped (x ∷ high ∷ []) out long percent decodes = absurd (omega arith)
Begins-escaped (x ∷ high ∷ low ∷ rest) out long percent decodes =
    let h : decode_of (high ∷ low ∷ []) ≡ Ok out = sym (decode_sized-twice (high ∷ low ∷ []) 1 refl) ∙ decodes in
    let twice = (decode_of-ok (high ∷ low ∷ []) out h).2 in
    escaped_at x high low rest out percent (omega (arith, twice)) h

-- a plain byte
pub Begins-plain : (word : List ℕ) → 0 < length word → IsUnescaped (get_or word 0 0) → Begins word (get_or word 0 0) (drop 1 word)
Begins-plain [] some p = absurd (omega arith)
Begins-plain (b ∷ word) some p = Plain p refl

-- an escape that doesn't decode
pub Begins-undecoded : (word : List ℕ) (e : FromHexError) → 3 ≤ length word → get_or word 0 0 ≡ 37 → decode_sized (take 2 (drop 1 word)) 1 ≡ Err e
    → (b : ℕ) (rest : List ℕ) → Begins word b rest → ⊥
Begins-undecoded word e long percent fails b rest (Plain p f) = absurd (p.1 (sym (ap (λ (t : List ℕ). get_or t 0 0) f) ∙ percent))
Begins-undecoded word e long percent fails b rest (Escaped high low h f) =
    let pair : take 2 (drop 1 word) ≡ high ∷ low ∷ [] = ap (λ (t : List ℕ). take 2 (drop 1 t)) f in
    let decodes : decode_sized (high ∷ low ∷ []) 1 ≡ Ok (b ∷ []) = decode_sized-twice (high ∷ low ∷ []) 1 refl ∙ h.1 in
    cc (sym (ap (λ (t : List ℕ). decode_sized t 1) pair) ∙ fails, decodes)

-- neither an escape nor a plain byte
pub Begins-other : (word : List ℕ) → (3 ≤ length word → get_or word 0 0 ≡ 37 → ⊥) → (0 < length word → IsUnescaped (get_or word 0 0) → ⊥)
    → (b : ℕ) (rest : List ℕ) → Begins word b rest → ⊥
Begins-other word no_escape no_plain b rest (Plain p f) =
    let first : get_or word 0 0 ≡ b = ap (λ (t : List ℕ). get_or t 0 0) f in
    let len : length word ≡ length (b ∷ rest) = ap length f in
    let P : ℕ → Type 0 = λ x. IsUnescaped x in
    no_plain (omega arith) (subst P (sym first) p)
Begins-other word no_escape no_plain b rest (Escaped high low h f) =
    let first : get_or word 0 0 ≡ 37 = ap (λ (t : List ℕ). get_or t 0 0) f in
    let len : length word ≡ length (37 ∷ high ∷ low ∷ rest) = ap length f in
    no_escape (omega arith) first

-- the front of a word was read as these bytes, and the rest follows
pub record IsFrontOf (word rest bytes : List ℕ) : Type 0 where
  pub joins : (tail : List ℕ) → Unescapes rest tail → Unescapes word (bytes ++ tail)
  pub splits : (all : List ℕ) → Unescapes word all → (tail : List ℕ) × (all ≡ bytes ++ tail) × Unescapes rest tail

pub front_none : (word : List ℕ) → IsFrontOf word word []
front_none word = record { joins = λ tail u. u; splits = λ all u. (all, refl, u) }

-- what follows is the byte that the rest begins with, and more
rest_splits : (rest next tail : List ℕ) (b : ℕ) → Begins rest b next → Unescapes rest tail → (more : List ℕ) × (tail ≡ b ∷ more) × Unescapes next more
rest_splits rest next [] b h u = let P : List ℕ → Type 0 = λ t. Begins t b next in absurd (Begins-empty b next (subst P u h))
rest_splits rest next (c ∷ tail) b h u =
    let same = Begins-same rest b c next u.0 h u.1 in
    let P : List ℕ → Type 0 = λ t. Unescapes t tail in
    (tail, ap (λ x. x ∷ tail) (sym same.0), subst P (sym same.1) u.2)

pub front_more : (word rest next bytes : List ℕ) (b : ℕ) → IsFrontOf word rest bytes → Begins rest b next → IsFrontOf word next (bytes ++ b ∷ [])
front_more word rest next bytes b f h =
    let P : List ℕ → Type 0 = λ t. Unescapes word t in
    record {
      joins = λ tail u. subst P (sym (append_assoc bytes (b ∷ []) tail)) (f.joins (b ∷ tail) (next, h, u));
      splits = λ all u.
          let s = f.splits all u in
          let r = rest_splits rest next s.0 b h s.2 in
          (r.0, s.1 ∙ ap (λ t. bytes ++ t) r.1 ∙ sym (append_assoc bytes (b ∷ []) r.0), r.2);
    }

pub front_all : (word rest bytes : List ℕ) → IsFrontOf word rest bytes → length rest ≡ 0 → Unescapes word bytes
front_all word [] bytes f empty = let P : List ℕ → Type 0 = λ t. Unescapes word t in subst P (append-nil bytes) (f.joins [] refl)
front_all word (x ∷ rest) bytes f empty = absurd (omega arith)

-- a rest that begins with nothing
rest_stuck : (rest tail : List ℕ) → 0 < length rest → ((b : ℕ) (next : List ℕ) → Begins rest b next → ⊥) → Unescapes rest tail → ⊥
rest_stuck rest [] some none u = let len : length rest ≡ 0 = ap length u in omega arith
rest_stuck rest (c ∷ tail) some none u = none c u.0 u.1

pub front_stuck : (word rest bytes : List ℕ) → IsFrontOf word rest bytes → 0 < length rest → ((b : ℕ) (next : List ℕ) → Begins rest b next → ⊥)
    → (all : List ℕ) → Unescapes word all → ⊥
front_stuck word rest bytes f some none all u = let s = f.splits all u in rest_stuck rest s.0 some none s.2

-- a word spells one list of bytes
pub Unescapes-same : (word a b : List ℕ) → Unescapes word a → Unescapes word b → a ≡ b
Unescapes-same word [] [] u v = refl
Unescapes-same word [] (y ∷ b) u v = let P : List ℕ → Type 0 = λ t. Begins t y v.0 in absurd (Begins-empty y v.0 (subst P u v.1))
Unescapes-same word (x ∷ a) [] u v = let P : List ℕ → Type 0 = λ t. Begins t x u.0 in absurd (Begins-empty x u.0 (subst P v u.1))
Unescapes-same word (x ∷ a) (y ∷ b) u v =
    let same = Begins-same word x y u.0 v.0 u.1 v.1 in
    let P : List ℕ → Type 0 = λ t. Unescapes t b in
    let more = Unescapes-same u.0 a b u.2 (subst P (sym same.1) v.2) in
    ap (λ v. v ∷ a) same.0 ∙ ap (λ v. y ∷ v) more
