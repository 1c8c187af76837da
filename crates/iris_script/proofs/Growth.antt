-- A list that grows step by step has grown.
use Rattle.std.proofs.Common.{◌≡◌, ℕ, ◌+◌, ◌<◌, List, [], ◌∷◌, ◌++◌, length, get_or, take, append_assoc, sym, ap, ◌∙◌, refl}
use Rattle.std.proofs.lemmas.List.{append-nil, take_more}
use Rattle.std.proofs.lemmas.Result.{on_ok_weaker}
use Rattle.std.specs.Prelude.{Result, OnOk}
use Rattle.hex.specs.Hex.{encode_with}
use Rattle.iris_script.specs.Growing.{Grows}

pub Grows-refl : (xs : List ℕ) → Grows xs xs
Grows-refl xs = record { more = []; is = sym (append-nil xs) }

pub Grows-append : (xs ys : List ℕ) → Grows xs (xs ++ ys)
Grows-append xs ys = record { more = ys; is = refl }

pub Grows-trans : (xs ys zs : List ℕ) → Grows xs ys → Grows ys zs → Grows xs zs
Grows-trans xs ys zs g h = record { more = g.more ++ h.more; is = h.is ∙ ap (λ v. v ++ h.more) g.is ∙ append_assoc xs g.more h.more }

pub ruleset growing = (Grows-refl, Grows-append, Grows-trans)

pub encode_with-append : (t xs ys : List ℕ) → encode_with t (xs ++ ys) ≡ encode_with t xs ++ encode_with t ys
unfolding encode_with
encode_with-append t [] ys = refl
encode_with-append t (x ∷ xs) ys = rw (encode_with-append t xs ys) refl

-- the hex text of no bytes
pub hex_none : (t old : List ℕ) → old ≡ old ++ encode_with t []
unfolding encode_with
hex_none t old = sym (append-nil old)

-- one byte more
pub hex_more : (t old now new xs : List ℕ) (i : ℕ) → i < length xs → now ≡ old ++ encode_with t (take i xs)
    → new ≡ now ++ encode_with t (get_or xs i 0 ∷ []) → new ≡ old ++ encode_with t (take (i + 1) xs)
hex_more t old now new xs i below so_far here =
    here ∙ ap (λ v. v ++ encode_with t (get_or xs i 0 ∷ [])) so_far
    ∙ append_assoc old (encode_with t (take i xs)) (encode_with t (get_or xs i 0 ∷ []))
    ∙ ap (λ v. old ++ v) (sym (encode_with-append t (take i xs) (get_or xs i 0 ∷ [])) ∙ ap (encode_with t) (sym (take_more xs i 0 below)))

-- two pieces put last, the second by a call that may fail
pub two_pieces : {E : Type 0} (r : Result Unit E) (old mid new a b : List ℕ) → mid ≡ old ++ a → OnOk r (new ≡ mid ++ b)
    → OnOk r (new ≡ old ++ (a ++ b))
two_pieces r old mid new a b first second =
    on_ok_weaker r (λ (e : new ≡ mid ++ b). e ∙ ap (λ v. v ++ b) first ∙ append_assoc old a b) second

-- the pieces of a line, the last by a call that may fail
pub line_pieces : {E : Type 0} (r : Result Unit E) (old t u v w new a b c d f : List ℕ)
    → t ≡ old ++ a → u ≡ t ++ b → v ≡ u ++ c → w ≡ v ++ d → OnOk r (new ≡ w ++ f)
    → OnOk r (new ≡ old ++ (a ++ (b ++ (c ++ (d ++ f)))))
line_pieces r old t u v w new a b c d f h1 h2 h3 h4 h5 =
    let joined : w ++ f ≡ old ++ (a ++ (b ++ (c ++ (d ++ f)))) = rw (h4, h3, h2, h1) (simp append_assoc) in
    on_ok_weaker r (λ (h : new ≡ w ++ f). h ∙ joined) h5
