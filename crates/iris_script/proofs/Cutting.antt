-- Cuts at a byte: the first place, that there is one cut, and the first line.
use Rattle.std.proofs.Common.{◌≡◌, ◌≢◌, ◌==◌, ℕ, ◌+◌, ◌<◌, ◌≤◌, ◌-◌, ◌*◌, ◌%◌, ◌^◌, suc, Bool, true, false, cond, List, [], ◌∷◌, ◌++◌, length, get_or, take, drop, refl, sym, ap, ◌∙◌, arith, Some, None, drop-cons, length-drop, add-one}
use Rattle.std.specs.List.{All, slice_split, onto_first, position, position_or_len}
use Rattle.std.proofs.lemmas.List.Splits.{slice_split_at, slice_split_none}
use Rattle.std.proofs.lemmas.List.Sums.{fails_before_first, passes_at_first}
use Rattle.std.proofs.lemmas.Bool.{eqb-true}
use Rattle.std.proofs.lemmas.List.{take-append-drop, take_all, length-take, get_or-take, get_or_default}
use Rattle.std.proofs.lemmas.List.Elements.{All-nil, All-cons, All-head, All-tail, All-append}
use Rattle.std.proofs.lemmas.Fmt.{decimal_by_steps, decimal_injective}
use Rattle.std.specs.Prelude.{decimal}
use Rattle.hex.proofs.HexLemmas.{decode_of-ok, decode_of-same}
use Rattle.iris_script.specs.Words.{IsNumber, IsHexOf}
use Rattle.iris_script.specs.Cuts.{IsCut, IsByteFree, without_empty_last, lines_of}

-- a byte that isn't the one sought fails the test
other_fails : (byte b : ℕ) → b ≢ byte → (b == byte) ≡ false
other_fails byte b h = grind arith

fails_other : (byte b : ℕ) → (b == byte) ≡ false → b ≢ byte
fails_other byte b h = grind arith

same_passes : (byte : ℕ) → (byte == byte) ≡ true
same_passes byte = grind arith

-- where no place is found, none passes
position_none : (p : ℕ → Bool) (xs : List ℕ) → position p xs ≡ None → length xs ≤ position_or_len p xs
position_none p xs h = grind arith

-- the place that is found is the first that passes
position_some : (p : ℕ → Bool) (xs : List ℕ) (i : ℕ) → position p xs ≡ Some i → (position_or_len p xs ≡ i) × (i < length xs)
position_some p xs i h = grind arith

-- where no place is found, the byte stands nowhere
pub Lacks-from_none : (byte : ℕ) (text : List ℕ) → position (λ b. b == byte) text ≡ None → IsByteFree text byte
Lacks-from_none byte text h = λ k d below.
    let none = position_none (λ b. b == byte) text h in
    fails_other byte (get_or text k d) (fails_before_first (λ b. b == byte) text k d (omega (arith, none)))

-- a range up to the end is the rest
pub rest_whole : (text : List ℕ) (i : ℕ) → take (length text - i) (drop i text) ≡ drop i text
rest_whole text i = take_all (length text - i) (drop i text) (simp length-drop (omega arith))

-- the cut at the place that is found
pub IsCut-from_some : (byte : ℕ) (text : List ℕ) (i : ℕ) → position (λ b. b == byte) text ≡ Some i
    → IsCut text byte (take i text) (drop (i + 1) text)
IsCut-from_some byte text i h =
    let p : ℕ → Bool = λ b. b == byte in
    let first : position_or_len p text ≡ i = (position_some p text i h).0 in
    let inside : i < length text = (position_some p text i h).1 in
    let here : get_or text i byte ≡ byte = eqb-true _ _ (rw first at (passes_at_first p text byte (omega (arith, first, inside)))) in
    record {
      lacks = λ k d below.
          let m = simp length-take at below in
          let k_below : k < i = omega (arith, m) in
          rw (get_or-take i text k d k_below) (fails_other byte (get_or text k d) (fails_before_first p text k d (omega (arith, first))));
      whole = rw add-one (sym (take-append-drop i text) ∙ ap (λ v. take i text ++ v) (drop-cons text i byte inside ∙ ap (λ b. b ∷ drop (suc i) text) here));
    }

-- a text is cut at one place
pub IsCut-same : (byte : ℕ) (a b c d : List ℕ) → IsByteFree a byte → IsByteFree c byte → a ++ byte ∷ b ≡ c ++ byte ∷ d → (a ≡ c) × (b ≡ d)
IsCut-same byte [] b [] d h k e = (refl, cc e)
IsCut-same byte [] b (y ∷ c) d h k e =
    let P : ℕ → Type 0 = λ b. b ≢ byte in
    absurd (All-head P y c k (cc e))
IsCut-same byte (x ∷ a) b [] d h k e =
    let P : ℕ → Type 0 = λ b. b ≢ byte in
    absurd (All-head P x a h (cc e))
IsCut-same byte (x ∷ a) b (y ∷ c) d h k e =
    let P : ℕ → Type 0 = λ b. b ≢ byte in
    let tails : a ++ byte ∷ b ≡ c ++ byte ∷ d = cc e in
    let heads : x ≡ y = cc e in
    let r = IsCut-same byte a b c d (All-tail P x a h) (All-tail P y c k) tails in
    (cc (heads, r.0), r.1)

-- a text has at least one part
pub parts_more : (p : ℕ → Bool) (text : List ℕ) → (part : List ℕ) × (parts : List (List ℕ)) × (slice_split p text ≡ part ∷ parts)
parts_more p [] = ([], [], refl)
parts_more p (x ∷ text) =
    let m = parts_more p text in
    elim (p x) as (λ v. (part : List ℕ) × (parts : List (List ℕ)) × (cond v ([] ∷ slice_split p text) (onto_first x (slice_split p text)) ≡ part ∷ parts)) [
      | true ↦ ([], slice_split p text, refl)
      | false ↦ (x ∷ m.0, m.1, ap (onto_first x) m.2)
    ]

-- the first of several lines
pub lines_of-cut : (text line rest : List ℕ) → IsCut text 10 line rest → lines_of text ≡ line ∷ lines_of rest
lines_of-cut text line rest h =
    let p : ℕ → Bool = λ b. b == 10 in
    let fails : All (λ b. p b ≡ false) line = λ k d below. other_fails 10 (get_or line k d) (h.lacks k d below) in
    let cut : slice_split p (line ++ 10 ∷ rest) ≡ line ∷ slice_split p rest = slice_split_at p line 10 rest fails refl in
    let m = parts_more p rest in
    ap lines_of h.whole ∙ ap without_empty_last (cut ∙ ap (λ v. line ∷ v) m.2) ∙ ap (λ v. line ∷ without_empty_last v) (sym m.2)

-- a part with a byte stays
lone_part : (text : List ℕ) → 0 < length text → without_empty_last (text ∷ []) ≡ text ∷ []
lone_part [] h = absurd (omega arith)
lone_part (b ∷ text) h = refl

-- no bytes, no lines
no_lines : (rest : List ℕ) → length rest ≡ 0 → lines_of rest ≡ []
no_lines [] h = refl
no_lines (b ∷ rest) h = absurd (omega arith)

-- the only line
pub lines_of-last : (text rest : List ℕ) → 0 < length text → IsByteFree text 10 → length rest ≡ 0 → lines_of text ≡ text ∷ lines_of rest
lines_of-last text rest some h none =
    let p : ℕ → Bool = λ b. b == 10 in
    ap without_empty_last (slice_split_none p text (λ k d below. other_fails 10 (get_or text k d) (h k d below)))
    ∙ lone_part text some ∙ ap (λ v. text ∷ v) (sym (no_lines rest none))

-- the byte stands where it stands
pub Lacks-not_here : (byte : ℕ) (a b : List ℕ) → IsByteFree (a ++ byte ∷ b) byte → ⊥
Lacks-not_here byte [] b h =
    let P : ℕ → Type 0 = λ x. x ≢ byte in
    All-head P byte b h refl
Lacks-not_here byte (x ∷ a) b h =
    let P : ℕ → Type 0 = λ x. x ≢ byte in
    Lacks-not_here byte a b (All-tail P x (a ++ byte ∷ b) h)

-- no blank stands in a number
pub Lacks-decimal : (n : ℕ) → n < 2 ^ 64 → IsByteFree (decimal n) 32
Lacks-decimal =
    let P : ℕ → Type 0 = λ x. x ≢ 32 in
    decimal_by_steps (λ n ds. All P ds)
    (λ n small. All-cons P (48 + n) [] (λ e. omega (arith, e)) (All-nil P))
    (λ n ds large front. All-append P ds ((48 + n % 10) ∷ []) front (All-cons P (48 + n % 10) [] (λ e. omega (arith, e)) (All-nil P)))

-- a word is one number at most
pub IsNumber-same : (word : List ℕ) (m n : ℕ) → IsNumber word m → IsNumber word n → m ≡ n
IsNumber-same word m n h k = decimal_injective m n h.0 k.0 (sym h.1 ∙ k.1)

-- a word is one list of bytes at most
pub IsHexOf-same : (word a b : List ℕ) → IsHexOf word a → IsHexOf word b → a ≡ b
IsHexOf-same word a b h k = decode_of-same word a b h.1 k.1

-- two digits a byte
pub length-IsHexOf : (word bytes : List ℕ) → IsHexOf word bytes → length word ≡ 2 * length bytes
length-IsHexOf word bytes h = (decode_of-ok word bytes h.1).2

-- what is spelled is bytes
pub All-IsHexOf : (word bytes : List ℕ) → IsHexOf word bytes → All (λ b. b < 256) bytes
All-IsHexOf word bytes h = λ k d below. rw (get_or_default bytes k d 0 below) ((decode_of-ok word bytes h.1).3 k)
