-- The forms of a line exclude each other, and a line has one form at most.
use Rattle.std.proofs.Common.{◌≡◌, ℕ, ◌<◌, ◌≤◌, List, [], ◌∷◌, refl, ◌++◌, length, get_or, sym, ap, ◌∙◌, subst, arith}
use Rattle.std.specs.Prelude.{codes}
use Rattle.std.specs.List.{All}
use Rattle.iris_name.specs.declared.request.Request.{Request}
use Rattle.iris_script.specs.Cuts.{IsCut, IsByteFree}
use Rattle.iris_script.specs.Words.{IsHexOf}
use Rattle.iris_script.proofs.Cutting.{All-IsHexOf, IsCut-same, IsHexOf-same, IsNumber-same, Lacks-decimal, Lacks-not_here}
use Rattle.iris.specs.Lines.{AllSpell, IsRegisterNumber, IsReadLine, IsWriteLine, SpellsLine, SpellsNone, read_of, write_of}
use Rattle.iris.specs.Lines.SpellsLine.{Writes, Reads}

-- no blank stands in the number of a register
Lacks-IsPlace : (word : List ℕ) (place : ℕ) → IsRegisterNumber word place → IsByteFree word 32
Lacks-IsPlace word place h = let P : List ℕ → Type 0 = λ w. IsByteFree w 32 in subst P (sym h.0.1) (Lacks-decimal place h.0.0)

pub IsPlace-same : (word : List ℕ) (a b : ℕ) → IsRegisterNumber word a → IsRegisterNumber word b → a ≡ b
IsPlace-same word a b h k = IsNumber-same word a b h.0 k.0

-- words without a blank are no place and digits
pub IsWriteLine-blank : (words : List ℕ) → IsByteFree words 32 → (place : ℕ) (bytes : List ℕ) → IsWriteLine (codes "write " ++ words) place bytes → ⊥
IsWriteLine-blank words lacks place bytes w =
    let e : words ≡ w.word ++ 32 ∷ w.digits = cc w.text in
    let P : List ℕ → Type 0 = λ v. IsByteFree v 32 in
    Lacks-not_here 32 w.word w.digits (subst P e lacks)

-- the words of a write are what stands before and after the first blank
pub IsWriteLine-cut : (words word digits : List ℕ) → IsCut words 32 word digits → (place : ℕ) (bytes : List ℕ)
    → IsWriteLine (codes "write " ++ words) place bytes → IsRegisterNumber word place × IsHexOf digits bytes × (length bytes ≤ 4096)
IsWriteLine-cut words word digits cut place bytes w =
    let e : words ≡ w.word ++ 32 ∷ w.digits = cc w.text in
    let same = IsCut-same 32 word digits w.word w.digits cut.lacks (Lacks-IsPlace w.word place w.is_place) (sym cut.whole ∙ e) in
    let P : List ℕ → Type 0 = λ v. IsRegisterNumber v place in
    let Q : List ℕ → Type 0 = λ v. IsHexOf v bytes in
    (subst P (sym same.0) w.is_place, subst Q (sym same.1) w.is_hex, w.fits)

-- a write, of its words
pub IsWriteLine-from : (words word digits : List ℕ) → IsCut words 32 word digits → (place : ℕ) (bytes : List ℕ)
    → IsRegisterNumber word place → IsHexOf digits bytes → length bytes ≤ 4096 → IsWriteLine (codes "write " ++ words) place bytes
IsWriteLine-from words word digits cut place bytes p h fits = record {
  word = word;
  digits = digits;
  text = ap (λ v. codes "write " ++ v) cut.whole;
  is_place = p;
  is_hex = h;
  fits = fits;
}

-- a line that is neither form spells none
SpellsNone-from : (line : List ℕ) → ((place : ℕ) (bytes : List ℕ) → IsWriteLine line place bytes → ⊥)
    → ((place : ℕ) → IsReadLine line place → ⊥) → SpellsNone line
SpellsNone-from line no_write no_read request (Writes place bytes w) = no_write place bytes w
SpellsNone-from line no_write no_read request (Reads place r) = no_read place r

-- a write and a read differ in their first bytes
forms_differ : (a b : List ℕ) → codes "write " ++ a ≡ codes "read " ++ b → ⊥
forms_differ a b e =
    let first : 119 ≡ 114 = ap (λ (text : List ℕ). get_or text 0 0) e in
    omega (arith, first)

pub Spells-write : (line words : List ℕ) (place : ℕ) (bytes : List ℕ) → line ≡ codes "write " ++ words
    → IsWriteLine (codes "write " ++ words) place bytes → SpellsLine line (write_of place bytes)
Spells-write line words place bytes e w =
    let P : List ℕ → Type 0 = λ v. IsWriteLine v place bytes in
    Writes place bytes (subst P (sym e) w)

pub Spells-read : (line word : List ℕ) (place : ℕ) → line ≡ codes "read " ++ word → IsRegisterNumber word place → SpellsLine line (read_of place)
Spells-read line word place e p = Reads place (record { word = word; text = e; is_place = p })

-- a line that begins as a write, but is none
pub SpellsNone-write : (line words : List ℕ) → line ≡ codes "write " ++ words
    → ((place : ℕ) (bytes : List ℕ) → IsWriteLine (codes "write " ++ words) place bytes → ⊥) → SpellsNone line
SpellsNone-write line words e none =
    SpellsNone-from line
    (λ place bytes w. let P : List ℕ → Type 0 = λ v. IsWriteLine v place bytes in none place bytes (subst P e w))
    (λ place r. forms_differ words r.word (sym e ∙ r.text))

-- a line that begins as a read, but is none
pub SpellsNone-read : (line word : List ℕ) → line ≡ codes "read " ++ word → ((place : ℕ) → IsRegisterNumber word place → ⊥) → SpellsNone line
SpellsNone-read line word e none =
    SpellsNone-from line
    (λ place bytes w. forms_differ (w.word ++ (codes " " ++ w.digits)) word (sym w.text ∙ e))
    (λ place r.
    let same : word ≡ r.word = cc (e, r.text) in
    let P : List ℕ → Type 0 = λ v. IsRegisterNumber v place in
    none place (subst P (sym same) r.is_place))

-- a line that begins as neither
pub SpellsNone-other : (line : List ℕ) → ((words : List ℕ) → line ≡ codes "write " ++ words → ⊥)
    → ((word : List ℕ) → line ≡ codes "read " ++ word → ⊥) → SpellsNone line
SpellsNone-other line no_write no_read =
    SpellsNone-from line (λ place bytes w. no_write (w.word ++ (codes " " ++ w.digits)) w.text) (λ place r. no_read r.word r.text)

-- what a write names is in range
pub IsWriteLine-range : (line : List ℕ) (place : ℕ) (bytes : List ℕ) → IsWriteLine line place bytes
    → (place < 65536) × (1 ≤ length bytes) × (length bytes ≤ 4096) × All (λ b. b < 256) bytes
IsWriteLine-range line place bytes w = (w.is_place.1, w.is_hex.0, w.fits, All-IsHexOf w.digits bytes w.is_hex)

-- a write names one register and one list of bytes
IsWriteLine-same : (line : List ℕ) (p q : ℕ) (a b : List ℕ) → IsWriteLine line p a → IsWriteLine line q b → write_of p a ≡ write_of q b
IsWriteLine-same line p q a b v w =
    let e : v.word ++ 32 ∷ v.digits ≡ w.word ++ 32 ∷ w.digits = cc (v.text, w.text) in
    let same = IsCut-same 32 v.word v.digits w.word w.digits (Lacks-IsPlace v.word p v.is_place) (Lacks-IsPlace w.word q w.is_place) e in
    let P : List ℕ → Type 0 = λ x. IsRegisterNumber x q in
    let Q : List ℕ → Type 0 = λ x. IsHexOf x b in
    let places = IsPlace-same v.word p q v.is_place (subst P (sym same.0) w.is_place) in
    let bytes = IsHexOf-same v.digits a b v.is_hex (subst Q (sym same.1) w.is_hex) in
    ap (λ x. write_of x a) places ∙ ap (write_of q) bytes

-- a read names one register
IsReadLine-same : (line : List ℕ) (p q : ℕ) → IsReadLine line p → IsReadLine line q → p ≡ q
IsReadLine-same line p q v w =
    let e : v.word ≡ w.word = cc (v.text, w.text) in
    let P : List ℕ → Type 0 = λ x. IsRegisterNumber x q in
    IsPlace-same v.word p q v.is_place (subst P (sym e) w.is_place)

-- a line spells one request at most
pub Spells-same : (line : List ℕ) (r s : Request) → SpellsLine line r → SpellsLine line s → r ≡ s
Spells-same line r s (Writes p a v) (Writes q b w) = IsWriteLine-same line p q a b v w
Spells-same line r s (Writes p a v) (Reads q w) = absurd (forms_differ (v.word ++ (codes " " ++ v.digits)) w.word (sym v.text ∙ w.text))
Spells-same line r s (Reads p v) (Writes q b w) = absurd (forms_differ (w.word ++ (codes " " ++ w.digits)) v.word (sym w.text ∙ v.text))
Spells-same line r s (Reads p v) (Reads q w) = ap read_of (IsReadLine-same line p q v w)

-- lines spell one list of requests at most
pub AllSpell-same : (lines : List (List ℕ)) (rs ss : List Request) → AllSpell lines rs → AllSpell lines ss → rs ≡ ss
AllSpell-same [] [] [] h k = refl
AllSpell-same [] [] (s ∷ ss) h k = absurd k
AllSpell-same [] (r ∷ rs) ss h k = absurd h
AllSpell-same (line ∷ lines) [] ss h k = absurd h
AllSpell-same (line ∷ lines) (r ∷ rs) [] h k = absurd k
AllSpell-same (line ∷ lines) (r ∷ rs) (s ∷ ss) h k =
    let heads = Spells-same line r s h.0 k.0 in
    let tails = AllSpell-same lines rs ss h.1 k.1 in
    cc (heads, tails)
