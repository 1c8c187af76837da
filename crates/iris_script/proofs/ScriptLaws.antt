-- A script spells one list of calls at most, and has no fault where it spells one.
use Rattle.std.proofs.Common.{◌≡◌, ℕ, ◌+◌, ◌%◌, ◌<◌, ◌≤◌, ◌^◌, List, [], ◌∷◌, ◌++◌, length, suc, refl, sym, ap, ◌∙◌, subst, arith, inl, inr}
use Rattle.std.specs.Prelude.{decimal, ◌⊎◌, ◌==◌}
use Rattle.std.specs.List.{All, onto_first}
use Rattle.std.proofs.lemmas.Fmt.{decimal_by_steps, decimal_nonempty}
use Rattle.std.proofs.lemmas.List.Elements.{All-nil, All-cons, All-head, All-append}
use Rattle.iris_name.specs.declared.request.Request.{Request}
use Rattle.iris_script.specs.Words.{IsNumber, words_of}
use Rattle.iris_script.specs.Script.{AllAsk, Asks, IsCallLine, IsFirst, IsNoRequest, IsSkipped, LineAsks, NamesFarClient, WordsAsk}
use Rattle.iris_script.proofs.Cutting.{IsNumber-same, parts_more}
use Rattle.iris_script.proofs.OneAsked.{Asks-same}

-- the bytes of a number are digits
from_zero : (n : ℕ) → n < 2 ^ 64 → All (λ x. 48 ≤ x) (decimal n)
from_zero =
    let P : ℕ → Type 0 = λ x. 48 ≤ x in
    decimal_by_steps (λ n ds. All P ds)
    (λ n small. All-cons P (48 + n) [] (omega arith) (All-nil P))
    (λ n ds large front. All-append P ds ((48 + n % 10) ∷ []) front (All-cons P (48 + n % 10) [] (omega arith) (All-nil P)))

-- a number isn't empty, and doesn't begin with `#`
number_some : (n : ℕ) → IsNumber [] n → ⊥
number_some n h =
    let some = decimal_nonempty n h.0 in
    let none : 0 ≡ length (decimal n) = ap length h.1 in
    omega (arith, some, none)

number_no_sign : (word : List ℕ) (n : ℕ) → IsNumber (35 ∷ word) n → ⊥
number_no_sign word n h =
    let P : ℕ → Type 0 = λ x. 48 ≤ x in
    let Q : List ℕ → Type 0 = λ v. All P v in
    let first = All-head P 35 word (subst Q (sym h.1) (from_zero n h.0)) in
    omega (arith, first)

-- the first word of a line that begins with `#` does so too
signed_words : (line word : List ℕ) (more : List (List ℕ)) → words_of (35 ∷ line) ≡ word ∷ more → (rest : List ℕ) × (word ≡ 35 ∷ rest)
signed_words line word more e =
    let m = parts_more (λ b. b == 32) line in
    let words : (35 ∷ m.0) ∷ m.1 ≡ word ∷ more = sym (ap (onto_first 35) m.2) ∙ e in
    (m.0, cc words)

-- a line that is skipped is no call
pub IsSkipped-no_call : (line : List ℕ) → IsSkipped line → (client : ℕ) (asked : Request) → LineAsks line client asked → ⊥
IsSkipped-no_call line (inl e) client asked h =
    let words : [] ∷ [] ≡ h.word ∷ h.rest = sym (ap words_of e) ∙ h.whole in
    let P : List ℕ → Type 0 = λ v. IsNumber v client in
    let word : h.word ≡ [] = cc words in
    number_some client (subst P word h.number)
IsSkipped-no_call line (inr s) client asked h =
    let w = signed_words s.0 h.word h.rest (sym (ap words_of s.1) ∙ h.whole) in
    let P : List ℕ → Type 0 = λ v. IsNumber v client in
    number_no_sign w.0 client (subst P w.1 h.number)

-- words are one call at most
pub WordsAsk-same : (words : List (List ℕ)) (c d : ℕ) (r s : Request) → WordsAsk words c r → WordsAsk words d s → (c ≡ d) × (r ≡ s)
WordsAsk-same words c d r s h k =
    let word : k.word ≡ h.word = cc (h.whole, k.whole) in
    let rest : k.rest ≡ h.rest = cc (h.whole, k.whole) in
    let P : List ℕ → Type 0 = λ v. IsNumber v d in
    let Q : List (List ℕ) → Type 0 = λ v. Asks v s in
    (IsNumber-same h.word c d h.number (subst P word k.number), Asks-same h.rest r s h.asks (subst Q rest k.asks))

same_pair : (p q : ℕ × Request) → p.0 ≡ q.0 → p.1 ≡ q.1 → p ≡ q
same_pair p q e f =
    let F : ℕ → ℕ × Request = λ v. (v, p.1) in
    let G : Request → ℕ × Request = λ v. (q.0, v) in
    ap F e ∙ ap G f

IsCallLine-same : (line : List ℕ) (p q : ℕ × Request) → IsCallLine line p → IsCallLine line q → p ≡ q
IsCallLine-same line p q h k =
    let both = WordsAsk-same (words_of line) p.0 q.0 p.1 q.1 h.0 k.0 in
    same_pair p q both.0 both.1

-- lines are one list of calls at most
pub AllAsk-same : (lines : List (List ℕ)) (a b : List (ℕ × Request)) → AllAsk lines a → AllAsk lines b → a ≡ b
AllAsk-same [] a b h k = h ∙ sym k
AllAsk-same (line ∷ lines) a b (inl h) (inl k) = AllAsk-same lines a b h.1 k.1
AllAsk-same (line ∷ lines) a b (inl h) (inr k) = absurd (IsSkipped-no_call line h.0 k.0.0 k.0.1 k.3.0)
AllAsk-same (line ∷ lines) a b (inr h) (inl k) = absurd (IsSkipped-no_call line k.0 h.0.0 h.0.1 h.3.0)
AllAsk-same (line ∷ lines) a b (inr h) (inr k) =
    let one = IsCallLine-same line h.0 k.0 h.3 k.3 in
    let more = AllAsk-same lines h.1 k.1 h.4 k.4 in
    cc (h.2, k.2, one, more)

-- a line among lines that all ask is skipped or a call
among : (before : List (List ℕ)) (line : List ℕ) (after : List (List ℕ)) (calls : List (ℕ × Request)) → AllAsk (before ++ line ∷ after) calls
    → IsSkipped line ⊎ ((call : ℕ × Request) × IsCallLine line call)
among [] line after calls (inl h) = inl h.0
among [] line after calls (inr h) = inr (h.0, h.3)
among (l ∷ before) line after calls (inl h) = among before line after calls h.1
among (l ∷ before) line after calls (inr h) = among before line after h.1 h.4

-- where lines all ask, none of them is no request
pub AllAsk-requests : (lines : List (List ℕ)) (calls : List (ℕ × Request)) (n : ℕ) → AllAsk lines calls → IsFirst IsNoRequest lines n → ⊥
AllAsk-requests lines calls n all f =
    let P : List (List ℕ) → Type 0 = λ v. AllAsk v calls in
    elim (among f.before f.line f.after calls (subst P f.whole all)) [ inl s ↦ f.bad.0 s | inr k ↦ f.bad.1 k.0.0 k.0.1 k.1.0 ]

-- nor does one name a client above 16
pub AllAsk-clients : (lines : List (List ℕ)) (calls : List (ℕ × Request)) (n : ℕ) → AllAsk lines calls → IsFirst NamesFarClient lines n → ⊥
AllAsk-clients lines calls n all f =
    let P : List (List ℕ) → Type 0 = λ v. AllAsk v calls in
    let far = f.bad in
    elim (among f.before f.line f.after calls (subst P f.whole all)) [
      | inl s ↦ IsSkipped-no_call f.line s far.0 far.1 far.2
      | inr k ↦ let same = (WordsAsk-same (words_of f.line) far.0 k.0.0 far.1 k.0.1 far.2 k.1.0).0 in omega (arith, same, far.3, k.1.1)
    ]

-- the line is neither skipped nor a call
abbrev pub IsBadLine : List ℕ → Type 0
IsBadLine line = (IsSkipped line → ⊥) × ((call : ℕ × Request) → IsCallLine line call → ⊥)

pub IsNoRequest-bad : (line : List ℕ) → IsNoRequest line → IsBadLine line
IsNoRequest-bad line h = (h.0, λ call k. h.1 call.0 call.1 k.0)

pub NamesFarClient-bad : (line : List ℕ) → NamesFarClient line → IsBadLine line
NamesFarClient-bad line h =
    (λ s. IsSkipped-no_call line s h.0 h.1 h.2, λ call k. let same = (WordsAsk-same (words_of line) h.0 call.0 h.1 call.1 h.2 k.0).0 in let far = h.3 in let near = k.1 in omega (arith, same, far, near))

-- the first of lines that ask isn't bad, and the others ask
head_fine : (bad line : List ℕ) (lines : List (List ℕ)) (calls : List (ℕ × Request)) → AllAsk (line ∷ lines) calls → bad ≡ line → IsBadLine bad → ⊥
head_fine bad line lines calls (inl h) e b = let P : List ℕ → Type 0 = λ v. IsSkipped v in b.0 (subst P (sym e) h.0)
head_fine bad line lines calls (inr h) e b = let P : List ℕ → Type 0 = λ v. IsCallLine v h.0 in b.1 h.0 (subst P (sym e) h.3)

tail_asks : (line : List ℕ) (lines : List (List ℕ)) (calls : List (ℕ × Request)) → AllAsk (line ∷ lines) calls → (more : List (ℕ × Request)) × AllAsk lines more
tail_asks line lines calls (inl h) = (calls, h.1)
tail_asks line lines calls (inr h) = (h.1, h.4)

-- two first bad lines stand at one place
one_place : (b d : List (List ℕ)) (l m : List ℕ) (a c : List (List ℕ)) (p q : List (ℕ × Request)) → b ++ l ∷ a ≡ d ++ m ∷ c
    → AllAsk b p → AllAsk d q → IsBadLine l → IsBadLine m → (length b ≡ length d) × (l ≡ m)
one_place [] [] l m a c p q e h k u v = (refl, cc e)
one_place [] (y ∷ d) l m a c p q e h k u v = absurd (head_fine l y d q k (cc e) u)
one_place (x ∷ b) [] l m a c p q e h k u v = absurd (head_fine m x b p h (cc e) v)
one_place (x ∷ b) (y ∷ d) l m a c p q e h k u v =
    let f = tail_asks x b p h in
    let g = tail_asks y d q k in
    let tails : b ++ l ∷ a ≡ d ++ m ∷ c = cc e in
    let r = one_place b d l m a c f.0 g.0 tails f.1 g.1 u v in
    (ap suc r.0, r.1)

-- a script has one first bad line at most
pub IsFirst-same : (P Q : List ℕ → Type 0) (lines : List (List ℕ)) (n m : ℕ) → ((line : List ℕ) → P line → IsBadLine line)
    → ((line : List ℕ) → Q line → IsBadLine line) → IsFirst P lines n → IsFirst Q lines m → (n ≡ m) × (line : List ℕ) × P line × Q line
IsFirst-same P Q lines n m p q h k =
    let r = one_place h.before k.before h.line k.line h.after k.after h.calls k.calls (sym h.whole ∙ k.whole) h.fine k.fine (p h.line h.bad) (q k.line k.bad) in
    (h.place ∙ ap (λ v. v + 1) r.0 ∙ sym k.place, h.line, h.bad, subst Q (sym r.1) k.bad)
