-- Words ask one request at most.
use Rattle.std.proofs.Common.{◌≡◌, ℕ, ◌+◌, ◌*◌, List, [], ◌∷◌, length, get_or, refl, sym, ap, ◌∙◌, subst, arith, inl, inr}
use Rattle.std.specs.Prelude.{codes, ◌==◌, false}
use Rattle.iris_name.specs.declared.request.Request.{Request}
use Rattle.iris_name.specs.declared.request.Request.TheVariants as request
use Rattle.iris_script.specs.Paths.{IsPathWord}
use Rattle.iris_script.specs.Words.{IsBytesWord, IsHexOf}
use Rattle.iris_script.specs.Script.{Asks}
use Rattle.iris_script.proofs.Asking.{AsksBare, AsksOfPath, AsksOfTwo, AsksAt, Asks-bare, Asks-of_path, Asks-of_two, Asks-at}
use Rattle.iris_script.proofs.Asking.AsksBare.{Syncs, Roots, Reclaims}
use Rattle.iris_script.proofs.Asking.AsksOfPath.{MakesDir, Creates, Stats, ListsAll, Removes}
use Rattle.iris_script.proofs.Asking.AsksOfTwo.{Resizes, ListsAfter, Renames}
use Rattle.iris_script.proofs.Asking.AsksAt.{Writes, Reads}
use Rattle.iris_script.proofs.Cutting.{IsHexOf-same, IsNumber-same, length-IsHexOf}
use Rattle.iris_script.proofs.PathWords.{Unescapes-same}

-- a path word spells one path
IsPathWord-same : (word a b : List ℕ) → IsPathWord word a → IsPathWord word b → a ≡ b
IsPathWord-same word a b h k = Unescapes-same word a b h.spells k.spells

-- a sign for no bytes is no digits
sign_no_digits : (word bytes : List ℕ) → word ≡ codes "-" → IsHexOf word bytes → ⊥
sign_no_digits word bytes e h =
    let twice = length-IsHexOf word bytes h in
    let one : length word ≡ 1 = ap length e in
    omega (arith, twice, one)

-- a word is one list of bytes at most
IsBytesWord-same : (word a b : List ℕ) → IsBytesWord word a → IsBytesWord word b → a ≡ b
IsBytesWord-same word a b (inl h) (inl k) = h.1 ∙ sym k.1
IsBytesWord-same word a b (inl h) (inr k) = absurd (sign_no_digits word b h.0 k)
IsBytesWord-same word a b (inr h) (inl k) = absurd (sign_no_digits word a k.0 h)
IsBytesWord-same word a b (inr h) (inr k) = IsHexOf-same word a b h k

-- no words ask nothing
no_words : (asked : Request) → Asks [] asked → ⊥
no_words (request.Mkdir path) h = cc h.1
no_words (request.Create path) h = cc h.1
no_words (request.Write path offset bytes) h = cc h.3
no_words (request.Read path offset len) h = cc h.3
no_words (request.Resize path len) h = cc h.2
no_words (request.Stat path) h = cc h.1
no_words (request.List path after) (inl h) = cc h.1
no_words (request.List path after) (inr h) = cc h.2
no_words (request.Rename from to) h = cc h.2
no_words (request.Remove path) h = cc h.1
no_words request.Sync h = cc h
no_words request.Root h = cc h
no_words request.Reclaim h = cc h
no_words (request.Probe at) h = h

-- five words ask nothing
five_words : (c p n d e : List ℕ) (more : List (List ℕ)) (asked : Request) → Asks (c ∷ p ∷ n ∷ d ∷ e ∷ more) asked → ⊥
five_words c p n d e more (request.Mkdir path) h = cc h.1
five_words c p n d e more (request.Create path) h = cc h.1
five_words c p n d e more (request.Write path offset bytes) h = cc h.3
five_words c p n d e more (request.Read path offset len) h = cc h.3
five_words c p n d e more (request.Resize path len) h = cc h.2
five_words c p n d e more (request.Stat path) h = cc h.1
five_words c p n d e more (request.List path after) (inl h) = cc h.1
five_words c p n d e more (request.List path after) (inr h) = cc h.2
five_words c p n d e more (request.Rename from to) h = cc h.2
five_words c p n d e more (request.Remove path) h = cc h.1
five_words c p n d e more request.Sync h = cc h
five_words c p n d e more request.Root h = cc h
five_words c p n d e more request.Reclaim h = cc h
five_words c p n d e more (request.Probe at) h = h

-- what tells the command words apart: their first byte and their third
abbrev mark : List ℕ → ℕ
mark word = 1000 * get_or word 0 0 + get_or word 2 0

differs : (x y : ℕ) → x ≡ y → (x == y) ≡ false → ⊥
differs x y e h = grind arith

-- a word isn't two commands
apart : {c a b : List ℕ} → c ≡ a → c ≡ b → (mark a == mark b) ≡ false → ⊥
apart {a = a} {b = b} e f h = differs (mark a) (mark b) (ap mark (sym e ∙ f)) h

-- a word alone asks one request
AsksBare-same : (command : List ℕ) (r s : Request) → AsksBare command r → AsksBare command s → r ≡ s
AsksBare-same command r s (Syncs e h) b = elim b [ Syncs f k ↦ cc | Roots f k ↦ absurd (apart e f refl) | Reclaims f k ↦ absurd (apart e f refl) ]
AsksBare-same command r s (Roots e h) b = elim b [ Syncs f k ↦ absurd (apart e f refl) | Roots f k ↦ cc | Reclaims f k ↦ absurd (apart e f refl) ]
AsksBare-same command r s (Reclaims e h) b = elim b [ Syncs f k ↦ absurd (apart e f refl) | Roots f k ↦ absurd (apart e f refl) | Reclaims f k ↦ cc ]

-- a word and a path ask one request
AsksOfPath-same : (command p : List ℕ) (r s : Request) → AsksOfPath command p r → AsksOfPath command p s → r ≡ s
AsksOfPath-same command p r s (MakesDir e h) b =
    elim b [ MakesDir f k ↦ cc | Creates f k ↦ absurd (apart e f refl) | Stats f k ↦ absurd (apart e f refl) | ListsAll f k ↦ absurd (apart e f refl) | Removes f k ↦ absurd (apart e f refl) ]
AsksOfPath-same command p r s (Creates e h) b =
    elim b [ MakesDir f k ↦ absurd (apart e f refl) | Creates f k ↦ cc | Stats f k ↦ absurd (apart e f refl) | ListsAll f k ↦ absurd (apart e f refl) | Removes f k ↦ absurd (apart e f refl) ]
AsksOfPath-same command p r s (Stats e h) b =
    elim b [ MakesDir f k ↦ absurd (apart e f refl) | Creates f k ↦ absurd (apart e f refl) | Stats f k ↦ cc | ListsAll f k ↦ absurd (apart e f refl) | Removes f k ↦ absurd (apart e f refl) ]
AsksOfPath-same command p r s (ListsAll e h) b =
    elim b [ MakesDir f k ↦ absurd (apart e f refl) | Creates f k ↦ absurd (apart e f refl) | Stats f k ↦ absurd (apart e f refl) | ListsAll f k ↦ cc | Removes f k ↦ absurd (apart e f refl) ]
AsksOfPath-same command p r s (Removes e h) b =
    elim b [ MakesDir f k ↦ absurd (apart e f refl) | Creates f k ↦ absurd (apart e f refl) | Stats f k ↦ absurd (apart e f refl) | ListsAll f k ↦ absurd (apart e f refl) | Removes f k ↦ cc ]

of_path-same : (command w : List ℕ) (r s : Request) → Asks (command ∷ w ∷ []) r → Asks (command ∷ w ∷ []) s → r ≡ s
of_path-same command w r s h k =
    let a = Asks-of_path command w r h in
    let b = Asks-of_path command w s k in
    let P : List ℕ → Type 0 = λ v. AsksOfPath command v s in
    AsksOfPath-same command a.0 r s a.2 (subst P (IsPathWord-same w b.0 a.0 b.1 a.1) b.2)

-- a word, a path and one more ask one request
AsksOfTwo-same : (command p q : List ℕ) (r s : Request) → AsksOfTwo command p q r → AsksOfTwo command p q s → r ≡ s
AsksOfTwo-same command p q r s (Resizes e path len m n h) b =
    elim b [
      | Resizes f x' y' u w k ↦ cc (h, k, IsPathWord-same p path x' m u, IsNumber-same q len y' n w)
      | ListsAfter f x' y' u w k ↦ absurd (apart e f refl)
      | Renames f x' y' u w k ↦ absurd (apart e f refl)
    ]
AsksOfTwo-same command p q r s (ListsAfter e path after m n h) b =
    elim b [
      | Resizes f x' y' u w k ↦ absurd (apart e f refl)
      | ListsAfter f x' y' u w k ↦ cc (h, k, IsPathWord-same p path x' m u, IsPathWord-same q after y' n w)
      | Renames f x' y' u w k ↦ absurd (apart e f refl)
    ]
AsksOfTwo-same command p q r s (Renames e path after m n h) b =
    elim b [
      | Resizes f x' y' u w k ↦ absurd (apart e f refl)
      | ListsAfter f x' y' u w k ↦ absurd (apart e f refl)
      | Renames f x' y' u w k ↦ cc (h, k, IsPathWord-same p path x' m u, IsPathWord-same q after y' n w)
    ]

-- a word and bytes or a number at a place ask one request
AsksAt-same : (command d path : List ℕ) (offset : ℕ) (r s : Request) → AsksAt command d path offset r → AsksAt command d path offset s → r ≡ s
AsksAt-same command d path offset r s (Writes e x m h) b =
    elim b [ Writes f y n k ↦ cc (h, k, IsBytesWord-same d x y m n) | Reads f y n k ↦ absurd (apart e f refl) ]
AsksAt-same command d path offset r s (Reads e x m h) b =
    elim b [ Writes f y n k ↦ absurd (apart e f refl) | Reads f y n k ↦ cc (h, k, IsNumber-same d x y m n) ]

at-same : (command p n d : List ℕ) (r s : Request) → Asks (command ∷ p ∷ n ∷ d ∷ []) r → Asks (command ∷ p ∷ n ∷ d ∷ []) s → r ≡ s
at-same command p n d r s h k =
    let a = Asks-at command p n d r h in
    let b = Asks-at command p n d s k in
    let P : List ℕ → Type 0 = λ v. AsksAt command d v b.1 s in
    let Q : ℕ → Type 0 = λ v. AsksAt command d a.0 v s in
    AsksAt-same command d a.0 a.1 r s a.4
    (subst Q (IsNumber-same n b.1 a.1 b.3 a.3) (subst P (IsPathWord-same p b.0 a.0 b.2 a.2) b.4))

-- words ask one request at most
pub Asks-same : (words : List (List ℕ)) (r s : Request) → Asks words r → Asks words s → r ≡ s
Asks-same [] r s h k = absurd (no_words r h)
Asks-same (c ∷ []) r s h k = AsksBare-same c r s (Asks-bare c r h) (Asks-bare c s k)
Asks-same (c ∷ p ∷ []) r s h k = of_path-same c p r s h k
Asks-same (c ∷ p ∷ q ∷ []) r s h k = AsksOfTwo-same c p q r s (Asks-of_two c p q r h) (Asks-of_two c p q s k)
Asks-same (c ∷ p ∷ n ∷ d ∷ []) r s h k = at-same c p n d r s h k
Asks-same (c ∷ p ∷ n ∷ d ∷ e ∷ more) r s h k = absurd (five_words c p n d e more r h)
