-- Laws of treaps, for every type of rows, in the form in which a caller holds a changed way from the top down.
use Rattle.std.specs.Prelude.{◌≡◌, ℕ, Bool, true, false, List, ◌∷◌, ◌++◌}
use Rattle.iris_shape.specs.Treap.{Treap, Over, treap, rows, insert, merge, remove, rows_with, rows_without, way, near, Each, IsHeap, Apart, AllApart, Ranks, Falls, Parts}
use Rattle.iris_shape.specs.Local.{found, either}
use Rattle.iris_shape.specs.Order.{beside, less_name, Rising, Distinct}

-- the row that stands above all others stands above the treaps of the rows before it and of those after it
abbrev pub TreapOver : Type 0 → Type 0
TreapOver A = (up : A → A → Bool) (x : A) (before after : List A) → Ranks up → AllApart up (before ++ x ∷ after)
    → Each (λ z. up x z ≡ true) before → Each (λ z. up x z ≡ true) after → treap up (before ++ x ∷ after) ≡ Over x (treap up before) (treap up after)

-- a list has one treap: one of its rows in their order, each above those below it
abbrev pub OneTreap : Type 0 → Type 0
OneTreap A = (up : A → A → Bool) (xs : List A) → Ranks up → AllApart up xs
    → (rows (treap up xs) ≡ xs) × IsHeap up (treap up xs) × ((t : Treap A) → rows t ≡ xs → IsHeap up t → t ≡ treap up xs)

-- putting a row into the list is putting it into the treap
abbrev pub TreapPut : Type 0 → Type 0
TreapPut A = (up : A → A → Bool) (p : A → Bool) (x : A) (xs : List A) → Ranks up → AllApart up xs → Each (Apart up x) xs → Falls p xs
    → treap up (rows_with p x xs) ≡ insert up p x (treap up xs)

-- taking a row out of the list is taking it out of the treap
abbrev pub TreapWithout : Type 0 → Type 0
TreapWithout A = (up : A → A → Bool) (p e : A → Bool) (xs : List A) → Ranks up → AllApart up xs → Falls p xs → Parts p e xs
    → treap up (rows_without e xs) ≡ remove up p e (treap up xs)

-- an insertion changes what a node says only on the way to the name, and makes the node of the row
abbrev pub NodesAfterPut : Type 0 → Type 0
NodesAfterPut A = (up : A → A → Bool) (g p : A → Bool) (x : A) (t : Treap A) → g x ≡ false → Each (λ z. g z ≡ false) (way p t) → found g (insert up p x t) ≡ found g t

-- a removal changes what a node says only near the row
abbrev pub NodesAfterRemoval : Type 0 → Type 0
NodesAfterRemoval A = (up : A → A → Bool) (g p e : A → Bool) (t : Treap A) → Each (λ z. g z ≡ false) (near p e t) → found g (remove up p e t) ≡ found g t

-- Going down towards a name in the treap without a row meets only rows met on going down
-- in the treap, and rows near that row: what a test tells of those, it tells of these.
abbrev pub WayAfterRemoval : Type 0 → Type 0
WayAfterRemoval A = (up : A → A → Bool) (p e q g : A → Bool) (t : Treap A) → Falls q (rows t)
    → Each (λ z. g z ≡ true) (way q t) → Each (λ z. g z ≡ true) (near p e t) → Each (λ z. g z ≡ true) (way q (remove up p e t))

-- a merge changes what a node says only on the two spines that it joins
abbrev pub NodesAfterMerge : Type 0 → Type 0
NodesAfterMerge A = (up : A → A → Bool) (g : A → Bool) (a b : Treap A) → Each (λ z. g z ≡ false) (way (λ _. true) a) → Each (λ z. g z ≡ false) (way (λ _. false) b)
    → found g (merge up a b) ≡ either (found g a) (found g b)

-- Priorities and ids rank rows whose ids are distinct.
abbrev pub PrioritiesRank : Type 0 → Type 0
PrioritiesRank A = (prio : ℕ → ℕ) (id : A → ℕ) → Ranks (beside prio id) × ((xs : List A) → Distinct id xs → AllApart (beside prio id) xs)

-- Rising names part the rows at each name; `e` tells which rows have the name.
abbrev pub NamesPart : Type 0 → Type 0
NamesPart A = (name : A → List ℕ) (n : List ℕ) (xs : List A) → Rising name xs
    → Falls (λ r. less_name (name r) n) xs × ((e : A → Bool) → ((r : A) → e r ≡ true → name r ≡ n) → Parts (λ r. less_name (name r) n) e xs)
