-- The treap of a list of rows, from scratch, and what is done to it: generic over the row.
-- `up x y` says that x stands above y, `p r` that the row stands before a name, `e r` that it has that name.
use Rattle.std.specs.Prelude.{◌≡◌, Bool, true, false, cond, List, [], ◌∷◌, ◌++◌}

-- no row, or a row above the treaps of the rows before it and after it
pub data Treap (A : Type 0) : Type 0 where
  Empty : Treap A
  Over : (row : A) (less more : Treap A) → Treap A

-- with a row that stands before all others in order; `up x y` says that x stands above y
abbrev pub with_first : {A : Type 0} → (A → A → Bool) → A → Treap A → Treap A
with_first up x Empty = Over x Empty Empty
with_first up x (Over y l m) = cond (up x y) (Over x Empty (Over y l m)) (Over y (with_first up x l) m)

-- the treap of a list, from scratch
abbrev pub treap : {A : Type 0} → (A → A → Bool) → List A → Treap A
treap up [] = Empty
treap up (x ∷ xs) = with_first up x (treap up xs)

-- its rows in order
abbrev pub rows : {A : Type 0} → Treap A → List A
rows Empty = []
rows (Over y l m) = rows l ++ y ∷ rows m

-- the rows before a name; `p` says that a row stands before it
abbrev pub low : {A : Type 0} → (A → Bool) → Treap A → Treap A
low p Empty = Empty
low p (Over y l m) = cond (p y) (Over y l (low p m)) (low p l)

-- the rows from a name on
abbrev pub high : {A : Type 0} → (A → Bool) → Treap A → Treap A
high p Empty = Empty
high p (Over y l m) = cond (p y) (high p m) (Over y (high p l) m)

-- with a row put in at a name: where it stands above, the treap is split along the name below it
abbrev pub insert : {A : Type 0} → (A → A → Bool) → (A → Bool) → A → Treap A → Treap A
insert up p x Empty = Over x Empty Empty
insert up p x (Over y l m) =
    cond (up x y) (Over x (low p (Over y l m)) (high p (Over y l m))) (cond (p y) (Over y l (insert up p x m)) (Over y (insert up p x l) m))

-- `f` merges what stands right of x
abbrev pub onto : {A : Type 0} → (A → A → Bool) → A → Treap A → Treap A → (Treap A → Treap A) → Treap A → Treap A
onto up x l m f Empty = Over x l m
onto up x l m f (Over y l2 m2) = cond (up x y) (Over x l (f (Over y l2 m2))) (Over y (onto up x l m f l2) m2)

-- two treaps, all of the first before all of the second
abbrev pub merge : {A : Type 0} → (A → A → Bool) → Treap A → Treap A → Treap A
merge up Empty b = b
merge up (Over x l m) b = onto up x l m (merge up m) b

-- without the row of a name; `e` says that a row has it
abbrev pub remove : {A : Type 0} → (A → A → Bool) → (A → Bool) → (A → Bool) → Treap A → Treap A
remove up p e Empty = Empty
remove up p e (Over y l m) = cond (e y) (merge up l m) (cond (p y) (Over y l (remove up p e m)) (Over y (remove up p e l) m))

-- the rows of a list before a name
abbrev pub keep : {A : Type 0} → (A → Bool) → List A → List A
keep p [] = []
keep p (y ∷ ys) = cond (p y) (y ∷ keep p ys) []

-- the rows of a list from a name on
abbrev pub skip : {A : Type 0} → (A → Bool) → List A → List A
skip p [] = []
skip p (y ∷ ys) = cond (p y) (skip p ys) (y ∷ ys)

-- a list with a row put in at a name
abbrev pub rows_with : {A : Type 0} → (A → Bool) → A → List A → List A
rows_with p x ys = keep p ys ++ x ∷ skip p ys

-- a list without the rows of a name
abbrev pub rows_without : {A : Type 0} → (A → Bool) → List A → List A
rows_without e [] = []
rows_without e (y ∷ ys) = cond (e y) (rows_without e ys) (y ∷ rows_without e ys)

-- the rows met on going down towards a name
abbrev pub way : {A : Type 0} → (A → Bool) → Treap A → List A
way p Empty = []
way p (Over y l m) = y ∷ cond (p y) (way p m) (way p l)

-- the rows met on going down to the row of a name, and from it to its neighbours
abbrev pub near : {A : Type 0} → (A → Bool) → (A → Bool) → Treap A → List A
near p e Empty = []
near p e (Over y l m) = y ∷ cond (e y) (way (λ _. true) l ++ way (λ _. false) m) (cond (p y) (near p e m) (near p e l))

-- each row of a list is so
abbrev pub Each : {A : Type 0} → (A → Type 0) → List A → Type 0
Each P [] = Unit {0}
Each P (y ∷ ys) = P y × Each P ys

-- each row of a treap is so
abbrev pub Every : {A : Type 0} → (A → Type 0) → Treap A → Type 0
Every P Empty = Unit {0}
Every P (Over y l m) = P y × Every P l × Every P m

-- each row stands above all rows below it
abbrev pub IsHeap : {A : Type 0} → (A → A → Bool) → Treap A → Type 0
IsHeap up Empty = Unit {0}
IsHeap up (Over y l m) = Every (λ z. up y z ≡ true) l × Every (λ z. up y z ≡ true) m × IsHeap up l × IsHeap up m

-- one of two rows stands above the other
abbrev pub Apart : {A : Type 0} → (A → A → Bool) → A → A → Type 0
Apart up x y = (up x y ≡ false → up y x ≡ true) × (up y x ≡ false → up x y ≡ true)

-- of each two rows of a list one stands above the other
abbrev pub AllApart : {A : Type 0} → (A → A → Bool) → List A → Type 0
AllApart up [] = Unit {0}
AllApart up (x ∷ xs) = Each (Apart up x) xs × AllApart up xs

-- standing above is a strict order
pub record Ranks {A : Type 0} (up : A → A → Bool) : Type 0 where
  pub through : (x y z : A) → up x y ≡ true → up y z ≡ true → up x z ≡ true
  pub one_way : (x y : A) → up x y ≡ true → up y x ≡ false

-- once a row doesn't stand before the name, none after it does
abbrev pub Falls : {A : Type 0} → (A → Bool) → List A → Type 0
Falls p [] = Unit {0}
Falls p (y ∷ ys) = (p y ≡ false → Each (λ z. p z ≡ false) ys) × Falls p ys

-- the row of the name is the first that doesn't stand before it, and the only one of its name
abbrev pub Parts : {A : Type 0} → (A → Bool) → (A → Bool) → List A → Type 0
Parts p e [] = Unit {0}
Parts p e (y ∷ ys) = (p y ≡ true → e y ≡ false) × (p y ≡ false → Each (λ z. e z ≡ false) ys) × Parts p e ys
