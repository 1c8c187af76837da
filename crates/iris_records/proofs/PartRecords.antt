-- The records of a version tree's parts.
use Rattle.std.proofs.Common.{◌≡◌, ℕ, suc, ◌≤◌, ◌<◌, ◌+◌, ◌-◌, ◌*◌, ◌^◌, List, Bool, true, false, ◌&&◌, cond, Option, Some, None, refl, sym, ◌∙◌, ap, subst, arith}
use Rattle.std.specs.Prelude.{◌==◌}
use Rattle.std.specs.Option.{option_map}
use Rattle.iris_name.specs.Names.{same_name}
use Rattle.iris_name.specs.declared.name.FileId.{FileId}
use Rattle.iris_name.specs.declared.name.Name.{Name}
use Rattle.iris_name.specs.declared.name.Name.TheVariants.{Entry, Part, Block}
use Rattle.iris_node.specs.Rules.{IsFold, AreUnequalSides}
use Rattle.iris_node.specs.Spelling.{spelling}
use Rattle.iris_node.specs.Unfolded.{Unfolded, Split, Even, hash, side_to, node_of, spelled_node as node_spelled}
use Rattle.iris_node.specs.declared.node.Node.{Node}
use Rattle.iris_node.specs.declared.node.Node.TheVariants.{Part as Part-node}
use Rattle.iris_node.specs.declared.node.Side.{Side}
use Rattle.iris_node.specs.declared.node.Side.TheVariants.{Fold as Fold-side, Below as Below-side}
use Rattle.iris_shape.specs.Folds.{Fold, One, Two}
use Rattle.iris_shape.specs.Local.{either}
use Rattle.iris_shape.specs.declared.folding.Folded.{Folded}
use Rattle.iris_shape.specs.declared.folding.Folded as folded
use Rattle.std.proofs.Math.Nat.{pow-suc}
use Rattle.iris_records.specs.Unmade.{unmade_fold}
use Rattle.iris_records.proofs.FoldsAndShapes.{unmade_two}
use Rattle.iris_records.specs.Records.{Records, looked, spelled}
use Rattle.iris_shape.specs.Sides.{unfolded_side}
use Rattle.iris_records.specs.Shown.{part_in, in_parts}
use Rattle.iris_records.specs.Pieces.{Adds, IsHalved}
use Rattle.iris_shape.specs.FoldLaws.{Differ}

pub either_assoc : {A : Type 0} → (a b c : Option A) → either a (either b c) ≡ either (either a b) c
either_assoc None b c = refl
either_assoc (Some x) b c = refl

pub map_either : (f : Unfolded → List ℕ) (a b : Option Unfolded) → option_map f (either a b) ≡ either (option_map f a) (option_map f b)
map_either f None b = refl
map_either f (Some x) b = refl

pub either_none : {A : Type 0} → (a : Option A) → either a None ≡ a
either_none None = refl
either_none (Some x) = refl

-- two additions, one after the other
pub adds_twice : (key : List ℕ) (f g : Name → Option Unfolded) (a b c : Records) → Adds key f a b → Adds key g b c → Adds key (λ n. either (g n) (f n)) a c
adds_twice key f g a b c h k = λ n.
    k n ∙ ap (either (option_map (spelled key n) (g n))) (h n) ∙ either_assoc (option_map (spelled key n) (g n)) (option_map (spelled key n) (f n)) (looked n a)
    ∙ ap (λ z. either z (looked n a)) (sym (map_either (spelled key n) (g n) (f n)))

pub adds_same : (key : List ℕ) (f g : Name → Option Unfolded) (a b : Records) → ((n : Name) → f n ≡ g n) → Adds key f a b → Adds key g a b
adds_same key f g a b e h = λ n. h n ∙ ap (λ z. either (option_map (spelled key n) z) (looked n a)) (e n)

-- one name put
pub adds_one : (key : List ℕ) (m : Name) (u : Unfolded) (bytes : List ℕ) (a b : Records) → ((n : Name) → looked n b ≡ cond (same_name n m) (Some bytes) (looked n a))
    → ((n : Name) → same_name n m ≡ true → spelled key n u ≡ bytes) → Adds key (λ n. cond (same_name n m) (Some u) None) a b
adds_one key m u bytes a b h s = λ n. h n ∙ by n (same_name n m) refl where
  by : (n : Name) (c : Bool) → same_name n m ≡ c → cond c (Some bytes) (looked n a) ≡ either (option_map (spelled key n) (cond c (Some u) None)) (looked n a)
  by n true e = ap Some (sym (s n e))
  by n false e = refl

-- a part and those below it, by name
pub parts_split : (n : Name) (file : FileId) (level index : ℕ) (low high : Unfolded)
    → either (cond (same_name n (Part file level index)) (Some (Split file.0 level index low high)) None) (either (in_parts n file.0 low) (in_parts n file.0 high)) ≡ in_parts n file.0 (Split file.0 level index low high)
parts_split (Entry i) file level index low high = refl
parts_split (Block g p) file level index low high = refl
parts_split (Part g l i) file level index low high = by (g.0 == file.0) ((l == level) && (i == index)) where
  by : (a b : Bool) → either (cond (a && b) (Some (Split file.0 level index low high)) None) (either (cond a (part_in l i low) None) (cond a (part_in l i high) None))
      ≡ cond a (cond b (Some (Split file.0 level index low high)) (either (part_in l i low) (part_in l i high))) None
  by true true = refl
  by true false = refl
  by false b = refl

pub part_put : (key : List ℕ) (file : FileId) (level index : ℕ) (low high : Unfolded) (node : Node) (a b c d : Records)
    → Adds key (λ n. in_parts n file.0 high) a b → Adds key (λ n. in_parts n file.0 low) b c
    → ((n : Name) → looked n d ≡ cond (same_name n (Part file level index)) (Some (spelling node)) (looked n c))
    → node_of (Split file.0 level index low high) ≡ Some node → Adds key (λ n. in_parts n file.0 (Split file.0 level index low high)) a d
part_put key file level index low high node a b c d h l p e =
    let one = adds_one key (Part file level index) (Split file.0 level index low high) (spelling node) c d p (λ n s. ap node_spelled e) in
    adds_same key _ (λ n. in_parts n file.0 (Split file.0 level index low high)) a d (λ n. parts_split n file level index low high)
    (adds_twice key _ (λ n. cond (same_name n (Part file level index)) (Some (Split file.0 level index low high)) None) a c d (adds_twice key (λ n. in_parts n file.0 high) (λ n. in_parts n file.0 low) a b c h l) one)

-- the sides of a part keep its rules
pub places_fold : (file level index : ℕ) (f : Fold) → level ≡ 0 → IsHalved level f → IsFold (side_to (unfolded_side file level index f) (node_of (unfolded_side file level index f)))
places_fold file level index (One v) e h = tt
places_fold file level index (Two x y) e h = absurd (let k = h.0 in omega (arith, e, k))

pub sides_differ : (file level i j : ℕ) (x y : Fold) → Differ x y
    → AreUnequalSides (side_to (unfolded_side file level i x) (node_of (unfolded_side file level i x))) (side_to (unfolded_side file level j y) (node_of (unfolded_side file level j y)))
unfolding node_of
sides_differ file level i j (One v) (One w) h = h
sides_differ file level i j (One v) (Two x y) h = tt
sides_differ file level i j (Two x y) z h = tt

pub fold_two : (x a b c d : Folded) → x ≡ folded.Two a b → c ≡ a → d ≡ b → unmade_fold x ≡ Two (unmade_fold c) (unmade_fold d)
fold_two x a b c d e f g = ap unmade_fold e ∙ unmade_two a b ∙ ap (λ z. Two (unmade_fold z) (unmade_fold b)) (sym f) ∙ ap (λ z. Two (unmade_fold c) (unmade_fold z)) (sym g)

pub halved_two : (level : ℕ) (x : Folded) (a b c d : Folded) → x ≡ folded.Two a b → c ≡ a → d ≡ b → IsHalved level (unmade_fold x) → (1 ≤ level) × Differ (unmade_fold c) (unmade_fold d) × IsHalved (level - 1) (unmade_fold c) × IsHalved (level - 1) (unmade_fold d)
halved_two level x a b c d e f g h =
    let k : unmade_fold x ≡ Two (unmade_fold c) (unmade_fold d) = fold_two x a b c d e f g in subst (IsHalved level) k h

pub half_index : (level index : ℕ) → 1 ≤ level → level ≤ 16 → index < 2 ^ (16 - level) → 2 * index + 1 < 2 ^ (16 - (level - 1))
half_index level index h k l =
    let e : 16 - (level - 1) ≡ suc (16 - level) = omega (arith, h, k) in
    let p : 2 ^ (16 - (level - 1)) ≡ 2 ^ (16 - level) * 2 = ap (λ z. 2 ^ z) e ∙ pow-suc 2 (16 - level) in omega (arith, l, p)

pub one_side : (file level index v : ℕ) (x : Fold) → x ≡ One v → Fold-side v ≡ side_to (unfolded_side file level index x) (node_of (unfolded_side file level index x))
one_side file level index v x e = subst (λ f. Fold-side v ≡ side_to (unfolded_side file level index f) (node_of (unfolded_side file level index f))) (sym e) refl

no_parts : (n : Name) (file v : ℕ) → in_parts n file (Even v) ≡ None
no_parts (Entry i) file v = refl
no_parts (Block g p) file v = refl
no_parts (Part g l i) file v = by (g.0 == file) where
  by : (b : Bool) → cond {A = Option Unfolded} b None None ≡ None
  by true = refl
  by false = refl

pub one_puts : (key : List ℕ) (file level index v : ℕ) (x : Fold) (s : Records) → x ≡ One v → Adds key (λ n. in_parts n file (unfolded_side file level index x)) s s
one_puts key file level index v x s e = λ n. subst (λ f. looked n s ≡ either (option_map (spelled key n) (in_parts n file (unfolded_side file level index f))) (looked n s)) (sym e)
    (ap (λ z. either (option_map (spelled key n) z) (looked n s)) (sym (no_parts n file v)))

-- the node of a part with two sides
abbrev pub part_node : FileId → ℕ → ℕ → Side → Side → Node
part_node file level index low high = Part-node (record { file = file; level = level; index = index; low = low; high = high })

pub two_node : (file : FileId) (level index : ℕ) (lo hi : Fold) (l h : Side) → l ≡ side_to (unfolded_side file.0 (level - 1) (2 * index) lo) (node_of (unfolded_side file.0 (level - 1) (2 * index) lo))
    → h ≡ side_to (unfolded_side file.0 (level - 1) (2 * index + 1) hi) (node_of (unfolded_side file.0 (level - 1) (2 * index + 1) hi)) → node_of (unfolded_side file.0 level index (Two lo hi)) ≡ Some (part_node file level index l h)
unfolding node_of
two_node file level index lo hi l h e f =
    sym (ap (λ z. Some (part_node file level index z h)) e ∙ ap (λ z. Some (part_node file level index (side_to (unfolded_side file.0 (level - 1) (2 * index) lo) (node_of (unfolded_side file.0 (level - 1) (2 * index) lo))) z)) f)

pub two_side : (file : FileId) (level index : ℕ) (x lo hi : Fold) (node : Node) → x ≡ Two lo hi → node_of (unfolded_side file.0 level index (Two lo hi)) ≡ Some node
    → Below-side (hash node) ≡ side_to (unfolded_side file.0 level index x) (node_of (unfolded_side file.0 level index x))
two_side file level index x lo hi node e f =
    subst (λ z. Below-side (hash node) ≡ side_to (unfolded_side file.0 level index z) (node_of (unfolded_side file.0 level index z))) (sym e) (ap (side_to (unfolded_side file.0 level index (Two lo hi))) (sym f))

pub two_puts : (key : List ℕ) (file : FileId) (level index : ℕ) (x lo hi : Fold) (node : Node) (a b c d : Records) → x ≡ Two lo hi
    → Adds key (λ n. in_parts n file.0 (unfolded_side file.0 (level - 1) (2 * index + 1) hi)) a b → Adds key (λ n. in_parts n file.0 (unfolded_side file.0 (level - 1) (2 * index) lo)) b c
    → ((n : Name) → looked n d ≡ cond (same_name n (Part file level index)) (Some (spelling node)) (looked n c))
    → node_of (unfolded_side file.0 level index (Two lo hi)) ≡ Some node → Adds key (λ n. in_parts n file.0 (unfolded_side file.0 level index x)) a d
two_puts key file level index x lo hi node a b c d e h l p f =
    subst (λ z. Adds key (λ n. in_parts n file.0 (unfolded_side file.0 level index z)) a d) (sym e)
    (part_put key file level index (unfolded_side file.0 (level - 1) (2 * index) lo) (unfolded_side file.0 (level - 1) (2 * index + 1) hi) node a b c d h l p f)

pub sides_split : (file level i j : ℕ) (x y : Fold) (l h : Side) → l ≡ side_to (unfolded_side file level i x) (node_of (unfolded_side file level i x)) → h ≡ side_to (unfolded_side file level j y) (node_of (unfolded_side file level j y)) → Differ x y → AreUnequalSides l h
sides_split file level i j x y l h e f a =
    subst (λ z. AreUnequalSides z h) (sym e) (subst (λ z. AreUnequalSides (side_to (unfolded_side file level i x) (node_of (unfolded_side file level i x))) z) (sym f) (sides_differ file level i j x y a))

pub side_folds : (file level i : ℕ) (x : Fold) (l : Side) → l ≡ side_to (unfolded_side file level i x) (node_of (unfolded_side file level i x)) → level ≡ 0 → IsHalved level x → IsFold l
side_folds file level i x l e z h = subst IsFold (sym e) (places_fold file level i x z h)
