-- A draft, name by name.
use Rattle.std.proofs.Common.{◌≡◌, ◌||◌, ◌&&◌, ◌+◌, ◌<◌, ◌≤◌, ◌^◌, if◌then◌else◌, ℕ, zero, suc, Bool, true, false, cond, List, [], ◌∷◌, ◌++◌, Option, Some, None, refl, ap, sym, ◌∙◌, subst, arith, length, take, get_or, slice_get, true≢false, is_some}
use Rattle.std.specs.Prelude.{unwrap_or as option_unwrap_or}
use Rattle.std.specs.Option.{option_map}
use Rattle.std.specs.Map.{lookup, keys_of}
use Rattle.std.specs.List.{list_any, IsDistinct, AllByRecursion}
use Rattle.std.proofs.lemmas.Map.Keys.{IsDistinct-head, IsDistinct-tail}
use Rattle.std.proofs.lemmas.Map.Entries.{lookup_from_place}
use Rattle.std.proofs.lemmas.List.Folds.{list_any_more}
use Rattle.std.proofs.lemmas.List.{take_all}
use Rattle.std.proofs.lemmas.Option.{slice_get_within, get_or_from_slice_get}
use Rattle.std.proofs.lemmas.Map.Entries.{length-keys_of}
use Rattle.std.proofs.lemmas.Map.Made.{is_some-lookup}
use Rattle.std.proofs.Math.Seq.{take-suc}
use Rattle.indexmap.proofs.MapLemmas.{distinct-take}
use Rattle.iris_name.specs.Names.{same_name}
use Rattle.iris_name.specs.NameLaws.{same_name_equiv, same_name-true}
use Rattle.iris_name.specs.declared.name.Name.{Name}
use Rattle.iris_node.specs.Nodes.{name_of}
use Rattle.iris_node.specs.declared.node.Node.{Node}
use Rattle.iris_cache.specs.declared.draft.Change.{Change}
use Rattle.iris_cache.specs.Drafted.{Drafted, drafted, is_set}

-- what is drafted after one change more keeps its own names
own-cond : (b : Bool) (v : Change) (o : Option Change) (change : Change) (node : Node) (q : Name) → cond b (Some v) o ≡ Some change → change.node ≡ Some node
    → (b ≡ true → (k : Node) → v.node ≡ Some k → name_of k ≡ q) → (o ≡ Some change → name_of node ≡ q) → name_of node ≡ q
own-cond true v o change node q is has f g = f refl node (ap node-in is ∙ has)
  where
    node-in : Option Change → Option Node
    node-in None = None
    node-in (Some x) = x.node
own-cond false v o change node q is has f g = g is

pub set-own : (d e : Drafted) (v : Change) (n : Name) → ((q : Name) (change : Change) (node : Node) → drafted d q ≡ Some change → change.node ≡ Some node → name_of node ≡ q)
    → ((q : Name) → drafted e q ≡ cond (same_name n q) (Some v) (drafted d q)) → ((k : Node) → v.node ≡ Some k → name_of k ≡ n)
    → (q : Name) (change : Change) (node : Node) → drafted e q ≡ Some change → change.node ≡ Some node → name_of node ≡ q
set-own d e v n own is named q change node at has =
    own-cond (same_name n q) v (drafted d q) change node q (sym (is q) ∙ at) has (λ s k h. named k h ∙ same_name-true n q s) (λ o. own q change node o has)

some-name : (ks : List Name) (i : ℕ) (n : Name) → i < length ks → slice_get ks i ≡ Some n → get_or ks i n ≡ n
some-name ks i n lt at = get_or_from_slice_get ks i n n at

last-apart : (xs : List Name) (n : Name) → IsDistinct same_name (xs ++ n ∷ []) → list_any (same_name n) xs ≡ false
last-apart [] n once = refl
last-apart (x ∷ xs) n once =
    let head = last-all xs n x (IsDistinct-head same_name x (xs ++ n ∷ []) once) in
    ap (λ b. b || list_any (same_name n) xs) (same_name_equiv.symm n x ∙ head) ∙ last-apart xs n (IsDistinct-tail same_name x (xs ++ n ∷ []) once)
  where
    last-all : (xs : List Name) (n x : Name) → AllByRecursion (λ y. same_name x y ≡ false) (xs ++ n ∷ []) → same_name x n ≡ false
    last-all [] n x all = all.0
    last-all (y ∷ ys) n x all = last-all ys n x all.1

pub more-key : (ks : List Name) (i : ℕ) (n q : Name) → slice_get ks i ≡ Some n → list_any (same_name q) (take (i + 1) ks) ≡ (list_any (same_name q) (take i ks) || same_name q n)
more-key ks i n q k =
    let lt = slice_get_within ks i n k in
    list_any_more (same_name q) ks i n lt ∙ ap (λ x. list_any (same_name q) (take i ks) || same_name q x) (some-name ks i n lt k)

pub fresh-key : (ks : List Name) (i : ℕ) (n : Name) → IsDistinct same_name ks → slice_get ks i ≡ Some n → list_any (same_name n) (take i ks) ≡ false
fresh-key ks i n once k =
    let lt = slice_get_within ks i n k in
    last-apart (take i ks) n (subst (IsDistinct same_name) (take-suc ks i n lt ∙ ap (λ x. take i ks ++ x ∷ []) (some-name ks i n lt k)) (distinct-take same_name_equiv (suc i) ks once))

module _ {V : Type 0} where
  -- whether a name stands among the first i
  abbrev pub among : ℕ → List (Name × V) → Name → Bool
  among i es q = list_any (same_name q) (take i (keys_of es))

  pub key-at : (es : List (Name × V)) (i : ℕ) (n : Name) (v : V) → slice_get es i ≡ Some (n, v) → slice_get (keys_of es) i ≡ Some n
  key-at [] i n v at = absurd (true≢false (sym (ap (λ (x : Option (Name × V)). is_some x) at)))
  key-at (e ∷ es) zero n v at = ap (λ (x : Option (Name × V)). option_map (λ (p : Name × V). p.0) x) at
  key-at (e ∷ es) (suc i) n v at = key-at es i n v at

  -- one name more
  pub among-more : (es : List (Name × V)) (i : ℕ) (n : Name) (v : V) (q : Name) → slice_get es i ≡ Some (n, v) → among (i + 1) es q ≡ (among i es q || same_name q n)
  among-more es i n v q at = more-key (keys_of es) i n q (key-at es i n v at)

  -- the i-th name doesn't stand before
  pub among-fresh : (es : List (Name × V)) (i : ℕ) (n : Name) (v : V) → IsDistinct same_name (keys_of es) → slice_get es i ≡ Some (n, v) → among i es n ≡ false
  among-fresh es i n v once at = fresh-key (keys_of es) i n once (key-at es i n v at)

  -- all names stand among all
  pub among-all : (es : List (Name × V)) (i : ℕ) (q : Name) → length es ≤ i → among i es q ≡ is_some (lookup (same_name q) es)
  among-all es i q le = ap (list_any (same_name q)) (take_all i (keys_of es) (subst (λ k. k ≤ i) (sym (length-keys_of es)) le)) ∙ sym (is_some-lookup (same_name q) es)

  -- the i-th entry is what is drafted of its name
  pub place-held : (es : List (Name × V)) (i : ℕ) (n : Name) (v : V) → IsDistinct same_name (keys_of es) → slice_get es i ≡ Some (n, v) → lookup (same_name n) es ≡ Some v
  place-held es i n v once at = lookup_from_place same_name_equiv es i n v once at

pub some-injective : (a b : Node) → Some a ≡ Some b → a ≡ b
some-injective a b h = ap (λ (x : Option Node). option_unwrap_or x a) h

pub grown : (b : Bool) (m n : ℕ) → m ≡ n + (if b then 0 else 1) → n + 1 < 2 ^ 32 → m < 2 ^ 32
grown true m n is lt = omega (arith, is, lt)
grown false m n is lt = omega (arith, is, lt)

pub placed-step : (o a s t w x : Bool) → (s ≡ true → x ≡ (t && w)) → ((o || (a && (t && w))) || (s && x)) ≡ (o || ((a || s) && (t && w)))
placed-step true a s t w x f = refl
placed-step false true true true true x f = refl
placed-step false true true true false x f = f refl
placed-step false true true false w x f = f refl
placed-step false true false true true x f = refl
placed-step false true false true false x f = refl
placed-step false true false false w x f = refl
placed-step false false true t w x f = f refl
placed-step false false false t w x f = refl

pub set-there : (o : Option Change) (w : Bool) → (is_some o && (is_set o && w)) ≡ (is_set o && w)
set-there None w = refl
set-there (Some x) w = refl

or-right : (a b : Bool) → b ≡ true → (a || b) ≡ true
or-right true b h = refl
or-right false b h = h

-- the i-th name stands among the names
pub key-in : (ks : List Name) (i : ℕ) (n : Name) → slice_get ks i ≡ Some n → list_any (same_name n) ks ≡ true
key-in [] i n at = absurd (true≢false (sym (ap (λ (x : Option Name). is_some x) at)))
key-in (k ∷ ks) zero n at = ap (λ b. b || list_any (same_name n) ks) (ap (λ (x : Option Name). same_name n (option_unwrap_or x n)) at ∙ same_name_equiv.refl n)
key-in (k ∷ ks) (suc i) n at = or-right (same_name n k) (list_any (same_name n) ks) (key-in ks i n at)

pub key-there : {V : Type 0} (es : List (Name × V)) (i : ℕ) (n : Name) → slice_get (keys_of es) i ≡ Some n → is_some (lookup (same_name n) es) ≡ true
key-there es i n at = is_some-lookup (same_name n) es ∙ key-in (keys_of es) i n at
