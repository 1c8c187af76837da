-- What is held after a change of one node, and what it does to the counts of children.
use Rattle.std.proofs.Common.{◌≡◌, ◌+◌, ◌≤◌, ℕ, Bool, true, false, cond, Option, Some, None, IsSome, refl, ap, sym, ◌∙◌, subst, arith, length, true≢false, is_some}
use Rattle.std.specs.Option.{option_map}
use Rattle.std.specs.Map.{keys_of, values_of}
use Rattle.std.specs.List.{IsDistinct}
use Rattle.std.specs.Prelude.{unwrap_or as option_unwrap_or, IfSome}
use Rattle.std.proofs.lemmas.List.Sums.{count_by-le-length}
use Rattle.std.proofs.lemmas.Map.Entries.{length-values_of}
use Rattle.iris_name.specs.Names.{same_name}
use Rattle.iris_name.specs.NameLaws.{same_name_equiv, same_name-true}
use Rattle.iris_name.specs.declared.name.Name.{Name}
use Rattle.iris_node.specs.Nodes.{name_of}
use Rattle.iris_cache.specs.declared.held.Held.{Held}
use Rattle.iris_cache.specs.Held.{is_child, points, with_parent}
use Rattle.iris_cache.specs.Resident.{Resident, held_node, children, map_if, IsSoundCache}
use Rattle.iris_cache.proofs.Counts.{sum-updated, sum-same, weight}

abbrev pub Once : Resident → Type 0
Once c = IsDistinct same_name (keys_of c.nodes)

-- one, where a node is a child of m
abbrev pub one : Name → Held → ℕ
one m h = cond (is_child m h) 1 0

-- a test that yields the value at n where it is n
pub map-at : (g : Name → Option Held) (f : Held → Held) (n q : Name) (b : Bool) → same_name n q ≡ b → map_if b f (g q) ≡ cond b (option_map f (g n)) (g q)
map-at g f n q true e = ap (λ k. option_map f (g k)) (sym (same_name-true n q e))
map-at g f n q false e = refl

-- a name's count of children, where what is held of n becomes v
pub children-updated : (m n : Name) (c d : Resident) (v : Option Held) → Once c → Once d
    → ((q : Name) → held_node d q ≡ cond (same_name n q) v (held_node c q)) → children d m + weight (one m) (held_node c n) ≡ children c m + weight (one m) v
children-updated m n c d v oc od is = sum-updated (one m) c.nodes d.nodes n v oc od is

pub children-mapped : (m n : Name) (c d : Resident) (f : Held → Held) → Once c → Once d
    → ((q : Name) → held_node d q ≡ map_if (same_name n q) f (held_node c q)) → children d m + weight (one m) (held_node c n) ≡ children c m + weight (one m) (option_map f (held_node c n))
children-mapped m n c d f oc od is = children-updated m n c d (option_map f (held_node c n)) oc od (λ q. is q ∙ map-at (held_node c) f n q _ refl)

pub children-same : (m : Name) (c d : Resident) → Once c → Once d → ((q : Name) → held_node d q ≡ held_node c q) → children d m ≡ children c m
children-same m c d oc od is = sum-same (one m) c.nodes d.nodes oc od (λ q. sym (is q))

pub weight-kept : (m : Name) (f : Held → Held) → ((h : Held) → (f h).parent ≡ h.parent) → (o : Option Held) → weight (one m) (option_map f o) ≡ weight (one m) o
weight-kept m f keep None = refl
weight-kept m f keep (Some h) = ap (λ p. cond (points p m) 1 0) (keep h)

-- a change of one node that keeps its parent keeps all counts of children
pub children-kept : (m n : Name) (c d : Resident) (f : Held → Held) → ((h : Held) → (f h).parent ≡ h.parent) → Once c → Once d
    → ((q : Name) → held_node d q ≡ map_if (same_name n q) f (held_node c q)) → children d m ≡ children c m
children-kept m n c d f keep oc od is =
    let a = children-mapped m n c d f oc od is in
    let b = weight-kept m f keep (held_node c n) in
    omega (arith, a, b)

-- and so does a change of a parent, where there is one
pub children-parent : (m : Name) (parent : Option Name) (c d : Resident) (f : Held → Held) → ((h : Held) → (f h).parent ≡ h.parent) → Once c → Once d
    → ((q : Name) → held_node d q ≡ map_if (points parent q) f (held_node c q)) → children d m ≡ children c m
children-parent m None c d f keep oc od is = children-same m c d oc od is
children-parent m (Some p) c d f keep oc od is = children-kept m p c d f keep oc od is

-- what is held after two changes
pub map_if-none : (b : Bool) (f : Held → Held) (o : Option Held) → o ≡ None → map_if b f o ≡ None
map_if-none true f o e = ap (option_map f) e
map_if-none false f o e = e

pub none-back-in : (b : Bool) (f : Held → Held) (o : Option Held) → map_if b f o ≡ None → o ≡ None
none-back-in true f None e = refl
none-back-in true f (Some h) e = absurd (true≢false (ap (λ (x : Option Held). is_some x) e))
none-back-in false f o e = e

pub none-back : (b : Bool) (f : Held → Held) (o x : Option Held) → x ≡ map_if b f o → x ≡ None → o ≡ None
none-back b f o x is e = none-back-in b f o (sym is ∙ e)

abbrev pub node_in : Name → Option Held → Name
node_in d None = d
node_in d (Some h) = name_of h.node

-- a change that keeps the node's name keeps what it is held under
pub own-mapped : (f : Held → Held) → ((h : Held) → name_of (f h).node ≡ name_of h.node) → (q : Name) (b : Bool) (o x : Option Held) (h : Held) → x ≡ map_if b f o → x ≡ Some h
    → ((g : Held) → o ≡ Some g → name_of g.node ≡ q) → name_of h.node ≡ q
own-mapped f keep q true None x h is e own = absurd (true≢false (ap (λ (y : Option Held). is_some y) (sym e ∙ is)))
own-mapped f keep q true (Some g) x h is e own = ap (node_in q) (sym e ∙ is) ∙ keep g ∙ own g refl
own-mapped f keep q false o x h is e own = own h (sym is ∙ e)

abbrev pub kids_in : Option Held → ℕ
kids_in None = 0
kids_in (Some h) = h.kids

pub is-none : (o : Option Held) (h : Held) → o ≡ None → o ≡ Some h → ⊥
is-none o h n e = true≢false (ap (λ (x : Option Held). is_some x) (sym e ∙ n))

-- what is held after a change, of what was held before
pub before-map : (b : Bool) (f : Held → Held) (o : Option Held) (h : Held) → map_if b f o ≡ Some h → IsSome o
before-map b f None h e = absurd (is-none (map_if b f None) h (map_if-none b f None refl) e)
before-map b f (Some g) h e = refl

-- what is there
pub there : (o : Option Held) → IsSome o → (h : Held) × (o ≡ Some h)
there None s = absurd (true≢false (sym s))
there (Some h) s = (h, refl)

pub IfSome-by : (o : Option Held) (P : Held → Type 0) → ((h : Held) → o ≡ Some h → P h) → IfSome o P
IfSome-by None P f = tt
IfSome-by (Some h) P f = f h refl

-- the children of a name are at most those that are resident
pub children-le : (c : Resident) (n : Name) → children c n ≤ length c.nodes
children-le c n = let a = count_by-le-length (is_child n) (values_of c.nodes) in let b = length-values_of c.nodes in omega (arith, a, b)

pub kids-under : (p : Option Name) (b : Bool) (o : Option Held) (h : Held) → map_if b (with_parent p) o ≡ Some h → h.kids ≡ kids_in o
kids-under p true None h is = absurd (is-none _ h refl is)
kids-under p false None h is = absurd (is-none _ h refl is)
kids-under p true (Some g) h is = ap kids_in (sym is)
kids-under p false (Some g) h is = ap kids_in (sym is)

pub kids-of : (c : Resident) (n : Name) → IsSoundCache c → (o : Option Held) → held_node c n ≡ o → IsSome o → kids_in o ≡ children c n
kids-of c n sound None is s = absurd (true≢false (sym s))
kids-of c n sound (Some g) is s = sound.kids n g is

pub points-own : (p : Name) → points (Some p) p ≡ true
points-own p = same_name_equiv.refl p

pub kids-mapped : (f : Held → Held) → ((h : Held) → (f h).kids ≡ h.kids) → (b : Bool) (o : Option Held) (h : Held) → map_if b f o ≡ Some h → h.kids ≡ kids_in o
kids-mapped f kids true None h s = absurd (is-none _ h refl s)
kids-mapped f kids false None h s = absurd (is-none _ h refl s)
kids-mapped f kids true (Some g) h s = ap kids_in (sym s) ∙ kids g
kids-mapped f kids false (Some g) h s = ap kids_in (sym s)

pub cond-some : (b : Bool) (v h : Held) (o : Option Held) (A : Held → Type 0) → cond b (Some v) o ≡ Some h → (b ≡ true → A v) → (o ≡ Some h → A h) → A h
cond-some true v h o A is f g = subst A (ap (λ (x : Option Held). option_unwrap_or x v) is) (f refl)
cond-some false v h o A is f g = g is
