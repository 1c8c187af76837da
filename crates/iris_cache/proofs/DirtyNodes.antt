-- The count of dirty nodes, where nodes come and go, or change.
use Rattle.std.proofs.Common.{◌≡◌, ◌+◌, ◌≤◌, ℕ, Bool, true, false, cond, List, [], ◌∷◌, Option, Some, None, refl, ap, sym, ◌∙◌, arith, map, length}
use Rattle.std.specs.Int.{from_bool}
use Rattle.std.specs.Option.{option_map}
use Rattle.std.specs.Map.{values_of}
use Rattle.std.specs.List.{sum_by, count_by}
use Rattle.std.proofs.lemmas.List.Sums.{sum_by-cons, count_by-le-length}
use Rattle.std.proofs.lemmas.Map.Entries.{sum_by-remove_entry}
use Rattle.iris_name.specs.Names.{same_name}
use Rattle.iris_name.specs.declared.name.Name.{Name}
use Rattle.iris_cache.specs.declared.held.Held.{Held}
use Rattle.iris_cache.specs.Held.{points}
use Rattle.iris_cache.specs.Dirty.{dirty_nodes, dirty_addend}
use Rattle.iris_cache.specs.Resident.{Resident, held_node, map_if}
use Rattle.iris_cache.proofs.Counts.{sum-updated, sum-same, sum-all}
use Rattle.iris_cache.proofs.HeldChanges.{Once, map-at}

-- the number of a test
pub byte-weight : (b : Bool) → from_bool b ≡ cond b 1 0
byte-weight true = refl
byte-weight false = refl

abbrev dirty_weight : Held → ℕ
dirty_weight h = cond h.dirty 1 0

dirty-sum : (es : List (Name × Held)) → count_by (λ e. e.1.dirty) es ≡ sum_by dirty_weight (values_of es)
dirty-sum [] = refl
dirty-sum (e ∷ es) =
    sum_by-cons (λ (g : Name × Held). dirty_weight g.1) e es
    ∙ ap (λ k. dirty_weight e.1 + k) (dirty-sum es)
    ∙ sym (sum_by-cons dirty_weight e.1 (values_of es))

-- what may be held of a name is among those that are counted
pub dirty-within : (c : Resident) (n : Name) (k : ℕ) → k ≡ dirty_nodes c → dirty_addend (held_node c n) ≤ k
dirty-within c n k is =
    let a = dirty-sum c.nodes in
    let b = sum_by-remove_entry dirty_weight (same_name n) c.nodes in
    omega (arith, is, a, b)

-- at most all are
pub dirty-few : (c : Resident) (k : ℕ) → k ≡ dirty_nodes c → k ≤ length c.nodes
dirty-few c k is = let a = count_by-le-length (λ (e : Name × Held). e.1.dirty) c.nodes in omega (arith, is, a)

-- what is held of one name becomes v, and the count follows
pub dirty-changed : (c e : Resident) (n : Name) (v : Option Held) (k m : ℕ) → Once c → Once e
    → ((q : Name) → held_node e q ≡ cond (same_name n q) v (held_node c q))
    → m + dirty_addend (held_node c n) ≡ k + dirty_addend v → k ≡ dirty_nodes c → m ≡ dirty_nodes e
dirty-changed c e n v k m oc oe is moves was =
    let a = sum-updated dirty_weight c.nodes e.nodes n v oc oe is in
    let b = dirty-sum c.nodes in
    let d = dirty-sum e.nodes in
    omega (arith, a, b, d, moves, was)

-- a node comes
pub dirty-came : (c e : Resident) (n : Name) (v : Held) (k m : ℕ) → Once c → Once e → held_node c n ≡ None
    → ((q : Name) → held_node e q ≡ cond (same_name n q) (Some v) (held_node c q))
    → m ≡ k + cond v.dirty 1 0 → k ≡ dirty_nodes c → m ≡ dirty_nodes e
dirty-came c e n v k m oc oe absent is moves =
    dirty-changed c e n (Some v) k m oc oe is (let a : dirty_addend (held_node c n) ≡ 0 = ap dirty_addend absent in omega (arith, a, moves))

-- a node goes
pub dirty-went : (c e : Resident) (n : Name) (h : Held) (k m : ℕ) → Once c → Once e → held_node c n ≡ Some h
    → ((q : Name) → held_node e q ≡ cond (same_name n q) None (held_node c q))
    → m + cond h.dirty 1 0 ≡ k → k ≡ dirty_nodes c → m ≡ dirty_nodes e
dirty-went c e n h k m oc oe at is moves =
    dirty-changed c e n None k m oc oe is (let a : dirty_addend (held_node c n) ≡ cond h.dirty 1 0 = ap dirty_addend at in omega (arith, a, moves))

-- one node changes
pub dirty-edited : (c e : Resident) (n : Name) (f : Held → Held) (k m : ℕ) → Once c → Once e
    → ((q : Name) → held_node e q ≡ map_if (same_name n q) f (held_node c q))
    → m + dirty_addend (held_node c n) ≡ k + dirty_addend (option_map f (held_node c n)) → k ≡ dirty_nodes c → m ≡ dirty_nodes e
dirty-edited c e n f k m oc oe is = dirty-changed c e n (option_map f (held_node c n)) k m oc oe (λ q. is q ∙ map-at (held_node c) f n q (same_name n q) refl)

dirty-mapped : (f : Held → Held) → ((h : Held) → (f h).dirty ≡ h.dirty) → (o : Option Held) → dirty_addend (option_map f o) ≡ dirty_addend o
dirty-mapped f keeps None = refl
dirty-mapped f keeps (Some h) = ap (λ b. cond b 1 0) (keeps h)

-- one node changes, and is as dirty as before
pub dirty-kept : (c e : Resident) (n : Name) (f : Held → Held) (k : ℕ) → ((h : Held) → (f h).dirty ≡ h.dirty) → Once c → Once e
    → ((q : Name) → held_node e q ≡ map_if (same_name n q) f (held_node c q)) → k ≡ dirty_nodes c → k ≡ dirty_nodes e
dirty-kept c e n f k keeps oc oe is = dirty-edited c e n f k k oc oe is (ap (λ m. k + m) (sym (dirty-mapped f keeps (held_node c n))))

-- so does a parent, where there is one
pub dirty-parent : (c e : Resident) (parent : Option Name) (f : Held → Held) (k : ℕ) → ((h : Held) → (f h).dirty ≡ h.dirty) → Once c → Once e
    → ((q : Name) → held_node e q ≡ map_if (points parent q) f (held_node c q)) → k ≡ dirty_nodes c → k ≡ dirty_nodes e
dirty-parent c e None f k keeps oc oe is was =
    was ∙ dirty-sum c.nodes ∙ sym (sum-same dirty_weight c.nodes e.nodes oc oe (λ q. sym (is q))) ∙ sym (dirty-sum e.nodes)
dirty-parent c e (Some p) f k keeps oc oe is was = dirty-kept c e p f k keeps oc oe is was

-- all nodes change, and are as dirty as before
pub dirty-all : (c e : Resident) (f : Held → Held) (k : ℕ) → ((h : Held) → (f h).dirty ≡ h.dirty) → e.nodes ≡ map (λ g. (g.0, f g.1)) c.nodes
    → k ≡ dirty_nodes c → k ≡ dirty_nodes e
dirty-all c e f k keeps all was =
    was ∙ dirty-sum c.nodes
    ∙ sym (sum-all dirty_weight f (λ h. ap (λ b. cond b 1 0) (keeps h)) c.nodes)
    ∙ sym (ap (λ es. sum_by dirty_weight (values_of es)) all)
    ∙ sym (dirty-sum e.nodes)

-- all nodes stay
pub dirty-again : (c e : Resident) (k : ℕ) → e.nodes ≡ c.nodes → k ≡ dirty_nodes c → k ≡ dirty_nodes e
dirty-again c e k nodes was = was ∙ sym (ap (λ (es : List (Name × Held)). count_by (λ e. e.1.dirty) es) nodes)

-- nothing is resident, and nothing is counted
pub dirty-none : (c : Resident) → c.nodes ≡ [] → 0 ≡ dirty_nodes c
dirty-none c none = sym (ap (λ (es : List (Name × Held)). count_by (λ e. e.1.dirty) es) none)
