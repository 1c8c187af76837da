-- The comparison of nodes, field by field, decides whether they are equal.
use Rattle.std.proofs.Common.{◌≡◌, ◌==◌, ◌&&◌, ℕ, List, Bool, true, false, Option, Some, None, nat_eq, refl, ap, subst}
use Rattle.std.specs.Cmp.Lexicographic.{pointwise, bytes_decides}
use Rattle.std.proofs.lemmas.Bool.{and_parts, eqb-true, eq-eqb}
use Rattle.iris_name.specs.declared.name.FileId.{FileId}
use Rattle.iris_name.specs.declared.name.Hash32.{Hash32}
use Rattle.iris_node.specs.declared.node.Side.{Side}
use Rattle.iris_node.specs.declared.node.Side.TheVariants.{Fold, Below}
use Rattle.iris_node.specs.declared.node.Link.{Link}
use Rattle.iris_node.specs.declared.node.Body.{Body}
use Rattle.iris_node.specs.declared.node.Body.TheVariants.{Dir, File}
use Rattle.iris_node.specs.declared.node.Node.{Node}
use Rattle.iris_node.specs.declared.node.Node.TheVariants.{Entry, Part}
use Rattle.iris_node.specs.Fields.{EntryFields, PartFields}

abbrev pub same_hash : Hash32 → Hash32 → Bool
same_hash a b = pointwise nat_eq a.0 b.0

abbrev pub same_side : Side → Side → Bool
same_side (Fold a) (Fold b) = a == b
same_side (Fold a) (Below b) = false
same_side (Below a) (Fold b) = false
same_side (Below a) (Below b) = same_hash a b

abbrev pub same_link : Link → Link → Bool
same_link a b = (a.id.0 == b.id.0) && (same_hash a.hash b.hash && (a.blocks == b.blocks))

abbrev pub same_option : Option Link → Option Link → Bool
same_option None None = true
same_option None (Some b) = false
same_option (Some a) None = false
same_option (Some a) (Some b) = same_link a b

abbrev pub same_body : Body → Body → Bool
same_body (Dir a) (Dir b) = same_option a b
same_body (Dir a) (File l c v) = false
same_body (File l c v) (Dir a) = false
same_body (File l c v) (File m d w) = (l == m) && ((c == d) && same_side v w)

abbrev pub same_entry : EntryFields → EntryFields → Bool
same_entry a b = (a.id.0 == b.id.0) && (pointwise nat_eq a.name b.name && (same_option a.left b.left && (same_option a.right b.right && same_body a.body b.body)))

abbrev pub same_part : PartFields → PartFields → Bool
same_part a b = (a.file.0 == b.file.0) && ((a.level == b.level) && ((a.index == b.index) && (same_side a.low b.low && same_side a.high b.high)))

-- whether two nodes are equal
abbrev pub same_node : Node → Node → Bool
same_node (Entry a) (Entry b) = same_entry a b
same_node (Entry a) (Part b) = false
same_node (Part a) (Entry b) = false
same_node (Part a) (Part b) = same_part a b

-- ---- it tells equal nodes

hash_made : (a b : List ℕ) → a ≡ b → (let x : Hash32 = record { 0 = a } in x) ≡ (let y : Hash32 = record { 0 = b } in y)
hash_made a b e = rw e refl

id_made : (a b : ℕ) → a ≡ b → (let x : FileId = record { 0 = a } in x) ≡ (let y : FileId = record { 0 = b } in y)
id_made a b e = rw e refl

abbrev a_link : FileId → Hash32 → ℕ → Link
a_link i h n = record { id = i; hash = h; blocks = n }

link_made : (i j : FileId) (h k : Hash32) (m n : ℕ) → i ≡ j → h ≡ k → m ≡ n → a_link i h m ≡ a_link j k n
link_made i j h k m n e f g = rw (e, f, g) refl

abbrev an_entry : FileId → List ℕ → Option Link → Option Link → Body → EntryFields
an_entry i n l r b = record { id = i; name = n; left = l; right = r; body = b }

entry_made : (i j : FileId) (m n : List ℕ) (l k r q : Option Link) (b d : Body) → i ≡ j → m ≡ n → l ≡ k → r ≡ q → b ≡ d → an_entry i m l r b ≡ an_entry j n k q d
entry_made i j m n l k r q b d e f g h s = rw (e, f, g, h, s) refl

abbrev a_part : FileId → ℕ → ℕ → Side → Side → PartFields
a_part f l i a b = record { file = f; level = l; index = i; low = a; high = b }

part_made : (f g : FileId) (l m i j : ℕ) (a b c d : Side) → f ≡ g → l ≡ m → i ≡ j → a ≡ b → c ≡ d → a_part f l i a c ≡ a_part g m j b d
part_made f g l m i j a b c d e h k q r = rw (e, h, k, q, r) refl

hash_is : (a b : Hash32) → same_hash a b ≡ true → a ≡ b
hash_is a b h = hash_made a.0 b.0 ((bytes_decides a.0 b.0).0 h)

id_is : (a b : FileId) → (a.0 == b.0) ≡ true → a ≡ b
id_is a b h = id_made a.0 b.0 (eqb-true a.0 b.0 h)

side_is : (a b : Side) → same_side a b ≡ true → a ≡ b
side_is (Fold a) (Fold b) h = ap Fold (eqb-true a b h)
side_is (Fold a) (Below b) h = absurd cc
side_is (Below a) (Fold b) h = absurd cc
side_is (Below a) (Below b) h = ap Below (hash_is a b h)

link_is : (a b : Link) → same_link a b ≡ true → a ≡ b
link_is a b h =
    let p = and_parts _ _ h in
    let q = and_parts _ _ p.1 in
    let i : a.id ≡ b.id = id_is a.id b.id p.0 in
    let k : a.hash ≡ b.hash = hash_is a.hash b.hash q.0 in
    let n : a.blocks ≡ b.blocks = eqb-true a.blocks b.blocks q.1 in
    link_made a.id b.id a.hash b.hash a.blocks b.blocks i k n

option_is : (a b : Option Link) → same_option a b ≡ true → a ≡ b
option_is None None h = refl
option_is None (Some b) h = absurd cc
option_is (Some a) None h = absurd cc
option_is (Some a) (Some b) h = ap Some (link_is a b h)

body_is : (a b : Body) → same_body a b ≡ true → a ≡ b
body_is (Dir a) (Dir b) h = ap Dir (option_is a b h)
body_is (Dir a) (File l c v) h = absurd cc
body_is (File l c v) (Dir a) h = absurd cc
body_is (File l c v) (File m d w) h =
    let p = and_parts _ _ h in
    let q = and_parts _ _ p.1 in
    let i : l ≡ m = eqb-true l m p.0 in
    let j : c ≡ d = eqb-true c d q.0 in
    let k : v ≡ w = side_is v w q.1 in
    cc

entry_is : (a b : EntryFields) → same_entry a b ≡ true → a ≡ b
entry_is a b h =
    let p = and_parts _ _ h in
    let q = and_parts _ _ p.1 in
    let r = and_parts _ _ q.1 in
    let s = and_parts _ _ r.1 in
    let i : a.id ≡ b.id = id_is a.id b.id p.0 in
    let n : a.name ≡ b.name = (bytes_decides a.name b.name).0 q.0 in
    let l : a.left ≡ b.left = option_is a.left b.left r.0 in
    let m : a.right ≡ b.right = option_is a.right b.right s.0 in
    let d : a.body ≡ b.body = body_is a.body b.body s.1 in
    entry_made a.id b.id a.name b.name a.left b.left a.right b.right a.body b.body i n l m d

part_is : (a b : PartFields) → same_part a b ≡ true → a ≡ b
part_is a b h =
    let p = and_parts _ _ h in
    let q = and_parts _ _ p.1 in
    let r = and_parts _ _ q.1 in
    let s = and_parts _ _ r.1 in
    let i : a.file ≡ b.file = id_is a.file b.file p.0 in
    let l : a.level ≡ b.level = eqb-true a.level b.level q.0 in
    let m : a.index ≡ b.index = eqb-true a.index b.index r.0 in
    let c : a.low ≡ b.low = side_is a.low b.low s.0 in
    let d : a.high ≡ b.high = side_is a.high b.high s.1 in
    part_made a.file b.file a.level b.level a.index b.index a.low b.low a.high b.high i l m c d

pub node_is : (a b : Node) → same_node a b ≡ true → a ≡ b
node_is (Entry a) (Entry b) h = ap Entry (entry_is a b h)
node_is (Entry a) (Part b) h = absurd cc
node_is (Part a) (Entry b) h = absurd cc
node_is (Part a) (Part b) h = ap Part (part_is a b h)

-- ---- and each node is equal to itself

both : (a b : Bool) → a ≡ true → b ≡ true → (a && b) ≡ true
both true b h k = k
both false b h k = h

hash_self : (a : Hash32) → same_hash a a ≡ true
hash_self a = (bytes_decides a.0 a.0).1 refl

self : (n : ℕ) → (n == n) ≡ true
self n = eq-eqb n n refl

side_self : (a : Side) → same_side a a ≡ true
side_self (Fold a) = self a
side_self (Below a) = hash_self a

option_self : (a : Option Link) → same_option a a ≡ true
option_self None = refl
option_self (Some l) = both _ _ (self l.id.0) (both _ _ (hash_self l.hash) (self l.blocks))

body_self : (a : Body) → same_body a a ≡ true
body_self (Dir a) = option_self a
body_self (File l c v) = both _ _ (self l) (both _ _ (self c) (side_self v))

node_self : (a : Node) → same_node a a ≡ true
node_self (Entry a) = both _ _ (self a.id.0) (both _ _ ((bytes_decides a.name a.name).1 refl) (both _ _ (option_self a.left) (both _ _ (option_self a.right) (body_self a.body))))
node_self (Part a) = both _ _ (self a.file.0) (both _ _ (self a.level) (both _ _ (self a.index) (both _ _ (side_self a.low) (side_self a.high))))

pub node_same : (a b : Node) → a ≡ b → same_node a b ≡ true
node_same a b e = let P : Node → Type 0 = λ n. same_node a n ≡ true in subst P e (node_self a)
