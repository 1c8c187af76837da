-- How many bytes records have.
use Rattle.std.proofs.Common.{◌≡◌, ◌≤◌, ◌<◌, ℕ, List, ◌++◌, length, Option, Some, None, arith, length-append, refl, ◌⊎◌, inl, inr, ap}
use Rattle.std.specs.Int.{w64, to_be_bytes}
use Rattle.std.proofs.lemmas.Bool.{cases_lt}
use Rattle.iris_node.specs.declared.node.Side.{Side}
use Rattle.iris_node.specs.declared.node.Side.TheVariants.{Fold, Below}
use Rattle.iris_node.specs.declared.node.Link.{Link}
use Rattle.iris_node.specs.declared.node.Body.{Body}
use Rattle.iris_node.specs.declared.node.Body.TheVariants.{Dir, File}
use Rattle.iris_node.specs.declared.node.Node.TheVariants.{Entry, Part}
use Rattle.iris_node.specs.Fields.{EntryFields}
use Rattle.iris_node.specs.Rules.{IsEntry}
use Rattle.iris_node.specs.Nodes.{FitsLink, FitsSide, FitsBody}
use Rattle.iris_node.specs.Spelling.{link, spelled_side, named, body, spelling}
use Rattle.iris_node.specs.Laws.{Sizes}

link_size : (o : Option Link) → FitsLink o → length (link o) ≤ 49
link_size None h = omega arith
link_size (Some l) h = omega (arith, h.1, length-append l.hash.0 (to_be_bytes w64 l.blocks))

side_size : (s : Side) → FitsSide s → length (spelled_side s) ≤ 33
side_size (Fold v) h = omega arith
side_size (Below b) h = omega (arith, h)

body_size : (b : Body) → FitsBody b → length (body b) ≤ 49
body_size (Dir top) h = link_size top h
body_size (File size counter versions) h = let s = side_size versions h.2 in omega (arith, s)

name_size : (e : EntryFields) → IsEntry e → length e.name ≤ 255
name_size e h = by (cases_lt e.id.0 2)
  where
    by : (e.id.0 < 2) ⊎ (2 ≤ e.id.0) → length e.name ≤ 255
    by (inl lt) = let k : length e.name ≡ 0 = ap length (h.root lt).name in omega (arith, k)
    by (inr le) = (h.name le).short

five : (a n l r b : List ℕ) → length a ≡ 8 → length n ≤ 256 → length l ≤ 49 → length r ≤ 49 → length b ≤ 49 → length (a ++ (n ++ (l ++ (r ++ b)))) ≤ 411
five a n l r b ha hn hl hr hb = simp length-append (omega arith)

pub sizes : Sizes
unfolding spelling
sizes (Entry e) h =
    let n = name_size e h.0 in
    let f = five (to_be_bytes w64 e.id.0) (named e.name) (link e.left) (link e.right) (body e.body) refl (omega (arith, n)) (link_size e.left h.1.left) (link_size e.right h.1.right) (body_size e.body h.1.body) in
    omega (arith, f)
sizes (Part p) h =
    let a = side_size p.low h.1.low in
    let b = side_size p.high h.1.high in
    omega (arith, a, b, length-append (spelled_side p.low) (spelled_side p.high))
