-- Who holds a hash of a name, and who can go, by small cases: one that is, and one near by that isn't.
use Rattle.std.proofs.Common.{◌≡◌, ℕ, [], ◌∷◌, true, false, Some, None, refl, ap, inl, inr, arith}
use Rattle.iris_name.specs.declared.name.FileId.{FileId}
use Rattle.iris_name.specs.declared.name.Hash32.{Hash32}
use Rattle.iris_name.specs.declared.name.Name as names
use Rattle.iris_name.specs.declared.name.Name.TheVariants as name
use Rattle.iris_node.specs.declared.node.Body.TheVariants.{Dir, File}
use Rattle.iris_node.specs.declared.node.Side.TheVariants.{Fold, Below}
use Rattle.iris_node.specs.declared.node.Node.{Node}
use Rattle.iris_node.specs.declared.node.Node.TheVariants.{Entry, Part}
use Rattle.iris_cache.specs.declared.held.Held.{Held}
use Rattle.iris_cache.specs.Holders.{IsHolder, part_above}
use Rattle.iris_cache.specs.Idle.{CanGo, is_freed_by}
use Rattle.iris_cache.specs.Resident.{Resident}

abbrev id : ℕ → FileId
id k = record { 0 = k }

abbrev some_hash : Hash32
some_hash = record { 0 = 9 ∷ [] }

-- directory 2, with entry 3 inside
abbrev folder : Node
folder = Entry (record { id = id 2; name = []; left = None; right = None; body = Dir (Some (record { id = id 3; hash = some_hash; blocks = 0 })) })

-- file 4, whose versions aren't all equal
abbrev file : Node
file = Entry (record { id = id 4; name = []; left = None; right = None; body = File 0 0 (Below some_hash) })

-- its part of the lowest four places, whose upper half has one version
abbrev part : Node
part = Part (record { file = id 4; level = 2; index = 0; low = Below some_hash; high = Fold 1 })

-- clean, settled, not pinned, and nothing is out
abbrev held : Node → Held
held node = record { node = node; parent = None; kids = 0; pins = 0; dirty = false; settled = true; out = None; touched = false }

abbrev all : Resident
all = record {
  nodes = (name.Entry (id 2), held folder) ∷ (name.Entry (id 4), record (held file) { pins = 1 }) ∷ (name.Part (id 4) 2 0, held part) ∷ [];
  room = [];
}

abbrev number : names.Name → ℕ
number (name.Entry own) = own.0
number (name.Part own level index) = own.0
number (name.Block own place) = own.0

-- a directory holds what is inside
folder-holds : IsHolder all (name.Entry (id 2)) (name.Entry (id 3))
folder-holds = (some_hash, inr (inr (refl, refl)))

-- but not itself; and what isn't resident holds nothing
folder-not-itself : IsHolder all (name.Entry (id 2)) (name.Entry (id 2)) → ⊥
folder-not-itself (x, inl h) = h
folder-not-itself (x, inr (inl h)) = h
folder-not-itself (x, inr (inr h)) = let e : name.Entry (id 2) ≡ name.Entry (id 3) = h.0 in let k : ◌≡◌ {A = ℕ} 2 3 = ap number e in omega (arith, k)

missing-holds-none : IsHolder all (name.Entry (id 5)) (name.Entry (id 3)) → ⊥
missing-holds-none h = h

-- a file holds the part of all its places, and a part its lower half
file-holds : IsHolder all (name.Entry (id 4)) (name.Part (id 4) 16 0)
file-holds = (some_hash, inr (inr (refl, refl)))

part-holds : IsHolder all (name.Part (id 4) 2 0) (name.Part (id 4) 1 0)
part-holds = (some_hash, inl (refl, refl))

-- an upper half of one version has no record
upper-unheld : IsHolder all (name.Part (id 4) 2 0) (name.Part (id 4) 1 1) → ⊥
upper-unheld (x, inl h) = let e : name.Part (id 4) 1 1 ≡ name.Part (id 4) 1 0 = h.0 in let k : ◌≡◌ {A = ℕ} 1 0 = cc in omega (arith, k)
upper-unheld (x, inr h) = h

-- above both halves stands one part, and above all places the entry
above-lower : part_above (id 4) 1 0 ≡ name.Part (id 4) 2 0
above-lower = refl

above-upper : part_above (id 4) 1 1 ≡ name.Part (id 4) 2 0
above-upper = refl

above-next : part_above (id 4) 1 2 ≡ name.Part (id 4) 2 1
above-next = refl

above-highest : part_above (id 4) 15 1 ≡ name.Part (id 4) 16 0
above-highest = refl

above-all : part_above (id 4) 16 0 ≡ name.Entry (id 4)
above-all = refl

-- who isn't kept can go; who is pinned or isn't resident can't
part-goes : CanGo all (name.Part (id 4) 2 0)
part-goes = refl

pinned-stays : CanGo all (name.Entry (id 4)) → ⊥
pinned-stays e = cc

missing-stays : CanGo all (name.Entry (id 5)) → ⊥
missing-stays h = h

-- a pin's caller frees a node that nothing else keeps
freed : is_freed_by 0 (Some (record (held file) { pins = 1 })) ≡ true
freed = refl

freed-by-other : is_freed_by 1 (Some (record (held file) { pins = 1 })) ≡ false
freed-by-other = refl

freed-dirty : is_freed_by 0 (Some (record (held file) { pins = 1; dirty = true })) ≡ false
freed-dirty = refl

-- who is free already isn't freed
free-already : is_freed_by 0 (Some (held file)) ≡ false
free-already = refl
