-- What leads to which name: entries, a file's parts, and blocks.
use Rattle.std.proofs.Common.{◌≡◌, [], true, false, refl}
use Rattle.iris_name.specs.declared.name.Name.{Name}
use Rattle.iris_name.specs.declared.name.Name.TheVariants.{Entry, Part, Block}
use Rattle.iris_node.specs.Unfolded.{Unfolded, Absent, Folder, Leaf, Even, Split, Stored, id_of}
use Rattle.iris_standing.specs.Standing.{is_named, leads_to}

-- a file of three blocks: a part over a part
abbrev low : Unfolded
low = Split 6 0 0 (Even 1) (Even 2)

abbrev top : Unfolded
top = Split 6 1 0 low (Even 3)

abbrev file : Unfolded
file = Leaf 6 [] Absent Absent 12288 3 top

-- it stands in a directory, and that in the root
abbrev root : Unfolded
root = Folder 0 [] Absent Absent (Folder 5 [] Absent Absent file)

-- an entry is named by its id, nothing by none
named : is_named file (Entry (id_of 6)) ≡ true
named = refl

not_named : is_named (Even 3) (Part (id_of 6) 0 1) ≡ false
not_named = refl

-- a directory leads to what is inside it, and not to itself or further down
to_inside : leads_to root (Entry (id_of 5)) ≡ true
to_inside = refl

to_itself : leads_to root (Entry (id_of 0)) ≡ false
to_itself = refl

too_far : leads_to root (Entry (id_of 6)) ≡ false
too_far = refl

-- an entry leads to both neighbours
to_less : leads_to (Folder 7 [] (Leaf 6 [] Absent Absent 0 0 (Even 0)) Absent Absent) (Entry (id_of 6)) ≡ true
to_less = refl

to_more : leads_to (Leaf 7 [] Absent (Leaf 6 [] Absent Absent 0 0 (Even 0)) 0 0 (Even 0)) (Entry (id_of 6)) ≡ true
to_more = refl

-- a file leads to the part over all its blocks, and a part to the parts of its halves, but not to blocks
to_top : leads_to file (Part (id_of 6) 1 0) ≡ true
to_top = refl

below_top : leads_to file (Part (id_of 6) 0 0) ≡ false
below_top = refl

to_low : leads_to top (Part (id_of 6) 0 0) ≡ true
to_low = refl

to_high : leads_to (Split 6 1 0 (Even 3) (Split 6 0 1 (Even 1) (Even 2))) (Part (id_of 6) 0 1) ≡ true
to_high = refl

to_block : leads_to low (Block (id_of 6) 0) ≡ false
to_block = refl

-- nothing below a block
from_block : (n : Name) → leads_to (Stored 3 []) n ≡ false
from_block n = refl
