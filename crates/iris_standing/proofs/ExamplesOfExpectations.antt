-- What the record of a name must show: of the roots the hashes kept, of all else what the plan expects.
use Rattle.std.proofs.Common.{◌≡◌, refl}
use Rattle.iris_name.specs.declared.name.Hash32.{Hash32}
use Rattle.iris_name.specs.declared.name.Name.TheVariants.{Entry, Part, Block}
use Rattle.iris_name.specs.declared.note.Expect.TheVariants.{Hash, Version}
use Rattle.iris_node.specs.Unfolded.{id_of}
use Rattle.iris_standing.specs.Quiet.{expected_of}
use Rattle.iris_standing.specs.Standing.{Standing}

module _ (s : Standing) (h : Hash32) where
  of_visible : expected_of s (Entry (id_of 0)) (Hash h) ≡ Hash s.visible
  of_visible = refl

  of_trash : expected_of s (Entry (id_of 1)) (Hash h) ≡ Hash s.trash
  of_trash = refl

  of_entry : expected_of s (Entry (id_of 2)) (Hash h) ≡ Hash h
  of_entry = refl

  of_part : expected_of s (Part (id_of 2) 1 0) (Hash h) ≡ Hash h
  of_part = refl

  of_block : expected_of s (Block (id_of 2) 0) (Version 3) ≡ Version 3
  of_block = refl
