-- A cached node is what its name stands for.
use Rattle.std.proofs.Common.{◌≡◌, Option, Some, None, refl, subst}
use Rattle.iris_cache.specs.Pictures.{IsLike}
use Rattle.iris_name.specs.declared.name.Name.{Name}
use Rattle.iris_name.specs.declared.name.Name.TheVariants.{Entry, Part}
use Rattle.iris_node.specs.declared.node.Node.{Node}
use Rattle.iris_node.specs.Local.{Local, local, local_of}
use Rattle.iris_node.specs.Trees.{Shown, IsNodeName, IsTree, node_name}
use Rattle.iris_node.specs.Unfolded.{Unfolded, Absent, Folder, Leaf, Even, Split, Stored, id_of}

-- what says something by itself is a node
said_name : (u : Unfolded) (l : Local) → local u ≡ Some l → (m : Name) × (node_name u ≡ Some m) × IsNodeName m
said_name (Folder id name less more inside) l e = (Entry (id_of id), refl, tt)
said_name (Leaf id name less more size counter versions) l e = (Entry (id_of id), refl, tt)
said_name (Split file level index low high) l e = (Part (id_of file) level index, refl, tt)
said_name Absent l e = absurd (cc)
said_name (Even version) l e = absurd (cc)
said_name (Stored version bytes) l e = absurd (cc)

-- What a node is like stands for its name, which is a node's.
pub record IsCachedAt (t : Shown) (n : Name) : Type 0 where
  pub u : Unfolded
  pub live : t n ≡ Some u
  pub is_node : IsNodeName n

pub cached_at : (t : Shown) (n : Name) (node : Node) (o : Option Unfolded) → IsTree t → t n ≡ o → IsLike o node → IsCachedAt t n
cached_at t n node None tree e like = absurd like
cached_at t n node (Some u) tree e like = let m = said_name u (local_of node) like in record { u = u; live = e; is_node = subst IsNodeName (tree.own n m.0 u e m.1) m.2 }
