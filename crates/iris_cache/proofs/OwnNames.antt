-- A node that is seen stands under its own name.
use Rattle.std.proofs.Common.{◌≡◌, Option, Some, None, refl, ap, sym, ◌∙◌}
use Rattle.iris_name.specs.declared.name.FileId.{FileId}
use Rattle.iris_name.specs.declared.name.Name.{Name}
use Rattle.iris_name.specs.declared.name.Name.TheVariants as name
use Rattle.iris_node.specs.declared.node.Node.{Node}
use Rattle.iris_node.specs.declared.node.Node.TheVariants as node
use Rattle.iris_node.specs.Fields.{EntryFields}
use Rattle.iris_node.specs.Nodes.{name_of}
use Rattle.iris_cache.specs.declared.held.Held.{Held}
use Rattle.iris_cache.specs.declared.draft.Change.{Change}
use Rattle.iris_cache.specs.Resident.{Resident, held_node, IsSoundCache}
use Rattle.iris_cache.specs.Drafted.{Drafted, drafted, seen, known_by, there_by, IsDraft}

own_by : (d : Drafted) (c : Resident) (n : Name) (k : Node) (o : Option Change) (w : Option Held) → IsDraft d → IsSoundCache c → drafted d n ≡ o → held_node c n ≡ w → there_by (known_by o w) ≡ Some k → name_of k ≡ n
own_by d c n k (Some x) w ds cs de he e = ds.own n x k de e
own_by d c n k None (Some h) ds cs de he e = let q : h.node ≡ k = cc in sym (ap name_of q) ∙ cs.own n h he
own_by d c n k None None ds cs de he e = cc

pub seen_own : (d : Drafted) (c : Resident) (n : Name) (k : Node) → IsDraft d → IsSoundCache c → seen d c n ≡ Some k → name_of k ≡ n
seen_own d c n k ds cs e = own_by d c n k (drafted d n) (held_node c n) ds cs refl refl e

entry_id : Name → FileId
entry_id (name.Entry id) = id
entry_id (name.Part f l i) = f
entry_id (name.Block f p) = f

pub entry_own : (d : Drafted) (c : Resident) (id : FileId) (e : EntryFields) → IsDraft d → IsSoundCache c → seen d c (name.Entry id) ≡ Some (node.Entry e) → e.id ≡ id
unfolding entry_id
entry_own d c id e ds cs at = ap entry_id (seen_own d c (name.Entry id) (node.Entry e) ds cs at)
