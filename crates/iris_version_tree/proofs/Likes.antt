-- Nodes that are like a part, or like a file's entry with another side.
use Rattle.std.proofs.Common.{◌≡◌, ◌==◌, ◌+◌, ◌-◌, ◌*◌, ℕ, Option, Some, None, cond, refl, ap, sym, ◌∙◌}
use Rattle.std.specs.Option.{option_map}
use Rattle.std.proofs.lemmas.Bool.{eq-eqb}
use Rattle.iris_name.specs.declared.name.FileId.{FileId}
use Rattle.iris_node.specs.declared.node.Side.{Side}
use Rattle.iris_node.specs.declared.node.Side.TheVariants.{Fold as Same, Below}
use Rattle.iris_node.specs.declared.node.Body.{Body}
use Rattle.iris_node.specs.declared.node.Body.TheVariants.{Dir, File}
use Rattle.iris_node.specs.declared.node.Node.{Node}
use Rattle.iris_node.specs.declared.node.Node.TheVariants as node
use Rattle.iris_node.specs.Fields.{EntryFields}
use Rattle.iris_node.specs.Unfolded.{Unfolded, Absent, Folder, Leaf, Even, Split, Stored, id_of}
use Rattle.iris_node.specs.Local.{even, even_by, led, local, entry_local}
use Rattle.iris_shape.specs.Folds.{Fold, One, Two}
use Rattle.iris_shape.specs.Sides.{unfolded_side, part_of}
use Rattle.iris_cache.specs.Pictures.{IsLike}
use Rattle.iris_version_tree.specs.Versions.{IsFileOf, reversioned}
use Rattle.iris_version_tree.specs.Sides.{body_with, entry_with}
use Rattle.iris_version_tree.specs.Reached.{IsTwo, IsSideOf}
use Rattle.iris_version_tree.specs.Ranges.{IsNodeWith}
use Rattle.iris_version_tree.proofs.Tables.{side_of, not_entry}
use Rattle.iris_version_tree.proofs.Reversions.{led_kept}

-- ---- nodes that are like a part

pub two_node : (file : FileId) (l i : ℕ) (g : Fold) (n : Node) → IsNodeWith file l i g n → IsTwo g
two_node file l i (One v) (node.Part p) h = h.halves
two_node file l i (Two a b) (node.Part p) h = tt
two_node file l i g (node.Entry e) h = absurd h

pub node_with : (file : FileId) (l i : ℕ) (g : Fold) (n : Node) → IsLike (part_of file.0 l i g) n → IsNodeWith file l i g n
node_with file l i (One v) n like = absurd like
node_with file l i (Two a b) (node.Entry e) like = absurd (not_entry file.0 l i (Two a b) e e.body like)
node_with file l i (Two a b) (node.Part p) like =
    let fe : file.0 ≡ p.file.0 = cc in
    let le : l ≡ p.level = cc in
    let ie : i ≡ p.index = cc in
    let lo : even (unfolded_side file.0 (l - 1) (2 * i) a) ≡ even_by p.low = cc in
    let hi : even (unfolded_side file.0 (l - 1) (2 * i + 1) b) ≡ even_by p.high = cc in
    record {
      file_is = ap id_of (sym fe);
      level_is = sym le;
      index_is = sym ie;
      halves = (side_of file.0 (l - 1) (2 * i) a p.low lo, side_of file.0 (l - 1) (2 * i + 1) b p.high hi);
    }

even_is : (f l i : ℕ) (g : Fold) (s : Side) → IsSideOf g s → even (unfolded_side f l i g) ≡ even_by s
even_is f l i (One v) (Same w) h = ap Some (sym h)
even_is f l i (One v) (Below x) h = absurd h
even_is f l i (Two a b) (Same w) h = absurd h
even_is f l i (Two a b) (Below x) h = refl

pub like_with : (file : FileId) (l i : ℕ) (g : Fold) (n : Node) → IsNodeWith file l i g n → IsLike (part_of file.0 l i g) n
like_with file l i (One v) (node.Part p) h = absurd h.halves
like_with file l i g (node.Entry e) h = absurd h
like_with file l i (Two a b) (node.Part p) h =
    let lo = even_is file.0 (l - 1) (2 * i) a p.low h.halves.0 in
    let hi = even_is file.0 (l - 1) (2 * i + 1) b p.high h.halves.1 in
    let fe : file.0 ≡ p.file.0 = ap (λ (f : FileId). f.0) (sym h.file_is) in
    let le : l ≡ p.level = sym h.level_is in
    let ie : i ≡ p.index = sym h.index_is in
    cc

-- the entry of a file with another side of all its versions
top_set_by : (f : ℕ) (g : Fold) (s : Side) (e : EntryFields) (b : Body) (id : ℕ) (label : _) (less more less' more' : Unfolded) (size counter : ℕ) (kept kept' : Unfolded)
    → led less' ≡ led less → led more' ≡ led more → kept' ≡ unfolded_side f 16 0 g → IsSideOf g s → local (Leaf id label less more size counter kept) ≡ Some (entry_local e b)
    → local (Leaf id label less' more' size counter kept') ≡ Some (entry_local (entry_with s e) (body_with s b))
top_set_by f g s e (Dir top) id label less more less' more' size counter kept kept' le me ke at like = cc
top_set_by f g s e (File n k versions) id label less more less' more' size counter kept kept' le me ke at like =
    let v : even kept' ≡ even_by s = ap even ke ∙ even_is f 16 0 g s at in
    cc

cond_file : (id f : ℕ) (s kept : Unfolded) → id ≡ f → cond (id == f) s kept ≡ s
cond_file id f s kept e = ap (λ b. cond b s kept) (eq-eqb id f e)

pub top_set : (f : ℕ) (h : Unfolded) (g : Fold) (s : Side) (e : EntryFields) (o : Option Unfolded) → IsFileOf f h o → IsLike o (node.Entry e) → IsSideOf g s → IsLike (option_map (reversioned f (unfolded_side f 16 0 g)) o) (node.Entry (entry_with s e))
top_set f h g s e None at like is = absurd at
top_set f h g s e (Some (Leaf id label less more size counter kept)) at like is =
    let w = unfolded_side f 16 0 g in
    top_set_by f g s e e.body id label less more (reversioned f w less) (reversioned f w more) size counter kept (cond (id == f) w kept) (led_kept f w less) (led_kept f w more) (cond_file id f w kept at.0) is like
top_set f h g s e (Some (Folder id label less more inside)) at like is = absurd at
top_set f h g s e (Some Absent) at like is = absurd at
top_set f h g s e (Some (Even w)) at like is = absurd at
top_set f h g s e (Some (Split k l i a b)) at like is = absurd at
top_set f h g s e (Some (Stored w bytes)) at like is = absurd at
