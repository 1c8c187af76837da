-- The records of a treap of entries.
use Rattle.std.proofs.Common.{◌≡◌, ℕ, ◌<◌, List, Option, None, Result, Ok, Err, refl, sym, ◌∙◌, ap, subst, arith}
use Rattle.std.specs.Prelude.{IfOk, OnOk}
use Rattle.iris_name.specs.declared.name.Name.{Name}
use Rattle.iris_name.specs.declared.name.Name.TheVariants.{Entry, Part, Block}
use Rattle.iris_node.specs.Unfolded.{link_to, node_of}
use Rattle.iris_node.specs.declared.node.Link.{Link}
use Rattle.iris_shape.specs.Treap.{Treap, Empty, Over}
use Rattle.iris_shape.specs.declared.heaping.Shape.{Shape}
use Rattle.iris_shape.specs.declared.heaping.Shape as shape
use Rattle.iris_records.specs.Records.{Records}
use Rattle.iris_records.specs.Shown.{Own, in_directory}
use Rattle.iris_records.specs.Unmade.{unmade_treap}
use Rattle.iris_records.specs.Pieces.{Adds}
use Rattle.iris_records.specs.Walks.{placed, placed_entry, own_at, at_top, ArePlacesOf, nodes}
use Rattle.iris_records.proofs.EntryRecords.{directory_over}
use Rattle.iris_records.proofs.PartRecords.{adds_same, adds_twice}
use Rattle.iris_records.proofs.FoldsAndShapes.{unmade_over}

pub if_ok : {A E : Type 0} → (r : Result A E) (P Q : A → Type 0) → ((x : A) → P x → Q x) → IfOk r P → IfOk r Q
if_ok (Ok x) P Q f h = f x h
if_ok (Err e) P Q f h = h

pub on_ok : {A E : Type 0} → (r : Result A E) (P Q : Type 0) → (P → Q) → OnOk r P → OnOk r Q
on_ok (Ok x) P Q f h = f h
on_ok (Err e) P Q f h = h

pub over_is : (x a b c d : Shape) (row : ℕ) → x ≡ shape.Over row a b → c ≡ a → d ≡ b → unmade_treap x ≡ Over row (unmade_treap c) (unmade_treap d)
over_is x a b c d row e f g = ap unmade_treap e ∙ unmade_over row a b ∙ ap (λ z. Over row (unmade_treap z) (unmade_treap b)) (sym f) ∙ ap (λ z. Over row (unmade_treap c) (unmade_treap z)) (sym g)

pub places_over : (n row : ℕ) (x : Treap ℕ) (less more : Treap ℕ) → x ≡ Over row less more → ArePlacesOf n x → (row < n) × ArePlacesOf n less × ArePlacesOf n more
places_over n row x less more e h = subst (ArePlacesOf n) e h

pub nodes_less : (row : ℕ) (x less more : Treap ℕ) → x ≡ Over row less more → nodes less < nodes x
nodes_less row x less more e = let k = ap nodes e in omega (arith, k)

pub nodes_more : (row : ℕ) (x less more : Treap ℕ) → x ≡ Over row less more → nodes more < nodes x
nodes_more row x less more e = let k = ap nodes e in omega (arith, k)

pub empty_link : (owns : List Own) (x : Treap ℕ) → x ≡ Empty → None ≡ link_to (placed owns x) (node_of (placed owns x))
unfolding node_of
empty_link owns x e = subst (λ z. None ≡ link_to (placed owns z) (node_of (placed owns z))) (sym e) refl

pub empty_puts : (owns : List Own) (key : List ℕ) (x : Treap ℕ) (s : Records) → x ≡ Empty → Adds key (λ n. in_directory n (placed owns x)) s s
empty_puts owns key x s e = subst (λ z. Adds key (λ n. in_directory n (placed owns z)) s s) (sym e) (adds_same key (λ n. None) (λ n. in_directory n (placed owns Empty)) s s none (λ n. refl)) where
  none : (n : Name) → None ≡ in_directory n (placed owns Empty)
  none (Entry i) = refl
  none (Part f l i) = refl
  none (Block f p) = refl

pub over_puts : (owns : List Own) (key : List ℕ) (row : ℕ) (x less more : Treap ℕ) (a b c d : Records) → x ≡ Over row less more
    → Adds key (λ n. in_directory n (placed owns more)) a b → Adds key (λ n. in_directory n (placed owns less)) b c → Adds key (λ n. at_top n (placed_entry owns row (placed owns less) (placed owns more))) c d
    → Adds key (λ n. in_directory n (placed owns x)) a d
over_puts owns key row x less more a b c d e h k l = subst (λ z. Adds key (λ n. in_directory n (placed owns z)) a d) (sym e)
    (adds_same key _ (λ n. in_directory n (placed owns (Over row less more))) a d (λ n. directory_over n (own_at owns row) (own_at owns row).file (placed owns less) (placed owns more))
    (adds_twice key _ (λ n. at_top n (placed_entry owns row (placed owns less) (placed owns more))) a c d (adds_twice key (λ n. in_directory n (placed owns more)) (λ n. in_directory n (placed owns less)) a b c h k) l))

pub over_link : (owns : List Own) (row : ℕ) (x less more : Treap ℕ) (l : Option Link) → x ≡ Over row less more
    → l ≡ link_to (placed_entry owns row (placed owns less) (placed owns more)) (node_of (placed_entry owns row (placed owns less) (placed owns more))) → l ≡ link_to (placed owns x) (node_of (placed owns x))
over_link owns row x less more l e h = subst (λ z. l ≡ link_to (placed owns z) (node_of (placed owns z))) (sym e) h
