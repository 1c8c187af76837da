-- What a get brings, from what is done to cache or blocks: it ends there, and then it is pinned, passed over, or comes.
use Rattle.std.proofs.Common.{◌≡◌, ◌+◌, ℕ, List, Bool, true, false, cond, Option, Some, None, refl, sym, ◌∙◌, ap, subst}
use Rattle.std.specs.Prelude.{IsSome}
use Rattle.std.specs.Option.{option_map}
use Rattle.std.specs.Map.{lookup}
use Rattle.iris_blocks.specs.declared.held.PageHeld.{PageHeld}
use Rattle.iris_blocks.specs.Held.{newcomer_page, pinned_page}
use Rattle.iris_blocks.specs.Paged.{Paged, PageUpdates, held_page}
use Rattle.iris_cache.specs.declared.held.Held.{Held}
use Rattle.iris_cache.specs.Held.{kid_more, newcomer_node, pinned_node, points}
use Rattle.iris_cache.specs.Laws.{AreAlike}
use Rattle.iris_cache.specs.Resident.{Resident, Updates, children, held_node, map_if}
use Rattle.iris_name.specs.declared.name.Name.{Name}
use Rattle.iris_name.specs.Names.{same_name}
use Rattle.iris_name.specs.NameLaws.{same_name-refl}
use Rattle.iris_node.specs.declared.node.Node.{Node}
use Rattle.iris_pool.specs.Changes.{ArePagesAlike}
use Rattle.iris_pool.specs.Parts.{IsComeNode, IsComePage, ended_node, ended_page}
use Rattle.iris_pool.proofs.Brought.{NodeComesOf, NodePinned, NodePassed, NodeCame, PageComesOf, PagePinned, PagePassed, PageCame}
use Rattle.iris_pool.proofs.ByName.{ended_page_quiet, ended_quiet}
use Rattle.iris_pool.proofs.SameNodes.{SameNode, same_if, same_of}

if_on : {A : Type 0} (s : Bool) (f : A → A) (x y : Option A) → y ≡ map_if s f x → s ≡ true → y ≡ option_map f x
if_on s f x y is on = is ∙ ap (λ z. map_if z f x) on

if_off : {A : Type 0} (s : Bool) (f : A → A) (x y : Option A) → y ≡ map_if s f x → s ≡ false → y ≡ x
if_off s f x y is on = is ∙ ap (λ z. map_if z f x) on

either : {A : Type 0} (s : Bool) (f : A → A) (a x y : Option A) → y ≡ map_if s f x → cond s a y ≡ cond s a x
either true f a x y is = refl
either false f a x y is = is

pub record NodeBrings (who : ℕ) (n : Name) (touched : Bool) (parent : Option Name) (node : Node) (old mid new : Resident) : Type 0 where
  pub ended : (q : Name) → held_node mid q ≡ map_if (same_name n q) (ended_node false) (held_node old q)
  pub pinned : IsSome (held_node mid n) → Updates mid new n (pinned_node who)
  pub passed : held_node mid n ≡ None → touched ≡ true → new.nodes ≡ mid.nodes
  pub comes : held_node mid n ≡ None → touched ≡ false → IsComeNode mid new who parent n node

module _ (who : ℕ) (n : Name) (touched : Bool) (parent : Option Name) (node : Node) (old mid new : Resident) (b : NodeBrings who n touched parent node old mid new) where
  mid_is : (g : Option Held) → held_node old n ≡ g → held_node mid n ≡ option_map (ended_node false) g
  mid_is g at = if_on (same_name n n) (ended_node false) (held_node old n) (held_node mid n) (b.ended n) (same_name-refl n) ∙ ap (option_map (ended_node false)) at

  mid_else : (m : Name) → same_name n m ≡ false → held_node mid m ≡ held_node old m
  mid_else m ne = if_off (same_name n m) (ended_node false) (held_node old m) (held_node mid m) (b.ended m) ne

  pub nodes_else : (m : Name) → same_name n m ≡ false → SameNode (held_node old m) (held_node new m)
  nodes_else m ne = by (held_node old n) refl touched refl where
    by : (g : Option Held) → held_node old n ≡ g → (t : Bool) → touched ≡ t → SameNode (held_node old m) (held_node new m)
    by (Some a) at t on = same_of (held_node old m) (held_node new m) (if_off (same_name n m) (pinned_node who) (held_node mid m) (held_node new m) (b.pinned (subst IsSome (sym (mid_is (Some a) at)) refl) m) ne ∙ mid_else m ne)
    by None at true on = same_of (held_node old m) (held_node new m) (ap (lookup (same_name m)) (b.passed (mid_is None at) on) ∙ mid_else m ne)
    by None at false on = subst (SameNode (held_node old m)) (sym (b.comes (mid_is None at) on m ∙ ap (map_if (points parent m) kid_more) (ap (λ s. cond s (Some (newcomer_node parent node who (children mid n))) (held_node mid m)) ne ∙ mid_else m ne))) (same_if (points parent m) (held_node old m))

  pub node_comes : NodeComesOf who touched (held_node old n) (held_node new n)
  node_comes = by (held_node old n) refl touched refl where
    came : (s : Bool) (kids : ℕ) → touched ≡ false → held_node old n ≡ None → held_node new n ≡ map_if s kid_more (Some (newcomer_node parent node who kids)) → NodeComesOf who touched (held_node old n) (held_node new n)
    came true kids off at is = NodeCame parent node (kids + 1) at off is
    came false kids off at is = NodeCame parent node kids at off is

    by : (g : Option Held) → held_node old n ≡ g → (t : Bool) → touched ≡ t → NodeComesOf who touched (held_node old n) (held_node new n)
    by (Some a) at t on = NodePinned a at
        (if_on (same_name n n) (pinned_node who) (held_node mid n) (held_node new n) (b.pinned (subst IsSome (sym (mid_is (Some a) at)) refl) n) (same_name-refl n) ∙ ap (option_map (pinned_node who)) (mid_is (Some a) at))
    by None at true on = NodePassed at on (ap (lookup (same_name n)) (b.passed (mid_is None at) on) ∙ mid_is None at)
    by None at false on = came (points parent n) (children mid n) on at
        (b.comes (mid_is None at) on n ∙ ap (λ s. map_if (points parent n) kid_more (cond s (Some (newcomer_node parent node who (children mid n))) (held_node mid n))) (same_name-refl n))

  pub new_comes : held_node old n ≡ None → touched ≡ false → (kids : ℕ) × ((m : Name) → held_node new m ≡ map_if (points parent m) kid_more (cond (same_name n m) (Some (newcomer_node parent node who kids)) (held_node old m)))
  new_comes at off = (children mid n, λ m. b.comes (mid_is None at) off m ∙ ap (map_if (points parent m) kid_more) (either (same_name n m) (ended_node false) (Some (newcomer_node parent node who (children mid n))) (held_node old m) (held_node mid m) (b.ended m)))

pub comes_alike : (who : ℕ) (touched : Bool) (g h : Option Held) → NodeComesOf who touched g h → (g ≡ None → touched ≡ true) → AreAlike g h
comes_alike who touched g h (NodePinned a s t) on = subst (λ z. AreAlike z h) (sym s) (subst (AreAlike (Some a)) (sym t) ((ended_quiet false).alike a))
comes_alike who touched g h (NodePassed s p t) on = subst (λ z. AreAlike z h) (sym s) (subst (AreAlike None) (sym t) tt)
comes_alike who touched g h (NodeCame parent node kids s off t) on = absurd (let e : true ≡ false = sym (on s) ∙ off in cc)

-- ---- pages

pub record PageBrings (who : ℕ) (n : Name) (touched : Bool) (version : ℕ) (page : List ℕ) (old mid new : Paged) : Type 0 where
  pub ended : (q : Name) → held_page mid q ≡ map_if (same_name n q) (ended_page false) (held_page old q)
  pub pinned : IsSome (held_page mid n) → PageUpdates mid new n (pinned_page who)
  pub passed : held_page mid n ≡ None → touched ≡ true → new.pages ≡ mid.pages
  pub comes : held_page mid n ≡ None → touched ≡ false → IsComePage mid new who n version page

module _ (who : ℕ) (n : Name) (touched : Bool) (version : ℕ) (page : List ℕ) (old mid new : Paged) (b : PageBrings who n touched version page old mid new) where
  page_mid : (g : Option PageHeld) → held_page old n ≡ g → held_page mid n ≡ option_map (ended_page false) g
  page_mid g at = if_on (same_name n n) (ended_page false) (held_page old n) (held_page mid n) (b.ended n) (same_name-refl n) ∙ ap (option_map (ended_page false)) at

  page_mid_else : (m : Name) → same_name n m ≡ false → held_page mid m ≡ held_page old m
  page_mid_else m ne = if_off (same_name n m) (ended_page false) (held_page old m) (held_page mid m) (b.ended m) ne

  pub pages_else : (m : Name) → same_name n m ≡ false → held_page new m ≡ held_page old m
  pages_else m ne = by (held_page old n) refl touched refl where
    by : (g : Option PageHeld) → held_page old n ≡ g → (t : Bool) → touched ≡ t → held_page new m ≡ held_page old m
    by (Some a) at t on = if_off (same_name n m) (pinned_page who) (held_page mid m) (held_page new m) (b.pinned (subst IsSome (sym (page_mid (Some a) at)) refl) m) ne ∙ page_mid_else m ne
    by None at true on = ap (lookup (same_name m)) (b.passed (page_mid None at) on) ∙ page_mid_else m ne
    by None at false on = b.comes (page_mid None at) on m ∙ (ap (λ s. cond s (Some (newcomer_page version page who)) (held_page mid m)) ne ∙ page_mid_else m ne)

  pub page_comes : PageComesOf who touched (held_page old n) (held_page new n)
  page_comes = by (held_page old n) refl touched refl where
    by : (g : Option PageHeld) → held_page old n ≡ g → (t : Bool) → touched ≡ t → PageComesOf who touched (held_page old n) (held_page new n)
    by (Some a) at t on = PagePinned a at
        (if_on (same_name n n) (pinned_page who) (held_page mid n) (held_page new n) (b.pinned (subst IsSome (sym (page_mid (Some a) at)) refl) n) (same_name-refl n) ∙ ap (option_map (pinned_page who)) (page_mid (Some a) at))
    by None at true on = PagePassed at on (ap (lookup (same_name n)) (b.passed (page_mid None at) on) ∙ page_mid None at)
    by None at false on = PageCame version page at on (b.comes (page_mid None at) on n ∙ ap (λ s. cond s (Some (newcomer_page version page who)) (held_page mid n)) (same_name-refl n))

  pub new_page : held_page old n ≡ None → touched ≡ false → (m : Name) → held_page new m ≡ cond (same_name n m) (Some (newcomer_page version page who)) (held_page old m)
  new_page at off m = b.comes (page_mid None at) off m ∙ either (same_name n m) (ended_page false) (Some (newcomer_page version page who)) (held_page old m) (held_page mid m) (b.ended m)

pub page_alike : (who : ℕ) (touched : Bool) (g h : Option PageHeld) → PageComesOf who touched g h → (g ≡ None → touched ≡ true) → ArePagesAlike g h
page_alike who touched g h (PagePinned a s t) on = subst (λ z. ArePagesAlike z h) (sym s) (subst (ArePagesAlike (Some a)) (sym t) ((ended_page_quiet false).alike a))
page_alike who touched g h (PagePassed s p t) on = subst (λ z. ArePagesAlike z h) (sym s) (subst (ArePagesAlike None) (sym t) tt)
page_alike who touched g h (PageCame version page s off t) on = absurd (let e : true ≡ false = sym (on s) ∙ off in cc)
