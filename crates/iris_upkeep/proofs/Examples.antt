-- Examples beside the definitions: one that is, and one near by that isn't.
use Rattle.std.proofs.Common.{◌≡◌, inl, inr, ℕ, zero, suc, Bool, true, false, [], ◌∷◌, Option, Some, None, refl, ap, sym, true≢false, is_some}
use Rattle.iris_name.specs.declared.name.Hash32.{Hash32}
use Rattle.iris_name.specs.declared.name.Name.{Name}
use Rattle.iris_name.specs.declared.name.Name.TheVariants as name
use Rattle.iris_node.specs.declared.node.Side.TheVariants.{Fold, Below}
use Rattle.iris_node.specs.declared.node.Node.{Node}
use Rattle.iris_node.specs.declared.node.Node.TheVariants.{Part}
use Rattle.iris_node.specs.Trees.{Shown}
use Rattle.iris_cache.specs.declared.held.Held.{Held}
use Rattle.iris_cache.specs.Applied.{is_above_within}
use Rattle.iris_cache.specs.Held.{settled_so}
use Rattle.iris_cache.specs.Pictures.{Holds}
use Rattle.iris_cache.specs.Rehash.{with_hash}
use Rattle.iris_cache.specs.Resident.{Resident, resident_parent}
use Rattle.iris_upkeep.specs.declared.descent.What.TheVariants.{Dirty, Unsettled}
use Rattle.iris_upkeep.specs.Children.{HasChild, HasHash}
use Rattle.iris_upkeep.specs.Marks.{HoldsHashOf, IsAtOrBelow, IsMarked, PicturesTree}
use Rattle.iris_upkeep.specs.SettlesInto.{SettlesInto, StaysOrIsTold}

some-hash : Hash32
some-hash = record { 0 = [] }

abbrev over : Name
over = name.Part (record { 0 = 5 }) 3 4

abbrev under : Name
under = name.Part (record { 0 = 5 }) 2 8

abbrev beside : Name
beside = name.Part (record { 0 = 5 }) 2 9

-- the part of eight places whose first half is a part and whose second half is of one version
abbrev eight : Node
eight = Part (record { file = record { 0 = 5 }; level = 3; index = 4; low = Below some-hash; high = Fold 7 })

abbrev four : Node
four = Part (record { file = record { 0 = 5 }; level = 2; index = 8; low = Fold 1; high = Fold 2 })

abbrev held-over : Held
held-over = record { node = eight; parent = None; kids = 1; pins = 0; dirty = true; settled = false; out = None; touched = false }

abbrev held-under : Held
held-under = record { node = four; parent = Some over; kids = 0; pins = 0; dirty = true; settled = true; out = None; touched = false }

abbrev two : Resident
two = record { nodes = (over, held-over) ∷ (under, held-under) ∷ []; room = [] }

-- the half below is a child, and the half of one version isn't
half-held : HasHash (Holds eight under)
half-held = (some-hash, inl (refl, refl))

differ-names : beside ≡ under → ⊥
differ-names e = cc

even-half : HasHash (Holds eight beside) → ⊥
even-half (x, inl h) = differ-names h.0
even-half (x, inr h) = h

named-top : HasChild (record { left = None; right = None; top = Some under }) under
named-top = inr (inr refl)

no-name : HasChild (record { left = None; right = None; top = None }) under → ⊥
no-name (inl e) = cc
no-name (inr (inl e)) = cc
no-name (inr (inr e)) = cc

-- a node may be dirty and settled; what isn't resident has no mark
under-dirty : IsMarked Dirty two under
under-dirty = refl

under-settled : IsMarked Unsettled two under → ⊥
under-settled e = true≢false e

absent-unmarked : IsMarked Dirty two beside → ⊥
absent-unmarked e = e

over-holds : HoldsHashOf two over under
over-holds = half-held

under-holds-none : HoldsHashOf two under beside → ⊥
under-holds-none (x, inl h) = h
under-holds-none (x, inr h) = h

-- a node is at itself, and below its parent; the parent isn't below it
at-itself : IsAtOrBelow two under under
at-itself = (1, refl)

below-parent : IsAtOrBelow two under over
below-parent = (2, refl)

not-above : (k : ℕ) → is_above_within (resident_parent two) k (Some over) under ≡ true → ⊥
not-above zero e = true≢false (sym e)
not-above (suc zero) e = true≢false (sym e)
not-above (suc (suc k)) e = true≢false (sym e)

-- what becomes settled, or is told a hash; not what ceases to be settled, is pinned, goes or comes
becomes-settled : SettlesInto (Some held-over) (Some (settled_so held-over))
becomes-settled = (refl, (refl, λ s. refl))

is-told : SettlesInto (Some held-over) (Some (with_hash under (record { 0 = 1 ∷ [] }) held-over))
is-told = (refl, (refl, λ s. s))

ceases : SettlesInto (Some held-under) (Some (record held-under { settled = false })) → ⊥
ceases e = true≢false (sym (e.1.1 refl))

goes : SettlesInto (Some held-under) None → ⊥
goes e = e

stays-itself : StaysOrIsTold two two under over
stays-itself = inl refl

-- an empty cache pictures a tree, the empty one; one whose node has a parent that isn't resident pictures none
none-there : {A : Type 0} (a : A) → None ≡ Some a → ⊥
none-there a e = true≢false (ap (λ o. is_some o) (sym e))

nothing : Shown
nothing n = None

empty-pictures : PicturesTree (record { nodes = []; room = [] })
unfolding nothing
empty-pictures = (
  nothing,
  record {
    nodes = λ n h at. absurd (none-there h at);
    hashes = λ n m h x at. absurd (none-there h at);
    parents = λ n p h at. absurd (none-there h at);
    tied = λ n p h at. absurd (none-there h at);
    rising = λ n p h g at. absurd (none-there h at);
  },
  (record { own = λ n m u at. absurd (none-there u at); below = λ p n u w at. absurd (none-there u at); once = λ n p q f. absurd (none-there f.parent f.live) }, λ n u at. absurd (none-there u at)),
)

abbrev orphaned : Resident
orphaned = record { nodes = (under, held-under) ∷ []; room = [] }

orphan-pictures-none : PicturesTree orphaned → ⊥
orphan-pictures-none p = true≢false (sym ((p.1.parents under over held-under refl (p.1.tied under over held-under refl refl)).1))

-- a parent is told; another node isn't
told-parent : StaysOrIsTold two (record { nodes = (over, with_hash under (record { 0 = 1 ∷ [] }) held-over) ∷ (under, held-under) ∷ []; room = [] }) under over
told-parent = inr (refl, (record { 0 = 1 ∷ [] }, refl))

is_settled : Option Held → Bool
is_settled None = true
is_settled (Some h) = h.settled

unsettles : StaysOrIsTold two (record { nodes = (over, held-over) ∷ (under, record held-under { settled = false }) ∷ []; room = [] }) over under → ⊥
unfolding is_settled
unsettles (inl e) = true≢false (sym (ap (λ o. is_settled o) e))
unsettles (inr r) = none-there under r.0
