-- Counts of links, by small cases: one that is, and one near by that isn't.
use Rattle.std.proofs.Common.{◌≡◌, ◌≤◌, ◌^◌, ℕ, [], ◌∷◌, true, false, Some, None, refl, ap, arith, lit<, lit≤}
use Rattle.iris_name.specs.declared.name.FileId.{FileId}
use Rattle.iris_node.specs.declared.node.Link.{Link}
use Rattle.iris_node.specs.declared.node.Body.TheVariants.{Dir, File}
use Rattle.iris_node.specs.declared.node.Side.TheVariants.{Fold}
use Rattle.iris_node.specs.declared.node.Node.{Node}
use Rattle.iris_node.specs.declared.node.Node.TheVariants.{Entry, Part}
use Rattle.iris_links.specs.declared.linked.Holders.TheVariants.{Nobody, One, More}
use Rattle.iris_links.specs.Links.{LinkIndex, linked_count, linked_sum, AreHolders, IsLinkedFrom, IsSameSum}
use Rattle.iris_links.specs.Alike.{LeadAlike, target_of}
use Rattle.iris_links.specs.NodeLinks.{links_to, sum_to}

abbrev id : ℕ → FileId
id k = record { 0 = k }

-- one link leads to 5, from 7; and two to 6, from 7 and 8
abbrev some : LinkIndex
some = record { linked = (id 5, record { count = 1; sum = 7 }) ∷ (id 6, record { count = 2; sum = 15 }) ∷ []; partial = false; room = 0 }

counted : linked_count some (id 6) ≡ 2
counted = refl

counted-none : linked_count some (id 7) ≡ 0
counted-none = refl

summed : linked_sum some (id 6) ≡ 15
summed = refl

-- the one that has the link, and no other
one-holds : AreHolders some (id 5) (One (id 7))
one-holds = (refl, refl, refl, lit< tt)

other-holds-none : AreHolders some (id 5) (One (id 8)) → ⊥
other-holds-none h = let e : 8 ≡ 7 = h.2 in omega (arith, e)

-- two are more than one
two-hold : AreHolders some (id 6) More
two-hold = (refl, lit≤ tt)

two-are-more : AreHolders some (id 6) (One (id 15)) → ⊥
two-are-more h = let e : 2 ≡ 1 = h.1 in omega (arith, e)

-- without a link there is nobody, unless a link may be missing
nobody-holds : AreHolders some (id 4) Nobody
nobody-holds = (refl, refl)

nobody-known : AreHolders (record some { partial = true }) (id 4) Nobody → ⊥
nobody-known h = let e : true ≡ false = h.0 in cc

-- the last link is its holder's; of several it may be anybody's
linked-from : IsLinkedFrom some (id 5) (id 7)
linked-from = (lit≤ tt, λ e. refl)

linked-from-other : IsLinkedFrom some (id 5) (id 8) → ⊥
linked-from-other h = let e : 7 ≡ 8 = h.1 refl in omega (arith, e)

linked-from-none : IsLinkedFrom some (id 4) (id 7) → ⊥
linked-from-none h = let e : 1 ≤ 0 = h.0 in omega (arith, e)

-- sums begin again at 2^64
same-sum : IsSameSum (2 ^ 64) 0
same-sum = refl

other-sum : IsSameSum 1 0 → ⊥
other-sum h = let e : 1 ≡ 0 = h in omega (arith, e)

-- a directory with the same entry on its left and inside, and none on its right
abbrev link : ℕ → Link
link k = record { id = id k; hash = record { 0 = [] }; blocks = 0 }

abbrev folder : Node
folder = Entry (record { id = id 7; name = []; left = Some (link 5); right = None; body = Dir (Some (link 5)) })

twice : links_to (id 5) folder ≡ 2
twice = refl

not-itself : links_to (id 7) folder ≡ 0
not-itself = refl

summed-twice : sum_to (id 5) folder ≡ 14
summed-twice = refl

-- neither what is inside a file nor a part is a link
no-link : links_to (id 7) (Part (record { file = id 7; level = 1; index = 0; low = Fold 1; high = Fold 2 })) ≡ 0
no-link = refl

no-link-inside : links_to (id 7) (Entry (record { id = id 7; name = []; left = None; right = None; body = File 0 0 (Fold 0) })) ≡ 0
no-link-inside = refl

-- the same links lead alike, whatever their hashes and counts of blocks; moved from the left to the right they don't, nor in another entry
abbrev other-hash : Node
other-hash = Entry (record { id = id 7; name = []; left = Some (record { id = id 5; hash = record { 0 = 1 ∷ [] }; blocks = 3 }); right = None; body = Dir (Some (link 5)) })

alike : LeadAlike folder other-hash
alike = (refl, refl, refl, refl)

on-the-right : LeadAlike folder (Entry (record { id = id 7; name = []; left = None; right = Some (link 5); body = Dir (Some (link 5)) })) → ⊥
on-the-right h = let e = h.1 in absurd (cc)

of-another : LeadAlike folder (Entry (record { id = id 8; name = []; left = Some (link 5); right = None; body = Dir (Some (link 5)) })) → ⊥
of-another h = let e : 7 ≡ 8 = ap (λ (i : FileId). i.0) h.0 in absurd (omega (arith, e))

targets : (target_of (Some (link 5)) ≡ Some (id 5)) × (target_of None ≡ None)
targets = (refl, refl)
