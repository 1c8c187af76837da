-- What a request needs, and what near by it doesn't: in a table of two roots a look at `/` needs the root's entry.
use Rattle.std.proofs.Common.{◌≡◌, ℕ, List, [], ◌∷◌, Option, Some, None, IsSome, refl, ap, subst, inl, inr, arith}
use Rattle.std.specs.Prelude.{codes}
use Rattle.iris_blocks.specs.Paged.{Paged}
use Rattle.iris_cache.specs.declared.held.Held.{Held}
use Rattle.iris_cache.specs.Resident.{Resident}
use Rattle.iris_mac.specs.declared.keys.Keys.{Keys}
use Rattle.iris_name.specs.declared.name.FileId.{FileId}
use Rattle.iris_name.specs.declared.name.Name.{Name}
use Rattle.iris_name.specs.declared.name.Name.TheVariants.{Entry, Part, Block}
use Rattle.iris_name.specs.declared.note.Expect.{Expect}
use Rattle.iris_name.specs.declared.request.Request.TheVariants.{Stat}
use Rattle.iris_name.specs.Paths.{names_of}
use Rattle.iris_node.specs.Trees.{Shown}
use Rattle.iris_node.specs.Unfolded.{id_of}
use Rattle.iris_paths.specs.Pictured.{IsAlong, IsOnTrail, nearby, further}
use Rattle.iris_plain.specs.Steps.{OnNames}
use Rattle.iris_records.specs.Shown.{shown}
use Rattle.iris_requests.specs.Needed.{IsNeeded}
use Rattle.iris_requests.proofs.Replies.{on_spelled}
use Rattle.iris_rows.specs.Rows.{empty_table}

-- the entries of the visible root and of the trash
abbrev root : Name
root = Entry (id_of 0)

abbrev trash : Name
trash = Entry (id_of 1)

-- a cache that holds nothing, and one that holds the root's entry
abbrev empty : Resident
empty = record { nodes = []; room = [] }

abbrev holding : Held → Resident
holding h = record { nodes = (root, h) ∷ []; room = [] }

top : names_of (codes "/") ≡ Some []
unfolding names_of
top = refl

-- with no name left nothing more is met
along_names : (t : Shown) (key : List ℕ) (dir : FileId) (names : List (List ℕ)) (n : Name) → IsAlong t key dir names n → names ≡ [] → ⊥
along_names t key dir _ _ (nearby _ n ns rows m h met) e = cc
along_names t key dir _ _ (further _ next n ns rows m h named a) e = cc

number : Name → ℕ
number (Entry id) = id.0
number (Part file level index) = index
number (Block file place) = place

trash_apart : trash ≡ root → ⊥
unfolding number
trash_apart e = let z : 1 ≡ 0 = ap number e in omega (arith, z)

module _ (keys : Keys) (b : Paged) (x : Expect) where
  root_lives : IsSome (shown keys.order empty_table root)
  unfolding shown
  root_lives = refl

  root_needed : IsNeeded keys empty_table (Stat (codes "/")) empty b root x
  root_needed = record {
    reached = on_spelled (names_of (codes "/")) [] (λ names. IsOnTrail keys.order names (shown keys.order empty_table) root) top (inl refl);
    live = root_lives;
    absent = refl;
    expected = inl (inl refl);
    parent = inl (inl refl);
  }

  -- one that is resident isn't needed
  root_held : (h : Held) → IsNeeded keys empty_table (Stat (codes "/")) (holding h) b root x → ⊥
  root_held h n = let e = n.absent in cc

  -- nor is one that isn't reached, though it lives and is absent
  trash_not_reached : IsNeeded keys empty_table (Stat (codes "/")) empty b trash x → ⊥
  trash_not_reached n =
      let trail : IsOnTrail keys.order [] (shown keys.order empty_table) trash = subst (λ o. OnNames o (λ names. IsOnTrail keys.order names (shown keys.order empty_table) trash)) top n.reached in
      elim trail [ inl e ↦ trash_apart e | inr a ↦ along_names (shown keys.order empty_table) keys.order (id_of 0) [] trash a refl ]
