-- The place of a new path.
use Rattle.std.proofs.Common.{◌≡◌, ◌<◌, ◌-◌, ◌++◌, ℕ, suc, List, [], ◌∷◌, length, get_or, true, false, Some, None, IsSome, refl, sym, ap, subst, ◌∙◌, inl, inr, arith}
use Rattle.iris_name.specs.declared.name.FileId.{FileId}
use Rattle.iris_name.specs.declared.name.Name.{Name}
use Rattle.iris_name.specs.declared.name.Name.TheVariants as name
use Rattle.iris_name.specs.declared.request.PlainError.{PlainError}
use Rattle.iris_name.specs.declared.request.PlainError.TheVariants.{Exists}
use Rattle.iris_node.specs.declared.node.Body.{Body}
use Rattle.iris_node.specs.declared.node.Body.TheVariants as body
use Rattle.iris_node.specs.declared.node.Node.{Node}
use Rattle.iris_node.specs.declared.node.Node.TheVariants as node
use Rattle.iris_node.specs.Nodes.{name_of}
use Rattle.iris_node.specs.Trees.{Shown}
use Rattle.iris_node.specs.Unfolded.{id_of}
use Rattle.iris_cache.specs.declared.held.Short.{Short}
use Rattle.iris_cache.specs.declared.held.Short.TheVariants.{Need, NoMemory}
use Rattle.iris_cache.specs.Resident.{Resident, IsSoundCache}
use Rattle.iris_cache.specs.Drafted.{Drafted, seen, IsDraft}
use Rattle.iris_plain.specs.declared.checks.Seen.{Seen}
use Rattle.iris_plain.specs.declared.checks.Seen.TheVariants.{ADirectory, AFile, Nothing, AFileBefore}
use Rattle.iris_plain.specs.Checks.{new_name, no_place, is_there}
use Rattle.iris_plain.specs.Routes.{parent, last, is_top}
use Rattle.iris_treepaths.specs.Rows.{Row, HasRows}
use Rattle.iris_treepaths.specs.Ways.{IsNamed, along_name}
use Rattle.iris_treepaths.specs.Needs.{Listed, IsMetLack, IsMet}
use Rattle.iris_treepaths.proofs.Owned.{seen_own}
use Rattle.iris_paths.specs.declared.resolving.Found.TheVariants.{Missing}
use Rattle.iris_paths.specs.declared.entering.Place.TheVariants.{In, Not}
use Rattle.iris_paths.specs.Resolving.{root_id, standing_at, Resolves, met_by}
use Rattle.iris_paths.specs.Pictured.{Pictured, IsAlong, nearby, further, IsOnTrail, every, IsPathLack}
use Rattle.iris_paths.specs.Following.{standing_body, standing_node}
use Rattle.iris_paths.specs.Entering.{no_directory, IsEntered, IsDestination}
use Rattle.iris_paths.proofs.Named.{not_both, one_named}
use Rattle.iris_paths.proofs.Steps.{step, ended, differ, like_stands}
use Rattle.iris_paths.proofs.Reaching.{listed, search_lacks, some_seen}
use Rattle.iris_paths.proofs.Entered.{rows_there, one_directory}

-- a path is that of the directory above and its last name
pub ends : (names : List (List ℕ)) → 0 < length names → names ≡ parent names ++ last names ∷ []
ends [] h = absurd (omega arith)
ends (n ∷ []) h = refl
ends (n ∷ m ∷ ns) h = ap (λ l. n ∷ l) (ends (m ∷ ns) (omega arith))

pub last_at : (names : List (List ℕ)) (n : List ℕ) → 0 < length names → get_or names (length names - 1) n ≡ last names
last_at [] n h = absurd (omega arith)
last_at (m ∷ []) n h = refl
last_at (m ∷ k ∷ ns) n h = let e : length (m ∷ k ∷ ns) - 1 ≡ suc (length (k ∷ ns) - 1) = omega arith in ap (λ i. get_or (m ∷ k ∷ ns) i n) e ∙ last_at (k ∷ ns) n (omega arith)

pub not_top : (names : List (List ℕ)) → 0 < length names → is_top names ≡ false
not_top [] h = absurd (omega arith)
not_top (n ∷ ns) h = refl

-- what is met on the way to a directory is met on the way on from it
pub along_more : (t : Shown) (key : List ℕ) (dir : FileId) (names more : List (List ℕ)) (m : Name) → IsAlong t key dir names m → IsAlong t key dir (names ++ more) m
along_more t key dir _ more m (nearby _ n ns rows _ h e) = nearby dir n (ns ++ more) rows m h e
along_more t key dir _ more m (further _ next n ns rows _ h e a) = further dir next n (ns ++ more) rows m h e (along_more t key next ns more m a)

pub trail_more : (t : Shown) (key : List ℕ) (names more : List (List ℕ)) (m : Name) → IsOnTrail key names t m → IsOnTrail key (names ++ more) t m
trail_more t key names more m h = elim h [ inl e ↦ inl e | inr a ↦ inr (along_more t key root_id names more m a) ]

-- a plan that meets more lacks what another lacks
pub lack_more : (key : List ℕ) (names more whole : List (List ℕ)) (d : Drafted) (c : Resident) (e : Short) → whole ≡ names ++ more → IsPathLack key every (IsOnTrail key names) d c e → IsPathLack key every (IsOnTrail key whole) d c e
lack_more key names more whole d c (Need n x) same h = record {
  unset = h.unset;
  absent = h.absent;
  needed = λ old new met pic.
      let w = h.needed old new met pic in
      (subst (λ l. IsOnTrail key l new n) (sym same) (trail_more new key names more n w.0), w.1);
}
lack_more key names more whole d c NoMemory same h = h

-- the checks of a new name, by what its directory and it are seen as
seen_place : (met : List (List ℕ) → Seen) (names : List (List ℕ)) (above here : Seen) → 0 < length names → met (parent names) ≡ above → met names ≡ here → no_place met false names ≡ new_name false above here false
seen_place met names above here some a h =
    ap (λ t. new_name t (met (parent names)) (met names) false) (not_top names some) ∙ (ap (λ s. new_name false s (met names) false) a ∙ ap (λ s. new_name false above s false) h)

shut_place : (s here : Seen) (e : PlainError) → no_directory s ≡ Some e → new_name false s here false ≡ Some e
shut_place ADirectory here e h = cc
shut_place (AFile size) here e h = h
shut_place Nothing here e h = h
shut_place AFileBefore here e h = h

full_place : (s : Seen) → is_there s ≡ true → new_name false ADirectory s false ≡ Some Exists
full_place ADirectory h = refl
full_place (AFile size) h = refl
full_place Nothing h = cc
full_place AFileBefore h = cc

body_there : (b : Body) → is_there (standing_body b) ≡ true
body_there (body.Dir top) = refl
body_there (body.File size counter versions) = refl

pub node_there : (id : FileId) (n : Node) → name_of n ≡ name.Entry id → is_there (standing_node n) ≡ true
node_there id (node.Entry e) own = body_there e.body
node_there id (node.Part p) own = cc

-- there is no place where there is no directory above
pub no_above : (d : Drafted) (c : Resident) (names : List (List ℕ)) (e : PlainError) → 0 < length names → IsEntered d c (parent names) (Not e) → IsDestination d c names (Not e)
no_above d c names e some entered key met old new pic = seen_place met names (met (parent names)) (met names) some refl refl ∙ shut_place (met (parent names)) (met names) e (entered key met old new pic)

module _ (d : Drafted) (c : Resident) (names : List (List ℕ)) (dir : FileId) (some : 0 < length names) (entered : IsEntered d c (parent names) (In dir)) where
  -- what a search for the last name meets is on the trail of the path
  on_trail : (key : List ℕ) (met : List (List ℕ) → Seen) (old new : Shown) → Pictured key met d c old new → (rows : List Row) (m : Name) → HasRows new key dir rows → IsMet dir (along_name (last names) key rows) m → IsOnTrail key names new m
  on_trail key met old new pic rows m has h =
      let at = entered.1 key met old new pic in
      let f = pic.meets (parent names ++ last names ∷ []) in
      subst (λ l. IsOnTrail key l new m) (sym (ends names some)) (inr (at.along (last names ∷ []) f.0 f.1 m (nearby dir (last names) [] rows m has h)))

  pub find_lacks : (e : Short) (key : List ℕ) → IsMetLack (Listed key dir d c) (along_name (last names) key) d c dir e → IsPathLack key every (IsOnTrail key names) d c e
  find_lacks e key h = search_lacks key d c dir (last names) every (IsOnTrail key names) e h (λ met old new pic _.
      let r = rows_there (parent names) dir key met d c old new pic (entered.1 key met old new pic) in
      (r.0, r.1, λ m k. on_trail key met old new pic r.0 m r.1 k))

  -- the directory that has no such name is the place
  pub free : ((key : List ℕ) (old new : Shown) (rows : List Row) → Listed key dir d c old new rows → IsNamed rows (last names) None) → IsDestination d c names (In dir)
  free unnamed = (
    entered.0,
    some,
    λ key met old new pic.
        let at = entered.1 key met old new pic in
        let f = pic.meets names in
        let on = at.onward (last names ∷ []) f.0 (subst (λ l. Resolves new key l f.0) (ends names some) f.1) in
        let r = rows_there (parent names) dir key met d c old new pic at in
        let gone : f.0 ≡ Missing = elim (step new key dir at.above (last names) [] f.0 on) [
          | inl k ↦ absurd (differ k.0 (standing_at new dir) at.folder k.1)
          | inr k ↦ elim k.2 [ inl e ↦ e.1 | inr e ↦ absurd (not_both k.0 (last names) e.0.0 (unnamed key old new k.0 (listed dir k.0 pic k.1)) e.1) ]
        ] in
        record {
          above = at.above;
          leads = at.leads;
          one = λ other beyond l. one_directory (parent names) dir other beyond key met new at l;
          allowed = seen_place met names ADirectory Nothing some at.stands (f.2 ∙ ap (met_by new) gone);
          unnamed = λ rows has. unnamed key old new rows (listed dir rows pic has);
          along = λ rows m has h. on_trail key met old new pic rows m has h;
          rows = r.0;
          has = r.1;
        },
  )

  -- where a row has the name, it exists
  pub full : (id : FileId) → IsDraft d → IsSoundCache c → IsSome (seen d c (name.Entry id)) → ((key : List ℕ) (old new : Shown) (rows : List Row) → Listed key dir d c old new rows → IsNamed rows (last names) (Some id.0)) → IsDestination d c names (Not Exists)
  full id ds cs there named key met old new pic =
      let at = entered.1 key met old new pic in
      let f = pic.meets names in
      let on = at.onward (last names ∷ []) f.0 (subst (λ l. Resolves new key l f.0) (ends names some) f.1) in
      let s = some_seen (seen d c (name.Entry id)) there in
      let is : standing_at new id ≡ standing_node s.0 = like_stands (new (name.Entry id)) s.0 (pic.drafts.nodes (name.Entry id) s.0 s.1) in
      let here : is_there (met names) ≡ true = elim (step new key dir at.above (last names) [] f.0 on) [
        | inl k ↦ absurd (differ k.0 (standing_at new dir) at.folder k.1)
        | inr k ↦
            let mine = named key old new k.0 (listed dir k.0 pic k.1) in
            elim k.2 [
              | inl e ↦ absurd (not_both k.0 (last names) id.0 e.0 mine)
              | inr e ↦
                  let same : e.0 ≡ id = ap id_of (one_named k.0 (last names) e.0.0 id.0 k.1.rising e.1 mine) in
                  ap is_there (f.2 ∙ ap (met_by new) (ended new key e.0 dir f.0 e.2) ∙ ap (standing_at new) same ∙ is) ∙ node_there id s.0 (seen_own d c (name.Entry id) s.0 ds cs s.1)
            ]
      ] in
      seen_place met names ADirectory (met names) some at.stands refl ∙ full_place (met names) here
