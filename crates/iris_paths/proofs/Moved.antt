-- A row moved under a new name.
use Rattle.std.proofs.Common.{◌≡◌, ◌<◌, ◌++◌, ◌∙◌, ℕ, List, [], ◌∷◌, length, Bool, true, false, Option, Some, None, IsSome, refl, sym, ap, subst, inl, inr, arith}
use Rattle.std.proofs.lemmas.List.{append-nil}
use Rattle.std.proofs.lemmas.Bool.{eqb-true}
use Rattle.std.proofs.Common.{eq-eqb, ◌==◌}
use Rattle.iris_name.specs.declared.name.FileId.{FileId}
use Rattle.iris_name.specs.declared.name.Name.{Name}
use Rattle.iris_name.specs.declared.name.Name.TheVariants as name
use Rattle.iris_name.specs.declared.request.PlainError.{PlainError}
use Rattle.iris_name.specs.declared.request.PlainError.TheVariants.{IntoSelf}
use Rattle.iris_node.specs.declared.node.Body.{Body}
use Rattle.iris_node.specs.declared.node.Body.TheVariants as body
use Rattle.iris_node.specs.declared.node.Node.{Node}
use Rattle.iris_node.specs.Fields.{EntryFields}
use Rattle.std.specs.Option.{option_map}
use Rattle.iris_node.specs.Local.{Local, FolderAt, LeafAt, SplitAt, local, entry_local}
use Rattle.iris_node.specs.Trees.{Shown, IsTree}
use Rattle.iris_node.specs.Unfolded.{Absent, id_of}
use Rattle.iris_shape.specs.Treap.{rows_with, rows_without, treap}
use Rattle.iris_cache.specs.declared.held.Short.{Short}
use Rattle.iris_cache.specs.declared.held.Short.TheVariants.{Need, NoMemory}
use Rattle.iris_cache.specs.declared.draft.Change.{Change}
use Rattle.iris_cache.specs.Resident.{Resident, held_node, IsSoundCache}
use Rattle.iris_cache.specs.Drafted.{Drafted, drafted, seen, IsDraft}
use Rattle.iris_cache.specs.Pictures.{Drafts}
use Rattle.iris_plain.specs.declared.checks.Seen.{Seen}
use Rattle.iris_plain.specs.declared.checks.Seen.TheVariants.{ADirectory, AFile, Nothing, AFileBefore}
use Rattle.iris_plain.specs.Checks.{unresolved, move_checks, no_place, then_error, error_if, is_there}
use Rattle.iris_plain.specs.Routes.{parent, last, is_top, is_front}
use Rattle.iris_treepaths.specs.Rows.{Row, Content, Directory, File, HasRows, Rearranges, IsCountable, entry_of, up}
use Rattle.iris_treepaths.specs.Hands.{Holding, IsRowNode, HoldsTrue}
use Rattle.iris_treepaths.specs.Ways.{Any, is_row_before, has_name, along_name}
use Rattle.iris_treepaths.specs.Needs.{Listed, ListedInHand, IsMetShort, IsMet}
use Rattle.iris_treepaths.proofs.Owned.{seen_own}
use Rattle.iris_paths.specs.declared.resolving.Found.{Found}
use Rattle.iris_paths.specs.declared.resolving.Found.TheVariants.{At}
use Rattle.iris_paths.specs.declared.entering.Place.TheVariants.{In, Not}
use Rattle.iris_paths.specs.Resolving.{root_id, Leads, Resolves}
use Rattle.iris_paths.specs.Pictured.{Pictured, IsOnTrail, IsPathLack, every, AreInSight}
use Rattle.iris_paths.specs.Following.{Follows, standing_seen, met_seen}
use Rattle.iris_paths.specs.Entering.{IsDestination, Welcomes}
use Rattle.iris_paths.specs.Making.{IsWhole}
use Rattle.iris_paths.specs.Moving.{IsMovable, renamed_row, Takes, Puts, IsSource, IsMoved, IsCarryShort, IsMoveShort}
use Rattle.iris_treepaths.proofs.Likes.{placed_rows}
use Rattle.iris_paths.proofs.Alike.{AnyNamed, any_alike}
use Rattle.iris_paths.proofs.Reach.{same_reach, other_alike, live_along, live_near, live_folder}
use Rattle.iris_paths.proofs.Steps.{step, ended}
use Rattle.iris_paths.proofs.Reaching.{listed}
use Rattle.iris_paths.proofs.Arriving.{comes, meets_so}
use Rattle.iris_paths.proofs.Welcome.{node_there, not_top}

-- ---- out of which directory

there_resolved : (s : Seen) → is_there s ≡ true → unresolved s ≡ None
there_resolved ADirectory h = refl
there_resolved (AFile size) h = refl
there_resolved Nothing h = cc
there_resolved AFileBefore h = cc

seen_resolved : (d : Drafted) (c : Resident) (id : FileId) (o : Option Node) → IsDraft d → IsSoundCache c → seen d c (name.Entry id) ≡ o → unresolved (standing_seen o) ≡ None
seen_resolved d c id None ds cs e = refl
seen_resolved d c id (Some n) ds cs e = there_resolved (standing_seen (Some n)) (node_there id n (seen_own d c (name.Entry id) n ds cs e))

same_parent : (a b p q : FileId) → At a p ≡ At b q → p ≡ q
same_parent a b p q e = cc

pub source_in : (d : Drafted) (c : Resident) (from to : List (List ℕ)) (id dir : FileId) → Follows d c from (At id dir) → AreInSight d c (At id dir) → IsDraft d → IsSoundCache c → 0 < length from → is_front from to ≡ false → IsSource d c from to (In dir)
source_in d c from to id dir follows sight ds cs some front = (
  sight.1,
  some,
  front,
  λ key met old new pic.
      let on = λ (more : List (List ℕ)) (found : Found) (r : Resolves new key (from ++ more) found). (follows key met old new more found pic r).0 in (
        ap unresolved (meets_so d c from (At id dir) (met_seen d c (At id dir)) follows sight refl key met old new pic) ∙ seen_resolved d c id (seen d c (name.Entry id)) ds cs refl,
        λ other out r. same_parent other id out dir (ended new key id dir (At other out) (on [] (At other out) (subst (λ l. Resolves new key l (At other out)) (sym (append-nil from)) r))),
        (id, (comes key met d c old new pic from (At id dir) on).0),
      ),
)

-- the checks of a move, by what the path is seen as
seen_move : (met : List (List ℕ) → Seen) (from : List (List ℕ)) (s : Seen) (front : Bool) (rest : Option PlainError) → 0 < length from → met from ≡ s → move_checks (is_top from) (met from) front rest ≡ move_checks false s front rest
seen_move met from s front rest some e = ap (λ t. move_checks t (met from) front rest) (not_top from some) ∙ ap (λ z. move_checks false z front rest) e

pub source_not : (d : Drafted) (c : Resident) (from to : List (List ℕ)) (r : Found) (e : PlainError) → Follows d c from r → AreInSight d c r → 0 < length from → unresolved (met_seen d c r) ≡ Some e → IsSource d c from to (Not e)
source_not d c from to r e follows sight some check = λ key met old new pic rest.
    seen_move met from (met_seen d c r) (is_front from to) rest some (meets_so d c from r (met_seen d c r) follows sight refl key met old new pic)
    ∙ ap (λ o. then_error o (then_error (error_if (is_front from to) IntoSelf) rest)) check

into_self : (s : Seen) (front : Bool) (rest : Option PlainError) → unresolved s ≡ None → front ≡ true → move_checks false s front rest ≡ Some IntoSelf
into_self s front rest e f = ap (λ o. then_error o (then_error (error_if front IntoSelf) rest)) e ∙ ap (λ b. then_error (error_if b IntoSelf) rest) f

pub source_below : (d : Drafted) (c : Resident) (from to : List (List ℕ)) (id dir : FileId) → Follows d c from (At id dir) → AreInSight d c (At id dir) → IsDraft d → IsSoundCache c → 0 < length from → is_front from to ≡ true → IsSource d c from to (Not IntoSelf)
source_below d c from to id dir follows sight ds cs some front = λ key met old new pic rest.
    let s = met_seen d c (At id dir) in
    seen_move met from s (is_front from to) rest some (meets_so d c from (At id dir) s follows sight refl key met old new pic)
    ∙ into_self s (is_front from to) rest (seen_resolved d c id (seen d c (name.Entry id)) ds cs refl) front

pub moves_on : (met : List (List ℕ) → Seen) (from to : List (List ℕ)) (rest : Option PlainError) → 0 < length from → unresolved (met from) ≡ None → is_front from to ≡ false → move_checks (is_top from) (met from) (is_front from to) rest ≡ rest
moves_on met from to rest some e f =
    seen_move met from (met from) (is_front from to) rest some refl ∙ (ap (λ o. then_error o (then_error (error_if (is_front from to) IntoSelf) rest)) e ∙ ap (λ b. then_error (error_if b IntoSelf) rest) f)

-- ---- a row in hand gets another name

-- what a node says by itself, under another name
relabel : List ℕ → Local → Local
relabel anew (FolderAt id label less more inside) = FolderAt id anew less more inside
relabel anew (LeafAt id label less more size counter even) = LeafAt id anew less more size counter even
relabel anew (SplitAt file level index low high) = SplitAt file level index low high

row_relabel : (id : ℕ) (label anew : List ℕ) (x : Content) → option_map (relabel anew) (local (entry_of id label x Absent Absent)) ≡ local (entry_of id anew x Absent Absent)
unfolding relabel
row_relabel id label anew (Directory inside) = refl
row_relabel id label anew (File size counter versions) = refl

entry_relabel : (i : FileId) (other anew : List ℕ) (b : Body) → relabel anew (entry_local (record { id = i; name = other; left = None; right = None; body = b }) b) ≡ entry_local (record { id = i; name = anew; left = None; right = None; body = b }) b
unfolding relabel
entry_relabel i other anew (body.Dir top) = refl
entry_relabel i other anew (body.File size counter versions) = refl

like_by : (id : ℕ) (label other : List ℕ) (x : Content) (i : FileId) (b : Body) → local (entry_of id label x Absent Absent) ≡ Some (entry_local (record { id = i; name = other; left = None; right = None; body = b }) b)
    → (anew : List ℕ) → local (entry_of id anew x Absent Absent) ≡ Some (entry_local (record { id = i; name = anew; left = None; right = None; body = b }) b)
like_by id label other x i b h anew = sym (row_relabel id label anew x) ∙ (ap (option_map (relabel anew)) h ∙ ap Some (entry_relabel i other anew b))

abbrev pub alone : EntryFields → List ℕ → EntryFields
alone e label = record { id = e.id; name = label; left = None; right = None; body = e.body }

like_renamed : (x : Row) (e : EntryFields) (label : List ℕ) → IsRowNode x e → IsRowNode (renamed_row label x) (alone e label)
like_renamed x e label h = like_by x.id x.name e.name x.content e.id e.body h label

in_hand : (key : List ℕ) (into : FileId) (label : List ℕ) (x : Row) (others : List Row) (old mid : Shown) (d : Drafted) (c : Resident) → IsTree old → IsWhole old → IsTree mid → Holding old mid (Some x) d c → HasRows mid key into others → ListedInHand key into (renamed_row label x) d c old mid others
in_hand key into label x others old mid d c was rooted is hand has = record { was = was; rooted = rooted.0; formed = rooted.1; is = is; hand = hand; rows_are = has }

unset_by : (d : Drafted) (c : Resident) (old new : Shown) (n : Name) (o : Option Change) → Drafts old new d c → drafted d n ≡ o → held_node c n ≡ None → IsSome (old n) → o ≡ None
unset_by d c old new n None p e absent lived = refl
unset_by d c old new n (Some change) p e absent lived = elim (p.resident n change e) [ inl s ↦ cc | inr z ↦ cc ]

any_row : Row
any_row = record { id = 0; name = []; content = Directory Absent }

module _ (key : List ℕ) (out : FileId) (name : List ℕ) (into : FileId) (label : List ℕ) (d e : Drafted) (c : Resident) (entry : EntryFields)
    (removed : (old new made : Shown) (x : Row) (rows : List Row) → Listed key out d c old new rows → Any (λ r. r ≡ x) rows → x.name ≡ name → IsTree made → IsCountable made
    → Rearranges new made key out rows (rows_without (has_name name) rows) → Holding old made (Some x) e c × IsRowNode x entry × HoldsTrue old c entry) where
  taken : (old new mid : Shown) (x : Row) (rows : List Row) → IsTree old → IsTree new → Drafts old new d c → Takes key out name x rows new mid → Holding old mid (Some x) e c × IsRowNode x entry × HoldsTrue old c entry
  taken old new mid x rows was is drafts t = removed old new mid x rows (record { was = was; is = is; drafts = drafts; rows_are = t.has }) t.among t.named t.tree t.countable t.arranges

  pub carries : (f : Drafted) (node : EntryFields) → node ≡ alone entry label
      → ((old new made : Shown) (x : Row) (rows : List Row) → ListedInHand key into x e c old new rows → IsRowNode x node → HoldsTrue old c node → IsTree made → IsCountable made → Rearranges new made key into rows (rows_with (is_row_before x.name) x rows) → Drafts old made f c)
      → (old new mid made : Shown) (x : Row) (rows others : List Row) → IsTree old → IsTree new → Drafts old new d c → IsWhole old → Takes key out name x rows new mid → Puts key into label x others mid made → Drafts old made f c
  carries f node same inserted old new mid made x rows others was is drafts rooted t p =
      let h = taken old new mid x rows was is drafts t in
      inserted old mid made (renamed_row label x) others (in_hand key into label x others old mid e c was rooted t.tree h.0 p.has)
      (subst (IsRowNode (renamed_row label x)) (sym same) (like_renamed x entry label h.1)) (subst (HoldsTrue old c) (sym same) h.2) p.tree p.countable p.arranges

  pub carry_lacks : (short : Short) (called : List ℕ) → called ≡ label → ((x : Row) → IsMetShort (ListedInHand key into x e c) (along_name called key) e c into short) → IsCarryShort key out name into label d c short
  carry_lacks (Need n w) called same lacks = inr (record {
    absent = (lacks any_row).absent;
    needed = λ old new mid x rows others was is drafts rooted t has.
        let h = taken old new mid x rows was is drafts t in
        let l = lacks (renamed_row label x) in
        let k = l.needed old mid others (in_hand key into label x others old mid e c was rooted t.tree h.0 has) in
        (unset_by d c old new n (drafted d n) drafts refl l.absent k.1.lived, subst (λ m. IsMet into (along_name m key others) n) same k.0, k.1);
  })
  carry_lacks NoMemory called same lacks = tt

-- ---- what a renaming lacks

pub trail_lacks : (key : List ℕ) (from to names : List (List ℕ)) (d : Drafted) (c : Resident) (e : Short) → ((t : Shown) (n : Name) → IsOnTrail key names t n → IsMoved key from to t n) → IsPathLack key every (IsOnTrail key names) d c e → IsMoveShort key from to d c e
trail_lacks key from to names d c (Need n x) f h = inl (record {
  unset = h.unset;
  absent = h.absent;
  needed = λ old new met pic. let w = h.needed old new met pic in (f new n w.0, w.1);
})
trail_lacks key from to names d c NoMemory f h = tt

differ : true ≡ false → ⊥
differ h = cc

-- what is met towards the new name with the row in hand is reached before
moved_reach : (key : List ℕ) (met : List (List ℕ) → Seen) (from to : List (List ℕ)) (d : Drafted) (c : Resident) (old new : Shown) → Pictured key met d c old new → (m : IsMovable key from old new) (into : FileId) → Welcomes to into key met new
    → (others : List Row) → HasRows m.mid key into others → (n : Name) → IsMet into (along_name (last to) key others) n → IsMoved key from to new n × IsSome (new n)
moved_reach key met from to d c old new pic m into at others then n h = elim h [
  | inl e ↦ (inr (inl (at.along at.rows n at.has (inl e))), subst (λ k. IsSome (new k)) (sym e) (live_folder into.0 _ (new (name.Entry into)) at.has.entry))
  | inr k ↦ by (into.0 == m.out.0) refl k
]
  where
    by : (b : Bool) → (into.0 == m.out.0) ≡ b → AnyNamed n (along_name (last to) key others) → IsMoved key from to new n × IsSome (new n)
    by true e k =
        let same : into ≡ m.out = ap id_of (eqb-true into.0 m.out.0 e) in
        let has = subst (λ i. HasRows new key i m.rows) (sym same) m.takes.has in
        let placed = placed_rows new key m.out m.rows pic.is m.takes.has in
        same_reach key (last from) (last to) new m.mid m.out m.rows others (λ k. IsMoved key from to new k × IsSome (new k)) m.takes.has m.takes.arranges.rows (subst (λ i. HasRows m.mid key i others) same then) (at.unnamed m.rows has)
        (λ l a. (inr (inl (at.along m.rows l has (inr a))), live_along new (treap (up key) m.rows) (is_row_before (last to)) (has_name (last to)) l placed a))
        (λ l a. (inr (inr (record { id = m.id; dir = m.out; rows = m.rows; leads = m.leads; has = m.takes.has; met = inr a })), live_near new (treap (up key) m.rows) (is_row_before (last from)) (has_name (last from)) l placed a))
        n k
    by false e k =
        let off = λ (z : into.0 ≡ m.out.0). let t = eq-eqb into.0 m.out.0 z in differ (sym t ∙ e) in
        let same = other_alike key (last from) new m.mid m.out into m.rows others at.rows pic.is m.takes.tree off m.takes.has m.takes.arranges at.has then in
        let a = any_alike (last to) n (treap (up key) others) (treap (up key) at.rows) same k in
        (inr (inl (at.along at.rows n at.has (inr a))), live_along new (treap (up key) at.rows) (is_row_before (last to)) (has_name (last to)) n (placed_rows new key into at.rows pic.is at.has) a)

-- a path that leads somewhere leads there from a directory that has rows
dir_rows : (t : Shown) (key : List ℕ) (id above : FileId) (n : List ℕ) (ns : List (List ℕ)) (i dir : FileId) → Leads t key id above (n ∷ ns) (At i dir) → (rows : List Row) × HasRows t key dir rows
dir_rows t key id above n [] i dir l = elim (step t key id above n [] (At i dir) l) [
  | inl a ↦ absurd (let e = a.2 in cc)
  | inr r ↦ elim r.2 [
    | inl a ↦ absurd (let e = a.1 in cc)
    | inr a ↦ (let same = same_parent i a.0 dir id (ended t key a.0 id (At i dir) a.2) in (r.0, subst (λ z. HasRows t key z r.0) (sym same) r.1))
  ]
]
dir_rows t key id above n (m ∷ ms) i dir l = elim (step t key id above n (m ∷ ms) (At i dir) l) [
  | inl a ↦ absurd (let e = a.2 in cc)
  | inr r ↦ elim r.2 [ inl a ↦ absurd (let e = a.1 in cc) | inr a ↦ dir_rows t key a.0 id m ms i dir a.2 ]
]

path_rows : (t : Shown) (key : List ℕ) (names : List (List ℕ)) (i dir : FileId) → 0 < length names → Resolves t key names (At i dir) → (rows : List Row) × HasRows t key dir rows
path_rows t key [] i dir some l = absurd (omega (arith, some))
path_rows t key (n ∷ ns) i dir some l = dir_rows t key root_id root_id n ns i dir l

-- the checks of the new name are the last of a move's
pub rest_of_checks : (key : List ℕ) (met : List (List ℕ) → Seen) (from to : List (List ℕ)) (out : FileId) (d : Drafted) (c : Resident) (old new : Shown) (rest : Option PlainError) → IsSource d c from to (In out) → Pictured key met d c old new
    → move_checks (is_top from) (met from) (is_front from to) rest ≡ rest
rest_of_checks key met from to out d c old new rest source pic = moves_on met from to rest source.1 (source.3 key met old new pic).0 source.2

pub move_lacks : (key : List ℕ) (from to : List (List ℕ)) (out into : FileId) (d : Drafted) (c : Resident) (e : Short) → IsSource d c from to (In out) → IsDestination d c to (In into) → IsCarryShort key out (last from) into (last to) d c e → IsMoveShort key from to d c e
move_lacks key from to out into d c (Need n x) source place h = elim h [
  | inl k ↦ inl (record {
    unset = k.unset;
    absent = k.absent;
    needed = λ old new met pic.
        let s = (source.3 key met old new pic.0).2 in
        let r = path_rows new key from s.0 out source.1 s.1 in
        let w = k.needed old new r.0 (listed out r.0 pic.0 r.1) in
        (inr (inr (record { id = s.0; dir = out; rows = r.0; leads = s.1; has = r.1; met = w.0 })), w.1);
  })
  | inr k ↦ inr (record {
    absent = k.absent;
    passes = λ met old new pic. rest_of_checks key met from to out d c old new (no_place met false to) source pic ∙ (place.2 key met old new pic).allowed;
    needed = λ met old new pic m there beyond others leads has.
        let same = (source.3 key met old new pic).1 m.id m.out m.leads in
        let here = (place.2 key met old new pic).one there beyond leads in
        let w = k.needed old new m.mid m.row m.rows others pic.was pic.is pic.drafts m.whole (subst (λ i. Takes key i (last from) m.row m.rows new m.mid) same m.takes) (subst (λ i. HasRows m.mid key i others) here has) in
        let at = place.2 key met old new pic in
        let r = moved_reach key met from to d c old new pic m into at others (subst (λ i. HasRows m.mid key i others) here has) n w.1 in
        (w.0, r.0, record { live = r.1; lived = w.2.lived; expected = w.2.expected; parent = w.2.parent });
  })
]
move_lacks key from to out into d c NoMemory source place h = tt

pub moves : (key : List ℕ) (from to : List (List ℕ)) (out into : FileId) (d e : Drafted) (c : Resident) → IsSource d c from to (In out) → IsDestination d c to (In into) → (label other : List ℕ) → label ≡ last from → other ≡ last to
    → ((old new mid made : Shown) (x : Row) (rows others : List Row) → IsTree old → IsTree new → Drafts old new d c → IsWhole old → Takes key out label x rows new mid → Puts key into other x others mid made → Drafts old made e c)
    → (met : List (List ℕ) → Seen) (old new mid made : Shown) (id gone there beyond : FileId) (x : Row) (rows others : List Row) → Pictured key met d c old new → IsWhole old → Resolves new key from (At id gone) → Resolves new key (parent to) (At there beyond)
    → Takes key gone (last from) x rows new mid → Puts key there (last to) x others mid made → Drafts old made e c
moves key from to out into d e c source place label other is was carried met old new mid made id gone there beyond x rows others pic rooted leads leads2 takes puts =
    let same = (source.3 key met old new pic).1 id gone leads in
    let here = (place.2 key met old new pic).one there beyond leads2 in
    carried old new mid made x rows others pic.was pic.is pic.drafts rooted (subst (λ m. Takes key out m x rows new mid) (sym is) (subst (λ i. Takes key i (last from) x rows new mid) same takes))
    (subst (λ m. Puts key into m x others mid made) (sym was) (subst (λ i. Puts key i (last to) x others mid made) here puts))
