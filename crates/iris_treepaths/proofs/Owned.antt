-- A node that is seen stands under its own name.
use Rattle.std.proofs.Common.{◌≡◌, ◌⊎◌, inl, inr, Bool, true, false, cond, Option, Some, IsSome, refl, ap, sym, ◌∙◌, subst}
use Rattle.iris_name.specs.Names.{same_name}
use Rattle.iris_name.specs.NameLaws.{same_name-true, same_name-refl}
use Rattle.iris_node.specs.declared.node.Link.{Link}
use Rattle.iris_cache.specs.Pictures.{parent_after, parent_by}
pub use Rattle.iris_treepaths.specs.Nodes.{IsPut}
use Rattle.iris_treepaths.specs.Planted.{with_top}
use Rattle.iris_name.specs.declared.name.FileId.{FileId}
use Rattle.iris_name.specs.declared.name.Name.{Name}
use Rattle.iris_name.specs.declared.name.Name.TheVariants as name
use Rattle.iris_node.specs.declared.node.Node.{Node}
use Rattle.iris_node.specs.declared.node.Node.TheVariants as node
use Rattle.iris_node.specs.Fields.{EntryFields}
use Rattle.iris_cache.specs.Resident.{Resident, held_node}
use Rattle.iris_cache.specs.Drafted.{Drafted, drafted, seen, known_by, there_by, set_to}
pub use Rattle.iris_cache.proofs.OwnNames.{seen_own, entry_own}
use Rattle.iris_treepaths.proofs.There.{is_there}
use Rattle.iris_treepaths.specs.Nodes.{OnlyEntries}

pub put_at : (d e : Drafted) (p : Option Name) (x : EntryFields) → IsPut d e p x → drafted e (name.Entry x.id) ≡ Some (set_to p (node.Entry x))
put_at d e p x set = set (name.Entry x.id) ∙ ap (λ b. cond b (Some (set_to p (node.Entry x))) (drafted d (name.Entry x.id))) (same_name-refl (name.Entry x.id))

pub put_off : (d e : Drafted) (p : Option Name) (x : EntryFields) (n : Name) → IsPut d e p x → same_name (name.Entry x.id) n ≡ false → drafted e n ≡ drafted d n
put_off d e p x n set off = set n ∙ ap (λ b. cond b (Some (set_to p (node.Entry x))) (drafted d n)) off

pub seen_same : (d e : Drafted) (c : Resident) (n : Name) → drafted e n ≡ drafted d n → seen e c n ≡ seen d c n
seen_same d e c n h = ap (λ o. there_by (known_by o (held_node c n))) h

pub parent_same : (d e : Drafted) (c : Resident) (n : Name) → drafted e n ≡ drafted d n → parent_after e c n ≡ parent_after d c n
parent_same d e c n h = ap (λ o. parent_by o (held_node c n)) h

-- what was seen is seen once one name is
pub still_seen : (d e : Drafted) (c : Resident) (p : Name) (w : Node) → seen e c p ≡ Some w → ((n : Name) → same_name p n ≡ false → drafted e n ≡ drafted d n) → (n : Name) → IsSome (seen d c n) → IsSome (seen e c n)
still_seen d e c p w now off n s = by (same_name p n) refl
  where
    by : (b : Bool) → same_name p n ≡ b → IsSome (seen e c n)
    by true b = subst (λ m. IsSome (seen e c m)) (same_name-true p n b) (is_there (seen e c p) w now)
    by false b = subst IsSome (sym (seen_same d e c n (off n b))) s

-- what was seen stays so
pub stays_seen : (d e : Drafted) (c : Resident) → OnlyEntries d e → (n : Name) → IsSome (seen d c n) → IsSome (seen e c n)
stays_seen d e c only n h =
    let P : Option Node → Type 0 = λ o. IsSome o in
    elim (only n) [
      | inl s ↦ subst P (sym (seen_same d e c n s)) h
      | inr r ↦ subst P (sym (ap (λ o. there_by (known_by o (held_node c n))) r.4)) refl
    ]

pub put_seen : (d e : Drafted) (c : Resident) (p : Option Name) (x : EntryFields) → IsPut d e p x → seen e c (name.Entry x.id) ≡ Some (node.Entry x)
put_seen d e c p x put = ap (λ o. there_by (known_by o (held_node c (name.Entry x.id)))) (put_at d e p x put)

pub put_parent : (d e : Drafted) (c : Resident) (p : Option Name) (x : EntryFields) → IsPut d e p x → parent_after e c (name.Entry x.id) ≡ p
put_parent d e c p x put = ap (λ o. parent_by o (held_node c (name.Entry x.id))) (put_at d e p x put)

pub other_name : (n q : Name) (b : Bool) → same_name n q ≡ b → (q ≡ n → ⊥) → same_name n q ≡ false
other_name n q true e off = absurd (off (sym (same_name-true n q e)))
other_name n q false e off = e

-- another name stays
pub put_other : (d e : Drafted) (p : Option Name) (x : EntryFields) (q : Name) → IsPut d e p x → (q ≡ name.Entry x.id → ⊥) → drafted e q ≡ drafted d q
put_other d e p x q put off = put_off d e p x q put (other_name (name.Entry x.id) q (same_name (name.Entry x.id) q) refl off)

pub put_top : (d e : Drafted) (c : Resident) (dir : FileId) (top : Option Link) (x y z w : EntryFields) (p : Option Name) → x.id ≡ dir → seen d c (name.Entry dir) ≡ Some (node.Entry x) → seen d c (name.Entry dir) ≡ Some (node.Entry y)
    → z ≡ x → w ≡ with_top top z → p ≡ parent_after d c (name.Entry dir) → IsPut d e p w → drafted e (name.Entry dir) ≡ Some (set_to (parent_after d c (name.Entry dir)) (node.Entry (with_top top y)))
put_top d e c dir top x y z w p own at is zx wz pp set =
    let same : x ≡ y = cc in
    let wy : w ≡ with_top top y = wz ∙ ap (with_top top) (zx ∙ same) in
    let id : w.id ≡ dir = ap (λ v. v.id) wy ∙ ap (λ v. v.id) (sym same) ∙ own in
    sym (ap (λ i. drafted e (name.Entry i)) id) ∙ put_at d e p w set ∙ ap (λ v. Some (set_to p (node.Entry v))) wy ∙ ap (λ q. Some (set_to q (node.Entry (with_top top y)))) pp

pub put_frame : (d e : Drafted) (c : Resident) (dir : FileId) (top : Option Link) (x z w : EntryFields) (p : Option Name) (n : Name) → x.id ≡ dir → z ≡ x → w ≡ with_top top z → IsPut d e p w → same_name (name.Entry dir) n ≡ false → drafted e n ≡ drafted d n
put_frame d e c dir top x z w p n own zx wz set off =
    let id : w.id ≡ dir = ap (λ v. v.id) wz ∙ ap (λ v. v.id) zx ∙ own in
    put_off d e p w n set (ap (λ i. same_name (name.Entry i) n) id ∙ off)

-- ---- only entries are set

put_case : (d e : Drafted) (p : Option Name) (x : EntryFields) (q : Name) (b : Bool) → same_name (name.Entry x.id) q ≡ b → IsPut d e p x → (drafted e q ≡ drafted d q) ⊎ (q ≡ name.Entry x.id)
put_case d e p x q true s put = inr (sym (same_name-true (name.Entry x.id) q s))
put_case d e p x q false s put = inl (put_off d e p x q put s)

pub put_either : (d e : Drafted) (p : Option Name) (x : EntryFields) (q : Name) → IsPut d e p x → (drafted e q ≡ drafted d q) ⊎ (q ≡ name.Entry x.id)
put_either d e p x q put = put_case d e p x q (same_name (name.Entry x.id) q) refl put

pub only_none : (d : Drafted) → OnlyEntries d d
only_none d n = inl refl

pub only_more : (d e f : Drafted) (p : Option Name) (x : EntryFields) → OnlyEntries d e → IsPut e f p x → OnlyEntries d f
only_more d e f p x h put n =
    elim (put_either e f p x n put) [
      | inr is ↦ inr (x.id, x, p, is, ap (λ q. drafted f q) is ∙ put_at e f p x put)
      | inl same ↦ elim (h n) [
        | inl e ↦ inl (same ∙ e)
        | inr r ↦ inr (r.0, r.1, r.2, r.3, same ∙ r.4)
      ]
    ]

pub only_through : (d e f : Drafted) → OnlyEntries d e → OnlyEntries e f → OnlyEntries d f
only_through d e f h k n =
    elim (k n) [
      | inr r ↦ inr r
      | inl s ↦ elim (h n) [
        | inl q ↦ inl (s ∙ q)
        | inr r ↦ inr (r.0, r.1, r.2, r.3, s ∙ r.4)
      ]
    ]
