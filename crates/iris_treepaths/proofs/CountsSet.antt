-- The parent of a child, set anew with the child's count.
use Rattle.std.proofs.Common.{◌≡◌, ◌<◌, ◌^◌, ℕ, Bool, true, false, Option, Some, refl, ap, sym, ◌∙◌, subst}
use Rattle.iris_name.specs.Names.{same_name}
use Rattle.iris_name.specs.NameLaws.{same_name-true}
use Rattle.iris_name.specs.declared.name.Name.{Name}
use Rattle.iris_name.specs.declared.name.Name.TheVariants as name
use Rattle.iris_node.specs.declared.node.Node.{Node}
use Rattle.iris_node.specs.declared.node.Node.TheVariants as node
use Rattle.iris_node.specs.Fields.{EntryFields}
use Rattle.iris_node.specs.Local.{local_of}
use Rattle.iris_cache.specs.Resident.{Resident, held_node}
use Rattle.iris_cache.specs.Drafted.{Drafted, drafted, seen, known_by, there_by, set_to}
use Rattle.iris_cache.specs.Pictures.{parent_after, parent_by}
use Rattle.iris_treepaths.specs.Counts.{said_count, counted_entry, counted_node, IsEntryName, Recounts}
use Rattle.iris_treepaths.specs.Nodes.{IsPut}
use Rattle.iris_treepaths.proofs.Owned.{put_at, put_off, still_seen}
use Rattle.iris_treepaths.proofs.There.{one_of}

module _ (d e : Drafted) (c : Resident) (child p : Name) (k : Node) (x w : EntryFields) (blocks : ℕ) (above : Option Name)
    (there : seen d c child ≡ Some k) (count : said_count (local_of k) < 2 ^ 64 → blocks ≡ said_count (local_of k)) (own : name.Entry x.id ≡ p) (at : seen d c p ≡ Some (node.Entry x))
    (is : w ≡ counted_entry child blocks x) (up : above ≡ parent_after d c p) (put : IsPut d e above w) where
  named : name.Entry w.id ≡ p
  named = ap (λ (v : EntryFields). name.Entry v.id) is ∙ own

  drafts : drafted e p ≡ Some (set_to above (node.Entry w))
  drafts = sym (ap (drafted e) named) ∙ put_at d e above w put

  now : seen e c p ≡ Some (node.Entry w)
  now = ap (λ o. there_by (known_by o (held_node c p))) drafts

  off : (n : Name) → same_name p n ≡ false → drafted e n ≡ drafted d n
  off n b = put_off d e above w n put (ap (λ m. same_name m n) named ∙ b)

  parents-by : (n : Name) (b : Bool) → same_name p n ≡ b → parent_after e c n ≡ parent_after d c n
  parents-by n true b = subst (λ m. parent_after e c m ≡ parent_after d c m) (same_name-true p n b) (ap (λ o. parent_by o (held_node c p)) drafts ∙ up)
  parents-by n false b = ap (λ o. parent_by o (held_node c n)) (off n b)

  off-entry : (n : Name) → (IsEntryName n → ⊥) → same_name (name.Entry w.id) n ≡ false
  off-entry (name.Entry id) never = absurd (never tt)
  off-entry (name.Part file level index) never = refl
  off-entry (name.Block file place) never = refl

  counts : (g h : Node) → seen d c child ≡ Some g → said_count (local_of g) < 2 ^ 64 → seen d c p ≡ Some h → seen e c p ≡ Some (counted_node child (said_count (local_of g)) h)
  counts g h at_g few at_h =
      let eg : g ≡ k = one_of g k (sym at_g ∙ there) in
      let eh : node.Entry x ≡ h = one_of (node.Entry x) h (sym at ∙ at_h) in
      let b : blocks ≡ said_count (local_of g) = count (subst (λ y. said_count (local_of y) < 2 ^ 64) eg few) ∙ ap (λ y. said_count (local_of y)) (sym eg) in
      now ∙ ap (λ y. Some (node.Entry y)) is ∙ ap (λ y. Some (counted_node child y (node.Entry x))) b ∙ ap (λ y. Some (counted_node child (said_count (local_of g)) y)) eh

  recounts : Recounts child p d e c
  recounts = record {
    counted_so = counts;
    parents = λ n. parents-by n (same_name p n) refl;
    stays = still_seen d e c p (node.Entry w) now off;
    others = off;
    entries = λ n never. put_off d e above w n put (off-entry n never);
  }

pub set_recounts : (d e : Drafted) (c : Resident) (child p : Name) (k : Node) (x w : EntryFields) (blocks : ℕ) (above : Option Name)
    → seen d c child ≡ Some k → (said_count (local_of k) < 2 ^ 64 → blocks ≡ said_count (local_of k)) → name.Entry x.id ≡ p → seen d c p ≡ Some (node.Entry x)
    → w ≡ counted_entry child blocks x → above ≡ parent_after d c p → IsPut d e above w → Recounts child p d e c
set_recounts d e c child p k x w blocks above there count own at is up put = recounts d e c child p k x w blocks above there count own at is up put
