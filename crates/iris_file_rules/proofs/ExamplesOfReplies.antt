-- When a sync may be answered: where both roots were put, and nothing else ever lived; and not before.
use Rattle.std.proofs.Common.{◌≡◌, ◌==◌, ◌||◌, ◌⊎◌, inl, inr, ℕ, List, [], ◌∷◌, Bool, true, false, refl, sym, ap, subst, IsSome, IsNone}
use Rattle.std.proofs.lemmas.Bool.{eqb-true}
use Rattle.iris_mac.specs.declared.keys.Keys.{Keys}
use Rattle.iris_name.specs.declared.name.FileId.{FileId}
use Rattle.iris_name.specs.declared.name.Name.{Name}
use Rattle.iris_name.specs.declared.name.Name.TheVariants.{Entry, Part, Block}
use Rattle.iris_name.specs.declared.request.Request.TheVariants.{Sync}
use Rattle.iris_name.specs.declared.request.Reply.TheVariants.{Done, Synced}
use Rattle.iris_name.specs.History.{Past}
use Rattle.iris_history.proofs.NoteStatus.{passes_by, put_law}
use Rattle.iris_history.proofs.Steady.{no_both}
use Rattle.iris_history.specs.Kept.{shown_in}
use Rattle.iris_history.specs.Status.{IsClean, IsDirty}
use Rattle.iris_history.specs.StatusLaws.{putted}
use Rattle.iris_node.specs.Unfolded.{id_of}
use Rattle.iris_file_rules.specs.FileTable.{files, is_root_name}
use Rattle.iris_file_rules.specs.Rules.{FileReplies}
use Rattle.iris_file_rules.proofs.Fresh.{root_shown, other_shown}

module _ (keys : Keys) (bytes : List ℕ) where
  -- the visible root was put, and then the trash
  abbrev one : Past
  one = putted 0 0 0 (Entry (id_of 0)) bytes true ∷ []

  abbrev both : Past
  both = putted 0 0 1 (Entry (id_of 1)) bytes true ∷ one

  visible_clean : IsClean (files keys) (Entry (id_of 0)) both
  visible_clean = (passes_by (files keys) (Entry (id_of 0)) one (putted 0 0 1 (Entry (id_of 1)) bytes true) refl refl).clean.0
      ((put_law (files keys) (Entry (id_of 0)) [] 0 0 0 bytes true (root_shown keys.order (Entry (id_of 0)) refl)).clean.1 (refl, refl))

  trash_clean : IsClean (files keys) (Entry (id_of 1)) both
  trash_clean = (put_law (files keys) (Entry (id_of 1)) one 0 0 1 bytes true (root_shown keys.order (Entry (id_of 1)) refl)).clean.1 (refl, (refl, λ le. refl))

  root_clean : (i : FileId) → is_root_name (Entry i) ≡ true → IsClean (files keys) (Entry i) both
  root_clean i e = by (i.0 == 0) (i.0 == 1) refl refl e where
    is : (n : ℕ) → (i.0 == n) ≡ true → i ≡ id_of n
    is n f = let z : i.0 ≡ n = eqb-true i.0 n f in ap id_of z

    by : (a b : Bool) → (i.0 == 0) ≡ a → (i.0 == 1) ≡ b → (a || b) ≡ true → IsClean (files keys) (Entry i) both
    by true b f g h = subst (λ z. IsClean (files keys) (Entry z) both) (sym (is 0 f)) visible_clean
    by false true f g h = subst (λ z. IsClean (files keys) (Entry z) both) (sym (is 1 g)) trash_clean
    by false false f g h = absurd (cc)

  no_root : (n : Name) → is_root_name n ≡ false → IsDirty (files keys) n both → ⊥
  no_root n e (inl h) = no_both (files keys) n (shown_in (files keys) [] n) h.0 (subst IsNone (sym (other_shown keys.order n e)) refl)
  no_root n e (inr d) = once d.once where
    dead : IsSome (shown_in (files keys) [] n) → ⊥
    dead s = no_both (files keys) n (shown_in (files keys) [] n) s (subst IsNone (sym (other_shown keys.order n e)) refl)

    once : IsSome (shown_in (files keys) [] n) ⊎ (IsSome (shown_in (files keys) [] n) ⊎ IsSome (shown_in (files keys) [] n)) → ⊥
    once (inl s) = dead s
    once (inr (inl s)) = dead s
    once (inr (inr s)) = dead s

  none_dirty : (n : Name) → IsDirty (files keys) n both → ⊥
  none_dirty (Part f l i) d = no_root (Part f l i) refl d
  none_dirty (Block f p) d = no_root (Block f p) refl d
  none_dirty (Entry i) d = by (is_root_name (Entry i)) refl d where
    by : (b : Bool) → is_root_name (Entry i) ≡ b → IsDirty (files keys) (Entry i) both → ⊥
    by true e (inl h) = h.1 (root_clean i e)
    by true e (inr h) = no_both (files keys) (Entry i) (shown_in (files keys) [] (Entry i)) (root_shown keys.order (Entry i) e) h.gone
    by false e h = no_root (Entry i) e h

  synced : FileReplies keys both Sync Synced
  synced = (refl, none_dirty)

  trash_dirty : FileReplies keys one Sync Synced → ⊥
  trash_dirty h = h.1 (Entry (id_of 1)) (inl (root_shown keys.order (Entry (id_of 1)) refl, λ c. c.stored))

  both_dirty : FileReplies keys [] Sync Synced → ⊥
  both_dirty h = h.1 (Entry (id_of 0)) (inl (root_shown keys.order (Entry (id_of 0)) refl, λ c. c.stored))

  another_reply : FileReplies keys both Sync Done → ⊥
  another_reply h = let e = h.0 in absurd (cc)
