-- A draft without a change pictures what the cache pictures.
use Rattle.std.proofs.Common.{◌≡◌, inl, Option, Some, None, IsSome, refl, sym, ◌∙◌, ap, subst}
use Rattle.iris_name.specs.declared.name.Hash32.{Hash32}
use Rattle.iris_name.specs.declared.name.Name.{Name}
use Rattle.iris_node.specs.declared.node.Node.{Node}
use Rattle.iris_node.specs.Trees.{Shown, IsTree}
use Rattle.iris_cache.specs.declared.held.Held.{Held}
use Rattle.iris_cache.specs.Drafted.{Drafted, drafted, known_by, there_by, seen}
use Rattle.iris_cache.specs.Laws.{AreFormed, DraftBegins}
use Rattle.iris_cache.specs.Pictures.{Holds, IsLike, WasHash, Pictures, Drafts, parent_after, parent_by}
use Rattle.iris_cache.specs.Resident.{Resident, held_node, parent_in}
use Rattle.iris_cache.proofs.Children.{held-child}

record SeenSo (c : Resident) (n : Name) (node : Node) : Type 0 where
  pub held_is : Held
  pub at : held_node c n ≡ Some held_is
  pub same : held_is.node ≡ node

seen_so : (c : Resident) (n : Name) (node : Node) (o : Option Held) → held_node c n ≡ o → there_by (known_by None o) ≡ Some node → SeenSo c n node
seen_so c n node None at e = absurd (cc)
seen_so c n node (Some h) at e = record { held_is = h; at = at; same = (let q : h.node ≡ node = cc in q) }

seen_there : (o : Option Held) → IsSome o → IsSome (there_by (known_by None o))
seen_there None h = h
seen_there (Some k) h = h

not_gone : (o : Option Held) → known_by None o ≡ Some None → ⊥
not_gone None e = cc
not_gone (Some h) e = cc

held_eq : (a b : Held) → Some a ≡ Some b → a ≡ b
held_eq a b e = cc

module _ (t : Shown) (d : Drafted) (c : Resident) (pic : Pictures t c) (tree : IsTree t) (form : AreFormed t) (empty : (n : Name) → drafted d n ≡ None) where
  bare : (n : Name) (node : Node) → seen d c n ≡ Some node → SeenSo c n node
  bare n node e = seen_so c n node (held_node c n) refl (sym (ap (λ o. there_by (known_by o (held_node c n))) (empty n)) ∙ e)

  over_is : (n : Name) → parent_after d c n ≡ parent_in (held_node c n)
  over_is n = ap (λ o. parent_by o (held_node c n)) (empty n)

  was_hash : (n m : Name) (node : Node) (x : Hash32) → SeenSo c n node → Holds node m x → WasHash t c m x
  was_hash n m node x s h =
      let holds : Holds s.held_is.node m x = subst (λ k. Holds k m x) (sym s.same) h in
      let over = held-child t n m s.held_is.node x form (pic.nodes n s.held_is s.at) holds in (
        λ settled. pic.hashes n m s.held_is x s.at holds settled,
        λ k g p hk hp hg. (let up = pic.tied m p k hk hp in
            let same : p ≡ n = tree.once m p n up over in
            let e : g ≡ s.held_is = held_eq g s.held_is (sym hg ∙ ap (held_node c) same ∙ s.at) in
            subst (λ (z : Held). Holds z.node m x) (sym e) holds),
      )

  begun : Drafts t t d c
  begun = record {
    before = pic;
    nodes = λ n node e. (let s = bare n node e in subst (IsLike (t n)) s.same (pic.nodes n s.held_is s.at));
    hashes = λ n m node x e h. was_hash n m node x (bare n node e) h;
    parents = λ n p node e over. (let s = bare n node e in let q = pic.parents n p s.held_is s.at over in
        (over_is n ∙ ap parent_in s.at ∙ q.0, subst IsSome (sym (ap (λ o. there_by (known_by o (held_node c p))) (empty p))) (seen_there (held_node c p) q.1)));
    tied = λ n p node e over. (let s = bare n node e in inl (pic.tied n p s.held_is s.at (sym (over_is n ∙ ap parent_in s.at) ∙ over)));
    hangs = λ n p node e below. absurd below;
    gone = λ n m e. absurd (not_gone (held_node c n) (sym (ap (λ o. known_by o (held_node c n)) (empty n)) ∙ e));
    away = λ n m e. refl;
    resident = λ n change e. absurd (let q : None ≡ Some change = sym (empty n) ∙ e in cc);
    out = tt;
  }

pub draft_begins : DraftBegins
draft_begins t d c pic tree form empty = begun t d c pic tree form empty
