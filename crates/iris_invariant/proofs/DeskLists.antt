-- Beginning at a desk, by look-up.
use Rattle.std.proofs.Common.{◌≡◌, ℕ, zero, suc, ◌<◌, ◌≤◌, ◌+◌, List, [], ◌∷◌, ◌++◌, length, Bool, true, false, cond, Option, Some, None, refl, sym, ◌∙◌, ap, subst, arith}
use Rattle.std.specs.Map.{lookup}
use Rattle.iris_name.specs.declared.name.Name.{Name}
use Rattle.iris_name.specs.Names.{same_name}
use Rattle.iris_name.specs.NameLaws.{same_name-true, same_name-symm}
use Rattle.iris_invariant.specs.Agrees.{Out}
use Rattle.iris_invariant.specs.DeskLists.{Outs, first_out, out_at, began_at, without_out, ended_at, times_out, times_in}

one_more : (n q : Name) (o : Out) (outs : Outs) → lookup (same_name q) (outs ++ (n, o) ∷ []) ≡ first_out (lookup (same_name q) outs) (cond (same_name q n) (Some o) None)
one_more n q o [] = refl
one_more n q o (x ∷ outs) = by (same_name q x.0) (one_more n q o outs) where
  by : (b : Bool) → lookup (same_name q) (outs ++ (n, o) ∷ []) ≡ first_out (lookup (same_name q) outs) (cond (same_name q n) (Some o) None)
      → cond b (Some x.1) (lookup (same_name q) (outs ++ (n, o) ∷ [])) ≡ first_out (cond b (Some x.1) (lookup (same_name q) outs)) (cond (same_name q n) (Some o) None)
  by true e = refl
  by false e = e

neither_out : (x y : Option Out) → first_out x y ≡ None → (x ≡ None) × (y ≡ None)
neither_out None y e = (refl, e)
neither_out (Some x) y e = absurd (cc)

-- a name that is out at no desk begins at one: it is out there, and every other is as before
pub begun_lists : (who : ℕ) (n : Name) (o : Out) (desks : List Outs) → who < length desks → out_at desks n ≡ None → (q : Name) → out_at (began_at who n o desks) q ≡ cond (same_name n q) (Some o) (out_at desks q)
begun_lists who n o [] lt free q = absurd (omega (arith, lt))
begun_lists zero n o (outs ∷ desks) lt free q =
    ap (λ z. first_out z (out_at desks q)) (one_more n q o outs ∙ ap (λ z. first_out (lookup (same_name q) outs) (cond z (Some o) None)) (same_name-symm q n)) ∙ by (same_name n q) refl where
      by : (b : Bool) → same_name n q ≡ b → first_out (first_out (lookup (same_name q) outs) (cond b (Some o) None)) (out_at desks q) ≡ cond b (Some o) (first_out (lookup (same_name q) outs) (out_at desks q))
      by true e = ap (λ z. first_out (first_out z (Some o)) (out_at desks q)) (subst (λ m. lookup (same_name m) outs ≡ None) (same_name-true n q e) (neither_out (lookup (same_name n) outs) (out_at desks n) free).0)
      by false e = over (lookup (same_name q) outs) where
        over : (x : Option Out) → first_out (first_out x None) (out_at desks q) ≡ first_out x (out_at desks q)
        over None = refl
        over (Some x) = refl
begun_lists (suc who) n o (outs ∷ desks) lt free q =
    let f = neither_out (lookup (same_name n) outs) (out_at desks n) free in
    ap (first_out (lookup (same_name q) outs)) (begun_lists who n o desks (omega (arith, lt)) f.1 q) ∙ by (same_name n q) refl f.0 where
      by : (b : Bool) → same_name n q ≡ b → lookup (same_name n) outs ≡ None → first_out (lookup (same_name q) outs) (cond b (Some o) (out_at desks q)) ≡ cond b (Some o) (first_out (lookup (same_name q) outs) (out_at desks q))
      by true e f = ap (λ z. first_out z (Some o)) (subst (λ m. lookup (same_name m) outs ≡ None) (same_name-true n q e) f)
      by false e f = refl

-- a name that is out nowhere, as its count says
none_out : (n : Name) (outs : Outs) → times_out n outs ≡ 0 → lookup (same_name n) outs ≡ None
none_out n [] e = refl
none_out n (x ∷ outs) e = by (same_name n x.0) (none_out n outs) e where
  by : (b : Bool) → (times_out n outs ≡ 0 → lookup (same_name n) outs ≡ None) → cond b 1 0 + times_out n outs ≡ 0 → cond b (Some x.1) (lookup (same_name n) outs) ≡ None
  by true f e = absurd (omega (arith, e))
  by false f e = f (omega (arith, e))

none_at : (n : Name) (desks : List Outs) → times_in n desks ≡ 0 → out_at desks n ≡ None
none_at n [] e = refl
none_at n (outs ∷ desks) e = ap (λ z. first_out z (out_at desks n)) (none_out n outs (omega (arith, e))) ∙ none_at n desks (omega (arith, e))

some_out : (n : Name) (o : Out) (outs : Outs) → lookup (same_name n) outs ≡ Some o → 1 ≤ times_out n outs
some_out n o [] e = absurd (cc)
some_out n o (x ∷ outs) e = by (same_name n x.0) (some_out n o outs) e where
  by : (b : Bool) → (lookup (same_name n) outs ≡ Some o → 1 ≤ times_out n outs) → cond b (Some x.1) (lookup (same_name n) outs) ≡ Some o → 1 ≤ cond b 1 0 + times_out n outs
  by true f e = omega arith
  by false f e = let g = f e in omega (arith, g)

-- one less at a desk that has it once
one_less : (n q : Name) (o : Out) (outs : Outs) → lookup (same_name n) outs ≡ Some o → times_out n outs ≤ 1 → lookup (same_name q) (without_out n outs) ≡ cond (same_name n q) None (lookup (same_name q) outs)
one_less n q o [] e le = absurd (cc)
one_less n q o (x ∷ outs) e le = by (same_name n x.0) refl (one_less n q o outs) e le where
  by : (b : Bool) → same_name n x.0 ≡ b → (lookup (same_name n) outs ≡ Some o → times_out n outs ≤ 1 → lookup (same_name q) (without_out n outs) ≡ cond (same_name n q) None (lookup (same_name q) outs))
      → cond b (Some x.1) (lookup (same_name n) outs) ≡ Some o → cond b 1 0 + times_out n outs ≤ 1
      → lookup (same_name q) (cond b outs (x ∷ without_out n outs)) ≡ cond (same_name n q) None (cond (same_name q x.0) (Some x.1) (lookup (same_name q) outs))
  by true s f e le = mine (same_name n q) refl where
    mine : (c : Bool) → same_name n q ≡ c → lookup (same_name q) outs ≡ cond c None (cond (same_name q x.0) (Some x.1) (lookup (same_name q) outs))
    mine true t = subst (λ m. lookup (same_name m) outs ≡ None) (same_name-true n q t) (none_out n outs (omega (arith, le)))
    mine false t = sym (ap (λ z. cond z (Some x.1) (lookup (same_name q) outs)) (same_name-symm q x.0 ∙ (subst (λ m. same_name m q ≡ false) (same_name-true n x.0 s) t)))
  by false s f e le = mine (same_name n q) refl ∙ sym (over (same_name n q)) where
    over : (c : Bool) → cond c None (cond (same_name q x.0) (Some x.1) (lookup (same_name q) outs)) ≡ cond c None (cond (same_name q x.0) (Some x.1) (lookup (same_name q) outs))
    over c = refl

    g : lookup (same_name q) (without_out n outs) ≡ cond (same_name n q) None (lookup (same_name q) outs)
    g = f e (omega (arith, le))

    mine : (c : Bool) → same_name n q ≡ c → cond (same_name q x.0) (Some x.1) (lookup (same_name q) (without_out n outs)) ≡ cond c None (cond (same_name q x.0) (Some x.1) (lookup (same_name q) outs))
    mine true t = ap (λ z. cond z (Some x.1) (lookup (same_name q) (without_out n outs))) (subst (λ m. same_name m x.0 ≡ false) (same_name-true n q t) s) ∙ (g ∙ ap (λ z. cond z None (lookup (same_name q) outs)) t)
    mine false t = ap (cond (same_name q x.0) (Some x.1)) (g ∙ ap (λ z. cond z None (lookup (same_name q) outs)) t)

-- what is out at a desk ends there: it is out nowhere, and every other is as before
pub ended_lists : (who : ℕ) (n : Name) (o : Out) (desks : List Outs) (outs : Outs) → times_in n desks ≤ 1 → Rattle.std.specs.Prelude.slice_get desks who ≡ Some outs → lookup (same_name n) outs ≡ Some o
    → (q : Name) → out_at (ended_at who n desks) q ≡ cond (same_name n q) None (out_at desks q)
ended_lists who n o [] outs le at e q = absurd (let z = at in cc)
ended_lists zero n o (x ∷ desks) outs le at e q =
    let z : x ≡ outs = cc in let f : lookup (same_name n) x ≡ Some o = ap (lookup (same_name n)) z ∙ e in let k = some_out n o x f in
    ap (λ z. first_out z (out_at desks q)) (one_less n q o x f (omega (arith, le))) ∙ by (same_name n q) refl (none_at n desks (omega (arith, le, k))) where
      by : (b : Bool) → same_name n q ≡ b → out_at desks n ≡ None → first_out (cond b None (lookup (same_name q) x)) (out_at desks q) ≡ cond b None (first_out (lookup (same_name q) x) (out_at desks q))
      by true t m = subst (λ y. out_at desks y ≡ None) (same_name-true n q t) m
      by false t m = refl
ended_lists (suc who) n o (x ∷ desks) outs le at e q = here (ended_lists who n o desks outs (omega (arith, le)) at e) where
  once : (who : ℕ) (desks : List Outs) → Rattle.std.specs.Prelude.slice_get desks who ≡ Some outs → 1 ≤ times_in n desks
  once who [] at = absurd (let z = at in cc)
  once zero (y ∷ desks) at = let z : y ≡ outs = cc in let k = some_out n o y (ap (lookup (same_name n)) z ∙ e) in omega (arith, k)
  once (suc who) (y ∷ desks) at = let k = once who desks at in omega (arith, k)

  here : ((q : Name) → out_at (ended_at who n desks) q ≡ cond (same_name n q) None (out_at desks q)) → first_out (lookup (same_name q) x) (out_at (ended_at who n desks) q) ≡ cond (same_name n q) None (first_out (lookup (same_name q) x) (out_at desks q))
  here f = ap (first_out (lookup (same_name q) x)) (f q) ∙ by (same_name n q) refl (none_out n x (let k = once who desks at in omega (arith, le, k))) where
    by : (b : Bool) → same_name n q ≡ b → lookup (same_name n) x ≡ None → first_out (lookup (same_name q) x) (cond b None (out_at desks q)) ≡ cond b None (first_out (lookup (same_name q) x) (out_at desks q))
    by true t m = ap (λ z. first_out z None) (subst (λ y. lookup (same_name y) x ≡ None) (same_name-true n q t) m)
    by false t m = refl
