-- Look-ups in one desk's list of what is out, after each call, and what the list keeps.
use Rattle.std.proofs.Common.{◌≡◌, ℕ, zero, suc, ◌<◌, List, [], ◌∷◌, ◌++◌, length, get_or, map, filter, Bool, true, false, cond, not, ◌||◌, Some, None, refl, sym, ◌∙◌, ap, subst, arith}
use Rattle.std.specs.Prelude.{remove, All}
use Rattle.std.specs.Prelude.{Contains}
use Rattle.std.specs.List.{list_any, AllByRecursion, IsDistinct}
use Rattle.std.specs.Option.{option_map}
use Rattle.std.proofs.lemmas.List.{map-append}
use Rattle.std.proofs.lemmas.List.Elements.{All-map, All-weaker}
use Rattle.std.proofs.lemmas.Map.Keys.{IsDistinct-head, IsDistinct-tail, IsDistinct-cons, IsDistinct-push}
use Rattle.iris_name.specs.Names.{same_name}
use Rattle.iris_name.specs.NameLaws.{same_name_equiv, same_name-true, same_name-symm, same_name-refl}
use Rattle.iris_name.specs.declared.name.Name.{Name}
use Rattle.iris_desk.specs.declared.out.Out.{Out}
use Rattle.iris_desk.specs.Outs.{FitsDoing, touched_out, touched_where, out_in}

abbrev pub named : Out → Name
named o = o.name

abbrev pub other : Name → Out → Bool
other n o = not (same_name n o.name)

-- ---- one more, last

pub began_at_name : (o : Out) (outs : List Out) → out_in outs o.name ≡ None → out_in (outs ++ o ∷ []) o.name ≡ Some o
began_at_name o [] e = ap (λ b. cond b (Some o) None) (same_name-refl o.name)
began_at_name o (x ∷ outs) e = by (same_name o.name x.name) e (began_at_name o outs) where
  by : (b : Bool) → cond b (Some x) (out_in outs o.name) ≡ None → (out_in outs o.name ≡ None → out_in (outs ++ o ∷ []) o.name ≡ Some o) → cond b (Some x) (out_in (outs ++ o ∷ []) o.name) ≡ Some o
  by true e f = absurd (cc)
  by false e f = f e

pub began_elsewhere : (o : Out) (q : Name) (outs : List Out) → same_name o.name q ≡ false → out_in (outs ++ o ∷ []) q ≡ out_in outs q
began_elsewhere o q [] e = ap (λ b. cond b (Some o) None) (same_name-symm q o.name ∙ e)
began_elsewhere o q (x ∷ outs) e = ap (cond (same_name q x.name) (Some x)) (began_elsewhere o q outs e)

-- ---- one less

pub ended_at_name : (n : Name) (outs : List Out) → out_in (filter (other n) outs) n ≡ None
ended_at_name n [] = refl
ended_at_name n (x ∷ outs) = by (same_name n x.name) refl (ended_at_name n outs) where
  by : (b : Bool) → same_name n x.name ≡ b → out_in (filter (other n) outs) n ≡ None → out_in (cond (not b) (x ∷ filter (other n) outs) (filter (other n) outs)) n ≡ None
  by true s f = f
  by false s f = ap (λ c. cond c (Some x) (out_in (filter (other n) outs) n)) s ∙ f

pub ended_elsewhere : (n q : Name) (outs : List Out) → same_name n q ≡ false → out_in (filter (other n) outs) q ≡ out_in outs q
ended_elsewhere n q [] e = refl
ended_elsewhere n q (x ∷ outs) e = by (same_name n x.name) refl (ended_elsewhere n q outs e) where
  by : (b : Bool) → same_name n x.name ≡ b → out_in (filter (other n) outs) q ≡ out_in outs q → out_in (cond (not b) (x ∷ filter (other n) outs) (filter (other n) outs)) q ≡ out_in (x ∷ outs) q
  by true s f = f ∙ ap (λ c. cond c (Some x) (out_in outs q)) (sym (same_name-symm q x.name ∙ subst (λ m. same_name m q ≡ false) (same_name-true n x.name s) e))
  by false s f = ap (cond (same_name q x.name) (Some x)) f

-- ---- touched

pub touched_name : (n : Name) (o : Out) → (touched_where n o).name ≡ o.name
touched_name n o = by (same_name n o.name) where
  by : (b : Bool) → named (cond b (touched_out o) o) ≡ o.name
  by true = refl
  by false = refl

pub touched_lookup : (n q : Name) (outs : List Out) → out_in (map (touched_where n) outs) q ≡ option_map (touched_where n) (out_in outs q)
touched_lookup n q [] = refl
touched_lookup n q (x ∷ outs) =
    ap (λ m. cond (same_name q m) (Some (touched_where n x)) (out_in (map (touched_where n) outs) q)) (touched_name n x) ∙ by (same_name q x.name) (touched_lookup n q outs) where
      by : (b : Bool) → out_in (map (touched_where n) outs) q ≡ option_map (touched_where n) (out_in outs q) → cond b (Some (touched_where n x)) (out_in (map (touched_where n) outs) q) ≡ option_map (touched_where n) (cond b (Some x) (out_in outs q))
      by true f = refl
      by false f = f

pub found_name : (q : Name) (o : Out) (outs : List Out) → out_in outs q ≡ Some o → q ≡ o.name
found_name q o [] e = absurd (cc)
found_name q o (x ∷ outs) e = by (same_name q x.name) refl e (found_name q o outs) where
  by : (b : Bool) → same_name q x.name ≡ b → cond b (Some x) (out_in outs q) ≡ Some o → (out_in outs q ≡ Some o → q ≡ o.name) → q ≡ o.name
  by true s e f = same_name-true q x.name s ∙ (let z : x ≡ o = cc in ap named z)
  by false s e f = f e

-- ---- what a list keeps

pub names_touched : (n : Name) (outs : List Out) → map named (map (touched_where n) outs) ≡ map named outs
names_touched n [] = refl
names_touched n (x ∷ outs) = (λ i. touched_name n x i ∷ names_touched n outs i)

touched_fits : (n : Name) (o : Out) → FitsDoing o → FitsDoing (touched_where n o)
touched_fits n o f = by (same_name n o.name) where
  by : (b : Bool) → FitsDoing (cond b (touched_out o) o)
  by true = record { expects = f.expects; carries = f.carries }
  by false = f

pub fits_touched : (n : Name) (outs : List Out) → All FitsDoing outs → All FitsDoing (map (touched_where n) outs)
fits_touched n outs f = All-map FitsDoing (touched_where n) outs (All-weaker FitsDoing (λ o. FitsDoing (touched_where n o)) (touched_fits n) outs f)

none_named : (n : Name) (outs : List Out) → out_in outs n ≡ None → list_any (same_name n) (map named outs) ≡ false
none_named n [] e = refl
none_named n (x ∷ outs) e = by (same_name n x.name) e (none_named n outs) where
  by : (b : Bool) → cond b (Some x) (out_in outs n) ≡ None → (out_in outs n ≡ None → list_any (same_name n) (map named outs) ≡ false) → (b || list_any (same_name n) (map named outs)) ≡ false
  by true e f = absurd (cc)
  by false e f = f e

pub once_more : (o : Out) (outs : List Out) → out_in outs o.name ≡ None → IsDistinct same_name (map named outs) → IsDistinct same_name (map named (outs ++ o ∷ []))
once_more o outs e d = subst (IsDistinct same_name) (sym (map-append named outs (o ∷ []))) (IsDistinct-push same_name_equiv (map named outs) o.name d (none_named o.name outs e))

kept_apart : (p : Out → Bool) (n : Name) (outs : List Out) → AllByRecursion (λ y. same_name n y ≡ false) (map named outs) → AllByRecursion (λ y. same_name n y ≡ false) (map named (filter p outs))
kept_apart p n [] a = a
kept_apart p n (x ∷ outs) a = by (p x) (kept_apart p n outs a.1) where
  by : (b : Bool) → AllByRecursion (λ y. same_name n y ≡ false) (map named (filter p outs)) → AllByRecursion (λ y. same_name n y ≡ false) (map named (cond b (x ∷ filter p outs) (filter p outs)))
  by true f = (a.0, f)
  by false f = f

pub once_less : (p : Out → Bool) (outs : List Out) → IsDistinct same_name (map named outs) → IsDistinct same_name (map named (filter p outs))
once_less p [] d = d
once_less p (x ∷ outs) d = by (p x) (once_less p outs (IsDistinct-tail same_name x.name (map named outs) d)) where
  by : (b : Bool) → IsDistinct same_name (map named (filter p outs)) → IsDistinct same_name (map named (cond b (x ∷ filter p outs) (filter p outs)))
  by true f = IsDistinct-cons same_name x.name (map named (filter p outs)) (kept_apart p x.name outs (IsDistinct-head same_name x.name (map named outs) d)) f
  by false f = f

-- ---- what is taken off by its place

others_stay : (n : Name) (outs : List Out) → AllByRecursion (λ y. same_name n y ≡ false) (map named outs) → filter (other n) outs ≡ outs
others_stay n [] a = refl
others_stay n (x ∷ outs) a = ap (λ b. cond (not b) (x ∷ filter (other n) outs) (filter (other n) outs)) a.0 ∙ ap (λ l. x ∷ l) (others_stay n outs a.1)

apart_at : (n : Name) (outs : List Out) (i : ℕ) (d : Out) → AllByRecursion (λ y. same_name n y ≡ false) (map named outs) → i < length outs → same_name n (get_or outs i d).name ≡ false
apart_at n [] i d a lt = absurd (omega (arith, lt))
apart_at n (x ∷ outs) zero d a lt = a.0
apart_at n (x ∷ outs) (suc i) d a lt = apart_at n outs i d a.1 (omega (arith, lt))

pub removed_at : (n : Name) (outs : List Out) (i : ℕ) (d : Out) → IsDistinct same_name (map named outs) → i < length outs → same_name n (get_or outs i d).name ≡ true → remove outs i ≡ filter (other n) outs
removed_at n [] i d once lt at = absurd (omega (arith, lt))
removed_at n (x ∷ outs) zero d once lt at =
    let apart = IsDistinct-head same_name x.name (map named outs) once in
    sym (ap (λ b. cond (not b) (x ∷ filter (other n) outs) (filter (other n) outs)) at ∙ others_stay n outs (subst (λ m. AllByRecursion (λ y. same_name m y ≡ false) (map named outs)) (sym (same_name-true n x.name at)) apart))
removed_at n (x ∷ outs) (suc i) d once lt at =
    let apart = apart_at x.name outs i d (IsDistinct-head same_name x.name (map named outs) once) (omega (arith, lt)) in
    let here : same_name n x.name ≡ false = same_name-symm n x.name ∙ subst (λ m. same_name x.name m ≡ false) (sym (same_name-true n (get_or outs i d).name at)) apart in
    ap (λ l. x ∷ l) (removed_at n outs i d (IsDistinct-tail same_name x.name (map named outs) once) (omega (arith, lt)) at)
    ∙ sym (ap (λ b. cond (not b) (x ∷ filter (other n) outs) (filter (other n) outs)) here)

-- ---- what stands in the list

pub found_listed : (n : Name) (o : Out) (outs : List Out) → out_in outs n ≡ Some o → Contains outs o
found_listed n o [] e = absurd (cc)
found_listed n o (x ∷ outs) e = by (same_name n x.name) e (found_listed n o outs) where
  by : (b : Bool) → cond b (Some x) (out_in outs n) ≡ Some o → (out_in outs n ≡ Some o → Contains outs o) → Contains (x ∷ outs) o
  by true e f = (0, omega arith, (let z : x ≡ o = cc in z))
  by false e f = let g = f e in (suc g.0, (let lt = g.1 in omega (arith, lt)), g.2)

pub listed_found : (o : Out) (outs : List Out) (k : ℕ) → IsDistinct same_name (map named outs) → k < length outs → get_or outs k o ≡ o → out_in outs o.name ≡ Some o
listed_found o [] k once lt at = absurd (omega (arith, lt))
listed_found o (x ∷ outs) zero once lt at = ap (λ b. cond b (Some x) (out_in outs o.name)) (subst (λ y. same_name o.name (named y) ≡ true) (sym at) (same_name-refl o.name)) ∙ ap Some at
listed_found o (x ∷ outs) (suc k) once lt at =
    let apart = apart_at x.name outs k o (IsDistinct-head same_name x.name (map named outs) once) (omega (arith, lt)) in
    let there : same_name o.name x.name ≡ false = same_name-symm o.name x.name ∙ subst (λ y. same_name x.name (named y) ≡ false) at apart in
    ap (λ b. cond b (Some x) (out_in outs o.name)) there ∙ listed_found o outs k (IsDistinct-tail same_name x.name (map named outs) once) (omega (arith, lt)) at
