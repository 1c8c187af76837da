-- What is out for a name is out at one desk, and what is out for it there is what is out for it at all.
use Rattle.std.proofs.Common.{◌≡◌, ℕ, zero, suc, ◌+◌, List, [], ◌∷◌, map, Bool, true, false, cond, Option, Some, None, refl, sym, ◌∙◌, ap, subst, arith}
use Rattle.std.specs.Prelude.{find, slice_get}
use Rattle.std.specs.Option.{option_map, option_and_then, option_or}
use Rattle.std.specs.List.{flat_map, enumerate_from}
use Rattle.std.proofs.lemmas.List.Folds.{find-append}
use Rattle.std.proofs.lemmas.Option.{some_pair_parts}
use Rattle.iris_name.specs.Names.{same_name}
use Rattle.iris_name.specs.declared.name.Name.{Name}
use Rattle.iris_desk.specs.declared.out.Out.{Out}
use Rattle.iris_desk.specs.Outs.{out_in}
use Rattle.iris_desk.specs.AtDesk.{DeskState}
use Rattle.iris_desk.specs.AtDesks.{DesksState, out_for, out_of}

abbrev all_from : ℕ → List DeskState → List (ℕ × Out)
all_from k ds = flat_map (λ p. map (λ o. (p.0, o)) p.1.out) (enumerate_from k ds)

abbrev is_for : Name → ℕ × Out → Bool
is_for n p = same_name n p.1.name

abbrev out_at_place : List DeskState → ℕ → Name → Option Out
out_at_place ds w n = option_and_then (λ d. out_in d.out n) (slice_get ds w)

abbrev AtOnePlace : List DeskState → Name → Type 0
AtOnePlace ds n = (w v : ℕ) (o p : Out) → out_at_place ds w n ≡ Some o → out_at_place ds v n ≡ Some p → w ≡ v

-- a name is out at one desk at most
abbrev pub AtOneDesk : DesksState → Type 0
AtOneDesk d = (n : Name) (w v : ℕ) (o p : Out) → out_for d w n ≡ Some o → out_for d v n ≡ Some p → w ≡ v

with_place : (k : ℕ) (n : Name) (outs : List Out) → find (is_for n) (map (λ o. (k, o)) outs) ≡ option_map (λ o. (k, o)) (out_in outs n)
with_place k n [] = refl
with_place k n (x ∷ outs) = by (same_name n x.name) (with_place k n outs) where
  by : (b : Bool) → find (is_for n) (map (λ o. (k, o)) outs) ≡ option_map (λ o. (k, o)) (out_in outs n) → cond b (Some (k, x)) (find (is_for n) (map (λ o. (k, o)) outs)) ≡ option_map (λ o. (k, o)) (cond b (Some x) (out_in outs n))
  by true f = refl
  by false f = f

-- the first desk, and then the others
desk_by_desk : (k : ℕ) (n : Name) (d : DeskState) (ds : List DeskState) → find (is_for n) (all_from k (d ∷ ds)) ≡ option_or (option_map (λ o. (k, o)) (out_in d.out n)) (find (is_for n) (all_from (k + 1) ds))
desk_by_desk k n d ds = find-append (is_for n) (map (λ o. (k, o)) d.out) (all_from (k + 1) ds) ∙ ap (λ z. option_or z (find (is_for n) (all_from (k + 1) ds))) (with_place k n d.out)

found_place : (ds : List DeskState) (k : ℕ) (n : Name) (w : ℕ) (o : Out) → find (is_for n) (all_from k ds) ≡ Some (w, o) → (v : ℕ) × (w ≡ k + v) × (out_at_place ds v n ≡ Some o)
found_place [] k n w o e = absurd (cc)
found_place (d ∷ ds) k n w o e = by (out_in d.out n) refl (sym (desk_by_desk k n d ds) ∙ e) (found_place ds (k + 1) n w o) where
  by : (z : Option Out) → out_in d.out n ≡ z → option_or (option_map (λ o. (k, o)) z) (find (is_for n) (all_from (k + 1) ds)) ≡ Some (w, o)
      → (find (is_for n) (all_from (k + 1) ds) ≡ Some (w, o) → (v : ℕ) × (w ≡ (k + 1) + v) × (out_at_place ds v n ≡ Some o)) → (v : ℕ) × (w ≡ k + v) × (out_at_place (d ∷ ds) v n ≡ Some o)
  by None s e f = let g = f e in (suc g.0, (let a = g.1 in omega (arith, a)), g.2)
  by (Some p) s e f = let h = some_pair_parts k w p o e in (0, (let a = h.0 in omega (arith, a)), s ∙ ap Some h.1)

place_found : (ds : List DeskState) (k : ℕ) (n : Name) (v : ℕ) (o : Out) → AtOnePlace ds n → out_at_place ds v n ≡ Some o → find (is_for n) (all_from k ds) ≡ Some (k + v, o)
place_found [] k n v o one e = absurd (cc)
place_found (d ∷ ds) k n zero o one e = desk_by_desk k n d ds ∙ (ap (λ z. option_or (option_map (λ o. (k, o)) z) (find (is_for n) (all_from (k + 1) ds))) e ∙ ap (λ (m : ℕ). Some (m, o)) (let h : k ≡ k + 0 = omega arith in h))
place_found (d ∷ ds) k n (suc v) o one e = desk_by_desk k n d ds ∙ by (out_in d.out n) refl (place_found ds (k + 1) n v o (λ w u p r a b. (let h = one (suc w) (suc u) p r a b in omega (arith, h))) e) where
  by : (z : Option Out) → out_in d.out n ≡ z → find (is_for n) (all_from (k + 1) ds) ≡ Some ((k + 1) + v, o) → option_or (option_map (λ o. (k, o)) z) (find (is_for n) (all_from (k + 1) ds)) ≡ Some (k + suc v, o)
  by None s rest = rest ∙ ap (λ (m : ℕ). Some (m, o)) (let h : (k + 1) + v ≡ k + suc v = omega arith in h)
  by (Some p) s rest = absurd (let h = one zero (suc v) p o s e in omega (arith, h))

pub found_for : (d : DesksState) (n : Name) (w : ℕ) (o : Out) → out_of d n ≡ Some (w, o) → out_for d w n ≡ Some o
found_for d n w o e =
    let f = found_place d.desks 0 n w o e in
    subst (λ v. out_at_place d.desks v n ≡ Some o) (let a = f.1 in let h : f.0 ≡ w = omega (arith, a) in h) f.2

pub for_found : (d : DesksState) (n : Name) (w : ℕ) (o : Out) → AtOneDesk d → out_for d w n ≡ Some o → out_of d n ≡ Some (w, o)
for_found d n w o one e = place_found d.desks 0 n w o (one n) e ∙ ap (λ (m : ℕ). Some (m, o)) (let h : 0 + w ≡ w = omega arith in h)

-- out at no desk
pub none_for : (d : DesksState) (n : Name) → AtOneDesk d → out_of d n ≡ None → (w : ℕ) → out_for d w n ≡ None
none_for d n one e w = by (out_for d w n) refl where
  by : (z : Option Out) → out_for d w n ≡ z → out_for d w n ≡ None
  by None s = s
  by (Some o) s = absurd (let f = for_found d n w o one s in cc)

pub for_none : (d : DesksState) (n : Name) → ((w : ℕ) → out_for d w n ≡ None) → out_of d n ≡ None
for_none d n none = by (out_of d n) refl where
  by : (z : Option (ℕ × Out)) → out_of d n ≡ z → out_of d n ≡ None
  by None s = s
  by (Some p) s = absurd (let f = found_for d n p.0 p.1 s in let g = none p.0 in cc)

abbrev pub at_desk : (Out → Out) → ℕ × Out → ℕ × Out
at_desk f p = (p.0, f p.1)

-- what is out for a name changes at its desk alone
pub mapped_of : (d e : DesksState) (q : Name) (f : Out → Out) → AtOneDesk d → AtOneDesk e → ((w : ℕ) → out_for e w q ≡ option_map f (out_for d w q)) → out_of e q ≡ option_map (at_desk f) (out_of d q)
mapped_of d e q f one one' is = by (out_of d q) refl where
  by : (z : Option (ℕ × Out)) → out_of d q ≡ z → out_of e q ≡ option_map (at_desk f) z
  by None s = for_none e q (λ w. is w ∙ ap (option_map f) (none_for d q one s w))
  by (Some p) s = for_found e q p.0 (f p.1) one' (is p.0 ∙ ap (option_map f) (found_for d q p.0 p.1 s))

stays : (z : Option (ℕ × Out)) → option_map (at_desk (λ o. o)) z ≡ z
stays None = refl
stays (Some p) = refl

same : (z : Option Out) → z ≡ option_map (λ (o : Out). o) z
same None = refl
same (Some o) = refl

-- what is out for a name is as before
pub same_of : (d e : DesksState) (q : Name) → AtOneDesk d → AtOneDesk e → ((w : ℕ) → out_for e w q ≡ out_for d w q) → out_of e q ≡ out_of d q
same_of d e q one one' is = mapped_of d e q (λ o. o) one one' (λ w. is w ∙ same (out_for d w q)) ∙ stays (out_of d q)
