-- Names that are filed one after the other, and what is out and touched desk by desk.
use Rattle.std.proofs.Common.{◌≡◌, inl, inr, ◌||◌, ◌&&◌, ◌+◌, ◌<◌, ◌≤◌, ◌==◌, ℕ, Bool, true, false, cond, List, [], ◌∷◌, map, take, Option, Some, None, refl, ap, sym, ◌∙◌, arith, length, get_or, slice_get, true≢false, is_some, eq-eqb}
use mathlib.Core.Bool.{beq}
use Rattle.std.specs.Prelude.{nat_lt}
use Rattle.std.specs.Option.{option_map, option_and_then}
use Rattle.std.specs.Map.{lookup}
use Rattle.std.specs.List.{list_any}
use Rattle.std.proofs.lemmas.Bool.{eqb-true, cases_lt, lt-ltb, le-ltb}
use Rattle.std.proofs.lemmas.List.{take_all, length-map}
use Rattle.std.proofs.lemmas.Option.{slice_get_within, slice_get_read, slice_get-map, some_pair_parts}
use Rattle.iris_name.specs.Names.{same_name}
use Rattle.iris_name.specs.NameLaws.{same_name_equiv, same_name-true}
use Rattle.iris_name.specs.declared.name.Name.{Name}
use Rattle.iris_cache.specs.declared.draft.Change.{Change}
use Rattle.iris_node.specs.declared.node.Node.{Node}
use Rattle.iris_cache.proofs.Drafts.{among, among-more, among-all, more-key}
use Rattle.iris_desk.specs.AtDesk.{DeskState, touched_desk}
use Rattle.iris_desk.specs.AtDesks.{DesksState, desk_at, asked_by, keeps_for, out_for, out_of, is_doomed, AreDesksSound}
use Rattle.iris_desk.specs.declared.out.Out.{Out}
use Rattle.iris_desk.specs.Outs.{out_in}
use Rattle.iris_desk.specs.Laws.{TouchesOut}
use Rattle.iris_desk.proofs.LookingUp.{out_is_at}
use Rattle.iris_desk.proofs.OutLists.{names_touched}
use Rattle.iris_pool.specs.Filing.{doomed_by, comes_or_goes, touched_so, FilesNames, FilesOne, is_out_at, names_on_desk, names_at}

-- ---- one change of the desks after another

pub files_none : (d : DesksState) → FilesNames (λ q x. x) (λ q. false) d d
files_none d = record { doomed = λ q. refl; out = λ q. refl; kept = λ w q. refl; asked = λ w. refl }

touched_twice : (s t : Bool) (o : Option (ℕ × Out)) → touched_so t (touched_so s o) ≡ touched_so (s || t) o
touched_twice true true None = refl
touched_twice true true (Some p) = refl
touched_twice true false o = refl
touched_twice false t o = refl

pub files_then : (f g : Name → Bool → Bool) (s t : Name → Bool) (a b c : DesksState) → FilesNames f s a b → FilesNames g t b c → FilesNames (λ q x. g q (f q x)) (λ q. s q || t q) a c
files_then f g s t a b c m n = record {
  doomed = λ q. n.doomed q ∙ ap (g q) (m.doomed q);
  out = λ q. n.out q ∙ ap (touched_so (t q)) (m.out q) ∙ touched_twice (s q) (t q) (out_of a q);
  kept = λ w q. n.kept w q ∙ m.kept w q;
  asked = λ w. n.asked w ∙ m.asked w;
}

pub files_as : (f g : Name → Bool → Bool) (s t : Name → Bool) (a b : DesksState) → ((q : Name) (x : Bool) → f q x ≡ g q x) → ((q : Name) → touched_so (s q) (out_of a q) ≡ touched_so (t q) (out_of a q)) → FilesNames f s a b → FilesNames g t a b
files_as f g s t a b same touches m = record {
  doomed = λ q. m.doomed q ∙ same q (is_doomed a q);
  out = λ q. m.out q ∙ touches q;
  kept = m.kept;
  asked = m.asked;
}

-- the desks stay, and of the doomed names it is told which there are then
pub files_doomed : (f : Name → Bool → Bool) (a b : DesksState) → b.desks ≡ a.desks → ((q : Name) → is_doomed b q ≡ f q (is_doomed a q)) → FilesNames f (λ q. false) a b
files_doomed f a b desks doomed = record {
  doomed = doomed;
  out = λ q. ap (λ (l : List DeskState). out_of (record a { desks = l }) q) desks;
  kept = λ w q. ap (λ (l : List DeskState). keeps_for (record a { desks = l }) w q) desks;
  asked = λ w. ap (λ (l : List DeskState). asked_by (record a { desks = l }) w) desks;
}

-- what is out for a name is touched, and the doomed names stay
pub files_touched : (n : Name) (a b : DesksState) → b.doomed ≡ a.doomed → TouchesOut n a b → FilesNames (λ q x. x) (same_name n) a b
files_touched n a b doomed t = record {
  doomed = λ q. ap (λ (l : List Name). list_any (same_name q) l) doomed;
  out = t.out;
  kept = t.kept;
  asked = t.asked;
}

-- ---- a name is filed

pub doomed_same : (was is x : Bool) → was ≡ is → doomed_by was is x ≡ x
doomed_same true true x e = refl
doomed_same false false x e = refl
doomed_same true false x e = absurd (true≢false e)
doomed_same false true x e = absurd (true≢false (sym e))

pub stays_same : (was is : Bool) → was ≡ is → comes_or_goes was is ≡ false
stays_same true true e = refl
stays_same false false e = refl
stays_same true false e = absurd (true≢false e)
stays_same false true e = absurd (true≢false (sym e))

-- one that stays as it is needs nothing
pub filed_same : (n : Name) (was is : Bool) (d : DesksState) → was ≡ is → FilesOne n was is d d
filed_same n was is d e = files_as (λ q x. x) (λ q x. cond (same_name n q) (doomed_by was is x) x) (λ q. false) (λ q. same_name n q && comes_or_goes was is) d d
    (λ q x. sym (at (same_name n q) (doomed_by was is x) x (doomed_same was is x e)))
    (λ q. ap (λ b. touched_so b (out_of d q)) (sym (none (same_name n q) (comes_or_goes was is) (stays_same was is e)))) (files_none d)
  where
    at : (b : Bool) (y x : Bool) → y ≡ x → cond b y x ≡ x
    at true y x e = e
    at false y x e = refl

    none : (a b : Bool) → b ≡ false → (a && b) ≡ false
    none true b e = e
    none false b e = refl

-- one that comes or goes is doomed so, and touched then
pub filed_other : (n : Name) (was is : Bool) (a b c : DesksState) → (was ≡ is → ⊥) → FilesNames (λ q x. cond (same_name n q) (doomed_by was is x) x) (λ q. false) a b → FilesNames (λ q x. x) (same_name n) b c → FilesOne n was is a c
filed_other n was is a b c ne m t = files_as (λ q x. cond (same_name n q) (doomed_by was is x) x) (λ q x. cond (same_name n q) (doomed_by was is x) x) (λ q. false || same_name n q) (λ q. same_name n q && comes_or_goes was is) a c
    (λ q x. refl) (λ q. ap (λ y. touched_so y (out_of a q)) (both (same_name n q) was is ne)) (files_then (λ q x. cond (same_name n q) (doomed_by was is x) x) (λ q x. x) (λ q. false) (same_name n) a b c m t)
  where
    both : (s was is : Bool) → (was ≡ is → ⊥) → s ≡ (s && comes_or_goes was is)
    both false was is ne = refl
    both true true false ne = refl
    both true false true ne = refl
    both true true true ne = absurd (ne refl)
    both true false false ne = absurd (ne refl)

pub undoomed_so : (n : Name) (was is : Bool) (a b : DesksState) → (was ≡ is → ⊥) → is ≡ true → b.desks ≡ a.desks → ((q : Name) → is_doomed b q ≡ cond (same_name n q) false (is_doomed a q)) → FilesNames (λ q x. cond (same_name n q) (doomed_by was is x) x) (λ q. false) a b
undoomed_so n true true a b ne here desks doomed = absurd (ne refl)
undoomed_so n false true a b ne here desks doomed = files_doomed (λ q x. cond (same_name n q) false x) a b desks doomed
undoomed_so n was false a b ne here desks doomed = absurd (true≢false (sym here))

pub doomed_so : (n : Name) (was is : Bool) (a b : DesksState) → (was ≡ is → ⊥) → is ≡ false → b.desks ≡ a.desks → ((q : Name) → is_doomed b q ≡ cond (same_name n q) true (is_doomed a q)) → FilesNames (λ q x. cond (same_name n q) (doomed_by was is x) x) (λ q. false) a b
doomed_so n true false a b ne gone desks doomed = files_doomed (λ q x. cond (same_name n q) true x) a b desks doomed
doomed_so n false false a b ne gone desks doomed = absurd (ne refl)
doomed_so n was true a b ne gone desks doomed = absurd (true≢false gone)

-- ---- the first names of a draft

-- the i-th name of a draft is in its list, with what it gets
pub drafted_entry : (o : Option (Name × Change)) (n : Name) (node : Option Node) → option_map {U = Name × Option Node} (λ (e : Name × Change). (e.0, e.1.node)) o ≡ Some (n, node) → (v : Change) × (o ≡ Some (n, v)) × (v.node ≡ node)
drafted_entry None n node e = absurd (cc)
drafted_entry (Some x) n node e = let h = some_pair_parts x.0 n x.1.node node e in (x.1, ap (λ m. Some (m, x.1)) h.0, h.1)

module _ {V : Type 0} (was is : Name → Bool) (es : List (Name × V)) where
  abbrev pub FilesTo : ℕ → DesksState → DesksState → Type 0
  FilesTo i a b = FilesNames (λ q x. cond (among i es q) (doomed_by (was q) (is q) x) x) (λ q. among i es q && comes_or_goes (was q) (is q)) a b

  pub files_to_none : (d : DesksState) → FilesTo 0 d d
  files_to_none d = files_none d

  step_doomed : (am s w i v j x : Bool) → (s ≡ true → (v ≡ w) × (j ≡ i)) → cond s (doomed_by v j (cond am (doomed_by w i x) x)) (cond am (doomed_by w i x) x) ≡ cond (am || s) (doomed_by w i x) x
  step_doomed true true w i v j x e = let h = e refl in ap (λ y. doomed_by y j (doomed_by w i x)) h.0 ∙ ap (λ y. doomed_by w y (doomed_by w i x)) h.1 ∙ twice w i x where
    twice : (w i x : Bool) → doomed_by w i (doomed_by w i x) ≡ doomed_by w i x
    twice true true x = refl
    twice true false x = refl
    twice false true x = refl
    twice false false x = refl
  step_doomed false true w i v j x e = let h = e refl in ap (λ y. doomed_by y j x) h.0 ∙ ap (λ y. doomed_by w y x) h.1
  step_doomed true false w i v j x e = refl
  step_doomed false false w i v j x e = refl

  step_touched : (am s w i v j : Bool) → (s ≡ true → (v ≡ w) × (j ≡ i)) → ((am && comes_or_goes w i) || (s && comes_or_goes v j)) ≡ ((am || s) && comes_or_goes w i)
  step_touched true true w i v j e = let h = e refl in ap (λ y. comes_or_goes w i || comes_or_goes y j) h.0 ∙ ap (λ y. comes_or_goes w i || comes_or_goes w y) h.1 ∙ twice (comes_or_goes w i) where
    twice : (x : Bool) → (x || x) ≡ x
    twice true = refl
    twice false = refl
  step_touched false true w i v j e = let h = e refl in ap (λ y. comes_or_goes y j) h.0 ∙ ap (λ y. comes_or_goes w y) h.1
  step_touched true false w i v j e = by (comes_or_goes w i) where
    by : (x : Bool) → (x || false) ≡ x
    by true = refl
    by false = refl
  step_touched false false w i v j e = refl

  pub files_to_more : (i : ℕ) (n : Name) (v : V) (x y : Bool) (a b c : DesksState) → slice_get es i ≡ Some (n, v) → x ≡ was n → y ≡ is n → FilesTo i a b → FilesOne n x y b c → FilesTo (i + 1) a c
  files_to_more i n v x y a b c at here there m o =
      files_as (λ q z. cond (same_name n q) (doomed_by x y (cond (among i es q) (doomed_by (was q) (is q) z) z)) (cond (among i es q) (doomed_by (was q) (is q) z) z))
      (λ q z. cond (among (i + 1) es q) (doomed_by (was q) (is q) z) z)
      (λ q. (among i es q && comes_or_goes (was q) (is q)) || (same_name n q && comes_or_goes x y)) (λ q. among (i + 1) es q && comes_or_goes (was q) (is q)) a c
      (λ q z. step_doomed (among i es q) (same_name n q) (was q) (is q) x y z (told q) ∙ ap (λ k. cond k (doomed_by (was q) (is q) z) z) (more q))
      (λ q. ap (λ k. touched_so k (out_of a q)) (step_touched (among i es q) (same_name n q) (was q) (is q) x y (told q) ∙ ap (λ k. k && comes_or_goes (was q) (is q)) (more q)))
      (files_then (λ q z. cond (among i es q) (doomed_by (was q) (is q) z) z) (λ q z. cond (same_name n q) (doomed_by x y z) z) (λ q. among i es q && comes_or_goes (was q) (is q)) (λ q. same_name n q && comes_or_goes x y) a b c m o)
    where
      told : (q : Name) → same_name n q ≡ true → (x ≡ was q) × (y ≡ is q)
      told q s = let e = same_name-true n q s in (here ∙ ap was e, there ∙ ap is e)

      more : (q : Name) → (among i es q || same_name n q) ≡ among (i + 1) es q
      more q = ap (λ k. among i es q || k) (same_name_equiv.symm n q) ∙ sym (among-more es i n v q at)

  -- all of them
  pub files_to_all : (i : ℕ) (a b : DesksState) → length es ≤ i → ((q : Name) → lookup (same_name q) es ≡ None → is q ≡ was q) → FilesTo i a b → FilesNames (λ q. doomed_by (was q) (is q)) (λ q. comes_or_goes (was q) (is q)) a b
  files_to_all i a b le none m = files_as (λ q x. cond (among i es q) (doomed_by (was q) (is q) x) x) (λ q x. doomed_by (was q) (is q) x) (λ q. among i es q && comes_or_goes (was q) (is q)) (λ q. comes_or_goes (was q) (is q)) a b
      (λ q x. ap (λ k. cond k (doomed_by (was q) (is q) x) x) (among-all es i q le) ∙ doomed (lookup (same_name q) es) (was q) (is q) x (none q))
      (λ q. ap (λ k. touched_so k (out_of a q)) (ap (λ k. k && comes_or_goes (was q) (is q)) (among-all es i q le) ∙ touched (lookup (same_name q) es) (was q) (is q) (none q))) m
    where
      doomed : (l : Option V) (w y x : Bool) → (l ≡ None → y ≡ w) → cond (is_some l) (doomed_by w y x) x ≡ doomed_by w y x
      doomed None w y x e = sym (doomed_same w y x (sym (e refl)))
      doomed (Some v) w y x e = refl

      touched : (l : Option V) (w y : Bool) → (l ≡ None → y ≡ w) → (is_some l && comes_or_goes w y) ≡ comes_or_goes w y
      touched None w y e = sym (stays_same w y (sym (e refl)))
      touched (Some v) w y e = refl

-- ---- what is out at a desk is touched, name by name

-- the names at a desk stay where names are touched
pub names_stay : (n : Name) (a b : DesksState) → ((w : ℕ) → desk_at b w ≡ option_map (touched_desk n) (desk_at a w)) → (w : ℕ) → names_at b w ≡ names_at a w
names_stay n a b t w = ap names_on_desk (t w) ∙ by (desk_at a w) where
  by : (o : Option DeskState) → names_on_desk (option_map (touched_desk n) o) ≡ names_on_desk o
  by None = refl
  by (Some desk) = names_touched n desk.out

-- a name is touched, if so wanted
pub touched_where_wanted : (n : Name) (a b : DesksState) → FilesNames (λ q x. x) (same_name n) a b → FilesNames (λ q x. x) (λ q. true && same_name n q) a b
touched_where_wanted n a b m = m

module _ (test : Name → Bool) (ks : List Name) where
  abbrev pub TouchesTo : ℕ → DesksState → DesksState → Type 0
  TouchesTo i a b = FilesNames (λ q x. x) (λ q. test q && list_any (same_name q) (take i ks)) a b

  pub touches_to_none : (d : DesksState) → TouchesTo 0 d d
  touches_to_none d = files_as (λ q x. x) (λ q x. x) (λ q. false) (λ q. test q && false) d d (λ q x. refl) (λ q. ap (λ k. touched_so k (out_of d q)) (by (test q))) (files_none d) where
    by : (b : Bool) → false ≡ (b && false)
    by true = refl
    by false = refl

  step : (t am s u : Bool) → (s ≡ true → u ≡ t) → ((t && am) || (u && s)) ≡ (t && (am || s))
  step true true s u e = refl
  step true false true u e = ap (λ k. k && true) (e refl)
  step true false false true e = refl
  step true false false false e = refl
  step false am true u e = ap (λ k. k && true) (e refl)
  step false am false true e = refl
  step false am false false e = refl

  pub touches_to_more : (i : ℕ) (n : Name) (u : Bool) (a b c : DesksState) → slice_get ks i ≡ Some n → u ≡ test n → TouchesTo i a b → FilesNames (λ q x. x) (λ q. u && same_name n q) b c → TouchesTo (i + 1) a c
  touches_to_more i n u a b c at is m o = files_as (λ q x. x) (λ q x. x) (λ q. (test q && list_any (same_name q) (take i ks)) || (u && same_name n q)) (λ q. test q && list_any (same_name q) (take (i + 1) ks)) a c
      (λ q x. refl)
      (λ q. ap (λ k. touched_so k (out_of a q)) (step (test q) (list_any (same_name q) (take i ks)) (same_name n q) u (λ s. is ∙ ap test (same_name-true n q s))
      ∙ ap (λ k. test q && k) (ap (λ k. list_any (same_name q) (take i ks) || k) (same_name_equiv.symm n q) ∙ sym (more-key ks i n q at))))
      (files_then (λ q x. x) (λ q x. x) (λ q. test q && list_any (same_name q) (take i ks)) (λ q. u && same_name n q) a b c m o)

-- a name is among those at a desk exactly where something is out for it there
named_out : (q : Name) (outs : List Out) → list_any (same_name q) (map (λ o. o.name) outs) ≡ is_some (out_in outs q)
named_out q [] = refl
named_out q (x ∷ outs) = by (same_name q x.name) (named_out q outs) where
  by : (b : Bool) → list_any (same_name q) (map (λ o. o.name) outs) ≡ is_some (out_in outs q) → (b || list_any (same_name q) (map (λ o. o.name) outs)) ≡ is_some (cond b (Some x) (out_in outs q))
  by true e = refl
  by false e = e

pub named_at : (d : DesksState) (who : ℕ) (q : Name) → list_any (same_name q) (names_at d who) ≡ is_some (out_for d who q)
named_at d who q = by (desk_at d who) where
  by : (o : Option DeskState) → list_any (same_name q) (names_on_desk o) ≡ is_some (option_and_then (λ desk. out_in desk.out q) o)
  by None = refl
  by (Some desk) = named_out q desk.out

out_at_desk : (d : DesksState) (who w : ℕ) (q : Name) (o : Out) → AreDesksSound d → out_of d q ≡ Some (w, o) → is_some (out_for d who q) ≡ (w == who)
out_at_desk d who w q o sound at = by (out_for d who q) refl (w == who) refl where
  by : (z : Option Out) → out_for d who q ≡ z → (b : Bool) → (w == who) ≡ b → is_some z ≡ b
  by (Some p) e true h = refl
  by None e false h = refl
  by (Some p) e false h =
      let f : Some (who, p) ≡ Some (w, o) = sym ((out_is_at d q who p sound).1 e) ∙ at in
      absurd (true≢false (sym (eq-eqb w who (sym (some_pair_parts who w p o f).0)) ∙ h))
  by None e true h =
      let f = (out_is_at d q w o sound).0 at in
      let g : out_for d who q ≡ Some o = ap (λ k. out_for d k q) (sym (eqb-true w who h)) ∙ f in
      absurd (cc)

pub touches_at_desk : (test : Name → Bool) (who i : ℕ) (a b : DesksState) → AreDesksSound a → length (names_at a who) ≤ i → TouchesTo test (names_at a who) i a b → FilesNames (λ q x. x) (λ q. test q && is_out_at who (out_of a q)) a b
touches_at_desk test who i a b sound le m = files_as (λ q x. x) (λ q x. x) (λ q. test q && list_any (same_name q) (take i (names_at a who))) (λ q. test q && is_out_at who (out_of a q)) a b (λ q x. refl)
    (λ q. ap (λ k. touched_so (test q && list_any (same_name q) k) (out_of a q)) (take_all i (names_at a who) le) ∙ by q (out_of a q) refl) m
  where
    nothing : (s t : Bool) → touched_so s None ≡ touched_so t None
    nothing true true = refl
    nothing true false = refl
    nothing false true = refl
    nothing false false = refl

    by : (q : Name) (o : Option (ℕ × Out)) → out_of a q ≡ o → touched_so (test q && list_any (same_name q) (names_at a who)) o ≡ touched_so (test q && is_out_at who o) o
    by q None e = nothing (test q && list_any (same_name q) (names_at a who)) (test q && false)
    by q (Some p) e = ap (λ k. touched_so (test q && k) (Some p)) (named_at a who q ∙ out_at_desk a who p.0 q p.1 sound e)

-- ---- desk by desk

abbrev pub is_out_below : ℕ → Option (ℕ × Out) → Bool
is_out_below i None = false
is_out_below i (Some p) = nat_lt p.0 i

module _ (test : Name → Bool) where
  abbrev pub TouchesBelow : ℕ → DesksState → DesksState → Type 0
  TouchesBelow i a b = FilesNames (λ q x. x) (λ q. test q && is_out_below i (out_of a q)) a b

  pub touches_below_none : (d : DesksState) → TouchesBelow 0 d d
  touches_below_none d = files_as (λ q x. x) (λ q x. x) (λ q. false) (λ q. test q && is_out_below 0 (out_of d q)) d d (λ q x. refl) (λ q. ap (λ k. touched_so k (out_of d q)) (by (test q) (out_of d q))) (files_none d) where
    by : (t : Bool) (o : Option (ℕ × Out)) → false ≡ (t && is_out_below 0 o)
    by true None = refl
    by true (Some p) = sym (le-ltb p.0 0 (omega arith))
    by false o = refl

  below_more : (w i : ℕ) → (nat_lt w i || (w == i)) ≡ nat_lt w (i + 1)
  below_more w i = elim (cases_lt w i) [
    | inl lt ↦ ap (λ k. k || (w == i)) (lt-ltb w i lt) ∙ sym (lt-ltb w (i + 1) (omega (arith, lt)))
    | inr ge ↦ ap (λ k. k || (w == i)) (le-ltb w i ge) ∙ at (w == i) refl ge
  ] where
    at : (b : Bool) → (w == i) ≡ b → i ≤ w → b ≡ nat_lt w (i + 1)
    at true e ge = sym (lt-ltb w (i + 1) (let h = eqb-true w i e in omega (arith, h)))
    at false e ge = elim (cases_lt i w) [
      | inl lt ↦ sym (le-ltb w (i + 1) (omega (arith, lt)))
      | inr le ↦ (let h : w ≡ i = omega (arith, ge, le) in absurd (true≢false (sym (eq-eqb w i h) ∙ e)))
    ]

  pub touches_below_more : (i : ℕ) (a b c : DesksState) → TouchesBelow i a b → FilesNames (λ q x. x) (λ q. test q && is_out_at i (out_of b q)) b c → TouchesBelow (i + 1) a c
  touches_below_more i a b c m o = files_as (λ q x. x) (λ q x. x) (λ q. (test q && is_out_below i (out_of a q)) || (test q && is_out_at i (out_of b q))) (λ q. test q && is_out_below (i + 1) (out_of a q)) a c (λ q x. refl)
      (λ q. ap (λ k. touched_so k (out_of a q)) (ap (λ z. (test q && is_out_below i (out_of a q)) || (test q && is_out_at i z)) (m.out q) ∙ by (test q) (test q && is_out_below i (out_of a q)) (out_of a q)))
      (files_then (λ q x. x) (λ q x. x) (λ q. test q && is_out_below i (out_of a q)) (λ q. test q && is_out_at i (out_of b q)) a b c m o)
    where
      by : (t s : Bool) (z : Option (ℕ × Out)) → ((t && is_out_below i z) || (t && is_out_at i (touched_so s z))) ≡ (t && is_out_below (i + 1) z)
      by false s z = refl
      by true true None = refl
      by true false None = refl
      by true true (Some p) = below_more p.0 i
      by true false (Some p) = below_more p.0 i

  pub touches_below_all : (i : ℕ) (a b : DesksState) → AreDesksSound a → 17 ≤ i → TouchesBelow i a b → FilesNames (λ q x. x) test a b
  touches_below_all i a b sound le m = files_as (λ q x. x) (λ q x. x) (λ q. test q && is_out_below i (out_of a q)) test a b (λ q x. refl) (λ q. by q (out_of a q) refl (test q)) m where
    seat_below : (w : ℕ) (q : Name) (o : Out) (z : Option DeskState) → desk_at a w ≡ z → option_and_then (λ desk. out_in desk.out q) z ≡ Some o → w < 17
    seat_below w q o None e h = absurd (cc)
    seat_below w q o (Some desk) e h = let k = slice_get_within a.desks w desk e in let s = sound.seats in omega (arith, k, s)

    by : (q : Name) (z : Option (ℕ × Out)) → out_of a q ≡ z → (t : Bool) → touched_so (t && is_out_below i z) z ≡ touched_so t z
    by q None e true = refl
    by q None e false = refl
    by q (Some p) e false = refl
    by q (Some p) e true =
        let k = seat_below p.0 q p.1 (desk_at a p.0) refl ((out_is_at a q p.0 p.1 sound).0 e) in
        ap (λ y. touched_so y (Some p)) (lt-ltb p.0 i (omega (arith, k, le)))

pub differ : (a b : Bool) → beq a b ≡ false → a ≡ b → ⊥
differ true true h e = true≢false h
differ false false h e = true≢false h
differ true false h e = true≢false e
differ false true h e = true≢false (sym e)

-- the name at a place of a desk's list, of which the names are as they were
pub named_place : (now was : List Out) (ks : List Name) (i : ℕ) (x : Out) → map (λ o. o.name) now ≡ ks → map (λ o. o.name) was ≡ ks → i < length was → x ≡ get_or now i x → slice_get ks i ≡ Some x.name
named_place now was ks i x names first lt is =
    let size : length now ≡ length was = sym (length-map now (λ (o : Out). o.name)) ∙ ap (λ (l : List Name). length l) (names ∙ sym first) ∙ length-map was (λ (o : Out). o.name) in
    ap (λ (l : List Name). slice_get l i) (sym names) ∙ slice_get-map (λ (o : Out). o.name) now i ∙ ap (option_map (λ (o : Out). o.name)) (slice_get_read now (length now) i x refl (omega (arith, lt, size)) is)
