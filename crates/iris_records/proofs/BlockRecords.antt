-- The records of a file's blocks.
use Rattle.std.proofs.Common.{◌≡◌, get_or, ℕ, ◌+◌, ◌-◌, ◌*◌, ◌≤◌, ◌<◌, suc, zero, List, [], ◌∷◌, length, Bool, true, false, ◌&&◌, cond, Option, Some, None, refl, sym, ◌∙◌, ap, subst, arith}
use Rattle.std.specs.Prelude.{◌==◌, nat_lt, slice_get, slice_index}
use Rattle.std.proofs.lemmas.Bool.Decides.{nat_tests}
use Rattle.std.specs.Option.{option_map}
use Rattle.std.proofs.lemmas.Option.{slice_get_past}
use Rattle.iris_name.specs.declared.name.Name.{Name}
use Rattle.iris_name.specs.declared.name.Name.TheVariants.{Entry, Part, Block}
use Rattle.iris_node.specs.Unfolded.{Unfolded, Stored}
use Rattle.iris_shape.specs.Local.{either}
use Rattle.iris_shape.specs.Folds.{Fold, One, Two, folded}
use Rattle.iris_shape.specs.FoldLaws.{IsFoldOf, Differ}
use Rattle.iris_rows.specs.declared.places.Place.{Place}
use Rattle.iris_rows.specs.Places.{StoredPlaces, file_of, version_at, place_version, block_of}
use Rattle.iris_records.specs.Records.{Records, looked, spelled}
use Rattle.iris_records.specs.Shown.{in_blocks, block_of_place}
use Rattle.iris_records.specs.Pieces.{Adds, at_place, kept_block, blocks_below, IsHalved}
use Rattle.iris_rows.specs.Rows.{File}
use Rattle.iris_shape.proofs.FoldProofs.{one_fold, folded_same}
use Rattle.iris_shape.specs.Made.{made_fold}
use Rattle.iris_shape.specs.declared.folding.Folded.{Folded}
use Rattle.iris_records.specs.Unmade.{unmade_fold}
use Rattle.iris_records.proofs.FoldsAndShapes.{unmade_made_fold}
use Rattle.iris_records.proofs.PartRecords.{adds_same, adds_twice, either_none}

none_of : (c : Bool) (o : Option Unfolded) → o ≡ None → cond c o None ≡ None
none_of true o e = e
none_of false o e = refl

no_first : (n : Name) (file : ℕ) (f : File) → blocks_below 0 n file f ≡ None
no_first (Entry i) file f = refl
no_first (Part g l i) file f = refl
no_first (Block g q) file f = by (g.0 == file) (nat_lt q 0) refl where
  by : (a b : Bool) → nat_lt q 0 ≡ b → cond (a && b) (block_of_place q f) None ≡ None
  by true true e = absurd (let h : q < 0 = grind (arith, nat_tests) in omega (arith, h))
  by true false e = refl
  by false b e = refl

pub blocks_begin : (key : List ℕ) (file : ℕ) (f : File) (s : Records) → Adds key (λ n. blocks_below 0 n file f) s s
blocks_begin key file f s = λ n. ap (λ o. either (option_map (spelled key n) o) (looked n s)) (sym (no_first n file f))

same_place : (f : StoredPlaces) (p : ℕ) (place : Place) → slice_get f.places p ≡ Some place → block_of_place p (file_of f) ≡ kept_block place
same_place f p place e = ap stored_place e where
  stored_place : Option Place → Option Unfolded
  stored_place o = cond (place_version o == 0) None (Some (Stored (place_version o) (block_of o)))

one_more : (n : Name) (file : ℕ) (f : StoredPlaces) (p : ℕ) (place : Place) → slice_get f.places p ≡ Some place
    → either (at_place n file p place) (blocks_below p n file (file_of f)) ≡ blocks_below (p + 1) n file (file_of f)
one_more (Entry i) file f p place e = refl
one_more (Part g l i) file f p place e = refl
one_more (Block g q) file f p place e = by (g.0 == file) (q == p) refl (nat_lt q p) refl (nat_lt q (p + 1)) refl where
  by : (a b : Bool) → (q == p) ≡ b → (c : Bool) → nat_lt q p ≡ c → (d : Bool) → nat_lt q (p + 1) ≡ d
      → either (cond (a && b) (kept_block place) None) (cond (a && c) (block_of_place q (file_of f)) None) ≡ cond (a && d) (block_of_place q (file_of f)) None
  by false b h c k d l = refl
  by true true h true k d l = absurd (let x : q ≡ p = grind (arith, nat_tests) in let y : q < p = grind (arith, nat_tests) in omega (arith, x, y))
  by true true h false k false l = absurd (let x : q ≡ p = grind (arith, nat_tests) in let y : p + 1 ≤ q = grind (arith, nat_tests) in omega (arith, x, y))
  by true true h false k true l = let x : q ≡ p = grind (arith, nat_tests) in either_none (kept_block place) ∙ sym (same_place f p place e) ∙ ap (λ z. block_of_place z (file_of f)) (sym x)
  by true false h true k true l = refl
  by true false h true k false l = absurd (let y : q < p = grind (arith, nat_tests) in let z : p + 1 ≤ q = grind (arith, nat_tests) in omega (arith, y, z))
  by true false h false k false l = refl
  by true false h false k true l = absurd (grind (arith, nat_tests))

pub blocks_next : (key : List ℕ) (file : ℕ) (f : StoredPlaces) (p : ℕ) (place : Place) (a b c : Records) → slice_get f.places p ≡ Some place → Adds key (λ n. blocks_below p n file (file_of f)) a b
    → Adds key (λ n. at_place n file p place) b c → Adds key (λ n. blocks_below (p + 1) n file (file_of f)) a c
blocks_next key file f p place a b c e h k =
    adds_same key _ (λ n. blocks_below (p + 1) n file (file_of f)) a c (λ n. one_more n file f p place e) (adds_twice key (λ n. blocks_below p n file (file_of f)) (λ n. at_place n file p place) a b c h k)

past_end : (f : StoredPlaces) (q : ℕ) → slice_get f.places q ≡ None → block_of_place q (file_of f) ≡ None
past_end f q e = ap stored_place e where
  stored_place : Option Place → Option Unfolded
  stored_place o = cond (place_version o == 0) None (Some (Stored (place_version o) (block_of o)))

pub blocks_all : (n : Name) (file : ℕ) (f : StoredPlaces) → blocks_below (length f.places) n file (file_of f) ≡ in_blocks n file (file_of f)
blocks_all (Entry i) file f = refl
blocks_all (Part g l i) file f = refl
blocks_all (Block g q) file f = by (g.0 == file) (nat_lt q (length f.places)) refl where
  by : (a b : Bool) → nat_lt q (length f.places) ≡ b → cond (a && b) (block_of_place q (file_of f)) None ≡ cond a (block_of_place q (file_of f)) None
  by false b e = refl
  by true true e = refl
  by true false e = sym (past_end f q (let h : length f.places ≤ q = grind (arith, nat_tests) in slice_get_past f.places q h))

pub blocks_end : (key : List ℕ) (file : ℕ) (f : StoredPlaces) (a b : Records) → Adds key (λ n. blocks_below (length f.places) n file (file_of f)) a b → Adds key (λ n. in_blocks n file (file_of f)) a b
blocks_end key file f a b h = adds_same key (λ n. blocks_below (length f.places) n file (file_of f)) (λ n. in_blocks n file (file_of f)) a b (λ n. blocks_all n file f) h

-- the fold of versions goes down no further than places
halved_of : (v : ℕ → ℕ) (l i : ℕ) (f : Fold) → IsFoldOf v l i f → IsHalved l f
halved_of v l i (One w) h = tt
halved_of v zero i (Two x y) h = absurd h
halved_of v (suc l) i (Two x y) h =
    let e : l ≡ suc l - 1 = omega arith in
    (omega arith, h.0, subst (λ z. IsHalved z x) e (halved_of v l (2 * i) x h.1), subst (λ z. IsHalved z y) e (halved_of v l (2 * i + 1) y h.2))

pub folded_halved : (v : ℕ → ℕ) (l : ℕ) → IsHalved l (folded v l 0)
folded_halved v l = halved_of v l 0 (folded v l 0) (one_fold v l 0).0

pub got : (xs : List Place) (i : ℕ) (x : Place) → i < length xs → x ≡ get_or xs i x → slice_get xs i ≡ Some x
got [] i x h e = absurd (omega arith)
got (y ∷ ys) zero x h e = ap Some (sym e)
got (y ∷ ys) (suc i) x h e = got ys i x (omega arith) e

-- the fold that the program makes of a file's versions
pub fold_is : (vs : List ℕ) (f : StoredPlaces) (x : Folded) → x ≡ made_fold (folded (λ p. slice_index vs p) 16 0) → ((p : ℕ) → p < 65536 → slice_index vs p ≡ version_at f.places p) → unmade_fold x ≡ folded (file_of f).version 16 0
fold_is vs f x e h = ap unmade_fold e ∙ unmade_made_fold (folded (λ p. slice_index vs p) 16 0) ∙ folded_same (λ p. slice_index vs p) (file_of f).version 16 0 (λ p u. h p (let k = u.to in omega (arith, k)))

pub fold_halved : (vs : List ℕ) (x : Folded) → x ≡ made_fold (folded (λ p. slice_index vs p) 16 0) → IsHalved 16 (unmade_fold x)
fold_halved vs x e = subst (IsHalved 16) (sym (ap unmade_fold e ∙ unmade_made_fold (folded (λ p. slice_index vs p) 16 0))) (folded_halved (λ p. slice_index vs p) 16)
