-- The tests of the rules decide the rules.
use Rattle.std.proofs.Common.{◌≡◌, ◌≢◌, ◌==◌, ℕ, ◌<◌, ◌≤◌, List, [], ◌∷◌, length, Bool, true, false, not, ◌&&◌, ◌||◌, Option, Some, None, is_none, refl, sym, ◌∙◌, ap, arith, cond, nat_le, nat_lt}
use Rattle.std.specs.Prelude.{codes, IsUtf8}
use Rattle.std.proofs.lemmas.Bool.{and_parts, eqb-true}
use Rattle.std.proofs.lemmas.Bool.Decides.{nat_tests}
use Rattle.std.proofs.lemmas.List.{nil_from_length}
use Rattle.iris_node.specs.declared.node.Side.{Side}
use Rattle.iris_node.specs.declared.node.Side.TheVariants.{Fold, Below}
use Rattle.iris_node.specs.declared.node.Link.{Link}
use Rattle.iris_node.specs.declared.node.Body.{Body}
use Rattle.iris_node.specs.declared.node.Body.TheVariants.{Dir, File}
use Rattle.iris_node.specs.Fields.{EntryFields, PartFields}
use Rattle.iris_node.specs.Rules.{IsEntry, IsPart, IsRoot, IsFileName, IsLinkToNamed, IsBody, IsDir, IsFold, AreUnequalSides}
use Rattle.iris_node.specs.Tests.{is_dots, is_file_name, is_linked, is_body, is_directory_body, is_root, is_placed, is_entry, is_fold, differ, is_part}

both : (a b : Bool) → a ≡ true → b ≡ true → (a && b) ≡ true
both true b h k = k
both false b h k = h

le_from : (a b : ℕ) → nat_le a b ≡ true → a ≤ b
le_from a b h = grind (arith, nat_tests)

le_test : (a b : ℕ) → a ≤ b → nat_le a b ≡ true
le_test a b h = grind (arith, nat_tests)

lt_from : (a b : ℕ) → nat_lt a b ≡ true → a < b
lt_from a b h = grind (arith, nat_tests)

lt_test : (a b : ℕ) → a < b → nat_lt a b ≡ true
lt_test a b h = grind (arith, nat_tests)

none_from : {A : Type 0} (o : Option A) → is_none o ≡ true → o ≡ None
none_from None h = refl
none_from (Some x) h = absurd cc

none_test : {A : Type 0} (o : Option A) → o ≡ None → is_none o ≡ true
none_test None h = refl
none_test (Some x) h = absurd cc

linked_kept : (o : Option Link) → is_linked o ≡ true → IsLinkToNamed o
linked_kept None h = tt
linked_kept (Some l) h = le_from 2 l.id.0 h

linked_test : (o : Option Link) → IsLinkToNamed o → is_linked o ≡ true
linked_test None h = refl
linked_test (Some l) h = le_test 2 l.id.0 h

dir_kept : (b : Body) → is_directory_body b ≡ true → IsDir b
dir_kept (Dir top) h = tt
dir_kept (File size counter versions) h = absurd cc

dir_test : (b : Body) → IsDir b → is_directory_body b ≡ true
dir_test (Dir top) h = refl
dir_test (File size counter versions) h = absurd h

body_kept : (b : Body) → is_body b ≡ true → IsBody b
body_kept (Dir top) h = linked_kept top h
body_kept (File size counter versions) h = le_from size _ h

body_test : (b : Body) → IsBody b → is_body b ≡ true
body_test (Dir top) h = linked_test top h
body_test (File size counter versions) h = le_test size _ h

not_dot : (name : List ℕ) → not (is_dots name) ≡ true → name ≢ codes "."
not_dot name h e = let k : not (is_dots (codes ".")) ≡ true = ap (λ n. not (is_dots n)) (sym e) ∙ h in cc

not_dots : (name : List ℕ) → not (is_dots name) ≡ true → name ≢ codes ".."
not_dots name h e = let k : not (is_dots (codes "..")) ≡ true = ap (λ n. not (is_dots n)) (sym e) ∙ h in cc

dots_one : (b : ℕ) → (b ∷ []) ≢ codes "." → not (b == 46) ≡ true
dots_one b h = by (b == 46) (λ e. h (ap (λ x. x ∷ []) (eqb-true b 46 e)))
  where
    by : (t : Bool) → (t ≡ true → ⊥) → not t ≡ true
    by true f = absurd (f refl)
    by false f = refl

dots_two : (b c : ℕ) → (b ∷ c ∷ []) ≢ codes ".." → not ((b == 46) && (c == 46)) ≡ true
dots_two b c h = by (b == 46) (c == 46) (λ e k. h (let x : b ≡ 46 = eqb-true b 46 e in let y : c ≡ 46 = eqb-true c 46 k in cc))
  where
    by : (t u : Bool) → (t ≡ true → u ≡ true → ⊥) → not (t && u) ≡ true
    by true true f = absurd (f refl refl)
    by true false f = refl
    by false u f = refl

dots_test : (name : List ℕ) → name ≢ codes "." → name ≢ codes ".." → not (is_dots name) ≡ true
dots_test [] h k = refl
dots_test (b ∷ []) h k = dots_one b h
dots_test (b ∷ c ∷ []) h k = dots_two b c k
dots_test (b ∷ c ∷ d ∷ more) h k = refl

pub name_kept : (name : List ℕ) → IsUtf8 name → is_file_name name ≡ true → IsFileName name
name_kept name u h =
    let a = and_parts _ _ h in
    let b = and_parts _ _ a.1 in
    let c = and_parts _ _ b.1 in
    record { text = u; some = le_from 1 (length name) a.0; short = le_from (length name) 255 b.0; dot = not_dot name c.0; dots = not_dots name c.0; bytes = c.1 }

pub name_test : (name : List ℕ) → IsFileName name → is_file_name name ≡ true
name_test name h =
    both _ _ (le_test 1 (length name) h.some) (both _ _ (le_test (length name) 255 h.short) (both _ _ (dots_test name h.dot h.dots) h.bytes))

root_kept : (e : EntryFields) → is_root e ≡ true → IsRoot e
root_kept e h =
    let a = and_parts _ _ h in
    let b = and_parts _ _ a.1 in
    let c = and_parts _ _ b.1 in
    record { name = nil_from_length e.name (eqb-true (length e.name) 0 a.0); left = none_from e.left b.0; right = none_from e.right c.0; body = dir_kept e.body c.1 }

root_test : (e : EntryFields) → IsRoot e → is_root e ≡ true
root_test e h =
    let empty : (length e.name == 0) ≡ true = ap (λ n. length n == 0) h.name in
    both _ _ empty (both _ _ (none_test e.left h.left) (both _ _ (none_test e.right h.right) (dir_test e.body h.body)))

placed_by : (P Q : Type 0) (a b t : Bool) → (a ≡ true → P) → (b ≡ true → Q) → cond t a b ≡ true → (t ≡ true → P) × (t ≡ false → Q)
placed_by P Q a b true f g h = ((λ _. f h), (λ e. absurd cc))
placed_by P Q a b false f g h = ((λ e. absurd cc), (λ _. g h))

lt_false : (a b : ℕ) → b ≤ a → nat_lt a b ≡ false
lt_false a b h = grind (arith, nat_tests)

pub entry_kept : (e : EntryFields) → IsUtf8 e.name → is_entry e ≡ true → IsEntry e
entry_kept e u h =
    let a = and_parts _ _ h in
    let b = and_parts _ _ a.1 in
    let c = and_parts _ _ b.1 in
    let p = placed_by (IsRoot e) (IsFileName e.name) (is_root e) (is_file_name e.name) (nat_lt e.id.0 2) (root_kept e) (name_kept e.name u) a.0 in
    record { root = λ lt. p.0 (lt_test e.id.0 2 lt); name = λ le. p.1 (lt_false e.id.0 2 le); left = linked_kept e.left b.0; right = linked_kept e.right c.0; body = body_kept e.body c.1 }

placed_test : (e : EntryFields) → IsEntry e → is_placed e ≡ true
placed_test e h = by (nat_lt e.id.0 2) (λ t. root_test e (h.root (lt_from e.id.0 2 t))) (λ f. name_test e.name (h.name (le_of e.id.0 2 f)))
  where
    by : (t : Bool) → (t ≡ true → is_root e ≡ true) → (t ≡ false → is_file_name e.name ≡ true) → cond t (is_root e) (is_file_name e.name) ≡ true
    by true f g = f refl
    by false f g = g refl

    le_of : (a b : ℕ) → nat_lt a b ≡ false → b ≤ a
    le_of a b h = grind (arith, nat_tests)

pub entry_test : (e : EntryFields) → IsEntry e → is_entry e ≡ true
entry_test e h = both _ _ (placed_test e h) (both _ _ (linked_test e.left h.left) (both _ _ (linked_test e.right h.right) (body_test e.body h.body)))

fold_kept : (s : Side) → is_fold s ≡ true → IsFold s
fold_kept (Fold v) h = tt
fold_kept (Below b) h = absurd cc

fold_test : (s : Side) → IsFold s → is_fold s ≡ true
fold_test (Fold v) h = refl
fold_test (Below b) h = absurd h

differ_kept : (a b : Side) → differ a b ≡ true → AreUnequalSides a b
differ_kept (Fold v) (Fold w) h = λ e. by (v == w) (eq_test v w e) h
  where
    by : (t : Bool) → t ≡ true → not t ≡ true → ⊥
    by true e h = cc
    by false e h = cc

    eq_test : (v w : ℕ) → v ≡ w → (v == w) ≡ true
    eq_test v w e = grind (arith, nat_tests)
differ_kept (Fold v) (Below b) h = tt
differ_kept (Below a) b h = tt

differ_test : (a b : Side) → AreUnequalSides a b → differ a b ≡ true
differ_test (Fold v) (Fold w) h = by (v == w) (λ e. h (eqb-true v w e))
  where
    by : (t : Bool) → (t ≡ true → ⊥) → not t ≡ true
    by true f = absurd (f refl)
    by false f = refl
differ_test (Fold v) (Below b) h = refl
differ_test (Below a) b h = refl

places_kept : (l : ℕ) (a b : Bool) → (not (l == 1) || (a && b)) ≡ true → l ≡ 1 → (a ≡ true) × (b ≡ true)
places_kept l a b h e = and_parts a b (by (l == 1) (grind (arith, nat_tests)) h)
  where
    by : (t : Bool) → t ≡ true → (not t || (a && b)) ≡ true → (a && b) ≡ true
    by true e h = h
    by false e h = absurd cc

places_test : (l : ℕ) (a b : Bool) → (l ≡ 1 → (a ≡ true) × (b ≡ true)) → (not (l == 1) || (a && b)) ≡ true
places_test l a b h = by (l == 1) (λ e. h (eqb-true l 1 e))
  where
    by : (t : Bool) → (t ≡ true → (a ≡ true) × (b ≡ true)) → (not t || (a && b)) ≡ true
    by true f = both a b (f refl).0 (f refl).1
    by false f = refl

pub part_kept : (p : PartFields) → is_part p ≡ true → IsPart p
part_kept p h =
    let a = and_parts _ _ h in
    let b = and_parts _ _ a.1 in
    let c = and_parts _ _ b.1 in
    let d = and_parts _ _ c.1 in
    let e = and_parts _ _ d.1 in
    record {
      file = le_from 2 p.file.0 a.0;
      level = le_from 1 p.level b.0;
      height = le_from p.level _ c.0;
      index = lt_from p.index _ d.0;
      places = λ k. let q = places_kept p.level (is_fold p.low) (is_fold p.high) e.0 k in (fold_kept p.low q.0, fold_kept p.high q.1);
      split = differ_kept p.low p.high e.1;
    }

pub part_test : (p : PartFields) → IsPart p → is_part p ≡ true
part_test p h =
    both _ _ (le_test 2 p.file.0 h.file) (both _ _ (le_test 1 p.level h.level) (both _ _ (le_test p.level _ h.height) (both _ _ (lt_test p.index _ h.index)
    (both _ _ (places_test p.level (is_fold p.low) (is_fold p.high) (λ k. (fold_test p.low (h.places k).0, fold_test p.high (h.places k).1))) (differ_test p.low p.high h.split)))))
