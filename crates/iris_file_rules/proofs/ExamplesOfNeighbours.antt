-- Two files `a` and `b` in `/`, with ids 2 and 6, under a key by which the row of `a` stands above that of `b`: a row that isn't
-- met on the way to another's, and is met where that one goes.
use Rattle.std.proofs.Common.{◌≡◌, inl, inr, ◌==◌, ℕ, List, [], ◌∷◌, true, cond, Some, None, refl, sym, ◌∙◌, ap, subst, arith}
use Rattle.std.specs.Prelude.{codes}
use Rattle.iris_name.specs.declared.name.FileId.{FileId}
use Rattle.iris_name.specs.declared.name.Name.{Name}
use Rattle.iris_name.specs.declared.name.Name.TheVariants as name
use Rattle.iris_name.specs.declared.request.Request.TheVariants.{Stat, Remove, Rename}
use Rattle.iris_node.specs.Trees.{Shown}
use Rattle.iris_node.specs.Unfolded.{Absent, Folder, id_of}
use Rattle.iris_paths.specs.declared.resolving.Found.TheVariants.{At}
use Rattle.iris_paths.specs.Pictured.{IsAlong, nearby, further}
use Rattle.iris_paths.specs.Resolving.{here, onward, root_id, Resolves}
use Rattle.iris_paths.proofs.Alike.{alike_same, any_alike, AnyNamed}
use Rattle.iris_shape.specs.Treap.{Treap, Empty, Over, treap, with_first, near}
use Rattle.iris_treepaths.specs.Needs.{IsMet}
use Rattle.iris_treepaths.specs.Rows.{Row, treap_of_rows, HasRows, up}
use Rattle.iris_treepaths.specs.Ways.{along, along_name, near_name, is_row_before, has_name}
use Rattle.iris_file_rules.proofs.ExampleShown.{label, file_row, row_a, entry, at_a, at_b, by_names, of_names, number_of, some_names, reaches}

abbrev row_b : Row
row_b = file_row 6 (label 98) 10

abbrev both : List Row
both = row_a 10 ∷ row_b ∷ []

-- the root alone, with both rows
abbrev pair : List ℕ → Shown
pair key (name.Entry i) = cond (i.0 == 0) (Some (Folder 0 [] Absent Absent (treap_of_rows key both))) None
pair key (name.Part f l i) = None
pair key (name.Block f p) = None

module _ (key : List ℕ) (higher : up key (row_a 10) row_b ≡ true) where
  there : HasRows (pair key) key (id_of 0) both
  there = record {
    entry = (refl, refl);
    rising = ((refl, tt), (tt, tt));
    distinct = ((λ e. absurd (let z : 2 ≡ 6 = e in omega (arith, z)), tt), (tt, tt));
    named = (omega arith, (omega arith, tt));
    apart = ((λ e. absurd (let z = e in cc), (λ e. absurd (let z = e in cc), tt)), ((λ e. absurd (let z = e in cc), (λ e. absurd (let z = e in cc), tt)), tt));
  }

  -- the treap: the one above the other
  abbrev of_both : Treap Row
  of_both = Over (row_a 10) Empty (Over row_b Empty Empty)

  treap_is : treap (up key) both ≡ of_both
  treap_is = ap (λ z. cond z of_both (Over row_b (with_first (up key) (row_a 10) Empty) Empty)) higher

  -- a look at `a` doesn't meet the row of `b`, and one at `b` meets that of `a`
  not_along : (n : List ℕ) (rows : List Row) → HasRows (pair key) key (id_of 0) rows → AnyNamed (entry 6) (along_name n key rows) → AnyNamed (entry 6) (along (is_row_before n) (has_name n) of_both)
  unfolding treap_of_rows
  not_along n rows has h = subst (λ w. AnyNamed (entry 6) (along (is_row_before n) (has_name n) w)) treap_is
      (any_alike n (entry 6) (treap (up key) rows) (treap (up key) both) (alike_same (treap (up key) rows) (treap (up key) both) (sym has.entry.1 ∙ refl)) h)

  apart_from : (a b : ℕ) → (a ≡ b → ⊥) → entry a ≡ entry b → ⊥
  apart_from a b ne e = ne (ap number_of e)

  not_met : (rows : List Row) → HasRows (pair key) key (id_of 0) rows → IsMet root_id (along_name (label 97) key rows) (entry 6) → ⊥
  not_met rows has (inl e) = apart_from 6 0 (λ z. absurd (omega (arith, z))) e
  not_met rows has (inr h) = elim (not_along (label 97) rows has h) [ inl e ↦ apart_from 6 2 (λ z. absurd (omega (arith, z))) e | inr z ↦ z ]

  stat_not_met : reaches key (pair key) (Stat (codes "/a")) (entry 6) → ⊥
  stat_not_met h = elim (of_names _ _ _ at_a h) [ inl e ↦ apart_from 6 0 (λ z. absurd (omega (arith, z))) e | inr m ↦ by root_id (label 97 ∷ []) (entry 6) m refl refl refl ] where
    none : (dir : FileId) (ns : List (List ℕ)) (n : Name) → IsAlong (pair key) key dir ns n → ns ≡ [] → ⊥
    none dir ns n (nearby d m ms rows q has met) e = some_names m ms e
    none dir ns n (further d next m ms rows q has named rest) e = some_names m ms e

    first : List (List ℕ) → List ℕ
    first [] = []
    first (m ∷ ms) = m

    others : List (List ℕ) → List (List ℕ)
    others [] = []
    others (m ∷ ms) = ms

    by : (dir : FileId) (ns : List (List ℕ)) (n : Name) → IsAlong (pair key) key dir ns n → dir ≡ root_id → ns ≡ label 97 ∷ [] → n ≡ entry 6 → ⊥
    by dir ns n (nearby d m ms rows q has met) e f i = not_met rows (subst (λ z. HasRows (pair key) key z rows) e has)
        (subst (λ z. IsMet z (along_name (label 97) key rows) (entry 6)) e (subst (λ z. IsMet dir (along_name (label 97) key rows) z) i (subst (λ z. IsMet dir (along_name z key rows) n) (ap first f) met)))
    by dir ns n (further d next m ms rows q has named rest) e f i = none next ms n rest (ap others f)

  stat_met : reaches key (pair key) (Stat (codes "/b")) (entry 2)
  stat_met = by_names _ _ _ at_b (inr (nearby root_id (label 98) [] both (entry 2) there (inr (subst (λ w. AnyNamed (entry 2) (along (is_row_before (label 98)) (has_name (label 98)) w)) (sym treap_is) (inl refl)))))

  leads : Resolves (pair key) key (label 97 ∷ []) (At (id_of 2) (id_of 0))
  leads = onward (id_of 0) (id_of 0) (id_of 2) (label 97) [] both (At (id_of 2) (id_of 0)) there (inl (refl, refl)) (here (id_of 2) (id_of 0))

  -- where `a` is removed, or moved, its neighbour is met
  near_b : IsMet (id_of 0) (near_name (label 97) key both) (entry 6)
  near_b = inr (subst (λ w. AnyNamed (entry 6) (near (is_row_before (label 97)) (has_name (label 97)) w)) (sym treap_is) (inr (inl refl)))

  remove_met : reaches key (pair key) (Remove (codes "/a")) (entry 6)
  remove_met = by_names _ _ _ at_a (some_names _ _, inr (record { id = id_of 2; dir = id_of 0; leads = leads; met = inl (record { id = id_of 2; dir = id_of 0; rows = both; leads = leads; has = there; met = near_b }) }))

  rename_met : reaches key (pair key) (Rename (codes "/a") (codes "/a")) (entry 6)
  rename_met = by_names _ _ _ at_a (by_names _ _ _ at_a (some_names _ _, inr (inr (record { id = id_of 2; dir = id_of 0; rows = both; leads = leads; has = there; met = near_b }))))
