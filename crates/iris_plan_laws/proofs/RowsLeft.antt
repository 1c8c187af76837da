-- Where names lead once a row is in hand, and what is left of the rows there.
use Rattle.std.proofs.Common.{◌≡◌, inl, inr, ℕ, List, [], ◌∷◌, Bool, true, false, ◌&&◌, cond, Option, Some, None, refl, sym, ◌∙◌, ap, arith}
use Rattle.std.specs.Str.{bytes_eq}
use Rattle.iris_plain.specs.Routes.{parent, last, is_front, is_at_or_under, rest}
use Rattle.iris_rows.specs.Rows.{File, Rows, End, Row, Taken, Here, root_row, resolved, followed, entered, find, without_row, at}
use Rattle.iris_rows.specs.Sound.{IsDistinct}
use Rattle.iris_rows.proofs.KindsByPath.{distinct_in}
use Rattle.iris_rows.proofs.RowHolding.{holding, mapped}
use Rattle.iris_rows.proofs.RowsByName.{same_tells, past, find_without, find_at}
use Rattle.iris_forest.proofs.Ids.{taken_eq, missing_here, through_here}
use Rattle.iris_plan_laws.specs.Moves.{left_below, NamesLeadOn, NoNameComes}

turned_name : (a b : List ℕ) → bytes_eq a b ≡ bytes_eq b a
turned_name a b = elim (same_tells a b) [
  | inl t ↦ ap (λ z. bytes_eq z b) t.1 ∙ sym (ap (bytes_eq b) t.1)
  | inr t ↦ elim (same_tells b a) [ inl k ↦ absurd (t.1 (sym k.1)) | inr k ↦ t.0 ∙ sym k.0 ]
]

nothing_ahead : (b : Bool) (q : List (List ℕ)) → b && is_front q [] ≡ false
nothing_ahead true [] = refl
nothing_ahead true (m ∷ q) = refl
nothing_ahead false q = refl

-- a directory beside whose path the row stands keeps its rows
stays : (q taken : List (List ℕ)) (dir : Taken) → is_front q taken ≡ false → Here dir ≡ Here (holding (left_below q taken dir.inside) dir)
stays q taken dir e = ap (λ b. Here (holding (cond b (at (parent (rest q taken)) (without_row (last taken)) dir.inside) dir.inside) dir)) (sym e)

leads_on : (n : List ℕ) (ns q : List (List ℕ)) (row dir : Taken) → IsDistinct row.inside → is_at_or_under (n ∷ ns) q ≡ false → resolved q row ≡ Here dir
    → resolved q (holding (at (parent (n ∷ ns)) (without_row (last (n ∷ ns))) row.inside) row) ≡ Here (holding (left_below q (n ∷ ns) dir.inside) dir)
leads_on n ns [] row dir d u e = ap (λ (z : Taken). Here (holding (at (parent (n ∷ ns)) (without_row (last (n ∷ ns))) z.inside) z)) (taken_eq row dir e)
leads_on n [] (m ∷ q) row dir d u e = by row.file (bytes_eq m n) refl u e where
  by : (file : Option File) (b : Bool) → bytes_eq m n ≡ b → b && true ≡ false → entered file (followed (find m row.inside) (λ below. resolved q below)) ≡ Here dir
      → entered file (followed (find m (without_row n row.inside)) (λ below. resolved q below)) ≡ Here (holding (left_below (m ∷ q) (n ∷ []) dir.inside) dir)
  by (Some f) b t u e = absurd (through_here dir e)
  by None true t u e = absurd (cc)
  by None false t u e =
      ap (λ o. followed o (λ below. resolved q below)) (find_without m n row.inside d ∙ ap (λ b. cond b None (find m row.inside)) t) ∙ e ∙ stays (m ∷ q) (n ∷ []) dir (nothing_ahead (bytes_eq n m) q)
leads_on n (k ∷ ks) (m ∷ q) row dir d u e =
    by row.file (find m row.inside) refl (bytes_eq m n) refl u e (λ below f v g. leads_on k ks q below dir (distinct_in m row.inside below f d) v g) where
      found : (b : Bool) → bytes_eq m n ≡ b → find m (at (n ∷ parent (k ∷ ks)) (without_row (last (k ∷ ks))) row.inside)
          ≡ cond b (mapped (λ r. holding (at (parent (k ∷ ks)) (without_row (last (k ∷ ks))) r.inside) r) (find m row.inside)) (find m row.inside)
      found b t = find_at m n (parent (k ∷ ks)) (without_row (last (k ∷ ks))) row.inside ∙ ap (λ b. cond b (mapped (λ r. holding (at (parent (k ∷ ks)) (without_row (last (k ∷ ks))) r.inside) r) (find m row.inside)) (find m row.inside)) t

      by : (file : Option File) (o : Option Taken) → find m row.inside ≡ o → (b : Bool) → bytes_eq m n ≡ b → b && is_at_or_under (k ∷ ks) q ≡ false → entered file (followed o (λ below. resolved q below)) ≡ Here dir
          → ((below : Taken) → find m row.inside ≡ Some below → is_at_or_under (k ∷ ks) q ≡ false → resolved q below ≡ Here dir
          → resolved q (holding (at (parent (k ∷ ks)) (without_row (last (k ∷ ks))) below.inside) below) ≡ Here (holding (left_below q (k ∷ ks) dir.inside) dir))
          → entered file (followed (find m (at (n ∷ parent (k ∷ ks)) (without_row (last (k ∷ ks))) row.inside)) (λ below. resolved q below)) ≡ Here (holding (left_below (m ∷ q) (n ∷ k ∷ ks) dir.inside) dir)
      by (Some g) o f b t u e ih = absurd (through_here dir e)
      by None None f b t u e ih = absurd (missing_here dir e)
      by None (Some below) f true t u e ih =
          ap (λ o. followed o (λ below. resolved q below)) (found true t ∙ ap (mapped (λ r. holding (at (parent (k ∷ ks)) (without_row (last (k ∷ ks))) r.inside) r)) f) ∙ ih below f u e
          ∙ ap (λ b. Here (holding (cond (b && is_front q (k ∷ ks)) (at (parent (rest q (k ∷ ks))) (without_row (last (k ∷ ks))) dir.inside) dir.inside) dir)) (sym (turned_name n m ∙ t))
      by None (Some below) f false t u e ih =
          ap (λ o. followed o (λ below. resolved q below)) (found false t ∙ f) ∙ e ∙ stays (m ∷ q) (n ∷ k ∷ ks) dir (ap (λ b. b && is_front q (k ∷ ks)) (turned_name n m ∙ t))

pub names_lead_on : NamesLeadOn
names_lead_on t [] names x i rows s some u e = absurd (omega (arith, some))
names_lead_on t (n ∷ ns) names x i rows s some u e = leads_on n ns names (root_row t) (record { id = i; file = None; inside = rows }) s.distinct u e

-- ---- no name comes

gone_absent : (m n : List ℕ) (rows : Rows) → find m rows ≡ None → find m (without_row n rows) ≡ None
gone_absent m n End e = refl
gone_absent m n (Row id name file inside next) e = let p = past (bytes_eq m name) _ _ e in by (bytes_eq n name) p.0 (gone_absent m n next p.1) p.1 where
  by : (b : Bool) → bytes_eq m name ≡ false → find m (without_row n next) ≡ None → find m next ≡ None → find m (cond b next (Row id name file inside (without_row n next))) ≡ None
  by true t ih h = h
  by false t ih h = ap (λ z. cond z (Some (record { id = id; file = file; inside = inside })) (find m (without_row n next))) t ∙ ih

mapped_absent : (b : Bool) (f : Taken → Taken) (o : Option Taken) → o ≡ None → cond b (mapped f o) o ≡ None
mapped_absent true f None e = refl
mapped_absent false f None e = refl
mapped_absent b f (Some row) e = absurd (cc)

pub no_name_comes : NoNameComes
no_name_comes names taken name rows e = by (is_front names taken) (parent (rest names taken)) where
  by : (b : Bool) (ns : List (List ℕ)) → find name (cond b (at ns (without_row (last taken)) rows) rows) ≡ None
  by false ns = e
  by true [] = gone_absent name (last taken) rows e
  by true (n ∷ ns) = find_at name n ns (without_row (last taken)) rows ∙ mapped_absent (bytes_eq name n) (λ r. holding (at ns (without_row (last taken)) r.inside) r) (find name rows) e
