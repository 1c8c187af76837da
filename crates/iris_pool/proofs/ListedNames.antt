-- Lists in which each name stands once: of the entries that are dirty, of the doomed names of a kind, and of both.
use Rattle.std.proofs.Common.{◌≡◌, ◌⊎◌, inl, inr, ◌+◌, ◌≤◌, ◌&&◌, ◌||◌, ℕ, List, [], ◌∷◌, ◌++◌, length, Bool, true, false, true≢false, cond, filter, Option, Some, None, refl, sym, ◌∙◌, ap, subst, arith}
use Rattle.std.proofs.lemmas.List.Folds.{list_any-append}
use Rattle.std.proofs.lemmas.List.Sums.{sum_by-cons}
use Rattle.std.proofs.lemmas.Map.Made.{length-le_from_is_member}
use Rattle.std.proofs.lemmas.Map.Views.{any-filter_same}
use Rattle.std.specs.List.{AllByRecursion, IsDistinct, count_by, list_any}
use Rattle.std.specs.Map.{keys_of, lookup}
use Rattle.iris_history.specs.Crowding.{AreSeveral, AtLeast}
use Rattle.iris_name.specs.declared.name.Name.{Name}
use Rattle.iris_name.specs.Names.{same_name}
use Rattle.iris_name.specs.NameLaws.{same_name-true, same_name-refl, same_name_equiv}
use Rattle.iris_pool.specs.Counts.{AreSoMany}

abbrev pub AnyName : Name → Type 0
AnyName n = Unit {0}

either : (a b : Bool) → (a || b) ≡ true → (a ≡ true) ⊎ (b ≡ true)
either true b h = inl refl
either false b h = inr h

neither : (a b : Bool) → (a || b) ≡ false → (a ≡ false) × (b ≡ false)
neither true b e = absurd (cc)
neither false b e = (refl, e)

or_true : (a b : Bool) → b ≡ true → (a || b) ≡ true
or_true true b e = refl
or_true false b e = e

both_off : (a b : Bool) → a ≡ false → b ≡ false → (a || b) ≡ false
both_off true b e f = e
both_off false b e f = f

-- ---- several names

apart_any : (n : Name) (ns : List Name) → AllByRecursion (λ m. same_name n m ≡ false) ns → list_any (same_name n) ns ≡ false
apart_any n [] h = refl
apart_any n (m ∷ ns) h = both_off (same_name n m) (list_any (same_name n) ns) h.0 (apart_any n ns h.1)

any_apart : (n : Name) (ns : List Name) → list_any (same_name n) ns ≡ false → AllByRecursion (λ m. same_name n m ≡ false) ns
any_apart n [] h = tt
any_apart n (m ∷ ns) h = let e = neither (same_name n m) (list_any (same_name n) ns) h in (e.0, any_apart n ns e.1)

pub several_distinct : (P : Name → Type 0) (ns : List Name) → AreSeveral P ns → IsDistinct same_name ns
unfolding IsDistinct
several_distinct P [] h = tt
several_distinct P (n ∷ ns) h = (any_apart n ns h.1, several_distinct P ns h.2)

each_has : (P : Name → Type 0) (ns : List Name) → AreSeveral P ns → (q : Name) → list_any (same_name q) ns ≡ true → P q
each_has P [] h q e = absurd (true≢false (sym e))
each_has P (n ∷ ns) h q e = elim (either (same_name q n) (list_any (same_name q) ns) e) [
  | inl s ↦ subst P (sym (same_name-true q n s)) h.0
  | inr s ↦ each_has P ns h.2 q s
]

has_each : (P : Name → Type 0) (ns : List Name) → AreSeveral AnyName ns → ((q : Name) → list_any (same_name q) ns ≡ true → P q) → AreSeveral P ns
has_each P [] h f = tt
has_each P (n ∷ ns) h f = (f n (ap (λ b. b || list_any (same_name n) ns) (same_name-refl n)), h.1, has_each P ns h.2 (λ q e. f q (or_true (same_name q n) (list_any (same_name q) ns) e)))

pub several_both : (xs ys : List Name) → AreSeveral AnyName xs → AreSeveral AnyName ys → ((n : Name) → list_any (same_name n) xs ≡ true → list_any (same_name n) ys ≡ false) → AreSeveral AnyName (xs ++ ys)
several_both [] ys h k f = k
several_both (x ∷ xs) ys h k f = (
  tt,
  list_any-append (same_name x) xs ys ∙ both_off (list_any (same_name x) xs) (list_any (same_name x) ys) h.1 (f x (ap (λ b. b || list_any (same_name x) xs) (same_name-refl x))),
  several_both xs ys h.2 k (λ n e. f n (or_true (same_name n x) (list_any (same_name n) xs) e)),
)

-- a list of exactly the names that have P says how many there are
module _ (P : Name → Type 0) (ns : List Name) (once : AreSeveral AnyName ns) (all : (n : Name) → P n → list_any (same_name n) ns ≡ true) (only : (n : Name) → list_any (same_name n) ns ≡ true → P n) where
  most : (ms : List Name) → AreSeveral P ms → length ms ≤ length ns
  most ms h = length-le_from_is_member same_name_equiv ms ns (several_distinct P ms h) (λ q e. all q (each_has P ms h q e))

  pub listed_so_many : AreSoMany (length ns) P
  listed_so_many = record {
    at_least = λ c. ((λ few. at_least c few), (λ le. (ns, le, has_each P ns once only)));
    at_most = λ c. ((λ few. few ns (has_each P ns once only)), (λ le ms h. let m = most ms h in omega (arith, m, le)));
  } where
    at_least : (c : ℕ) → AtLeast c P → c ≤ length ns
    at_least c few = let m = most few.0 few.2 in let le = few.1 in omega (arith, m, le)

-- ---- the names of the entries that are dirty

module _ {H : Type 0} (dirty : H → Bool) where
  abbrev pub dirty_names : List (Name × H) → List Name
  dirty_names [] = []
  dirty_names (e ∷ es) = cond (dirty e.1) (e.0 ∷ dirty_names es) (dirty_names es)

  abbrev pub dirty_at : Option H → Bool
  dirty_at None = false
  dirty_at (Some h) = dirty h

  absent : (n : Name) (es : List (Name × H)) → list_any (same_name n) (keys_of es) ≡ false → list_any (same_name n) (dirty_names es) ≡ false
  absent n [] h = refl
  absent n (e ∷ es) h = by (dirty e.1) (absent n es (neither (same_name n e.0) (list_any (same_name n) (keys_of es)) h).1) where
    by : (b : Bool) → list_any (same_name n) (dirty_names es) ≡ false → list_any (same_name n) (cond b (e.0 ∷ dirty_names es) (dirty_names es)) ≡ false
    by true rest = both_off (same_name n e.0) (list_any (same_name n) (dirty_names es)) (neither (same_name n e.0) (list_any (same_name n) (keys_of es)) h).0 rest
    by false rest = rest

  pub dirty_counted : (es : List (Name × H)) → length (dirty_names es) ≡ count_by (λ e. dirty e.1) es
  dirty_counted [] = refl
  dirty_counted (e ∷ es) = by (dirty e.1) (dirty_counted es) ∙ sym (sum_by-cons (λ (x : Name × H). cond (dirty x.1) 1 0) e es) where
    by : (b : Bool) → length (dirty_names es) ≡ count_by (λ e. dirty e.1) es → length (cond b (e.0 ∷ dirty_names es) (dirty_names es)) ≡ cond b 1 0 + count_by (λ e. dirty e.1) es
    by true rest = omega (arith, rest)
    by false rest = omega (arith, rest)

  pub dirty_once : (es : List (Name × H)) → IsDistinct same_name (keys_of es) → AreSeveral AnyName (dirty_names es)
  unfolding IsDistinct
  dirty_once [] h = tt
  dirty_once (e ∷ es) h = by (dirty e.1) (dirty_once es h.1) where
    by : (b : Bool) → AreSeveral AnyName (dirty_names es) → AreSeveral AnyName (cond b (e.0 ∷ dirty_names es) (dirty_names es))
    by true rest = (tt, absent e.0 es (apart_any e.0 (keys_of es) h.0), rest)
    by false rest = rest

  pub dirty_listed : (n : Name) (es : List (Name × H)) → IsDistinct same_name (keys_of es) → list_any (same_name n) (dirty_names es) ≡ dirty_at (lookup (same_name n) es)
  unfolding IsDistinct
  dirty_listed n [] h = refl
  dirty_listed n (e ∷ es) h = by (dirty_listed n es h.1) (same_name n e.0) (dirty e.1) refl refl where
    by : list_any (same_name n) (dirty_names es) ≡ dirty_at (lookup (same_name n) es)
        → (b d : Bool) → same_name n e.0 ≡ b → dirty e.1 ≡ d → list_any (same_name n) (cond d (e.0 ∷ dirty_names es) (dirty_names es)) ≡ dirty_at (cond b (Some e.1) (lookup (same_name n) es))
    by rest true true s t = ap (λ b. b || list_any (same_name n) (dirty_names es)) s ∙ sym t
    by rest true false s t = absent n es (subst (λ m. list_any (same_name m) (keys_of es) ≡ false) (sym (same_name-true n e.0 s)) (apart_any e.0 (keys_of es) h.0)) ∙ sym t
    by rest false true s t = ap (λ b. b || list_any (same_name n) (dirty_names es)) s ∙ rest
    by rest false false s t = rest

-- ---- the names of a kind

module _ (kind : Name → Bool) where
  pub kind_listed : (q : Name) (ns : List Name) → list_any (same_name q) (filter kind ns) ≡ (kind q && list_any (same_name q) ns)
  kind_listed q ns = any-filter_same (same_name q) kind (kind q) (λ n e. ap kind (sym (same_name-true q n e))) ns

  gone : (b : Bool) → (b && false) ≡ false
  gone true = refl
  gone false = refl

  pub kind_once : (ns : List Name) → IsDistinct same_name ns → AreSeveral AnyName (filter kind ns)
  unfolding IsDistinct
  kind_once [] h = tt
  kind_once (n ∷ ns) h = by (kind n) (kind_once ns h.1) where
    by : (b : Bool) → AreSeveral AnyName (filter kind ns) → AreSeveral AnyName (cond b (n ∷ filter kind ns) (filter kind ns))
    by true rest = (tt, kind_listed n ns ∙ (ap (λ z. kind n && z) (apart_any n ns h.0) ∙ gone (kind n)), rest)
    by false rest = rest
